-- `relay::transfers::transfer_for` meets its contract. Assumes nothing.
use mathlib.Core.Path.{◌∙◌}
use borrow.Author.Tests.{eq-eqb, ne_eqb}
use Rattle.rules.specs.Relays.{transfer_for}
use Rattle.state.specs.Meaning.{transfer_of, relay_of, part_of}
use Rattle.relay.proofs.transfers.transfer_for.Goals as goal
use Rattle.relay.proofs.transfers.transfer_for.Goals.{in_default-via-in-Some+then-t-o+else-t-w, in_default-via-in-Some+else-t-o, in_default-via-in_default}

pub returns-in-Some : goal.returns-in-Some
unfolding part_of relay_of transfer_of transfer_for
returns-in-Some c = rw (c.in-Some.is, eq-eqb _ _ c.if-t-o.true, eq-eqb _ _ c.if-t-w.true)

pub returns-in_default : goal.returns-in_default
unfolding part_of relay_of transfer_of transfer_for
returns-in_default c =
    elim c.in_default.branch [
      | in_default-via-in-Some+then-t-o+else-t-w w ↦ c.fresh.ensures ∙ rw (w.in-Some.is, eq-eqb _ _ w.if-t-o.true, ne_eqb _ _ w.if-t-w.false)
      | in_default-via-in-Some+else-t-o w ↦ c.fresh.ensures ∙ rw (w.in-Some.is, ne_eqb _ _ w.if-t-o.false)
      | in_default-via-in_default w ↦ c.fresh.ensures ∙ rw w.in_default.is
    ]

-- `world::begin::start_head` meets its contract. Assumes nothing.
use Rattle.std.specs.Prelude.{if◌then◌else◌}
use mathlib.Core.Path.{◌≡◌, sym, ◌∙◌}
use borrow.Author.Tests.{eq-eqb, ne_eqb}
use Rattle.rules.specs.Sets.{bit}
use Rattle.rules.specs.State.{start_relay}
use Rattle.state.specs.Meaning.{relay_of}
use Rattle.world.proofs.begin.start_head.Goals as goal
use Rattle.world.proofs.begin.start_head.Goals.{then-joined, else-joined}

pub returns : goal.returns
unfolding relay_of start_relay
returns c =
    let seen : c.if-joined.result ≡ (if bit c.args.mask c.args.s.number then c.args.mask else 0) =
    elim c.if-joined.branch [
      | then-joined w ↦ w.result-is ∙ sym (rw (eq-eqb _ _ w.if-joined.true))
      | else-joined w ↦ w.result-is ∙ sym (rw (ne_eqb _ _ w.if-joined.false))
    ] in
    cc

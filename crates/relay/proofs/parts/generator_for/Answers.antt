-- `relay::parts::generator_for` meets its contract. Assumes nothing.
use mathlib.Core.Path.{◌∙◌}
use borrow.Author.Tests.{eq-eqb, ne_eqb}
use Rattle.rules.specs.Generators.{generator_for}
use Rattle.state.specs.Meaning.{generator_of, relay_of, part_of}
use Rattle.generator.proofs.Rows.{fresh_means}
use Rattle.relay.proofs.parts.generator_for.Goals as goal
use Rattle.relay.proofs.parts.generator_for.Goals.{in_default-via-in-Some+else-g-v, in_default-via-in_default}

pub returns-in-Some : goal.returns-in-Some
unfolding part_of relay_of generator_of generator_for
returns-in-Some c = rw (c.in-Some.is, eq-eqb _ _ c.if-g-v.true)

pub returns-in_default : goal.returns-in_default
unfolding part_of relay_of generator_of generator_for
returns-in_default c =
    elim c.in_default.branch [
      | in_default-via-in-Some+else-g-v w ↦ fresh_means _ c.fresh.ensures ∙ rw (w.in-Some.is, ne_eqb _ _ w.if-g-v.false)
      | in_default-via-in_default w ↦ fresh_means _ c.fresh.ensures ∙ rw w.in_default.is
    ]

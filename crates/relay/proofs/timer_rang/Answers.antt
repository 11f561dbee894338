-- `relay::timer_rang` meets its contract. Assumes nothing.
use mathlib.Core.Path.{◌≡◌, sym, ◌∙◌}
use mathlib.Core.List.{[], ◌∷◌}
use borrow.Author.Tests.{not-false}
use Rattle.views.proofs.Rows.{held}
use Rattle.rules.specs.Sets.{joined}
use Rattle.rules.specs.Generators.{generator_for, proposes}
use Rattle.rules.specs.Relays.{timer_rang}
use Rattle.state.specs.Meaning.{relay_of, part_of}
use Rattle.state.specs.Plans.{turn_of, turned}
use Rattle.relay.specs.Fitting.{timer_answer}
use Rattle.rules.proofs.Generators.{view_of, proposes-leaves}
use Rattle.relay.proofs.timer_rang.Goals as goal

pub returns : goal.returns
unfolding timer_answer timer_rang part_of relay_of
returns c =
    let g = generator_for c.args.p.head.view (part_of c.args.p).generators in
    let q = joined c.args.p.head.view c.args.p.head.pending ∷ [] in
    let e : turn_of c.proposes.result ≡ turned (proposes g q) = c.proposes.ensures ∙ rw (
      c.generator_for.ensures,
      held c.single-q.result _ c.single-q.ensures,
      c.join.ensures,
    ) in
    c.at_generator.ensures (proposes g q) (rw ((proposes-leaves g q).for ∙ view_of _ _) (sym c.if-not-shows_view.ensures)) e ∙ rw (
      ← c.if-not-shows_view.ensures,
      not-false c.args.p.head.active c.if-not-p.false,
      ← c.if-within.ensures,
    )

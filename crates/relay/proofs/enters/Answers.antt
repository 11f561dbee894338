-- `relay::enters` meets its contract. Assumes nothing.
use mathlib.Core.Path.{◌≡◌, sym, ap, ◌∙◌}
use mathlib.Core.Bool.{true, false}
use mathlib.Core.List.{List, []}
use Prim.Native.Nat.{ℕ}
use native.Mathlib.Omega.{arith}
use Rattle.views.specs.Row.{views_of}
use Rattle.rules.specs.Sets.{none}
use Rattle.rules.specs.State.{with_transfers}
use Rattle.rules.specs.Generators.{generator_for, proposes}
use Rattle.rules.specs.Relays.{moved, onward, enters}
use Rattle.state.specs.Meaning.{transfer_of, part_of, event_of}
use Rattle.state.specs.Plans.{turn_of, turned}
use Rattle.state.specs.declared.Event.TheVariants.{Opened}
use Rattle.relay.proofs.Laws.{plan_is}
use Rattle.rules.proofs.Lists.{none_test, some_test}
use Rattle.rules.proofs.Generators.{view_of, proposes-leaves}
use Rattle.relay.proofs.enters.Goals as goal

pub returns-then-count-eq0 : goal.returns-then-count-eq0
unfolding enters transfer_of event_of
returns-then-count-eq0 c =
    let n : none (onward (transfer_of c.args.t)) ≡ true = ap (λ (l : List ℕ). none l) (sym c.onward-onward.ensures)
    ∙ none_test (views_of c.onward-onward.result) (omega (arith, c.count.ensures.0, c.if-count-eq0.true)) in
    rw c.tells.ensures (plan_is c.moved.result [] (Opened c.args.t.new) ∙ rw (c.moved.ensures, n))

pub returns : goal.returns
unfolding enters transfer_of with_transfers moved
returns c =
    let t = transfer_of c.args.t in
    let n : none (onward (transfer_of c.args.t)) ≡ false = ap (λ (l : List ℕ). none l) (sym c.onward-onward.ensures)
    ∙ some_test (views_of c.onward-onward.result) (omega (arith, c.count.ensures.0, c.if-count-eq0.false)) in
    let g = generator_for t.new (part_of c.args.p).generators in
    let e : turn_of c.proposes-turn.result ≡ turned (proposes g (onward t)) = c.proposes-turn.ensures ∙ rw (
      c.generator_for.ensures,
      c.onward-onward.ensures,
    ) in
    c.at_generator.ensures (proposes g (onward t)) (rw ((proposes-leaves g (onward t)).for ∙ view_of _ _, c.moved-2.ensures) c.requires) e
    ∙ rw (c.moved-2.ensures, n)

-- DEMAND 3 HOLDS: for every start and every list of steps of the rules, of any two views that ever opened one holds every update of the other; what ended had
-- begun in a step before and ended once, a read with event 2 and a write with event 3; and the operations that ended, with the unfinished writes that some
-- read returned, stand in one order in which each read returns the write before it, which agrees with what had ended before what began, and along which
-- stamps never fall. Assumes nothing: no axiom, no hole.
use mathlib.Core.Path.{◌≡◌}
use mathlib.Core.List.{List, []}
use Prim.Native.Nat.{ℕ}
use Rattle.rules.specs.State.{start}
use Rattle.rules.specs.declared.Step.{Step}
use Rattle.rules.specs.Runs.{outcomes, last_world}
use Rattle.rules.specs.History.{Operation, nobody, told_in, operations, unfinished, open_views}
use Rattle.rules.specs.Demand3.{◌∈◌, Belongs, ended, returned, Demand3, Demand3ForAll}
use Rattle.safety.proofs.Setting.{setting}
use Rattle.safety.proofs.Running.{Run, run-start, run-steps}
use Rattle.safety.proofs.Carried.{views_nested, events-told, ended-once, ended-over, Counted, has_ended, was_returned, the_order, order-all, order-only, order_is}

module _ (mask : ℕ) (ks : List Step) (j : ℕ)
    (R : Run [] (setting mask) (last_world (start mask) ks) j (told_in 1 nobody ks (outcomes (start mask) ks)) (operations mask ks) (open_views mask ks)) where
  belongs_counted : (o : Operation) → Belongs mask ks o → Counted R o
  unfolding unfinished
  belongs_counted o (ended m) = has_ended m
  belongs_counted o (returned m n a e) = was_returned m n a e

  counted_belongs : (o : Operation) → Counted R o → Belongs mask ks o
  unfolding unfinished
  counted_belongs o (has_ended m) = ended m
  counted_belongs o (was_returned m n a e) = returned m n a e

  over : (o p : Operation) → o ∈ operations mask ks → p ∈ unfinished mask ks → o.desk ≡ p.desk → o.begun ≡ p.begun → ⊥
  unfolding unfinished
  over = ended-over R

  demand3_of : Demand3 mask ks
  demand3_of = record {
    nested = views_nested R;
    lasted = R.book.lasting.lasted;
    events = events-told R;
    single = ended-once R;
    over = over;
    order = the_order R;
    complete = λ o b. order-all R o (belongs_counted o b);
    sound = λ o m. counted_belongs o (order-only R o m);
    ordered = order_is R;
  }

pub safety : Demand3ForAll
unfolding operations open_views
safety mask above below ks = let h = run-steps (run-start mask below) ks in demand3_of mask ks h.0 h.1

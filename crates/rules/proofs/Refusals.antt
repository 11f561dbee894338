-- A refused step changes nothing and reports nothing; every answer is 0 to 8. Assumes nothing.
use mathlib.Core.Path.{◌≡◌, refl}
use Prim.Native.Nat.{◌≤◌, ◌<◌}
use native.Mathlib.Omega.{arith}
use lib.Dec.{lit≤}
use Rattle.rules.specs.Messages.{Refusal, bad_world, bad_step, empty, dead, not_now, not_yet, worn, no_room, number}
use Rattle.rules.specs.State.{World}
use Rattle.rules.specs.Steps.{Step, no_report, Outcome, refusal, done, after, report, stepped}
use Rattle.rules.specs.Runs.{answer, sent_by, delivered_by, dropped_by}

pub record Unmoved (w : World) (o : Outcome) : Type 0 where
  pub world : after w o ≡ w
  pub quiet : report o ≡ no_report
  pub sent : sent_by o ≡ 0
  pub delivered : delivered_by o ≡ 0
  pub dropped : dropped_by o ≡ 0

unmoved : (w : World) (o : Outcome) → 0 < answer o → Unmoved w o
unmoved w (refusal x) h = record { world = refl; quiet = refl; sent = refl; delivered = refl; dropped = refl }
unmoved w (done next e a b c) h = absurd (omega arith)

pub refused_unmoved : (w : World) (k : Step) → 0 < answer (stepped w k) → Unmoved w (stepped w k)
refused_unmoved w k h = unmoved w (stepped w k) h

pub number_range : (x : Refusal) → (1 ≤ number x) × (number x ≤ 8)
number_range bad_world = (lit≤ tt, lit≤ tt)
number_range bad_step = (lit≤ tt, lit≤ tt)
number_range empty = (lit≤ tt, lit≤ tt)
number_range dead = (lit≤ tt, lit≤ tt)
number_range not_now = (lit≤ tt, lit≤ tt)
number_range not_yet = (lit≤ tt, lit≤ tt)
number_range worn = (lit≤ tt, lit≤ tt)
number_range no_room = (lit≤ tt, lit≤ tt)

answer_range : (o : Outcome) → answer o ≤ 8
answer_range (refusal x) = (number_range x).1
answer_range (done next e a b c) = lit≤ tt

pub every_answer : (w : World) (k : Step) → answer (stepped w k) ≤ 8
every_answer w k = answer_range (stepped w k)

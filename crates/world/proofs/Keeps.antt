-- A run stays in good worlds: what a start leaves is good, and so is what a step leaves of good bytes. Assumes nothing.
use mathlib.Core.Path.{◌≡◌}
use mathlib.Core.Bool.{true}
use mathlib.Core.List.{List}
use Prim.Native.Nat.{ℕ, ◌<◌}
use native.Mathlib.Omega.{arith}
use lib.ListN.{length}
use borrow.Author.Tests.{eq-eqb, ne_eqb, lt-leb}
use Rattle.rules.specs.State.{start}
use Rattle.rules.specs.declared.Step.{Step}
use Rattle.rules.specs.Steps.{Outcome, refusal, done, after, stepped}
use Rattle.rules.specs.WellFormed.{well_formed}
use Rattle.layout.specs.Layout.{world_width}
use Rattle.layout.specs.Image.{world_at, good_bytes}
use Rattle.layout.specs.Lent.{left, lent_step, lent_start}
use Rattle.rules.proofs.Kept.{step_keeps}
use Rattle.rules.proofs.Starts.{start_good}
use Rattle.layout.proofs.World.{image_good, good_formed}

module _ (b : List ℕ) where
  pub step_stays : good_bytes b ≡ true → (k : Step) → good_bytes (lent_step b k).buffer ≡ true
  unfolding lent_step
  step_stays good k = rw good (go (stepped (world_at b) k) (step_keeps (world_at b) k (good_formed b good)))
    where
      go : (o : Outcome) → well_formed (after (world_at b) o) ≡ true → good_bytes (left b o).buffer ≡ true
      go (refusal x) e = good
      go (done w r s d f) e = image_good w e

  pub start_stays : length b ≡ world_width → (mask : ℕ) → 0 < mask → mask < 256 → good_bytes (lent_start b mask).buffer ≡ true
  unfolding lent_start
  start_stays long mask low high =
      rw (eq-eqb (length b) world_width long, ne_eqb mask 0 (λ (z : mask ≡ 0). omega arith), lt-leb 256 mask high) (image_good (start mask) (start_good mask low high))

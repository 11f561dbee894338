-- A stamp (count, desk) as the number 4 count + desk: then the order by count and then by desk is that of numbers, as long as desks are below 4.
-- Assumes nothing.
use mathlib.Core.Path.{◌≡◌, ap}
use mathlib.Core.Logic.{◌⊎◌, inl, inr}
use mathlib.Core.Bool.{true, false}
use Prim.Native.Nat.{ℕ, ◌+◌, ◌*◌, ◌/◌, ◌%◌, ◌≤◌, ◌<◌}
use native.Mathlib.Omega.{arith}
use Rattle.rules.specs.Stamps.{Stamp, Value, Pair, greater, same_stamp, greatest}
use Rattle.stamps.proofs.Order.{Above, by_count, by_desk, AtMost, level, under, at_most_not_greater, same_equal, greatest_takes, greatest_stays, above_or_at_most}

abbrev pub num : Stamp → ℕ
num s = 4 * s.count + s.desk

abbrev pub Small : Pair → Type 0
Small p = p.stamp.desk < 4

-- the stamp of a number, and the pair of a stamp's number and a value
unfoldable pub stamp_of : ℕ → Stamp
stamp_of n = record { count = n / 4; desk = n % 4 }

unfoldable pub pair_of : ℕ → Value → Pair
unfolding stamp_of
pair_of n y = record { stamp = stamp_of n; value = y }

pub stamp_back : (s : Stamp) → s.desk < 4 → stamp_of (num s) ≡ s
unfolding stamp_of
stamp_back s h =
    let c : num s / 4 ≡ s.count = omega arith in
    let d : num s % 4 ≡ s.desk = omega arith in
    λ i. record { count = c i; desk = d i }

pub pair_back : (p : Pair) → Small p → pair_of (num p.stamp) p.value ≡ p
unfolding pair_of
pair_back p h = let e = stamp_back p.stamp h in λ i. record { stamp = e i; value = p.value }

above_num : {a b : Stamp} → a.desk < 4 → b.desk < 4 → Above a b → num b < num a
above_num h k (by_count l) = omega arith
above_num h k (by_desk e l) = omega arith

most_num : {a b : Stamp} → a.desk < 4 → b.desk < 4 → AtMost a b → num a ≤ num b
most_num h k (level e) = omega (arith, ap (λ (s : Stamp). num s) e)
most_num h k (under l) = omega (arith, above_num k h l)

pub num_most : (a b : Stamp) → a.desk < 4 → b.desk < 4 → num a ≤ num b → AtMost a b
num_most a b h k l = go (above_or_at_most a b)
  where
    go : Above a b ⊎ AtMost a b → AtMost a b
    go (inl x) = absurd (omega (arith, above_num h k x))
    go (inr x) = x

pub same_num : (a b : Stamp) → same_stamp a b ≡ true → num a ≡ num b
same_num a b e = ap (λ (s : Stamp). num s) (same_equal a b e)

-- numbers never fall along an order of stamps
pub stamps_rise : (n m : ℕ) → n ≤ m → greater (stamp_of n) (stamp_of m) ≡ false
unfolding stamp_of
stamps_rise n m h = at_most_not_greater (num_most (stamp_of n) (stamp_of m) (omega arith) (omega arith) (omega arith))

-- "Wherever the greatest stamp is kept, of equal stamps the pair already held stays."
pub data Greater (held new : Pair) : Pair → Type 0 where
  takes : num held.stamp < num new.stamp → Greater held new new
  stays : num new.stamp ≤ num held.stamp → Greater held new held

pub greatest_num : (held new : Pair) → Small held → Small new → Greater held new (greatest held new)
greatest_num held new h k = go (above_or_at_most new.stamp held.stamp)
  where
    go : Above new.stamp held.stamp ⊎ AtMost new.stamp held.stamp → Greater held new (greatest held new)
    go (inl x) = rw (greatest_takes held new x) (takes (above_num k h x))
    go (inr x) = rw (greatest_stays held new x) (stays (most_num k h x))

pub greatest_small : (held new : Pair) → Small held → Small new → Small (greatest held new)
greatest_small held new h k = go (greatest_num held new h k)
  where
    go : {p : Pair} → Greater held new p → Small p
    go (takes l) = k
    go (stays l) = h

-- The laws of quorums. All other proofs use only these, and so do not depend on how a quorum is counted: two quorums of a view share a member of it,
-- and each has a member. Assumes nothing.
use mathlib.Core.Path.{◌≡◌, sym, ap, ◌∙◌}
use mathlib.Core.Logic.{◌≢◌}
use mathlib.Core.Bool.{true, and-eq-true_iff}
use Prim.Native.Nat.{ℕ, ◌+◌, ◌/◌, ◌<◌, ◌≤◌}
use native.Mathlib.Omega.{arith}
use lib.Bits.{bit_and}
use lib.Count.{ones}
use borrow.Author.Tests.{leb-true}
use Rattle.views.specs.View.{bit_of, members_of, member_of, quorum_of, reaches_of}
use Rattle.views.proofs.Digits.{member, bit_test, bit_of-bit_and}
use Rattle.views.proofs.Sets.{and_within_right, or_within, ones-within, ones_or_and, member_bit, member_lt}

-- a member of v that is in both
pub record Shared (v a b : ℕ) : Type 0 where
  pub relay : ℕ
  pub small : relay < 8
  pub member : member_of v relay ≡ true
  pub first : bit_of a relay ≡ true
  pub second : bit_of b relay ≡ true

counted : (v a : ℕ) → reaches_of v a ≡ true → ones (members_of v) / 2 + 1 ≤ ones (bit_and a (members_of v))
unfolding reaches_of
counted v a h = leb-true (quorum_of v) _ h

pub quorums_share : (v a b : ℕ) → reaches_of v a ≡ true → reaches_of v b ≡ true → Shared v a b
unfolding ones
quorums_share v a b h k =
    let m : ℕ = members_of v in
    let x : ℕ = bit_and a m in
    let y : ℕ = bit_and b m in
    let many : ones (bit_and x y) ≢ 0 =
    omega (arith, ones_or_and x y, ones-within (or_within (and_within_right a m) (and_within_right b m)), counted v a h, counted v b k) in
    let s = member (bit_and x y) (λ e. many (ap ones e)) in
    let i : ℕ = s.0 in
    let p = (and-eq-true_iff (bit_of x i) (bit_of y i)).0 (sym (bit_of-bit_and i x y) ∙ bit_test (bit_and x y) i s.1) in
    let q = (and-eq-true_iff (bit_of a i) (bit_of m i)).0 (sym (bit_of-bit_and i a m) ∙ p.0) in
    let r = (and-eq-true_iff (bit_of b i) (bit_of m i)).0 (sym (bit_of-bit_and i b m) ∙ p.1) in
    let is : member_of v i ≡ true = member_bit v i ∙ q.1 in
    record { relay = i; small = member_lt v i is; member = is; first = q.0; second = r.0 }

pub quorum_someone : (v a : ℕ) → reaches_of v a ≡ true → Shared v a a
quorum_someone v a h = quorums_share v a a h h

-- `views::is_member` meets its contract. A member mask has eight bits, so no number above 7 is in it. Assumes nothing.
use Rattle.std.proofs.Common.{◌≡◌, ℕ, ◌-◌, ◌/◌, ◌%◌, ◌^◌, ◌≤◌, arith}
use native.Mathlib.Nat.{div-eq_of_lt, pow-le-pow_right, lt_of_lt_of_le}
use borrow.Author.Tests.{le-ltb}
use lib.Bits.{and_le_l}
use Rattle.views.specs.View.{members_of, member_of}
use Rattle.views.proofs.is_member.Goals as goal

none_above : (v s : ℕ) → 8 ≤ s → members_of v / 2 ^ s ≡ 0
none_above v s h = div-eq_of_lt (lt_of_lt_of_le {m = 2 ^ 8} (omega (arith, and_le_l (v % 256) (255 - v / 256))) (pow-le-pow_right {n = 2} (omega arith) h))

pub returns-then-s-lt8 : goal.returns-then-s-lt8
unfolding member_of
returns-then-s-lt8 c = rw c.members.ensures

pub returns-else-s-lt8 : goal.returns-else-s-lt8
unfolding member_of
returns-else-s-lt8 c = rw (none_above c.args.v c.args.s c.if-s-lt8.false, le-ltb c.args.s 8 c.if-s-lt8.false)

-- Laws of the notes: the set of those that agree is built from the highest. Assumes nothing.
use mathlib.Core.Path.{◌≡◌, refl, ◌∙◌}
use mathlib.Core.Bool.{Bool}
use mathlib.Core.List.{List, [], ◌∷◌, map}
use Prim.Native.Nat.{ℕ, ◌+◌, ◌*◌, ◌%◌, ◌^◌, ◌≤◌, ◌<◌}
use native.Mathlib.Nat.{pow-suc, lt_of_lt_of_le}
use native.Mathlib.Omega.{arith}
use lib.ListN.{length, length-map}
use lib.Pow.{pow_mono}
use mir.Val.{bool_byte}
use Rattle.std.proofs.Common.{reverse, bit_or}
use Rattle.std.specs.List.{fold}
use Rattle.std.proofs.lemmas.Grind.{reverse_onto, or_after_shift}
use Rattle.std.proofs.lemmas.List.Sums.{fold-append}
use Rattle.views.specs.declared.Sequence.{Sequence}
use Rattle.views.specs.Row.{views_of}
use Rattle.rules.specs.Sets.{same}
use Rattle.rules.specs.Generators.{one_if, agreeing}
use Rattle.rules.proofs.Lists.{byte-is, byte_le}

-- one note more: its bit goes below those of the notes above it
abbrev pub one_more : List ℕ → ℕ → Sequence → ℕ
one_more q mask note = bit_or (mask * 2 % 256) (bool_byte (same (views_of note) q))

agreeing_lt : (ls : List (List ℕ)) (q : List ℕ) → agreeing ls q < 2 ^ length ls
unfolding agreeing
agreeing_lt [] q = omega arith
agreeing_lt (l ∷ ls) q = omega (arith, agreeing_lt ls q, byte-is (same l q), byte_le (same l q), pow-suc 2 (length ls))

low_bit : (mask : ℕ) (b : Bool) → mask < 128 → bit_or (mask * 2 % 256) (bool_byte b) ≡ mask * 2 + one_if b
low_bit mask b h = or_after_shift mask 2 256 (bool_byte b) refl (omega (arith, byte_le b)) (omega arith) ∙ rw (byte-is b)

pub agreeing-fold : (ns : List Sequence) (q : List ℕ) → length ns ≤ 8 → fold (one_more q) 0 (reverse ns) ≡ agreeing (map views_of ns) q
unfolding agreeing
agreeing-fold [] q h = refl
agreeing-fold (n ∷ ns) q h =
    let small : agreeing (map views_of ns) q < 128 =
    lt_of_lt_of_le (agreeing_lt (map views_of ns) q) (pow_mono {j = 7} (simp length-map (omega arith))) in
    rw (reverse_onto ns n [], fold-append (one_more q) 0 (reverse ns) (n ∷ []), agreeing-fold ns q (omega arith)) (low_bit _ _ small)

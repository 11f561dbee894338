-- `image::sequence_at` meets its contract: the views before i are read, and those from the length on are zero. Assumes nothing.
use Rattle.std.specs.Prelude.{if◌then◌else◌}
use mathlib.Core.Path.{◌≡◌, refl, sym, ap₂, ◌∙◌}
use mathlib.Core.List.{List, ◌++◌}
use Prim.Native.Nat.{ℕ, zero, suc, ◌+◌, ◌-◌, ◌≤◌, ◌<◌, min}
use native.Mathlib.Omega.{arith}
use lib.Dec.{ltb}
use lib.ListN.{length, get_or, take, drop, replicate, length-append, length-take, length-drop, get_or-append}
use lib.Seq.{ext_get_or}
use Rattle.std.proofs.lemmas.List.{get_or-append_right, get_or-drop}
use borrow.Author.Tests.{ltb-true, ltb-false}
use Rattle.views.proofs.Truth.{cases}
use Rattle.rows.specs.Bytes.{tab}
use Rattle.rows.proofs.Laws.{Filled, length-tab, get_d_tab, fill_none, fill_more}
use Rattle.views.specs.declared.Sequence.{Sequence}
use Rattle.image.specs.Parts.{sequence_row_at}
use Rattle.image.proofs.Ends.{alike_end, sequence_alike}
use Rattle.image.proofs.sequence_at.Goals as goal

zero_at : (n k : ℕ) → ◌≡◌ {A = ℕ} (get_or (replicate n 0) k 0) 0
zero_at zero k = refl
zero_at (suc n) zero = refl
zero_at (suc n) (suc k) = zero_at n k

abbrev blank : List ℕ
blank = replicate 15 0

whole : (len n : ℕ) {f : ℕ → ℕ} {i : ℕ} (l : List ℕ) → n ≡ min len 15 → Filled (length (take n blank)) 0 f i l → length (take n blank) ≤ i
    → l ++ drop n blank ≡ tab 15 (λ k. if ltb k len then f k else 0)
whole len n {f} {i} l e h done =
    ext_get_or 0 (l ++ drop n blank) (tab 15 g) (omega (arith, long, length-tab 15 g))
    (λ k p. let b : k < 15 = omega (arith, long) in at k b ∙ sym (get_d_tab 15 k g 0 b))
  where
    g : ℕ → ℕ
    g k = if ltb k len then f k else 0

    front : length l ≡ n
    front = h.long ∙ length-take n blank ∙ (let z : min n 15 ≡ n = omega arith in z)

    long : length (l ++ drop n blank) ≡ 15
    long = simp (length-append, length-drop) (omega (arith, front))

    at : (k : ℕ) → k < 15 → get_or (l ++ drop n blank) k 0 ≡ g k
    at k p =
        cases (λ (x : ℕ). get_or (l ++ drop n blank) k 0 ≡ x) (ltb k len)
        (λ t. let low = ltb-true k len t in get_or-append l (drop n blank) 0 k (omega (arith, front)) ∙ h.each k (omega (arith, front, h.long)))
        (λ t. let high = ltb-false k len t in
        get_or-append_right l (drop n blank) n k 0 front (omega arith) ∙ get_or-drop n blank (k - n) 0 ∙ zero_at 15 (n + (k - n)))

abbrev row : List ℕ → ℕ → Sequence
row views len = record { views = views; len = len }

pub loop-i-init : goal.loop-i-init
loop-i-init c = fill_none refl

pub loop-i-preserved : goal.loop-i-preserved
loop-i-preserved c = fill_more c.loop-i.invariant c.loop-i-test.true c.read_u16.ensures

pub returns : goal.returns
unfolding sequence_row_at
returns c =
    ap₂ row (whole _ _ _ (rw c.byte_at-len.ensures at c.min.ensures) c.loop-i.invariant c.loop-i-test.false) c.byte_at-len.ensures
    ∙ sequence_alike (alike_end c.args.s.now c.args.at _ c.min-a.ensures)

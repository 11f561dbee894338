-- Laws of a row that is pieces of known widths, one after another: how long it is, what it holds at each field's place,
-- and what a piece written inside a field makes of it. They serve a row's fields and a world's tables alike.
-- Assumes nothing.
use mathlib.Core.Path.{◌≡◌, refl, sym, ap, ◌∙◌}
use mathlib.Core.List.{List, [], ◌∷◌, ◌++◌}
use Prim.Native.Nat.{ℕ, zero, suc, ◌+◌, ◌≤◌, ◌<◌}
use native.Mathlib.Nat.{add_assoc, add-zero, zero-add, le_of_suc-le-suc}
use native.Mathlib.Omega.{arith}
use lib.ListN.{length, get_or, take, drop, set, length-append}
use lib.Seq.{take_at, drop_at}
use Rattle.rows.specs.Bytes.{splice, cat, sum}
use Rattle.rows.proofs.Laws.{splice-left, splice_right, Holds, holds-left, holds_right}

pub data Widths : List (List ℕ) → List ℕ → Type 0 where
  none : Widths [] []
  more : {p : List ℕ} {ps : List (List ℕ)} {w : ℕ} {ws : List ℕ} → length p ≡ w → Widths ps ws → Widths (p ∷ ps) (w ∷ ws)

pub cat-length : {ps : List (List ℕ)} {ws : List ℕ} → Widths ps ws → length (cat ps) ≡ sum ws
unfolding cat
cat-length none = refl
cat-length (more {p = p} {ps = ps} e r) = simp length-append (omega (arith, cat-length r))

pub cat-write : {ps : List (List ℕ)} {ws : List ℕ} → Widths ps ws → (i o : ℕ) (v : List ℕ) → i < length ps → o + length v ≤ get_or ws i 0
    → splice (cat ps) (sum (take i ws) + o) v ≡ cat (set ps i (splice (get_or ps i []) o v))
unfolding cat
cat-write none i o v hi ho = absurd (omega arith)
cat-write (more {p = p} {ps = ps} e r) zero o v hi ho = rw zero-add (splice-left p (cat ps) v o (omega arith))
cat-write (more {p = p} {ps = ps} {w = w} {ws = ws} e r) (suc i) o v hi ho =
    rw (add_assoc w (sum (take i ws)) o)
    (splice_right p (cat ps) v w (sum (take i ws) + o) e ∙ ap (λ (t : List ℕ). p ++ t) (cat-write r i o v (le_of_suc-le-suc hi) ho))

pub cat-holds : {ps : List (List ℕ)} {ws : List ℕ} → Widths ps ws → (l : List ℕ) (i o : ℕ) → i < length ps → Holds l o (cat ps) → Holds l (o + sum (take i ws)) (get_or ps i [])
unfolding cat
cat-holds none l i o hi h = absurd (omega arith)
cat-holds (more {p = p} {ps = ps} e r) l zero o hi h = rw add-zero (holds-left l p (cat ps) o h)
cat-holds (more {p = p} {ps = ps} {w = w} {ws = ws} e r) l (suc i) o hi h =
    rw (← add_assoc o w (sum (take i ws))) (cat-holds r l i (o + w) (le_of_suc-le-suc hi) (holds_right l p (cat ps) o w e h))

-- one image, one list of pieces
pub cat_injective : {ps qs : List (List ℕ)} {ws : List ℕ} → Widths ps ws → Widths qs ws → cat ps ≡ cat qs → ps ≡ qs
unfolding cat
cat_injective none none e = refl
cat_injective (more {p = p} {ps = ps} {w = w} a r) (more {p = q} {ps = qs} b t) e =
    let first : p ≡ q = sym (take_at p (cat ps) w a) ∙ ap (take w) e ∙ take_at q (cat qs) w b in
    let rest : ps ≡ qs = cat_injective r t (sym (drop_at p (cat ps) w a) ∙ ap (drop w) e ∙ drop_at q (cat qs) w b) in
    cc

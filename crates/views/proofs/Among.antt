-- Which views a sequence has, and what `some`, `lacks_of`, `conflict_of`, `same_of`, `plus_of`, `union_of` and `beyond_of` say of them. No order is asked for.
-- That v is one of l is the fact `has_of l v ≡ true`. Assumes nothing.
use Rattle.std.specs.Prelude.{if◌then◌else◌}
use mathlib.Core.Path.{◌≡◌, refl, sym, ap, ap₂, ◌∙◌}
use mathlib.Core.Logic.{⊎_elim}
use mathlib.Core.Bool.{Bool, true, false, not, ◌&&◌, ◌||◌, and-eq-true_iff, and-false, or_assoc, or_self_left}
use mathlib.Core.List.{List, [], ◌∷◌}
use Prim.Native.Nat.{ℕ}
use lib.Dec.{eqb, ltb}
use borrow.Author.Tests.{eqb-true, eq-eqb, not-false}
use Rattle.views.specs.Choice.{those}
use Rattle.views.specs.View.{inside_of}
use Rattle.views.specs.Chain.{some, has_of, lacks_of, same_of, plus_of, union_of, beyond_of}
use Rattle.views.proofs.Truth.{contrary, never_true, either_true, true_left, true_right, cases}

-- ---- a test over the views

pub has_first : (x : ℕ) (l : List ℕ) → has_of (x ∷ l) x ≡ true
unfolding some
has_first x l = rw (eq-eqb x x refl)

pub has_rest : (x y : ℕ) (l : List ℕ) → has_of l x ≡ true → has_of (y ∷ l) x ≡ true
unfolding some
has_rest x y l e = true_right (eqb x y) e

-- the view that passes
pub record Passes (f : ℕ → Bool) (l : List ℕ) : Type 0 where
  pub view : ℕ
  pub has : has_of l view ≡ true
  pub passes : f view ≡ true

pub some_fact : (f : ℕ → Bool) (l : List ℕ) → some f l ≡ true → Passes f l
unfolding some
some_fact f [] e = absurd (contrary e refl)
some_fact f (w ∷ l) e =
    ⊎_elim (λ p. record { view = w; has = has_first w l; passes = p })
    (λ p.
    let r = some_fact f l p in
    record { view = r.view; has = has_rest r.view w l r.has; passes = r.passes }) (either_true (f w) (some f l) e)

pub some_test : (f : ℕ → Bool) (x : ℕ) (l : List ℕ) → has_of l x ≡ true → f x ≡ true → some f l ≡ true
unfolding some
some_test f x [] h e = absurd (contrary h refl)
some_test f x (w ∷ l) h e =
    ⊎_elim (λ p. true_left (some f l) (rw (eqb-true x w p) at e)) (λ p. true_right (f w) (some_test f x l p e)) (either_true (eqb x w) (has_of l x) h)

pub none_fact : (f : ℕ → Bool) (x : ℕ) (l : List ℕ) → some f l ≡ false → has_of l x ≡ true → f x ≡ false
none_fact f x l n h = never_true (f x) (λ e. contrary (some_test f x l h e) n)

pub none_test : (f : ℕ → Bool) (l : List ℕ) → ((x : ℕ) → has_of l x ≡ true → f x ≡ false) → some f l ≡ false
none_test f l h = never_true (some f l) (λ e. let r = some_fact f l e in contrary r.passes (h r.view r.has))

-- ---- lacks and conflict

pub lacks_fact : (q own : List ℕ) → lacks_of q own ≡ false → (x : ℕ) → has_of q x ≡ true → has_of own x ≡ true
lacks_fact q own n x h = not-false (has_of own x) (none_fact (λ v. not (has_of own v)) x q n h)

pub lacks_test : (q own : List ℕ) → ((x : ℕ) → has_of q x ≡ true → has_of own x ≡ true) → lacks_of q own ≡ false
lacks_test q own h = none_test (λ v. not (has_of own v)) q (λ x e. ap not (h x e))

pub lacks_self : (l : List ℕ) → lacks_of l l ≡ false
lacks_self l = lacks_test l l (λ x h. h)

pub lacks_trans : (a b c : List ℕ) → lacks_of a b ≡ false → lacks_of b c ≡ false → lacks_of a c ≡ false
lacks_trans a b c h k = lacks_test a c (λ x e. lacks_fact b c k x (lacks_fact a b h x e))

-- the view of q that own lacks
pub lacks_some : (q own : List ℕ) → lacks_of q own ≡ true → Passes (λ v. not (has_of own v)) q
lacks_some q own e = some_fact (λ v. not (has_of own v)) q e

-- ---- the same views

pub same_fact : (a b : List ℕ) → same_of a b ≡ true → a ≡ b
unfolding same_of
same_fact [] [] e = refl
same_fact [] (y ∷ b) e = absurd (contrary e refl)
same_fact (x ∷ a) [] e = absurd (contrary e refl)
same_fact (x ∷ a) (y ∷ b) e =
    let h = (and-eq-true_iff (eqb x y) (same_of a b)).0 e in
    ap₂ ◌∷◌ (eqb-true x y h.0) (same_fact a b h.1)

pub same_self : (l : List ℕ) → same_of l l ≡ true
unfolding same_of
same_self [] = refl
same_self (x ∷ l) = rw (eq-eqb x x refl) (same_self l)

-- ---- one view more, the views of both, and those that pass a test

or_swap : (a b c : Bool) → a || (b || c) ≡ (b || (a || c))
or_swap true true c = refl
or_swap true false c = refl
or_swap false b c = refl

pub some-plus : (f : ℕ → Bool) (v : ℕ) (l : List ℕ) → some f (plus_of v l) ≡ (f v || some f l)
unfolding some plus_of
some-plus f v [] = refl
some-plus f v (w ∷ l) =
    let P : List ℕ → Type 0 = λ k. some f k ≡ (f v || (f w || some f l)) in
    cases P (ltb v w) (λ _. refl)
    (λ _. cases P (eqb v w) (λ e. rw (eqb-true v w e) (sym (or_self_left (f w) (some f l)))) (λ _. rw (some-plus f v l) (or_swap (f w) (f v) (some f l))))

pub some_union : (f : ℕ → Bool) (a b : List ℕ) → some f (union_of a b) ≡ (some f a || some f b)
unfolding some union_of
some_union f [] b = refl
some_union f (v ∷ a) b = some-plus f v (union_of a b) ∙ rw (some_union f a b) (sym (or_assoc (f v) (some f a) (some f b)))

pub lacks_plus : (v : ℕ) (l : List ℕ) → lacks_of l (plus_of v l) ≡ false
lacks_plus v l = lacks_test l (plus_of v l) (λ x h. some-plus (eqb x) v l ∙ true_right (eqb x v) h)

pub lacks_union_right : (a b : List ℕ) → lacks_of b (union_of a b) ≡ false
lacks_union_right a b = lacks_test b (union_of a b) (λ x h. some_union (eqb x) a b ∙ true_right (has_of a x) h)

pub lacks_union_left : (a b : List ℕ) → lacks_of a (union_of a b) ≡ false
lacks_union_left a b = lacks_test a (union_of a b) (λ x h. some_union (eqb x) a b ∙ true_left (has_of b x) h)

-- x is among those of l that pass where it passes and is in l
pub has_those : (f : ℕ → Bool) (x : ℕ) (l : List ℕ) → has_of (those f l) x ≡ (f x && has_of l x)
unfolding some those
has_those f x [] = sym (and-false (f x))
has_those f x (w ∷ l) = step (f w) (eqb x w) refl refl (has_those f x l)
  where
    step : (s t : Bool) → f w ≡ s → eqb x w ≡ t → has_of (those f l) x ≡ (f x && has_of l x)
        → has_of (if s then w ∷ those f l else those f l) x ≡ (f x && (t || has_of l x))
    step true true es et ih = let e : f x ≡ true = ap f (eqb-true x w et) ∙ es in rw (et, e)
    step true false es et ih = rw et ih
    step false true es et ih = let e : f x ≡ false = ap f (eqb-true x w et) ∙ es in rw e (rw e at ih)
    step false false es et ih = ih

pub has_beyond : (w x : ℕ) (q : List ℕ) → has_of (beyond_of w q) x ≡ (inside_of w x && has_of q x)
has_beyond w x q = has_those (inside_of w) x q

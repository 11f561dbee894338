-- Lists and tests as the proofs of the code meet them: a mapped list of which one element is set, what passes of a list, whether it is empty, a test as a byte.
-- Assumes nothing.
use Rattle.std.specs.Prelude.{if◌then◌else◌}
use mathlib.Core.Path.{◌≡◌, refl, ap}
use mathlib.Core.Bool.{Bool, true, false}
use mathlib.Core.List.{List, [], ◌∷◌, ◌++◌, map}
use Prim.Native.Nat.{ℕ, zero, suc, ◌≤◌, ◌<◌}
use native.Mathlib.Omega.{arith}
use lib.Dec.{lit≤}
use lib.ListN.{length, set}
use mir.Val.{bool_byte}
use Rattle.views.proofs.Truth.{cases}
use Rattle.rules.specs.Sets.{those, none}

pub map-set : {A B : Type 0} (f : A → B) (l : List A) (i : ℕ) (x : A) → map f (set l i x) ≡ set (map f l) i (f x)
map-set f [] i x = refl
map-set f (y ∷ l) zero x = refl
map-set {B = B} f (y ∷ l) (suc i) x = ap (λ (m : List B). f y ∷ m) (map-set f l i x)

pub those-append : {A : Type 0} (f : A → Bool) (a b : List A) → those f (a ++ b) ≡ those f a ++ those f b
unfolding those
those-append f [] b = refl
those-append f (x ∷ a) b = rw (those-append f a b) (go (f x))
  where
    go : (t : Bool) → (if t then x ∷ (those f a ++ those f b) else those f a ++ those f b) ≡ (if t then x ∷ those f a else those f a) ++ those f b
    go true = refl
    go false = refl

pub those_fewer : {A : Type 0} (f : A → Bool) (l : List A) → length (those f l) ≤ length l
unfolding those
those_fewer f [] = omega arith
those_fewer {A} f (x ∷ l) =
    let h : length (those f l) ≤ length l = those_fewer f l in
    cases (λ (k : List A). length k ≤ length (x ∷ l)) (f x) (λ _. omega arith) (λ _. omega arith)

pub none_test : {A : Type 0} (l : List A) → length l ≡ 0 → none l ≡ true
none_test [] e = refl
none_test (x ∷ l) e = absurd (omega arith)

pub some_test : {A : Type 0} (l : List A) → 0 < length l → none l ≡ false
some_test [] h = absurd (omega arith)
some_test (x ∷ l) h = refl

pub byte-is : (b : Bool) → bool_byte b ≡ (if b then 1 else 0)
byte-is true = refl
byte-is false = refl

pub byte_le : (b : Bool) → bool_byte b ≤ 1
byte_le true = lit≤ tt
byte_le false = lit≤ tt

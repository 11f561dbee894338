-- What holds of every element of a list, and how the operations of the rules keep it. Assumes nothing.
use mathlib.Core.Path.{◌≡◌}
use mathlib.Core.Bool.{Bool, true}
use mathlib.Core.List.{List, [], ◌∷◌, ◌++◌, map}
use Prim.Native.Nat.{ℕ, zero, suc}
use lib.ListN.{get_or, set, replicate}
use Rattle.views.specs.Choice.{those}
use Rattle.views.proofs.Truth.{cases}

pub data All {A : Type 0} (P : A → Type 0) : List A → Type 0 where
  all_none : All P []
  all_more : {x : A} {xs : List A} → P x → All P xs → All P (x ∷ xs)

module _ {A : Type 0} {P : A → Type 0} where
  pub all_append : {xs ys : List A} → All P xs → All P ys → All P (xs ++ ys)
  all_append all_none b = b
  all_append (all_more p a) b = all_more p (all_append a b)

  pub all-those : {xs : List A} (f : A → Bool) → All P xs → All P (those f xs)
  unfolding those
  all-those f all_none = all_none
  all-those f (all_more {x = x} p a) = cases (All P) (f x) (λ e. all_more p (all-those f a)) (λ e. all-those f a)

  pub all_set : {xs : List A} (i : ℕ) (x : A) → P x → All P xs → All P (set xs i x)
  all_set i x p all_none = all_none
  all_set zero x p (all_more q a) = all_more p a
  all_set (suc i) x p (all_more q a) = all_more q (all_set i x p a)

  pub all_at : {xs : List A} (i : ℕ) (d : A) → P d → All P xs → P (get_or xs i d)
  all_at i d p all_none = p
  all_at zero d p (all_more q a) = q
  all_at (suc i) d p (all_more q a) = all_at i d p a

  pub all_replicate : (n : ℕ) (x : A) → P x → All P (replicate n x)
  all_replicate zero x p = all_none
  all_replicate (suc n) x p = all_more p (all_replicate n x p)

  pub all_map : {Q : A → Type 0} {xs : List A} → ((x : A) → P x → Q x) → All P xs → All Q xs
  all_map f all_none = all_none
  all_map f (all_more {x = x} p a) = all_more (f x p) (all_map f a)

-- those that pass a test do
pub those_pass : {A : Type 0} (f : A → Bool) (xs : List A) → All (λ x. f x ≡ true) (those f xs)
unfolding those
those_pass f [] = all_none
those_pass f (x ∷ xs) = cases (All (λ x. f x ≡ true)) (f x) (λ e. all_more e (those_pass f xs)) (λ e. those_pass f xs)

pub all-image : {A B : Type 0} {P : B → Type 0} (f : A → B) {xs : List A} → All (λ x. P (f x)) xs → All P (map f xs)
all-image f all_none = all_none
all-image f (all_more p a) = all_more p (all-image f a)

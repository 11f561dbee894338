-- What the makers of sendings make: the rule's sendings, in the room that a plan has. Assumes nothing.
use mathlib.Core.Path.{◌≡◌, refl, ap, ◌∙◌}
use mathlib.Core.List.{List, [], ◌∷◌, map}
use Prim.Native.Nat.{ℕ, zero, suc, ◌≤◌}
use native.Mathlib.Nat.{le_of_suc-le-suc}
use native.Mathlib.Omega.{arith}
use lib.ListN.{length, take}
use Rattle.rules.specs.Messages as rules
use Rattle.state.specs.declared.Sending.{Sending}
use Rattle.state.specs.declared.Sendings.{Sendings}
use Rattle.state.specs.Meaning.{sending_of, sendings_of}
use Rattle.state.specs.Plans.{no_sending, most, padded, bounded}
use Rattle.messages.specs.Made.{to_nobody, all_sent}
use Rattle.messages.proofs.Made.{nothing-sent}

-- ---- lists with blanks after them

module _ {A : Type 0} (d : A) where
  -- what has room in n has room in m
  padded_again : (n m : ℕ) (xs : List A) → n ≤ m → padded n d (padded m d xs) ≡ padded n d xs
  unfolding padded
  padded_again zero m xs h = refl
  padded_again (suc n) zero xs h = absurd (omega arith)
  padded_again (suc n) (suc m) [] h = ap (λ (l : List A). d ∷ l) (padded_again n m [] (le_of_suc-le-suc h))
  padded_again (suc n) (suc m) (x ∷ xs) h = ap (λ (l : List A). x ∷ l) (padded_again n m xs (le_of_suc-le-suc h))

  padded_front : (n : ℕ) (x : A) (xs : List A) → padded n d (x ∷ padded n d xs) ≡ padded n d (x ∷ xs)
  unfolding padded
  padded_front zero x xs = refl
  padded_front (suc n) x xs = ap (λ (l : List A). x ∷ l) (padded_again n (suc n) xs (omega arith))

  -- of a list that is not shorter, the first n
  pub padded-take : (n : ℕ) (xs : List A) → n ≤ length xs → padded n d xs ≡ take n xs
  unfolding padded
  padded-take zero xs h = refl
  padded-take (suc n) [] h = absurd (omega arith)
  padded-take (suc n) (x ∷ xs) h = ap (λ (l : List A). x ∷ l) (padded-take n xs (le_of_suc-le-suc h))

module _ {A B : Type 0} (f : A → B) (d : A) where
  padded-map : (n : ℕ) (xs : List A) → map f (padded n d xs) ≡ padded n (f d) (map f xs)
  unfolding padded
  padded-map zero xs = refl
  padded-map (suc n) [] = ap (λ (l : List B). f d ∷ l) (padded-map n [])
  padded-map (suc n) (x ∷ xs) = ap (λ (l : List B). f x ∷ l) (padded-map n xs)

-- ---- what they mean

pub all_means : {r : Sendings} (xs : List Sending) → r ≡ all_sent xs → sendings_of r ≡ bounded (map sending_of xs)
unfolding sendings_of all_sent
all_means xs e = rw (e, padded-map sending_of to_nobody most xs, nothing-sent {r = to_nobody} refl)

pub before_means : {r : Sendings} (s : Sending) (x : Sendings) (ss : List rules.Sending) → r ≡ all_sent (s ∷ x.of) → sendings_of x ≡ bounded ss
    → sendings_of r ≡ bounded (sending_of s ∷ ss)
unfolding sendings_of
before_means s x ss e f = all_means (s ∷ x.of) e ∙ rw f (padded_front no_sending most (sending_of s) ss)

-- the same as an equation, which a tactic applies from left to right
pub all_is : (xs : List Sending) → sendings_of (all_sent xs) ≡ bounded (map sending_of xs)
all_is xs = all_means xs refl

-- Demand 3 of the run that rules/specs/Overlap computes. It leaves one order only: the write that its desk's crash left unfinished, the read that returned it,
-- the other write. Assumes nothing.
use mathlib.Core.Path.{◌≡◌, refl, sym, subst, ap, ◌∙◌}
use mathlib.Core.Logic.{◌⊎◌, inl, inr, ⊎_elim}
use mathlib.Core.Bool.{true≢false}
use mathlib.Core.List.Memᴰ
use mathlib.Core.List.{List, [], ◌∷◌}
use Prim.Native.Nat.{ℕ}
use native.Mathlib.Omega.{arith}
use lib.Dec.{lit<}
use Rattle.rules.specs.Stamps.{Pair, sign, compared, greater}
use Rattle.rules.specs.History.{Operation}
use Rattle.rules.specs.Demand3.{◌∈◌, Belongs, ended, returned, latest, Next, Ordered, first, next, Demand3}
use Rattle.rules.specs.Overlap.{steps, left, had, wrote, overlap_ended, overlap_unfinished}
use Rattle.safety.proofs.Safety.{safety}

pub overlap_safe : Demand3 1 steps
overlap_safe = safety 1 (lit< tt) (lit< tt) steps

-- ---- what belongs into the order

left_belongs : Belongs 1 steps left
left_belongs = returned {r = had} (rw overlap_unfinished (Memᴰ.head refl)) (rw overlap_ended (Memᴰ.head refl)) refl refl

had_belongs : Belongs 1 steps had
had_belongs = ended (rw overlap_ended (Memᴰ.head refl))

wrote_belongs : Belongs 1 steps wrote
wrote_belongs = ended (rw overlap_ended (Memᴰ.tail (Memᴰ.head refl)))

abbrev Second : Operation → Type 0
Second o = (o ≡ had) ⊎ (o ≡ left)

no_others : {o : Operation} → Belongs 1 steps o → (o ≡ wrote) ⊎ Second o
no_others (ended m) = ⊎_elim (λ e. inr (inl e)) (λ h. inl (Memᴰ.eq_of_singleton h)) (Memᴰ.cases_cons (rw overlap_ended at m))
no_others (returned m n a e) = inr (inr (Memᴰ.eq_of_singleton (rw overlap_unfinished at m)))

-- ---- operations of different desks differ, and each stands once

desk_of : {o p : Operation} → o ≡ p → o.desk ≡ p.desk
desk_of e = ap (λ (x : Operation). x.desk) e

older : {o p : Operation} {r : List Operation} → (p.desk ≡ o.desk → ⊥) → p ∈ (o ∷ r) → p ∈ r
older f m = ⊎_elim (λ e. absurd (f (desk_of e))) (λ h. h) (Memᴰ.cases_cons m)

again : {o p x : Operation} {r : List Operation} → Next o r → o ≡ x → p ≡ x → p ∈ r → ⊥
again n e y m = n.once (Memᴰ.cast (e ∙ sym y) m)

-- ---- the order, newest first

empty : (r : List Operation) → ((p : Operation) → p ∈ r → ⊥) → r ≡ []
empty [] f = refl
empty (o ∷ r) f = absurd (f o (Memᴰ.head refl))

alone : (x : Operation) {r : List Operation} → Ordered r → x ∈ r → ((p : Operation) → p ∈ r → p ≡ x) → r ≡ x ∷ []
alone x first m a = absurd (Memᴰ.not-nil m)
alone x (next {o = o} {r = r} n d) m a =
    let e : o ≡ x = a o (Memᴰ.head refl) in
    let z : r ≡ [] = empty r (λ p h. again n e (a p (Memᴰ.tail h)) h) in
    λ j. e j ∷ z j

-- a read with no write before it returns zeros
not_first : Ordered (had ∷ []) → ⊥
unfolding latest
not_first (next n d) = let z : ◌≡◌ {A = ℕ} 0 1 = ap (λ (p : Pair). p.stamp.count) (n.returns refl) in omega arith

read_then_write : {r : List Operation} → Ordered r → had ∈ r → left ∈ r → ((p : Operation) → p ∈ r → Second p) → r ≡ had ∷ left ∷ []
read_then_write first h f a = absurd (Memᴰ.not-nil h)
read_then_write (next {o = o} {r = r} n d) h f a = go (a o (Memᴰ.head refl))
  where
    go : Second o → (o ∷ r) ≡ had ∷ left ∷ []
    go (inl e) =
        let z : r ≡ left ∷ [] = alone left d (older (λ y. omega (arith, desk_of e)) f)
        (λ p m. ⊎_elim (λ y. absurd (again n e y m)) (λ y. y) (a p (Memᴰ.tail m))) in
        λ j. e j ∷ z j
    go (inr e) =
        let z : r ≡ had ∷ [] = alone had d (older (λ y. omega (arith, desk_of e)) h)
        (λ p m. ⊎_elim (λ y. y) (λ y. absurd (again n e y m)) (a p (Memᴰ.tail m))) in
        absurd (not_first (subst (λ (x : List Operation). Ordered x) z d))

only-order : {r : List Operation} → Ordered r → wrote ∈ r → had ∈ r → left ∈ r → ((p : Operation) → p ∈ r → (p ≡ wrote) ⊎ Second p)
    → r ≡ wrote ∷ had ∷ left ∷ []
unfolding greater compared sign
only-order first w h f a = absurd (Memᴰ.not-nil w)
only-order (next {o = o} {r = r} n d) w h f a = go (a o (Memᴰ.head refl))
  where
    go : (o ≡ wrote) ⊎ Second o → (o ∷ r) ≡ wrote ∷ had ∷ left ∷ []
    go (inl e) =
        let z : r ≡ had ∷ left ∷ [] = read_then_write d (older (λ y. omega (arith, desk_of e)) h) (older (λ y. omega (arith, desk_of e)) f)
        (λ p m. ⊎_elim (λ y. absurd (again n e y m)) (λ y. y) (a p (Memᴰ.tail m))) in
        λ j. e j ∷ z j
    go (inr (inl e)) = absurd (true≢false (rw e at (n.rises wrote (older (λ y. omega (arith, desk_of e)) w))))
    go (inr (inr e)) = absurd (true≢false (rw e at (n.rises wrote (older (λ y. omega (arith, desk_of e)) w))))

-- whatever order satisfies demand 3 here
pub overlap_order : (D : Demand3 1 steps) → D.order ≡ wrote ∷ had ∷ left ∷ []
overlap_order D =
    only-order D.ordered (D.complete wrote wrote_belongs) (D.complete had had_belongs) (D.complete left left_belongs) (λ p m. no_others (D.sound p m))

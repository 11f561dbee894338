-- The order that the library derives of stamps, field by field, is the document's. Assumes nothing.
use Rattle.std.proofs.Common.{◌≡◌, refl, ap, ap₂, ◌∙◌, ℕ, ◌<◌, Bool, true, false, ◌&&◌, ℤ, pos, negsuc, arith, nat_cmp, Some}
use Rattle.std.specs.Ordering.{ordering_then, partial_ordering_then, is_some_and, is_gt, is_eq}
use Rattle.std.specs.declared.cmp.Ordering.{Ordering}
use Rattle.std.specs.declared.cmp.Ordering.TheVariants.{Less, Equal, Greater}
use lib.Dec.{eqb, ltb}
use borrow.Author.Tests.{ltb-true, ltb-false, eq-eqb, ne_eqb}
use Rattle.stamps.specs.declared.Stamp.{Stamp}
use Rattle.stamps.specs.Stamp.{sign_of, compared_of, equals, greater_of, same_of}

-- one of the library's three answers as the document's number
abbrev pub number : Ordering → ℤ
number Less = negsuc 0
number Equal = pos 0
number Greater = pos 1

signed : (a b : ℕ) (o : Ordering) → number (ordering_then (nat_cmp a b) o) ≡ sign_of a b (number o)
unfolding sign_of
signed a b o = go (ltb a b) (ltb b a) refl refl
  where
    go : (s t : Bool) → ltb a b ≡ s → ltb b a ≡ t → number (ordering_then (nat_cmp a b) o) ≡ sign_of a b (number o)
    go true t e f = rw e
    go false true e f = let more : b < a = ltb-true b a f in rw (e, f, ne_eqb a b (omega arith))
    go false false e f = rw (e, f, eq-eqb a b (omega (arith, ltb-false a b e, ltb-false b a f)))

pub numbered : (a b : Stamp) → number (ordering_then (nat_cmp a.count b.count) (nat_cmp a.desk b.desk)) ≡ compared_of a b
unfolding compared_of
numbered a b = signed a.count b.count (nat_cmp a.desk b.desk) ∙ ap (sign_of a.count b.count) (ap number (alone _) ∙ signed a.desk b.desk Equal)
  where
    alone : (o : Ordering) → o ≡ ordering_then o Equal
    alone Less = refl
    alone Equal = refl
    alone Greater = refl

pub greater_derived : (a b : Stamp)
    → is_some_and is_gt (partial_ordering_then (Some (nat_cmp a.count b.count)) (Some (nat_cmp a.desk b.desk))) ≡ greater_of a b
unfolding greater_of
greater_derived a b = rw (← numbered a b) (one (nat_cmp a.count b.count) (nat_cmp a.desk b.desk))
  where
    one : (o p : Ordering) → is_some_and is_gt (partial_ordering_then (Some o) (Some p)) ≡ equals (number (ordering_then o p)) 1
    one Less p = refl
    one Greater p = refl
    one Equal Less = refl
    one Equal Equal = refl
    one Equal Greater = refl

tied : (a b : ℕ) → eqb a b ≡ is_eq (nat_cmp a b)
tied a b = go (ltb a b) (eqb a b) refl refl
  where
    go : (s t : Bool) → ltb a b ≡ s → eqb a b ≡ t → eqb a b ≡ is_eq (nat_cmp a b)
    go true t e f = let below : a < b = ltb-true a b e in rw (e, ne_eqb a b (omega arith))
    go false true e f = rw (e, f)
    go false false e f = rw (e, f)

pub same_derived : (a b : Stamp) → (eqb a.count b.count && eqb a.desk b.desk) ≡ same_of a b
unfolding same_of
same_derived a b = ap₂ ◌&&◌ (tied a.count b.count) (tied a.desk b.desk) ∙ rw (← numbered a b) (zero (nat_cmp a.count b.count) (nat_cmp a.desk b.desk))
  where
    zero : (o p : Ordering) → (is_eq o && is_eq p) ≡ equals (number (ordering_then o p)) 0
    zero Less p = refl
    zero Greater p = refl
    zero Equal Less = refl
    zero Equal Equal = refl
    zero Equal Greater = refl

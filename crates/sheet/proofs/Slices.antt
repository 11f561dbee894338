-- A list of steps in three slices of one length, and back: nothing is lost either way. Assumes nothing.
use mathlib.Core.Path.{◌≡◌, refl, sym, ap, ◌∙◌}
use mathlib.Core.Bool.{false}
use mathlib.Core.List.{List, [], ◌∷◌}
use Prim.Native.Nat.{ℕ, suc}
use native.Mathlib.Omega.{arith}
use lib.ListN.{length, length-map}
use borrow.Author.Tests.{eq-eqb}
use Rattle.rules.specs.declared.Step.{Step}
use Rattle.rules.specs.Sheets.{version1, written}
use Rattle.sheet.specs.Writing.{listed, kinds_of, ids_of, values_of, unequal, ruled}
use Rattle.sheet.proofs.Writing.{same_lengths}

-- ---- three slices, listed, are those of the list

pub record Sliced (kinds ids values : List ℕ) (ks : List Step) : Type 0 where
  pub kinds_are : kinds_of ks ≡ kinds
  pub ids_are : ids_of ks ≡ ids
  pub values_are : values_of ks ≡ values
  pub long : length ks ≡ length kinds

pub sliced : (kinds ids values : List ℕ) → length ids ≡ length kinds → length values ≡ length kinds → Sliced kinds ids values (listed kinds ids values)
unfolding listed
sliced [] [] [] e f = record { kinds_are = refl; ids_are = refl; values_are = refl; long = refl }
sliced [] [] (v ∷ vs) e f = absurd (omega arith)
sliced [] (i ∷ is) vs e f = absurd (omega arith)
sliced (k ∷ ks) [] vs e f = absurd (omega arith)
sliced (k ∷ ks) (i ∷ is) [] e f = absurd (omega arith)
sliced (k ∷ ks) (i ∷ is) (v ∷ vs) e f =
    let s = sliced ks is vs (omega arith) (omega arith) in
    record {
      kinds_are = ap (λ (l : List ℕ). k ∷ l) s.kinds_are;
      ids_are = ap (λ (l : List ℕ). i ∷ l) s.ids_are;
      values_are = ap (λ (l : List ℕ). v ∷ l) s.values_are;
      long = ap suc s.long;
    }

pub sliced_equal : (kinds ids values : List ℕ) → unequal kinds ids values ≡ false → Sliced kinds ids values (listed kinds ids values)
sliced_equal kinds ids values e = let s = same_lengths kinds ids values e in sliced kinds ids values s.0 s.1

-- ---- the three slices of a list are listed as it

pub listed_back : (ks : List Step) → listed (kinds_of ks) (ids_of ks) (values_of ks) ≡ ks
unfolding listed
listed_back [] = refl
listed_back (k ∷ ks) = ap (λ (l : List Step). k ∷ l) (listed_back ks)

pub slices_equal : (ks : List Step) → unequal (kinds_of ks) (ids_of ks) (values_of ks) ≡ false
slices_equal ks =
    let n : length (kinds_of ks) ≡ length ks = length-map ks _ in
    let i : length (ids_of ks) ≡ length ks = length-map ks _ in
    let v : length (values_of ks) ≡ length ks = length-map ks _ in
    rw (eq-eqb (length (ids_of ks)) (length (kinds_of ks)) (i ∙ sym n), eq-eqb (length (values_of ks)) (length (kinds_of ks)) (v ∙ sym n))

-- so what is ruled of them is what the rules say of the list
pub ruled_list : (buffer : List ℕ) (mask : ℕ) (ks : List Step) → ruled buffer mask (kinds_of ks) (ids_of ks) (values_of ks) ≡ written version1 buffer mask ks
unfolding ruled
ruled_list buffer mask ks = rw (slices_equal ks, listed_back ks)

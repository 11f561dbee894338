-- A row of fields: where each ends, and what is left of it from the i-th on. Assumes nothing.
use mathlib.Core.Path.{◌≡◌, refl, sym, ap}
use mathlib.Core.List.{List, [], ◌∷◌, ◌++◌, append_assoc}
use Prim.Native.Nat.{ℕ, zero, suc, ◌+◌, ◌/◌, ◌%◌, ◌≤◌, ◌<◌}
use native.Mathlib.Numerals.{add-one}
use native.Mathlib.Omega.{arith}
use lib.ListN.{length, get_or, drop, length-append, drop_of_length-le}
use lib.Seq.{drop-cons}
use Rattle.rows.specs.Bytes.{bytes_of, fields_of, field_bytes, fields_bytes}
use Rattle.rows.specs.declared.Field.{Field}
use Rattle.rows.specs.declared.Field.TheVariants.{Flag, Byte, U16, U32, Zeros}
use Rattle.rows.proofs.Numbers.{length-bytes_of}
use Rattle.rows.proofs.Tables.{length-zeros}

pub fields_bytes-next : (fs : List Field) (i : ℕ) (d : Field) → i < length fs
    → fields_bytes (drop i fs) ≡ field_bytes (get_or fs i d) ++ fields_bytes (drop (i + 1) fs)
unfolding fields_bytes
fields_bytes-next fs i d h = rw (drop-cons fs i d h, fields_bytes, add-one i)

-- the fields before the i-th, laid from o on, end at p
pub record Ends (fs : List Field) (o p i : ℕ) : Type 0 where
  pub is : p + length (fields_bytes (drop i fs)) ≡ o + length (fields_bytes fs)

pub ends_none : {fs : List Field} {o : ℕ} → Ends fs o o 0
ends_none = record { is = refl }

module _ {fs : List Field} {o p i : ℕ} (e : Ends fs o p i) where
  module _ (d : Field) {w : ℕ} (h : i < length fs) (q : w ≡ length (field_bytes (get_or fs i d))) where
    next : length (fields_bytes (drop i fs)) ≡ w + length (fields_bytes (drop (i + 1) fs))
    next = rw (q, fields_bytes-next fs i d h, length-append)

    pub ends_more : Ends fs o (p + w) (i + 1)
    ends_more = record { is = omega (arith, next, e.is) }

    pub ends_inside : p + w ≤ o + length (fields_bytes fs)
    ends_inside = omega (arith, next, e.is)

  pub ends_all : length fs ≤ i → p ≡ o + length (fields_bytes fs)
  unfolding fields_bytes
  ends_all h = omega (arith, ap (λ (l : List Field). length (fields_bytes l)) (drop_of_length-le fs h), e.is)

-- ---- how long a row is, by its fields alone

abbrev pub width : Field → ℕ
width (Flag x) = 1
width (Byte x) = 1
width (U16 x) = 2
width (U32 x) = 4
width (Zeros n) = n

abbrev pub row_width : List Field → ℕ
row_width [] = 0
row_width (f ∷ fs) = width f + row_width fs

field-length : (f : Field) → length (field_bytes f) ≡ width f
unfolding field_bytes
field-length (Flag x) = refl
field-length (Byte x) = refl
field-length (U16 x) = length-bytes_of 2 x
field-length (U32 x) = length-bytes_of 4 x
field-length (Zeros n) = length-zeros n

pub fields_bytes-length : (fs : List Field) → length (fields_bytes fs) ≡ row_width fs
unfolding fields_bytes
fields_bytes-length [] = refl
fields_bytes-length (f ∷ fs) = simp length-append (omega (arith, field-length f, fields_bytes-length fs))

-- ---- any number in any width is a list of fields, its bytes

pub number_fields : ℕ → ℕ → List Field
number_fields zero x = []
number_fields (suc n) x = number_fields n (x / 256) ++ (Byte (x % 256) ∷ [])

pub fields_bytes-append : (fs gs : List Field) → fields_bytes (fs ++ gs) ≡ fields_bytes fs ++ fields_bytes gs
unfolding fields_bytes
fields_bytes-append [] gs = refl
fields_bytes-append (f ∷ fs) gs = rw (fields_bytes-append fs gs) (sym (append_assoc (field_bytes f) (fields_bytes fs) (fields_bytes gs)))

pub fields_bytes_number : (n x : ℕ) → fields_bytes (number_fields n x) ≡ bytes_of n x
unfolding fields_bytes field_bytes bytes_of number_fields
fields_bytes_number zero x = refl
fields_bytes_number (suc n) x = rw (fields_bytes-append (number_fields n (x / 256)) (Byte (x % 256) ∷ []), fields_bytes_number n (x / 256))

-- so are any widths and numbers; a number that is lacking is 0
pub row_fields : List ℕ → List ℕ → List Field
row_fields [] xs = []
row_fields (w ∷ ws) xs = number_fields w (get_or xs 0 0) ++ row_fields ws (drop 1 xs)

pub fields_bytes_of : (ws xs : List ℕ) → fields_bytes (row_fields ws xs) ≡ fields_of ws xs
unfolding fields_bytes fields_of row_fields
fields_bytes_of [] xs = refl
fields_bytes_of (w ∷ ws) xs =
    let both = fields_bytes-append (number_fields w (get_or xs 0 0)) (row_fields ws (drop 1 xs)) in
    rw (both, fields_bytes_number w (get_or xs 0 0), fields_bytes_of ws (drop 1 xs))

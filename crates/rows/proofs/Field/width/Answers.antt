-- `rows::Field::width` meets its contract. Assumes nothing.
use mathlib.Core.Path.{◌≡◌, sym}
use mathlib.Core.Bool.{Bool}
use mathlib.Core.Logic.{◌⊎◌, inl, inr}
use Prim.Native.Nat.{ℕ}
use lib.ListN.{length}
use Rattle.rows.specs.declared.Field.{Field}
use Rattle.rows.specs.declared.Field.TheVariants.{Flag, Byte}
use Rattle.rows.specs.Bytes.{field_bytes}
use Rattle.rows.proofs.Tables.{length-zeros}
use Rattle.rows.proofs.Numbers.{length-bytes_of}
use Rattle.rows.proofs.Field.width.Goals as goal

one : (f : Field) → ((x : Bool) × f ≡ Flag x) ⊎ ((x : ℕ) × f ≡ Byte x) → 1 ≡ length (field_bytes f)
unfolding field_bytes
one f (inl e) = rw e.1
one f (inr e) = rw e.1

pub returns-in-Flag : goal.returns-in-Flag
returns-in-Flag c = one _ c.in-Flag.is

pub returns-in-U16 : goal.returns-in-U16
unfolding field_bytes
returns-in-U16 c = rw c.in-U16.is (sym (length-bytes_of 2 _))

pub returns-in-U32 : goal.returns-in-U32
unfolding field_bytes
returns-in-U32 c = rw c.in-U32.is (sym (length-bytes_of 4 _))

pub returns-in-Zeros : goal.returns-in-Zeros
unfolding field_bytes
returns-in-Zeros c = rw c.in-Zeros.is (sym (length-zeros _))

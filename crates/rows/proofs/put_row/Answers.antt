-- `rows::put_row` meets its contract: what is left to write, written, gives the whole. Assumes nothing.
use mathlib.Core.Path.{◌≡◌, refl, sym, ap, ◌∙◌}
use mathlib.Core.Bool.{false}
use mathlib.Core.List.{List}
use Prim.Native.Nat.{ℕ, ◌+◌, ◌≤◌, ◌<◌}
use native.Mathlib.Omega.{arith}
use lib.ListN.{length, get_or, drop, drop_of_length-le}
use borrow.Author.Tests.{leb-true, leb-false}
use Rattle.rows.specs.Bytes.{placed, field_bytes, fields_bytes}
use Rattle.rows.specs.declared.Field.{Field}
use Rattle.rows.specs.declared.Field.TheVariants.{Flag}
use Rattle.rows.proofs.Laws.{placed-length, placed_nil, placed_more, placed_not}
use Rattle.rows.proofs.Row.{fields_bytes-next, ends_none, ends_more, ends_inside}
use Rattle.rows.proofs.put_row.Invariants.{Left}
use Rattle.rows.proofs.put_row.Goals as goal

module _ {fs : List Field} {l₀ : List ℕ} {o : ℕ} {l : List ℕ} {p i : ℕ} (h : Left fs l₀ o l p i) where
  -- the next field, laid
  abbrev Laid : Field → ℕ → List ℕ → Type 0
  Laid f q t = (q ≡ p + length (field_bytes f)) × (t ≡ placed l p (field_bytes f))

  left_less : (d : Field) {q : ℕ} (t : List ℕ) → i < length fs → o + length (fields_bytes fs) ≤ length l₀ → Laid (get_or fs i d) q t
      → Left fs l₀ o t q (i + 1)
  left_less d t below fit e =
      let field = field_bytes (get_or fs i d) in
      let ends = ends_more h.ends d below refl in
      let rest = fields_bytes (drop (i + 1) fs) in
      let more = placed_more l field rest p (omega (arith, ends.is, h.long)) in
      record {
        ends = rw e.0 ends;
        long = ap length e.1 ∙ placed-length l field p ∙ h.long;
        is = rw (e.0, e.1) more ∙ rw (fields_bytes-next fs i d below) at h.is;
      }

  left-none : length fs ≤ i → l ≡ placed l₀ o (fields_bytes fs)
  unfolding fields_bytes
  left-none past = sym (placed_nil l p) ∙ rw (drop_of_length-le fs past) at h.is

pub returns-then-not-row_fits : goal.returns-then-not-row_fits
returns-then-not-row_fits c = sym (placed_not _ _ _ (leb-false _ _ (sym c.row_fits.ensures ∙ c.if-not-row_fits.true)))

pub loop-field-init : goal.loop-field-init
loop-field-init c = record { ends = ends_none; long = refl; is = refl }

-- there is room for the next one
pub put_field-p-requires : goal.put_field-p-requires
put_field-p-requires c =
    let fit = leb-true _ _ (sym c.row_fits.ensures ∙ c.if-not-row_fits.false) in
    omega (arith, ends_inside c.loop-field.invariant.ends (Flag false) c.loop-field-test.true refl, c.loop-field.invariant.long)

pub loop-field-preserved : goal.loop-field-preserved
loop-field-preserved c =
    left_less c.loop-field.invariant _ _ c.loop-field-test.true (leb-true _ _ (sym c.row_fits.ensures ∙ c.if-not-row_fits.false)) c.put_field-p.ensures

pub returns : goal.returns
returns c = left-none c.loop-field.invariant c.loop-field-test.false

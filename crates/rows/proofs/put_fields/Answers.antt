-- `rows::put_fields` meets its contract: what is left to write, written, gives the whole. Assumes nothing.
use mathlib.Core.Path.{◌≡◌, refl, sym, ap, ◌∙◌}
use mathlib.Core.List.{List}
use Prim.Native.Nat.{ℕ, ◌+◌, ◌≤◌, ◌<◌}
use native.Mathlib.Omega.{arith}
use lib.ListN.{length, get_or, drop, drop_of_length-le}
use borrow.Author.Tests.{leb-true, leb-false}
use Rattle.std.proofs.Common.{rules}
use Rattle.rows.specs.Bytes.{placed, bytes_of, fields_of, sum}
use Rattle.rows.proofs.Laws.{placed-length, placed_nil, placed_more, placed_not}
use Rattle.rows.proofs.Numbers.{length-bytes_of, fields-length, fields-next, ends_none, ends_more, ends_inside}
use Rattle.rows.proofs.put_fields.Invariants.{Left}
use Rattle.rows.proofs.put_fields.Goals as goal

module _ {ws xs l₀ : List ℕ} {o : ℕ} {l : List ℕ} {p i : ℕ} (h : Left ws xs l₀ o l p i) where
  left_less : {w x : ℕ} (t : List ℕ) → i < length ws → o + sum ws ≤ length l₀ → w ≡ get_or ws i 0 → x ≡ get_or xs i 0
      → t ≡ placed l p (bytes_of w x) → Left ws xs l₀ o t (p + w) (i + 1)
  left_less {w} {x} t below fit ew ex e =
      let ends = ends_more h.ends below ew in
      let rest = fields_of (drop (i + 1) ws) (drop (i + 1) xs) in
      let wide = length-bytes_of w x in
      let more = rw wide at (placed_more l (bytes_of w x) rest p (omega (arith, fields-length (drop (i + 1) ws) (drop (i + 1) xs), ends.is, h.long))) in
      record {
        ends = ends;
        long = ap length e ∙ placed-length l (bytes_of w x) p ∙ h.long;
        is = rw e more ∙ rw (fields-next ws xs i below, ← ew, ← ex) at h.is;
      }

  left-none : length ws ≤ i → l ≡ placed l₀ o (fields_of ws xs)
  unfolding fields_of
  left-none past = sym (placed_nil l p) ∙ rw (drop_of_length-le ws past) at h.is

pub returns-then-not-widths_fit : goal.returns-then-not-widths_fit
returns-then-not-widths_fit c =
    let long = fields-length c.args.widths.now c.args.xs.now in
    let past = leb-false _ _ (sym c.widths_fit.ensures ∙ c.if-not-widths_fit.true) in
    sym (placed_not _ _ _ (omega arith))

pub loop-i-init : goal.loop-i-init
loop-i-init c = record { ends = ends_none; long = refl; is = refl }

pub overflow_add-p : goal.overflow_add-p
overflow_add-p c =
    let fit = leb-true _ _ (sym c.widths_fit.ensures ∙ c.if-not-widths_fit.false) in
    omega (arith, ends_inside c.loop-i.invariant.ends c.loop-i-test.true refl)

pub loop-i-preserved : goal.loop-i-preserved
loop-i-preserved c =
    left_less c.loop-i.invariant _ c.loop-i-test.true (leb-true _ _ (sym c.widths_fit.ensures ∙ c.if-not-widths_fit.false)) refl
    (search rules) c.put_number.ensures

pub returns : goal.returns
returns c = left-none c.loop-i.invariant c.loop-i-test.false

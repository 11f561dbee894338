-- A table of eight places that are filled from the lowest: its test by rows says that what is filled is good and that the table's bytes are those of what
-- is filled. Of any row, enc its bytes, dec its reading. Assumes nothing.
use Rattle.std.specs.Prelude.{◌&&◌, ◌||◌}
use mathlib.Core.Path.{◌≡◌, refl, sym, ap, ◌∙◌}
use mathlib.Core.Bool.{Bool, true, false, and-eq-true_iff, or-true}
use mathlib.Core.List.{List, [], ◌∷◌}
use Prim.Native.Nat.{ℕ, zero, suc, ◌+◌, ◌*◌, ◌-◌, ◌≤◌, ◌<◌}
use native.Mathlib.Omega.{arith}
use lib.Dec.{leb}
use lib.ListN.{length, get_or, get_or-eq_default}
use borrow.Author.Tests.{leb-true, leb-false, le-leb}
use Rattle.rows.specs.Bytes.{tab, table, zeros}
use Rattle.rows.specs.Tests as rows
use Rattle.rows.specs.Tests.{all_zero}
use Rattle.rows.proofs.All.{all_at, all_every}
use Rattle.rows.proofs.Laws.{Holds, run_inside, length-tab, get_d_tab, tab_get_d}
use Rattle.rows.proofs.Held.{run-held, zeros-held, zeros_pass}
use Rattle.rows.proofs.Tables.{table-length, table-holds}
use Rattle.views.proofs.Truth.{same_truth}
use Rattle.rules.specs.Sets.{those, all, all_hold}
use Rattle.rules.specs.WellFormed.{distinct}
use Rattle.rules.proofs.Hold.{hold_facts, hold_tests}
use Rattle.layout.proofs.Fits.{RowsFit}
use Rattle.layout.proofs.Rows.{rows_back}
use Rattle.good.specs.Rows.{held, differs}
use Rattle.good.proofs.Held.{all-tab, all_list, distinct-tab, all_same, held_true, held_fact, zero_part, zero_join, all_none_zero}

module _ {A : Type 0} (enc : A → List ℕ) (d : A) (w : ℕ) (wide : (x : A) → length (enc x) ≡ w) (blank : enc d ≡ zeros w)
    (filled : A → Bool) (unfilled : filled d ≡ false) (good : A → Bool) (differ : A → A → Bool)
    (Fits : A → Type 0) (fits : (x : A) → good x ≡ true → Fits x) (none-fits : Fits d) (full : (x : A) → good x ≡ true → filled x ≡ true)
    (dec : List ℕ → ℕ → A) (l : List ℕ) (back : (p : ℕ) (x : A) → Fits x → Holds l p (enc x) → dec l p ≡ x)
    (o : ℕ) (room : o + 8 * w ≤ length l) where
  abbrev row : ℕ → A
  row k = dec l (o + k * w)

  abbrev test : ℕ → Bool
  test k = differs differ row k && (good (row k) && held l (o + k * w) (enc (row k)))

  abbrev by_row : ℕ → Bool
  by_row k = all_zero l (o + k * w) ((8 - k) * w) || test k

  abbrev whole : List A → Bool
  whole xs = all_hold (leb (length xs) 8 ∷ all good xs ∷ distinct differ xs ∷ []) && held l o (table enc d 8 xs)

  inside : (k : ℕ) → k < 8 → o + k * w + w ≤ length l
  inside k h = omega (arith, run_inside w k 8 h)

  -- ---- from the rows

  -- the n places that are filled, and the zeros after them
  record Front : Type 0 where
    n : ℕ
    few : n ≤ 8
    each : (k : ℕ) → k < n → test k ≡ true
    rest : (k : ℕ) → n ≤ k → k < 8 → Holds l (o + k * w) (zeros w)

  front : (k i : ℕ) → i + k ≡ 8 → ((j : ℕ) → j < i → test j ≡ true) → rows.all 8 by_row ≡ true → Front
  front zero i e each h = record { n = i; few = omega arith; each = each; rest = λ k p q. absurd (omega arith) }
  front (suc k) i e each h = go (all_zero l (o + i * w) ((8 - i) * w)) refl (λ each. front k (suc i) (omega arith) each h)
    where
      next : test i ≡ true → (j : ℕ) → j < suc i → test j ≡ true
      next t j p = case (leb i j) refl
        where
          case : (b : Bool) → leb i j ≡ b → test j ≡ true
          case true f = let z : j ≡ i = omega (arith, leb-true i j f) in rw z t
          case false f = each j (leb-false i j f)

      part : all_zero l (o + i * w) ((8 - i) * w) ≡ true → (j : ℕ) → i ≤ j → j < 8 → Holds l (o + j * w) (zeros w)
      part z j p q =
          let m : j * w ≡ i * w + (j - i) * w = rw (ap (λ (t : ℕ). t * w) (let s : j ≡ i + (j - i) = omega arith in s)) (omega arith) in
          let same : o + i * w + (j - i) * w ≡ o + j * w = omega arith in
          zeros-held l (o + j * w) w (inside j q)
          (rw same at (zero_part l (o + i * w) ((8 - i) * w) ((j - i) * w) w (run_inside w (j - i) (8 - i) (omega arith)) z))

      go : (b : Bool) → all_zero l (o + i * w) ((8 - i) * w) ≡ b → (((j : ℕ) → j < suc i → test j ≡ true) → Front) → Front
      go true z rec = record { n = i; few = omega arith; each = each; rest = part z }
      go false z rec = rec (next (rw z at (all_at 8 i by_row h (omega arith))))

  module _ (f : Front) where
    parts : (k : ℕ) → k < f.n → (differs differ row k ≡ true) × ((good (row k) ≡ true) × (held l (o + k * w) (enc (row k)) ≡ true))
    parts k h =
        let t = (and-eq-true_iff (differs differ row k) (good (row k) && held l (o + k * w) (enc (row k)))).0 (f.each k h) in
        (t.0, (and-eq-true_iff (good (row k)) (held l (o + k * w) (enc (row k)))).0 t.1)

    filled_rows : List A
    filled_rows = tab f.n row

    long : length filled_rows ≡ f.n
    unfolding filled_rows
    long = length-tab f.n row

    before : (k : ℕ) → k < f.n → get_or filled_rows k d ≡ row k
    unfolding filled_rows
    before k h = get_d_tab f.n k row d h

    after : (k : ℕ) → f.n ≤ k → get_or filled_rows k d ≡ d
    after k h = get_or-eq_default filled_rows d (omega (arith, long))

    rows_fit : RowsFit Fits filled d filled_rows
    rows_fit =
        record {
          few = omega (arith, long, f.few);
          each = λ k. one k (leb f.n k) refl;
          full = λ k h. let p : k < f.n = omega (arith, long) in rw (before k p) (full (row k) (parts k p).1.0);
        }
      where
        one : (k : ℕ) (b : Bool) → leb f.n k ≡ b → Fits (get_or filled_rows k d)
        one k true e = rw (after k (leb-true f.n k e)) none-fits
        one k false e = let p = leb-false f.n k e in rw (before k p) (fits (row k) (parts k p).1.0)

    rows_held : Holds l o (table enc d 8 filled_rows)
    rows_held =
        run-held w 8 o l (λ k. enc (get_or filled_rows k d)) (λ k. wide (get_or filled_rows k d)) (omega arith) (λ k h. one k h (leb f.n k) refl)
      where
        one : (k : ℕ) → k < 8 → (b : Bool) → leb f.n k ≡ b → Holds l (o + k * w) (enc (get_or filled_rows k d))
        one k h true e = let p = leb-true f.n k e in rw (after k p, blank) (f.rest k p h)
        one k h false e =
            let p = leb-false f.n k e in
            rw (before k p) (held_fact l (o + k * w) (enc (row k)) (rw (wide (row k)) (inside k h)) (parts k p).1.1)

    rows_good_lem : all good filled_rows ≡ true
    unfolding filled_rows
    rows_good_lem = all-tab f.n good row ∙ all_every f.n (λ k. good (row k)) (λ k h. (parts k h).1.0)

    rows_apart : distinct differ filled_rows ≡ true
    unfolding filled_rows
    rows_apart = distinct-tab f.n differ row ∙ all_every f.n (differs differ row) (λ k h. (parts k h).0)

    rows_whole : whole filled_rows ≡ true
    rows_whole =
        (and-eq-true_iff (all_hold (leb (length filled_rows) 8 ∷ all good filled_rows ∷ distinct differ filled_rows ∷ [])) (held l o (table enc d 8 filled_rows))).1
        (hold_tests _ (le-leb (length filled_rows) 8 rows_fit.few, (rows_good_lem, (rows_apart, tt))), held_true l o (table enc d 8 filled_rows) rows_held)

    rows_read : whole (those filled (tab 8 row)) ≡ true
    rows_read = rw (rows_back filled enc d w wide unfilled Fits dec l back o filled_rows rows_fit rows_held) rows_whole

  -- ---- from the whole

  module _ (xs : List A) (h : whole xs ≡ true) where
    facts : (all_hold (leb (length xs) 8 ∷ all good xs ∷ distinct differ xs ∷ []) ≡ true) × (held l o (table enc d 8 xs) ≡ true)
    facts = (and-eq-true_iff (all_hold (leb (length xs) 8 ∷ all good xs ∷ distinct differ xs ∷ [])) (held l o (table enc d 8 xs))).0 h

    few_rows : length xs ≤ 8
    few_rows = leb-true (length xs) 8 (hold_facts _ facts.0).0

    good_at : (k : ℕ) → k < length xs → good (get_or xs k d) ≡ true
    good_at k p = all_at (length xs) k (λ k. good (get_or xs k d)) (sym (all_list good d xs) ∙ (hold_facts _ facts.0).1.0) p

    fits_at : (k : ℕ) → Fits (get_or xs k d)
    fits_at k = one (leb (length xs) k) refl
      where
        one : (b : Bool) → leb (length xs) k ≡ b → Fits (get_or xs k d)
        one true e = let z : get_or xs k d ≡ d = get_or-eq_default xs d (leb-true (length xs) k e) in rw z none-fits
        one false e = fits (get_or xs k d) (good_at k (leb-false (length xs) k e))

    holds_at : (k : ℕ) → k < 8 → Holds l (o + k * w) (enc (get_or xs k d))
    holds_at k p =
        table-holds enc d w 8 wide l o k xs p
        (held_fact l o (table enc d 8 xs) (rw (table-length enc d w 8 wide xs) room) facts.1)

    row_is : (k : ℕ) → k < 8 → row k ≡ get_or xs k d
    row_is k p = back (o + k * w) (get_or xs k d) (fits_at k) (holds_at k p)

    past : (k : ℕ) → length xs ≤ k → get_or xs k d ≡ d
    past k p = get_or-eq_default xs d p

    apart_at : (k : ℕ) → k < length xs → differs differ row k ≡ true
    unfolding differs
    apart_at k p =
        all_same k (λ j. differ (row j) (row k)) (λ j. differ (get_or xs j d) (get_or xs k d))
        (λ j q. rw (row_is j (omega (arith, few_rows)), row_is k (omega (arith, few_rows))))
        ∙ all_at (length xs) k (differs differ (λ k. get_or xs k d))
        (sym (distinct-tab (length xs) differ (λ k. get_or xs k d)) ∙ ap (distinct differ) (tab_get_d xs (length xs) d refl) ∙ (hold_facts _ facts.0).1.1.0) p

    test_at : (k : ℕ) → k < length xs → test k ≡ true
    test_at k p =
        let q : k < 8 = omega (arith, few_rows) in
        let e = row_is k q in
        rw (apart_at k p, e, good_at k p, held_true l (o + k * w) (enc (get_or xs k d)) (holds_at k q))

    zero_rows : (k i : ℕ) → i + k ≤ 8 → length xs ≤ i → all_zero l (o + i * w) (k * w) ≡ true
    zero_rows zero i e p = let z : 0 * w ≡ 0 = omega arith in rw z (all_none_zero l (o + i * w))
    zero_rows (suc k) i e p =
        let m : suc k * w ≡ k * w + w = omega arith in
        let same : o + i * w + k * w ≡ o + (i + k) * w = omega arith in
        rw m
        (zero_join l (o + i * w) (k * w) w (zero_rows k i (omega arith) p)
        (rw same (zeros_pass l (o + (i + k) * w) w (rw (past (i + k) (omega arith), blank) at (holds_at (i + k) (omega arith))))))

    by_rows : rows.all 8 by_row ≡ true
    by_rows = all_every 8 by_row (λ k p. one k p (leb (length xs) k) refl)
      where
        one : (k : ℕ) → k < 8 → (b : Bool) → leb (length xs) k ≡ b → by_row k ≡ true
        one k p true e = rw (zero_rows (8 - k) k (omega arith) (leb-true (length xs) k e))
        one k p false e = rw (test_at k (leb-false (length xs) k e)) (or-true (all_zero l (o + k * w) ((8 - k) * w)))

  pub rows_same : rows.all 8 by_row ≡ whole (those filled (tab 8 row))
  rows_same =
      same_truth (rows.all 8 by_row) (whole (those filled (tab 8 row))) (λ h. rows_read (front 8 0 refl (λ j p. absurd (omega arith)) h))
      (by_rows (those filled (tab 8 row)))

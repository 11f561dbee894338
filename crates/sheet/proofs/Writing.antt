-- A list of steps in three slices, a loop that writes it, and what writing a sheet answers. Assumes nothing.
use Rattle.std.specs.Prelude.{if◌then◌else◌}
use mathlib.Core.Path.{◌≡◌, refl, sym, ap, ◌∙◌}
use mathlib.Core.Bool.{Bool, true, false, not, ◌||◌}
use mathlib.Core.List.{List, [], ◌∷◌, map, ◌++◌}
use Prim.Native.Nat.{ℕ, ◌+◌, ◌-◌, ◌*◌, ◌≤◌, ◌<◌}
use native.Mathlib.Nat.{zero-add}
use native.Mathlib.Numerals.{add-one}
use native.Mathlib.Omega.{arith}
use lib.Dec.{eqb, ltb}
use lib.ListN.{length, get_or, drop, length-drop, length-map, get_or-map, drop_of_length-le}
use lib.Seq.{drop-cons}
use borrow.Author.Tests.{ltb-false, eqb-true, eqb-false, lt-ltb, le-ltb, ne_eqb, not-false}
use Rattle.std.specs.List.{zip}
use Rattle.std.proofs.lemmas.Slice.Zip.{length-zip}
use Rattle.views.proofs.Truth.{neither_true}
use Rattle.rows.specs.Bytes.{splice, placed, bytes_of}
use Rattle.rows.proofs.Laws.{placed-length, placed_nil, placed_more, placed_fits}
use Rattle.rules.specs.declared.Step.{Step}
use Rattle.rules.specs.Sheets.{Form, version1, step_width, step_bytes, steps_bytes, header_width, header_bytes, sheet_bytes, sheet_width}
use Rattle.rules.specs.Sheets.{bad_sheet, no_room, wrote, number, written}
use Rattle.rules.proofs.Sheets.{step-length, steps-length, size}
use Rattle.sheet.specs.Writing.{listed, unequal, ruled, ruled_size, buffer_of}

-- ---- the list

-- it is what the three slices, zipped, say
three : (ℕ × ℕ) × ℕ → Step
three p = record { kind = p.0.0; id = p.0.1; value = p.1 }

listed_zip : (ks is vs : List ℕ) → listed ks is vs ≡ map three (zip (zip ks is) vs)
unfolding listed three
listed_zip [] is vs = refl
listed_zip (k ∷ ks) [] vs = refl
listed_zip (k ∷ ks) (i ∷ is) [] = refl
listed_zip (k ∷ ks) (i ∷ is) (v ∷ vs) = ap (λ (l : List Step). record { kind = k; id = i; value = v } ∷ l) (listed_zip ks is vs)

pub zipped-length : (ks is vs : List ℕ) → length (listed ks is vs) ≡ length (zip (zip ks is) vs)
zipped-length ks is vs = ap length (listed_zip ks is vs) ∙ length-map (zip (zip ks is) vs) three

-- ---- the loop: with the steps from the i-th on written from o on, l is l₀ with all of them

unfoldable pub rest : Form → ℕ → List Step → List ℕ
rest f i steps = steps_bytes f (drop i steps)

pub record Left (f : Form) (steps : List Step) (l₀ l : List ℕ) (o i : ℕ) : Type 0 where
  pub within : i ≤ length steps
  pub at : o ≡ sheet_width f i
  pub long : length l ≡ length l₀
  pub is : placed l o (rest f i steps) ≡ placed l₀ (header_width f) (steps_bytes f steps)

pub left-all : {f : Form} {steps : List Step} {l : List ℕ} → Left f steps l l (header_width f) 0
unfolding rest
left-all = record { within = omega arith; at = omega arith; long = refl; is = refl }

rest-length : (f : Form) (i : ℕ) (steps : List Step) → length (rest f i steps) ≡ step_width f * (length steps - i)
unfolding rest
rest-length f i steps = steps-length f (drop i steps) ∙ ap (λ (n : ℕ). step_width f * n) (length-drop i steps)

rest-next : (f : Form) (i : ℕ) (steps : List Step) (d : Step) → i < length steps → rest f i steps ≡ step_bytes f (get_or steps i d) ++ rest f (i + 1) steps
unfolding rest steps_bytes
rest-next f i steps d h = rw (drop-cons steps i d h, add-one i)

left_step : {f : Form} {steps : List Step} {l₀ l : List ℕ} {o i : ℕ} (t : List ℕ) (k : Step) → Left f steps l₀ l o i → i < length steps
    → sheet_width f (length steps) ≤ length l₀ → get_or steps i k ≡ k → t ≡ placed l o (step_bytes f k) → Left f steps l₀ t (o + step_width f) (i + 1)
left_step {f} {steps} {l₀} {l} {o} {i} t k h below room e q =
    let w : ℕ = step_width f in
    let tail : List ℕ = rest f (i + 1) steps in
    let past : length steps ≡ i + (1 + (length steps - (i + 1))) = omega arith in
    let wide : sheet_width f (i + (1 + (length steps - (i + 1)))) ≤ length l₀ = rw past at room in
    let fit : o + (length (step_bytes f k) + length tail) ≤ length l = omega (arith, h.at, h.long, step-length f k, rest-length f (i + 1) steps, wide) in
    let both = placed_more l (step_bytes f k) tail o fit in
    let next : rest f i steps ≡ step_bytes f k ++ tail = rest-next f i steps k below ∙ ap (λ (x : Step). step_bytes f x ++ tail) e in
    record {
      within = omega arith;
      at = omega (arith, h.at);
      long = ap length q ∙ placed-length l (step_bytes f k) o ∙ h.long;
      is = rw (q, ← step-length f k) (both ∙ ap (λ (r : List ℕ). placed l o r) (sym next) ∙ h.is);
    }

pub left_more : {f : Form} (ks ids vs : List ℕ) {l₀ l : List ℕ} {o i : ℕ} (t : List ℕ) → Left f (listed ks ids vs) l₀ l o i → (p : (ℕ × ℕ) × ℕ)
    → (i < length (zip (zip ks ids) vs)) × (p ≡ get_or (zip (zip ks ids) vs) i p) → sheet_width f (length (listed ks ids vs)) ≤ length l₀
    → t ≡ placed l o (step_bytes f (record { kind = p.0.0; id = p.0.1; value = p.1 }))
    → Left f (listed ks ids vs) l₀ t (o + step_width f) (i + 1)
unfolding three
left_more ks ids vs {i = i} t h p turn room e =
    let all : List ((ℕ × ℕ) × ℕ) = zip (zip ks ids) vs in
    let below : i < length (listed ks ids vs) = omega (arith, zipped-length ks ids vs, turn.0) in
    let is : get_or (listed ks ids vs) i (three p) ≡ three p =
    ap (λ (l : List Step). get_or l i (three p)) (listed_zip ks ids vs) ∙ get_or-map three all i p ∙ ap three (sym turn.1) in
    left_step t (three p) h below room is e

pub left-none : {f : Form} {steps : List Step} {l₀ l : List ℕ} {o i : ℕ} → Left f steps l₀ l o i → length steps ≤ i
    → l ≡ placed l₀ (header_width f) (steps_bytes f steps)
unfolding rest steps_bytes
left-none {f} {steps} {l₀} {l} {o} {i} h p =
    let none : drop i steps ≡ [] = drop_of_length-le steps p in
    sym (placed_nil l o) ∙ ap (λ (r : List Step). placed l o (steps_bytes f r)) (sym none) ∙ h.is

-- ---- the ruling on a list

module _ (f : Form) (b : List ℕ) (mask : ℕ) (ks : List Step) where
  pub ruling : (mask ≡ 0 → ⊥) → length ks ≤ f.most_steps → sheet_width f (length ks) ≤ length b
      → written f b mask ks ≡ wrote (sheet_bytes f mask ks ++ drop (length (sheet_bytes f mask ks)) b)
  unfolding written
  ruling some few h =
      rw (ne_eqb mask 0 some, le-ltb f.most_steps (length ks) few, le-ltb (length b) (length (sheet_bytes f mask ks)) (omega (arith, size f mask ks)))

-- ---- three slices, of which the code has tested the lengths and the mask

pub same_lengths : (kinds ids values : List ℕ) → unequal kinds ids values ≡ false → (length ids ≡ length kinds) × (length values ≡ length kinds)
same_lengths kinds ids values e =
    let p = neither_true (not (eqb (length ids) (length kinds))) (not (eqb (length values) (length kinds))) e in
    (eqb-true (length ids) (length kinds) (not-false _ p.0), eqb-true (length values) (length kinds) (not-false _ p.1))

equal_length : (kinds ids values : List ℕ) → unequal kinds ids values ≡ false → length (listed kinds ids values) ≡ length kinds
equal_length kinds ids values e =
    let s = same_lengths kinds ids values e in
    omega (arith, zipped-length kinds ids values, length-zip (zip kinds ids) values, length-zip kinds ids, s.0, s.1)

module _ (b : List ℕ) (mask : ℕ) (kinds ids values : List ℕ) where
  pub bad : unequal kinds ids values || eqb mask 0 || ltb version1.most_steps (length kinds) ≡ true → ruled b mask kinds ids values ≡ bad_sheet
  unfolding ruled written
  bad t = go (unequal kinds ids values) refl t
    where
      go : (u : Bool) → unequal kinds ids values ≡ u → u || eqb mask 0 || ltb version1.most_steps (length kinds) ≡ true
          → (if u then bad_sheet else written version1 b mask (listed kinds ids values)) ≡ bad_sheet
      go true e t = refl
      go false e t =
          let t₁ : eqb mask 0 || ltb version1.most_steps (length (listed kinds ids values)) ≡ true = rw (equal_length kinds ids values e) t in
          rw t₁

  module _ (t : unequal kinds ids values || eqb mask 0 || ltb version1.most_steps (length kinds) ≡ false) where
    masked : (unequal kinds ids values ≡ false) × (eqb mask 0 ≡ false)
    masked =
        neither_true (unequal kinds ids values) (eqb mask 0)
        (neither_true (unequal kinds ids values || eqb mask 0) (ltb version1.most_steps (length kinds)) t).0

    some : mask ≡ 0 → ⊥
    some = eqb-false mask 0 masked.1

    pub few : length kinds ≤ version1.most_steps
    few = ltb-false version1.most_steps (length kinds) (neither_true (unequal kinds ids values || eqb mask 0) (ltb version1.most_steps (length kinds)) t).1

    pub counted : length (listed kinds ids values) ≡ length kinds
    counted = equal_length kinds ids values masked.0

    by_list : ruled b mask kinds ids values ≡ written version1 b mask (listed kinds ids values)
    unfolding ruled
    by_list = rw masked.0

    pub roomless : length b < sheet_width version1 (length kinds) → ruled b mask kinds ids values ≡ no_room
    unfolding written
    roomless h =
        let ks : List Step = listed kinds ids values in
        let short = lt-ltb (length b) (length (sheet_bytes version1 mask ks)) (omega (arith, size version1 mask ks, counted)) in
        by_list ∙ rw (ne_eqb mask 0 some, counted, le-ltb version1.most_steps (length kinds) few, short)

    module _ (room : sheet_width version1 (length kinds) ≤ length b) where
      whole : ruled b mask kinds ids values
          ≡ wrote (sheet_bytes version1 mask (listed kinds ids values) ++ drop (length (sheet_bytes version1 mask (listed kinds ids values))) b)
      whole = by_list ∙ ruling version1 b mask (listed kinds ids values) some (omega (arith, counted, few)) (omega (arith, counted))

      pub done : (0 ≡ number (ruled b mask kinds ids values)) × (sheet_width version1 (length kinds) ≡ ruled_size b mask kinds ids values)
      unfolding ruled_size
      done = (rw whole, rw whole (omega (arith, size version1 mask (listed kinds ids values), counted)))

      pub left : (h l : List ℕ) → h ≡ placed b 0 (header_bytes version1 mask)
          → l ≡ placed h (header_width version1) (steps_bytes version1 (listed kinds ids values))
          → l ≡ buffer_of b (ruled b mask kinds ids values)
      unfolding splice sheet_bytes bytes_of
      left h l eh el =
          let ks : List Step = listed kinds ids values in
          el
          ∙ rw eh (placed_more b (header_bytes version1 mask) (steps_bytes version1 ks) 0 (omega (arith, steps-length version1 ks, counted)))
          ∙ placed_fits b (sheet_bytes version1 mask ks) 0 (omega (arith, steps-length version1 ks, counted))
          ∙ rw (whole, zero-add)

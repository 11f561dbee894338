-- Sheets: what is written is read back, and what is read is written again, in any form that its version tells. Assumes nothing.
use Rattle.std.specs.Prelude.{◌&&◌, ◌||◌}
use mathlib.Core.Path.{◌≡◌, refl, sym, ap, ◌∙◌}
use mathlib.Core.Bool.{Bool, true, false, not, and-eq-true_iff}
use mathlib.Core.List.{List, [], ◌∷◌, ◌++◌, append_assoc}
use Prim.Native.Nat.{ℕ, zero, suc, ◌+◌, ◌-◌, ◌*◌, ◌/◌, ◌%◌, ◌^◌, ◌≤◌, ◌<◌}
use native.Mathlib.Nat.{div-add-mod, mul-div_right, mul-mod_right}
use native.Mathlib.Omega.{arith}
use lib.Dec.{eqb, ltb}
use lib.ListN.{length, get_or, take, drop, length-append, length-drop, take-append-drop}
use lib.Seq.{drop_at, get_or-drop, length-take-le}
use borrow.Author.Tests.{eqb-true, eqb-false, ltb-false, not-false, le-ltb, eq-eqb, ne_eqb}
use Rattle.views.proofs.Truth.{neither_true}
use Rattle.rules.specs.Steps.{Step}
use Rattle.rows.specs.Bytes.{bytes_of, be16, zeros}
use Rattle.rows.proofs.Laws.{Holds, holds_same}
use Rattle.rows.proofs.Held.{holds_one, holds-append, zeros-held, zeros_pass}
use Rattle.rows.proofs.Tables.{length-zeros}
use Rattle.rows.proofs.Numbers.{Bytes, length-bytes_of, length-be16, number-held, holds-number, holds_u16}
use Rattle.rules.specs.Sheets.{Form, version1, form_of, value_at, zeros_at, step_width, step_in, zeros_in, step_bytes, steps_in, all_zeros_in, steps_bytes}
use Rattle.rules.specs.Sheets.{header_bytes, header_width, version_at, mask_at, mark, marked, version_in, mask_in, form_in}
use Rattle.rules.specs.Sheets.{sheet, steps_by, steps_of, bad_by, is_bad_sheet, list_by, sheet_in, sheet_bytes, sheet_width}

-- a form that its version tells
pub record Known (f : Form) : Type 0 where
  pub number : f.version < 65536
  pub told : form_of f.version ≡ f

pub version1-known : Known version1
unfolding form_of
version1-known = record { number = omega arith; told = refl }

-- no version's sheets have more steps than version 1's
pub most-steps : (n : ℕ) → (form_of n).most_steps ≤ version1.most_steps
unfolding form_of
most-steps n = omega arith

-- a step that a sheet can hold; a list of them
pub record Small (f : Form) (k : Step) : Type 0 where
  pub kind : k.kind < 256
  pub id : k.id < 256
  pub value : k.value < 256 ^ f.value_bytes

unfoldable pub Smalls : Form → List Step → Type 0
Smalls f [] = Unit {0}
Smalls f (k ∷ ks) = Small f k × Smalls f ks

module _ (f : Form) where
  -- ---- steps

  pub step-length : (k : Step) → length (step_bytes f k) ≡ step_width f
  step-length k = simp length-append (omega (arith, length-zeros f.zero_bytes, length-bytes_of f.value_bytes k.value))

  step_back : (k : Step) (r : List ℕ) → Small f k → step_in f (step_bytes f k ++ r) ≡ k
  step_back k r h =
      let z : List ℕ = zeros f.zero_bytes in
      let v : List ℕ = bytes_of f.value_bytes k.value in
      let at : Holds (step_bytes f k ++ r) (value_at f) v =
      record {
        pre = k.kind ∷ k.id ∷ z;
        post = r;
        long = omega (arith, length-zeros f.zero_bytes);
        whole = ap (λ (l : List ℕ). k.kind ∷ k.id ∷ l) (append_assoc z v r);
      } in
      λ i. record { kind = k.kind; id = k.id; value = holds-number f.value_bytes (step_bytes f k ++ r) (value_at f) k.value h.value at i }

  zeros_there : (k : Step) (r : List ℕ) → zeros_in f (step_bytes f k ++ r) ≡ true
  zeros_there k r =
      let z : List ℕ = zeros f.zero_bytes in
      let v : List ℕ = bytes_of f.value_bytes k.value in
      zeros_pass (step_bytes f k ++ r) zeros_at f.zero_bytes
      (record { pre = k.kind ∷ k.id ∷ []; post = v ++ r; long = refl; whole = ap (λ (l : List ℕ). k.kind ∷ k.id ∷ l) (append_assoc z v r) })

  -- past a step are the others
  past-step : (k : Step) (r : List ℕ) → drop (step_width f) (step_bytes f k ++ r) ≡ r
  past-step k r = drop_at (step_bytes f k) r (step_width f) (step-length k)

  steps_back : (ks : List Step) → Smalls f ks → steps_in f (length ks) (steps_bytes f ks) ≡ ks
  unfolding steps_in steps_bytes Smalls
  steps_back [] h = refl
  steps_back (k ∷ ks) h =
      let r : List ℕ = steps_bytes f ks in
      let rest : steps_in f (length ks) (drop (step_width f) (step_bytes f k ++ r)) ≡ ks = rw (past-step k r) (steps_back ks h.1) in
      λ i. step_back k r h.0 i ∷ rest i

  zeros_back : (ks : List Step) → all_zeros_in f (length ks) (steps_bytes f ks) ≡ true
  unfolding all_zeros_in steps_bytes
  zeros_back [] = refl
  zeros_back (k ∷ ks) = rw (zeros_there k (steps_bytes f ks), past-step k (steps_bytes f ks)) (zeros_back ks)

  pub steps-length : (ks : List Step) → length (steps_bytes f ks) ≡ step_width f * length ks
  unfolding steps_bytes
  steps-length [] = omega arith
  steps-length (k ∷ ks) = rw (length-append (step_bytes f k) (steps_bytes f ks), step-length k, steps-length ks) (omega arith)

  -- ---- a sheet that is written

  pub header_length : (mask : ℕ) → length (header_bytes f mask) ≡ header_width f
  unfolding bytes_of
  header_length mask = refl

  module _ (mask : ℕ) (ks : List Step) where
    pub size : length (sheet_bytes f mask ks) ≡ sheet_width f (length ks)
    unfolding sheet_bytes bytes_of
    size = omega (arith, steps-length ks)

    -- past its header stand its steps
    past-length : length (sheet_bytes f mask ks) - header_width f ≡ step_width f * length ks
    past-length = omega (arith, size)

    count_back : steps_by f (sheet_bytes f mask ks) ≡ length ks
    count_back = rw past-length (mul-div_right (length ks) (omega arith))

    past_header : drop (header_width f) (sheet_bytes f mask ks) ≡ steps_bytes f ks
    unfolding sheet_bytes bytes_of
    past_header = refl

    module _ (known : Known f) where
      version_back : version_in (sheet_bytes f mask ks) ≡ f.version
      unfolding sheet_bytes
      version_back =
          let v : List ℕ = be16 f.version in
          let whole = ap (λ (l : List ℕ). mark ++ l) (append_assoc v (mask ∷ []) (steps_bytes f ks)) in
          holds_u16 (sheet_bytes f mask ks) version_at f.version known.number
          (record { pre = mark; post = mask ∷ steps_bytes f ks; long = refl; whole = whole })

      form_back : form_in (sheet_bytes f mask ks) ≡ f
      form_back = ap form_of version_back ∙ known.told

      module _ (low : 0 < mask) (few : length ks ≤ f.most_steps) (h : Smalls f ks) where
        not_bad : bad_by f (sheet_bytes f mask ks) ≡ false
        unfolding sheet_bytes bytes_of
        not_bad =
            let b : List ℕ = sheet_bytes f mask ks in
            let w : ℕ = step_width f in
            let long : ltb (length b) (header_width f) ≡ false = le-ltb (length b) (header_width f) (omega (arith, size)) in
            let versioned : eqb (version_in b) f.version ≡ true = eq-eqb (version_in b) f.version version_back in
            let masked : eqb mask 0 ≡ false = ne_eqb mask 0 (λ z. omega arith) in
            let part : (length b - header_width f) % w ≡ 0 = rw past-length (mul-mod_right w (length ks)) in
            let whole = eq-eqb ((length b - header_width f) % w) 0 part in
            let blank : all_zeros_in f (steps_by f b) (drop (header_width f) b) ≡ true = rw count_back (zeros_back ks) in
            let counted : ltb f.most_steps (steps_by f b) ≡ false = rw count_back (le-ltb f.most_steps (length ks) few) in
            rw (long, versioned, masked, whole, blank, counted)

        listed_back : list_by f (sheet_bytes f mask ks) ≡ ks
        listed_back = rw (count_back, past_header) (steps_back ks h)

        pub sheet_back : sheet_in (sheet_bytes f mask ks) ≡ sheet mask ks
        unfolding sheet_in
        sheet_back = rw (form_back, not_bad, listed_back) (unfold sheet_bytes bytes_of in refl)

-- ---- a sheet that is not bad

-- none of "under six bytes, wrong mark, version, mask 0, a part step, non-zero in the two bytes, over 8,000 steps" is so
pub record Sound (b : List ℕ) : Type 0 where
  pub head : header_width (form_in b) ≤ length b
  pub mark_there : marked b ≡ true
  pub version-is : version_in b ≡ (form_in b).version
  pub some : mask_in b ≡ 0 → ⊥
  pub whole : (length b - header_width (form_in b)) % step_width (form_in b) ≡ 0
  pub blank : all_zeros_in (form_in b) (steps_of b) (drop (header_width (form_in b)) b) ≡ true
  pub within : steps_of b ≤ (form_in b).most_steps
  -- nor over what any version may have
  pub few : steps_of b ≤ version1.most_steps

pub sound : (b : List ℕ) → is_bad_sheet b ≡ false → Sound b
sound b e =
    let f : Form = form_in b in
    let short : Bool = ltb (length b) (header_width f) in
    let other : Bool = not (marked b) in
    let later : Bool = not (eqb (version_in b) f.version) in
    let none : Bool = eqb (mask_in b) 0 in
    let part : Bool = not (eqb ((length b - header_width f) % step_width f) 0) in
    let loud : Bool = not (all_zeros_in f (steps_by f b) (drop (header_width f) b)) in
    let many : Bool = ltb f.most_steps (steps_by f b) in
    let e7 = neither_true (short || other || later || none || part || loud) many e in
    let e6 = neither_true (short || other || later || none || part) loud e7.0 in
    let e5 = neither_true (short || other || later || none) part e6.0 in
    let e4 = neither_true (short || other || later) none e5.0 in
    let e3 = neither_true (short || other) later e4.0 in
    let e2 = neither_true short other e3.0 in
    let within : steps_of b ≤ f.most_steps = ltb-false f.most_steps (steps_by f b) e7.1 in
    record {
      head = ltb-false (length b) (header_width f) e2.0;
      mark_there = not-false (marked b) e2.1;
      version-is = eqb-true (version_in b) f.version (not-false _ e3.1);
      some = eqb-false (mask_in b) 0 e4.1;
      whole = eqb-true ((length b - header_width f) % step_width f) 0 (not-false _ e5.1);
      blank = not-false _ e6.1;
      within = within;
      few = omega (arith, within, most-steps (version_in b));
    }

-- ---- and back again

front_held : (n : ℕ) (l : List ℕ) → Holds l 0 (take n l)
front_held n l = record { pre = []; post = drop n l; long = refl; whole = sym (take-append-drop n l) }

bytes_past : (n : ℕ) (l : List ℕ) → Bytes l → Bytes (drop n l)
bytes_past n l bytes = record { each = λ k. rw (get_or-drop n l k 0) (bytes.each (n + k)) }

module _ (f : Form) where
  step-held : (l : List ℕ) → Bytes l → step_width f ≤ length l → zeros_in f l ≡ true → Holds l 0 (step_bytes f (step_in f l))
  step-held l bytes h z =
      let k : Step = step_in f l in
      let v : List ℕ = bytes_of f.value_bytes k.value in
      holds-append l (k.kind ∷ k.id ∷ []) (zeros f.zero_bytes ++ v) 0 zeros_at refl
      (holds-append l (k.kind ∷ []) (k.id ∷ []) 0 1 refl (holds_one l 0 (omega arith)) (holds_one l 1 (omega arith)))
      (holds-append l (zeros f.zero_bytes) v zeros_at f.zero_bytes (length-zeros f.zero_bytes)
      (zeros-held l zeros_at f.zero_bytes (omega arith) z)
      (number-held l (value_at f) bytes f.value_bytes h))

  steps-held : (n : ℕ) (l : List ℕ) → Bytes l → length l ≡ step_width f * n → all_zeros_in f n l ≡ true → steps_bytes f (steps_in f n l) ≡ l
  unfolding steps_in steps_bytes all_zeros_in
  steps-held zero [] bytes e z = refl
  steps-held zero (x ∷ l) bytes e z = absurd (omega arith)
  steps-held (suc n) l bytes e z =
      let w : ℕ = step_width f in
      let long : length l ≡ w + w * n = e ∙ omega arith in
      let p = (and-eq-true_iff (zeros_in f l) (all_zeros_in f n (drop w l))).0 z in
      let same : length (step_bytes f (step_in f l)) ≡ length (take w l) = step-length f (step_in f l) ∙ sym (length-take-le w l (omega (arith, long))) in
      let first = holds_same l (step_bytes f (step_in f l)) (take w l) 0 same (step-held l bytes (omega (arith, long)) p.0) (front_held w l) in
      let rest = steps-held n (drop w l) (bytes_past w l bytes) (length-drop w l ∙ omega (arith, long)) p.1 in
      (λ i. first i ++ rest i) ∙ take-append-drop w l

mark-held : (b : List ℕ) → version_at ≤ length b → marked b ≡ true → Holds b 0 mark
mark-held b h e =
    let is : ℕ → Bool = λ k. eqb (get_or b k 0) (get_or mark k 0) in
    let both = (and-eq-true_iff (is 0 && is 1) (is 2)).0 e in
    let first = (and-eq-true_iff (is 0) (is 1)).0 both.0 in
    holds-append b _ _ 0 1 refl (one 0 (omega arith) first.0) (holds-append b _ _ 1 1 refl (one 1 (omega arith) first.1) (one 2 (omega arith) both.1))
  where
    one : (k : ℕ) → k < version_at → eqb (get_or b k 0) (get_or mark k 0) ≡ true → Holds b k (get_or mark k 0 ∷ [])
    one k below t = rw (eqb-true (get_or b k 0) (get_or mark k 0) t) at (holds_one b k (omega arith))

-- the steps past the header, written, are the bytes past it
list_held : (b : List ℕ) → Bytes b → Sound b → steps_bytes (form_in b) (list_by (form_in b) b) ≡ drop (header_width (form_in b)) b
list_held b bytes s =
    let f : Form = form_in b in
    let n : ℕ = length b - header_width f in
    let long : n ≡ step_width f * (n / step_width f) = omega (arith, div-add-mod n (step_width f), s.whole) in
    steps-held f (steps_by f b) (drop (header_width f) b) (bytes_past (header_width f) b bytes) (length-drop (header_width f) b ∙ long) s.blank

-- a sheet that is read is its own writing
pub sheet-held : (b : List ℕ) → Bytes b → is_bad_sheet b ≡ false → sheet_bytes (form_in b) (mask_in b) (list_by (form_in b) b) ≡ b
unfolding sheet_bytes
sheet-held b bytes e =
    let s = sound b e in
    let f : Form = form_in b in
    let m : ℕ = mask_in b in
    let rest = list_held b bytes s in
    let version : Holds b version_at (be16 f.version) = rw s.version-is at (number-held b version_at bytes 2 (omega (arith, s.head))) in
    let front : Holds b 0 (header_bytes f m) =
    holds-append b mark (be16 f.version ++ (m ∷ [])) 0 version_at refl (mark-held b (omega (arith, s.head)) s.mark_there)
    (holds-append b (be16 f.version) (m ∷ []) version_at 2 (length-be16 f.version) version (holds_one b mask_at (omega (arith, s.head)))) in
    let wide : length (take (header_width f) b) ≡ header_width f = length-take-le (header_width f) b s.head in
    let header = holds_same b (header_bytes f m) (take (header_width f) b) 0 (header_length f m ∙ sym wide) front (front_held (header_width f) b) in
    (λ i. header i ++ rest i) ∙ take-append-drop (header_width f) b

-- The code's answer is the rules' reading of the same bytes, and a reader goes through an accepted sheet's list of steps.
-- Assumes nothing.
use Rattle.std.specs.Prelude.{if◌then◌else◌, Option, None, Some, Ok, Err}
use Rattle.std.specs.Option.{MatchOption, option_map}
use Rattle.std.specs.Iterator.{YieldsFirst, MakesProgress, item_count}
use denote.Ref.{Bor}
use mathlib.Core.Path.{◌≡◌, refl, sym, ap, ◌∙◌}
use mathlib.Core.Bool.{Bool, true, false}
use mathlib.Core.List.{List, [], ◌∷◌}
use Prim.Native.Nat.{ℕ, zero, suc, ◌+◌, ◌-◌, ◌/◌, ◌≤◌, ◌<◌}
use native.Mathlib.Nat.{div-eq_of_lt, div-eq-sub-div}
use native.Mathlib.Omega.{arith}
use lib.Dec.{leb}
use lib.ListN.{length, drop}
use lib.Seq.{drop-drop}
use borrow.Author.Tests.{leb-true, leb-false}
use Rattle.rules.specs.declared.Step.{Step}
use Rattle.rules.specs.Sheets.{Form, bad, sheet, step_width, step_in, steps_in, header_width, mask_in, form_in, steps_of, is_bad_sheet, list_by, sheet_in}
use Rattle.rules.specs.declared.Refusal.TheVariants.{BadSheet}
use Rattle.sheet.specs.declared.reader.Reader.{Reader}
use Rattle.sheet.specs.Reading.{check_of, read_of, front_of, step_at, after_of, taken_at, steps_from, steps_left}
pub use Rattle.rules.proofs.Sheets.{sound}

pub check_reads : (b : List ℕ) → read_of (check_of b) b ≡ sheet_in b
unfolding check_of sheet_in read_of
check_reads b = go (is_bad_sheet b)
  where
    go : (t : Bool) → read_of (if t then Err BadSheet else Ok (record { mask = mask_in b; steps = steps_of b })) b
        ≡ (if t then bad else sheet (mask_in b) (list_by (form_in b) b))
    go true = refl
    go false = refl

-- ---- an accepted sheet

pub record Accepted (b : List ℕ) (mask : ℕ) (ks : List Step) : Type 0 where
  pub good : is_bad_sheet b ≡ false
  pub masked : mask_in b ≡ mask
  pub steps : list_by (form_in b) b ≡ ks

pub accepted : (b : List ℕ) (mask : ℕ) (ks : List Step) → sheet_in b ≡ sheet mask ks → Accepted b mask ks
unfolding sheet_in
accepted b mask ks e = go (is_bad_sheet b) refl e
  where
    go : (t : Bool) → is_bad_sheet b ≡ t → (if t then bad else sheet (mask_in b) (list_by (form_in b) b)) ≡ sheet mask ks → Accepted b mask ks
    go true f e = let z : ◌≡◌ {A = ℕ} 0 1 = cc in absurd (omega arith)
    go false f e = record { good = f; masked = cc; steps = cc }

steps_count : (f : Form) (n : ℕ) (b : List ℕ) → length (steps_in f n b) ≡ n
unfolding steps_in
steps_count f zero b = refl
steps_count f (suc n) b = ap suc (steps_count f n (drop (step_width f) b))

module _ (b : List ℕ) (mask : ℕ) (ks : List Step) (a : Accepted b mask ks) where
  pub count : steps_of b ≡ length ks
  count = sym (steps_count (form_in b) (steps_of b) (drop (header_width (form_in b)) b)) ∙ ap length a.steps

  -- its list is what is read from the front
  pub front : steps_from b (front_of b) ≡ ks
  unfolding steps_from
  front = a.steps

-- ---- any bytes, read from a position on: the step that is read is the first of those left, and past it are the others; at the end none is left

module _ (b : List ℕ) (at : ℕ) where
  abbrev w : ℕ
  w = step_width (form_in b)

  from_some : at + w ≤ length b → steps_from b at ≡ step_in (form_in b) (drop at b) ∷ steps_from b (at + w)
  unfolding steps_from steps_in
  from_some h =
      let less : length b - at - w ≡ length b - (at + w) = omega arith in
      let more : (length b - at) / w ≡ suc ((length b - (at + w)) / w) = div-eq-sub-div (omega arith) (omega arith) ∙ rw less (omega arith) in
      rw (more, drop-drop w at b)

  from-none : length b < at + w → steps_from b at ≡ []
  unfolding steps_from steps_in
  from-none h =
      let none : (length b - at) / w ≡ 0 = div-eq_of_lt (omega arith) in
      rw none

  module _ (t : Option (Step × ℕ)) (e : t ≡ taken_at b at) where
    pub taken_step : (k : Step) (past : ℕ) → t ≡ Some (k, past) → steps_from b at ≡ k ∷ steps_from b past
    unfolding taken_at
    taken_step k past f = go (leb (at + w) (length b)) refl
      where
        go : (x : Bool) → leb (at + w) (length b) ≡ x → steps_from b at ≡ k ∷ steps_from b past
        go true g =
            let taken : ◌≡◌ {A = Option (Step × ℕ)} (Some (step_in (form_in b) (drop at b), at + w)) (Some (k, past)) = sym (rw g at e) ∙ f in
            let both : ◌≡◌ {A = Step × ℕ} (step_in (form_in b) (drop at b), at + w) (k, past) = cc in
            let first : step_in (form_in b) (drop at b) ≡ k = ap (λ (p : Step × ℕ). p.0) both in
            let there : at + w ≡ past = ap (λ (p : Step × ℕ). p.1) both in
            rw (first, there) at (from_some (leb-true (at + w) (length b) g))
        go false g =
            let taken : ◌≡◌ {A = Option (Step × ℕ)} None (Some (k, past)) = sym (rw g at e) ∙ f in
            let z : ◌≡◌ {A = ℕ} 0 1 = cc in
            absurd (omega arith)

    pub taken_end : t ≡ None → steps_from b at ≡ []
    unfolding taken_at
    taken_end f = go (leb (at + w) (length b)) refl
      where
        go : (x : Bool) → leb (at + w) (length b) ≡ x → steps_from b at ≡ []
        go true g =
            let taken : ◌≡◌ {A = Option (Step × ℕ)} (Some (step_in (form_in b) (drop at b), at + w)) None = sym (rw g at e) ∙ f in
            let z : ◌≡◌ {A = ℕ} 0 1 = cc in
            absurd (omega arith)
        go false g = from-none (leb-false (at + w) (length b) g)

  -- the step at a position, and the position past it, are what is taken there
  taken_both : option_map {U = Step × ℕ} (λ k. (k, after_of b at)) (step_at b at) ≡ taken_at b at
  unfolding taken_at step_at after_of
  taken_both = go (leb (at + w) (length b))
    where
      go : (x : Bool) → let k = step_in (form_in b) (drop at b) in
          option_map {U = Step × ℕ} (λ (k : Step). (k, if x then at + w else at)) (if x then Some k else None) ≡ (if x then Some (k, at + w) else None)
      go true = refl
      go false = refl

  pub taken_by : (r : Option Step) (past : ℕ) → r ≡ step_at b at → past ≡ after_of b at → option_map {U = Step × ℕ} (λ k. (k, past)) r ≡ taken_at b at
  taken_by r past e f = rw (e, f) taken_both

  -- and the other way round: what is taken there tells the step at the position, and the position past it; at the end the position stays
  module _ (k : Step) (past : ℕ) where
    pub taken_some : taken_at b at ≡ Some (k, past) → (Some k ≡ step_at b at) × (past ≡ after_of b at)
    unfolding taken_at step_at after_of
    taken_some = go (leb (at + w) (length b))
      where
        go : (x : Bool) → let s = step_in (form_in b) (drop at b) in
            ◌≡◌ {A = Option (Step × ℕ)} (if x then Some (s, at + w) else None) (Some (k, past))
            → (Some k ≡ (if x then Some s else None)) × (past ≡ (if x then at + w else at))
        go true f =
            let both : ◌≡◌ {A = Step × ℕ} (k, past) (step_in (form_in b) (drop at b), at + w) = cc in
            (ap (λ (p : Step × ℕ). Some p.0) both, ap (λ (p : Step × ℕ). p.1) both)
        go false f = let z : ◌≡◌ {A = ℕ} 0 1 = cc in absurd (omega arith)

  pub taken_none : taken_at b at ≡ None → (None ≡ step_at b at) × (at ≡ after_of b at)
  unfolding taken_at step_at after_of
  taken_none = go (leb (at + w) (length b))
    where
      go : (x : Bool) → let s = step_in (form_in b) (drop at b) in
          ◌≡◌ {A = Option (Step × ℕ)} (if x then Some (s, at + w) else None) None
          → (◌≡◌ {A = Option Step} None (if x then Some s else None)) × (at ≡ (if x then at + w else at))
      go true f = let z : ◌≡◌ {A = ℕ} 0 1 = cc in absurd (omega arith)
      go false f = (refl, refl)

  -- the first of those left, and the others; or the end, where the position stays
  abbrev First : Option Step → ℕ → Type 0
  First r past = MatchOption r ((steps_from b at ≡ []) × (steps_from b past ≡ [])) (λ k. steps_from b at ≡ k ∷ steps_from b past)

  first_step : First (step_at b at) (after_of b at)
  unfolding step_at after_of
  first_step = go (leb (at + w) (length b)) refl
    where
      go : (x : Bool) → leb (at + w) (length b) ≡ x → First (if x then Some (step_in (form_in b) (drop at b)) else None) (if x then at + w else at)
      go true g = from_some (leb-true (at + w) (length b) g)
      go false g = let none : steps_from b at ≡ [] = from-none (leb-false (at + w) (length b) g) in (none, none)

-- a reader that gives the step at its position, and goes past it, gives the first of the steps that it has left
module _ (s : Reader) (r : Option Step) (at : ℕ) (e : r ≡ step_at s.sheet.now s.at) (f : at ≡ after_of s.sheet.now s.at) where
  pub first_left : YieldsFirst steps_left s r (record { sheet = s.sheet; at = at })
  first_left = rw (e, f) (first_step s.sheet.now s.at)

-- one that is made at the front of some bytes has all their steps left
pub all_left : (s : Reader) (b : Bor (List ℕ)) → s.sheet ≡ b → s.at ≡ front_of b.now → steps_left s ≡ steps_from b.now (front_of b.now)
all_left s b e f = rw (e, f)

-- so that they come to an end
pub fewer_left : (s t : Reader) (r : Option Step) → YieldsFirst steps_left s r t → MakesProgress (λ (_ : Reader). Unit {0}) (item_count steps_left) s r t
fewer_left s t None e = record { on = λ _. tt; keeps = tt; rests = λ _. tt }
fewer_left s t (Some k) e = record { on = λ _. (tt, tt, omega (arith, ap length e)); keeps = tt; rests = λ _. tt }

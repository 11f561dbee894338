-- What the code finds in a sheet's bytes, by the rules of crate `rules`, Sheets. Assumes nothing.
use Rattle.std.specs.Prelude.{List, ℕ, Option, None, Some, Result, Ok, Err, ◌+◌, ◌-◌, ◌/◌, leb, length, drop, if◌then◌else◌}
use Rattle.rules.specs.declared.Refusal.{Refusal}
use Rattle.rules.specs.declared.Refusal.TheVariants.{BadSheet}
use Rattle.rules.specs.declared.Step.{Step}
use Rattle.rules.specs.Sheets.{Sheet as Read, bad, sheet, step_width, step_in, steps_in, header_width, mask_in, form_in, steps_of, is_bad_sheet}
use Rattle.sheet.specs.declared.Sheet.{Sheet}
use Rattle.sheet.specs.declared.reader.Reader.{Reader}

-- a sheet that is bad has no mask and no steps
unfoldable pub check_of : List ℕ → Result Sheet Refusal
check_of b = if is_bad_sheet b then Err BadSheet else Ok (record { mask = mask_in b; steps = steps_of b })

-- what the answer says of the bytes b: the rules' bad, or the rules' mask and steps
unfoldable pub read_of : Result Sheet Refusal → List ℕ → Read
read_of (Err x) b = bad
read_of (Ok s) b = sheet s.mask (steps_in (form_in b) s.steps (drop (header_width (form_in b)) b))

-- "It is read from the front one step at a time": the position of the first step
abbrev pub front_of : List ℕ → ℕ
front_of b = header_width (form_in b)

-- the step at a position; none where fewer bytes are left than a step has
unfoldable pub step_at : List ℕ → ℕ → Option Step
step_at b at = if leb (at + step_width (form_in b)) (length b) then Some (step_in (form_in b) (drop at b)) else None

-- the position past it; at the end the same
unfoldable pub after_of : List ℕ → ℕ → ℕ
after_of b at = if leb (at + step_width (form_in b)) (length b) then at + step_width (form_in b) else at

-- both, if a step is left there
unfoldable pub taken_at : List ℕ → ℕ → Option (Step × ℕ)
taken_at b at =
    if leb (at + step_width (form_in b)) (length b) then Some (step_in (form_in b) (drop at b), at + step_width (form_in b))
    else None

-- all steps from a position on; a part step at the end is none
unfoldable pub steps_from : List ℕ → ℕ → List Step
steps_from b at = steps_in (form_in b) ((length b - at) / step_width (form_in b)) (drop at b)

-- those that a reader has left
abbrev pub steps_left : Reader → List Step
steps_left r = steps_from r.sheet.now r.at

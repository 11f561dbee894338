-- DEMAND 1, as a type over programs: every step, start or sheet handed in, with any bytes, gets a number of document 01's table, the first of the rows that
-- applies; and any answer but 0 changes no byte of a lent buffer (but that a bad sheet's record is `bad 9`) and reports nothing. (That the work always ends is in the language: a proved function ends.)
-- Assumes nothing.
use Rattle.std.specs.Prelude.{◌≡◌, Bool, not, List, [], ◌∷◌, ◌++◌, Result, Ok, Err, ℕ, ◌≤◌, ◌<◌, eqb, leb, ltb, length, drop, if◌then◌else◌, ◌||◌}
use Rattle.rules.specs.Messages.{bad_world, bad_step, no_room, number}
use Rattle.rules.specs.Coded as coded
use Rattle.rules.specs.declared.Refusal.{Refusal}
use Rattle.rules.specs.declared.Refusal.TheVariants.{BadSheet}
use Rattle.rules.specs.declared.Step.{Step}
use Rattle.rules.specs.Steps.{no_report}
use Rattle.rules.specs.Table.{first_of, table}
use Rattle.layout.specs.Layout.{world_width}
use Rattle.layout.specs.Image.{world_at, good_bytes}
use Rattle.rules.specs.Sheets.{version1, steps_of, is_bad_sheet, sheet_width}
use Rattle.rules.specs.Sheets as sheets
use Rattle.rules.specs.Runs.{longest, bad_of}
use Rattle.sheet.specs.declared.Sheet.{Sheet}
use Rattle.sheet.specs.Writing.{unequal, number_of, size_of}
use Rattle.world.specs.Answer.{report_of}
use Rattle.rehearsal.specs.declared.Rehearsed.{Rehearsed}
use Rattle.engine.specs.Told.{number_told}
use Rattle.certificate.specs.Code.{Code, Promised}

-- ---- the rows of document 01's table that a call can meet, in the order in which they are checked

abbrev pub Rows : Type 0
Rows = List (Bool × ℕ)

abbrev pub BAD_SHEET : ℕ
BAD_SHEET = sheets.number sheets.bad_sheet

-- BAD WORLD: "world not good"; then rows 2 to 8, with document 01's own conditions (rules/specs/Table)
abbrev pub step_rows : List ℕ → Step → Rows
step_rows w k = (not (good_bytes w), number bad_world) ∷ table (world_at w) k

-- BAD WORLD: "at a start, wrong length"; BAD STEP: "start mask 0" (a mask above 255 is none either)
abbrev pub start_rows : List ℕ → ℕ → Rows
start_rows w mask = (not (eqb (length w) world_width), number bad_world) ∷ (eqb mask 0 || leb 256 mask, number bad_step) ∷ []

-- "BAD SHEET: under six bytes, wrong mark, version, mask 0, a part step, non-zero in the two bytes, over 8,000 steps."
abbrev pub check_rows : List ℕ → Rows
check_rows b = (is_bad_sheet b, BAD_SHEET) ∷ []

-- "BAD SHEET for mask 0 or over 8,000 steps" (and for three slices that are not of one length), "then NO ROOM": six bytes, "then 8 bytes a step"
abbrev pub write_rows : List ℕ → ℕ → List ℕ → List ℕ → List ℕ → Rows
write_rows buf mask kinds ids values =
    (unequal kinds ids values || eqb mask 0 || ltb version1.most_steps (length kinds), BAD_SHEET)
    ∷ (ltb (length buf) (sheet_width version1 (length kinds)), number no_room)
    ∷ []

-- BAD WORLD as at a start; BAD SHEET; NO ROOM: less room than the longest record of so many steps takes
abbrev pub rehearse_rows : List ℕ → List ℕ → List ℕ → Rows
rehearse_rows sheet world out =
    (not (eqb (length world) world_width), number bad_world)
    ∷ (is_bad_sheet sheet, BAD_SHEET)
    ∷ (ltb (length out) (longest (steps_of sheet)), number no_room)
    ∷ []

-- ---- the demand

-- "Checked in this order, the first that applies": the number is 0 to 9, and that of the first row whose condition holds; 0 where none does
pub record Numbered (answer : ℕ) (rows : Rows) : Type 0 where
  pub known : answer ≤ 9
  pub first : answer ≡ first_of rows

-- "For BAD SHEET it prints `bad 9` only.": the one record of a refusal, whole at the front of the record's buffer, or not at all
abbrev pub refused_record : ℕ → List ℕ → List ℕ
refused_record answer out = if eqb answer BAD_SHEET then (if ltb (length out) (length bad_of) then [] else bad_of) else []

-- the number of a check's answer, and of a rehearsal's: the refusal's, or 0
abbrev pub check_number : Result Sheet Refusal → ℕ
check_number (Ok s) = 0
check_number (Err x) = coded.number_of x

abbrev pub rehearsed_number : Rehearsed → ℕ
rehearsed_number r = number_told r.refused

pub record Demand1 (c : Code) : Type 0 where
  pub step : (w : List ℕ) (k : Step) → Numbered (c.step w k).number (step_rows w k)
  pub start : (w : List ℕ) (mask : ℕ) → Numbered (c.start w mask).number (start_rows w mask)
  pub check : (b : List ℕ) → Numbered (check_number (c.check b)) (check_rows b)
  pub write : (buf : List ℕ) (mask : ℕ) (kinds ids values : List ℕ)
      → Numbered (number_of (c.write buf mask kinds ids values)) (write_rows buf mask kinds ids values)
  pub rehearse : (sheet world out : List ℕ) → Numbered (rehearsed_number (c.rehearse sheet world out)) (rehearse_rows sheet world out)
  -- "All but 0 report event 0 with zero fields and change nothing."
  pub step_kept : (w : List ℕ) (k : Step) → 0 < (c.step w k).number → (c.step_world w k ≡ w) × (report_of (c.step w k).report ≡ no_report)
  pub start_kept : (w : List ℕ) (mask : ℕ) → 0 < (c.start w mask).number → (c.start_world w mask ≡ w) × (report_of (c.start w mask).report ≡ no_report)
  -- (so a bad sheet has no mask and no steps)
  pub check_kept : (b : List ℕ) → 0 < check_number (c.check b) → c.check b ≡ Err BadSheet
  pub write_kept : (buf : List ℕ) (mask : ℕ) (kinds ids values : List ℕ) → 0 < number_of (c.write buf mask kinds ids values)
      → (c.write_buf buf mask kinds ids values ≡ buf) × (size_of (c.write buf mask kinds ids values) ≡ 0)
  pub world_kept : (sheet world out : List ℕ) → 0 < rehearsed_number (c.rehearse sheet world out) → c.rehearse_world sheet world out ≡ world
  -- and but for the record of a bad sheet, so does the record's buffer; its length is told
  pub out_kept : (sheet world out : List ℕ) → 0 < rehearsed_number (c.rehearse sheet world out)
      → let l = refused_record (rehearsed_number (c.rehearse sheet world out)) out in
      (c.rehearse_out sheet world out ≡ l ++ drop (length l) out) × ((c.rehearse sheet world out).length ≡ length l)

-- of every program that keeps the promises of the sources
abbrev pub Demand1ForAll : Type 0
Demand1ForAll = (c : Code) → Promised c → Demand1 c

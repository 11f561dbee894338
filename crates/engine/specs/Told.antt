-- What the exported functions answer and leave in the buffers lent to them. Assumes nothing.
use Rattle.std.specs.Prelude.{List, [], ◌∷◌, ◌++◌, Option, None, Some, ℕ, eqb, ltb, length, get_or, drop, if◌then◌else◌}
use Rattle.rows.specs.Bytes.{be16, be32, cat}
use Rattle.rules.specs.Coded.{number_of}
use Rattle.rules.specs.declared.Refusal.{Refusal}
use Rattle.rules.specs.Messages.{bad_world, no_room, number}
use Rattle.layout.specs.Image.{byte, good_bytes}
use Rattle.rules.specs.Runs.{fields}
use Rattle.layout.specs.Lent.{Lent, lent_step}
use Rattle.rules.specs.Sheets.{is_bad_sheet}
use Rattle.rules.specs.Sheets as sheets
use Rattle.rehearsal.specs.Playing.{rehearse_answer, world_left, record_left}

-- document 01's number for an answer: the refusal's, or 0
abbrev pub number_told : Option Refusal → ℕ
number_told None = 0
number_told (Some x) = number_of x

-- BAD WORLD: "world not good"
abbrev pub good_number : List ℕ → ℕ
good_number b = if good_bytes b then 0 else number bad_world

-- BAD SHEET: "sheet not as below"
abbrev pub sheet_number : List ℕ → ℕ
sheet_number b = if is_bad_sheet b then sheets.number sheets.bad_sheet else 0

-- ---- one step, and nine bytes for what it tells

-- the columns of document 01, in their order
unfoldable pub told_of : Lent → List ℕ
told_of l = fields l.report.event l.report.who

-- event 1, who 1, count 2, desk 1, value or view 4
unfoldable pub told_bytes : List ℕ → List ℕ
told_bytes l = cat (byte (get_or l 0 0) ∷ byte (get_or l 1 0) ∷ be16 (get_or l 2 0) ∷ byte (get_or l 3 0) ∷ be32 (get_or l 4 0) ∷ [])

-- how many bytes that takes
abbrev pub columns_wide : ℕ
columns_wide = 9

-- the answer, the world's buffer and told
pub record Stepped : Type 0 where
  pub answer : ℕ
  pub buffer : List ℕ
  pub told : List ℕ

-- an accepted step tells at told's front, and the bytes past it stay; a refused one tells nothing
abbrev pub telling : List ℕ → Lent → Stepped
telling told l =
    record { answer = l.answer; buffer = l.buffer; told = if eqb l.answer 0 then told_bytes (told_of l) ++ drop columns_wide told else told }

-- NO ROOM where told is too short for an event: nothing is done that could not be told
unfoldable pub told_step : List ℕ → ℕ → ℕ → ℕ → List ℕ → Stepped
told_step w kind id value told =
    if ltb (length told) columns_wide then record { answer = number no_room; buffer = w; told = told }
    else telling told (lent_step w (record { kind = kind; id = id; value = value }))

-- ---- a whole sheet, and four bytes for how long its record is

abbrev pub length_wide : ℕ
length_wide = 4

-- the answer, the world's buffer, the record's and told
pub record Rehearsal : Type 0 where
  pub answer : ℕ
  pub last : List ℕ
  pub printed : List ℕ
  pub told : List ℕ

-- NO ROOM where told is too short for the length
unfoldable pub told_rehearsal : List ℕ → List ℕ → List ℕ → List ℕ → Rehearsal
told_rehearsal sheet world out told =
    if ltb (length told) length_wide then record { answer = number no_room; last = world; printed = out; told = told }
    else
    (let r = rehearse_answer sheet world out in
    record {
      answer = number_told r.refused;
      last = world_left sheet world out;
      printed = record_left sheet world out;
      told = if eqb (number_told r.refused) 0 then be32 r.length ++ drop length_wide told else told;
    })

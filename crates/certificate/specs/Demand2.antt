-- DEMAND 2, as a type over programs: every accepted step changes the world and sends messages exactly as the rules say, through any run; and sheets round-trip,
-- both ways, through the program's own functions. Assumes nothing.
use Rattle.std.specs.Prelude.{◌≡◌, true, List, [], ◌∷◌, ◌++◌, map, Option, None, Some, Ok, ℕ, zero, suc, ◌≤◌, ◌<◌, length, get_or, take, drop}
use Rattle.rules.specs.State.{start}
use Rattle.rules.specs.declared.Step.{Step}
use Rattle.rules.specs.Steps.{Outcome, no_report, after, report, stepped}
use Rattle.layout.specs.Layout.{world_width}
use Rattle.layout.specs.Image.{image, world_at, good_bytes}
use Rattle.rules.specs.Sheets.{version1, sheet, sheet_in, sheet_width}
use Rattle.rules.specs.Runs.{outcomes, last_world, answer, fields, printed, longest}
use Rattle.sheet.specs.declared.Sheet.{Sheet}
use Rattle.sheet.specs.Reading.{front_of}
use Rattle.sheet.specs.Writing.{kinds_of, ids_of, values_of, number_of, size_of}
use Rattle.world.specs.Answer.{columns, report_of}
use Rattle.certificate.specs.Code.{Code, Promised}

-- ---- a run of the program: each step is put to what the one before left

unfoldable pub ran_by : Code → List ℕ → List Step → List ℕ
ran_by c w [] = w
ran_by c w (k ∷ ks) = ran_by c (c.step_world w k) ks

-- of each answer, what a line of the record says of it: the answer's number, the event and its columns
unfoldable pub told_by : Code → List ℕ → List Step → List (List ℕ)
told_by c w [] = []
told_by c w (k ∷ ks) = columns (c.step w k) ∷ told_by c (c.step_world w k) ks

-- the same of an outcome of the rules
abbrev pub outcome_line : Outcome → List ℕ
outcome_line o = answer o ∷ fields (report o).event (report o).who

-- ---- a sheet, read by the program: "It is read from the front one step at a time."

-- what is found, before what is read from the position past it on; at the end, nothing
abbrev pub before : Option (Step × ℕ) → (ℕ → List Step) → List Step
before (Some (k, past)) rest = k ∷ rest past
before None rest = []

-- at most n steps, from a position on
unfoldable pub read_from : Code → ℕ → List ℕ → ℕ → List Step
read_from c zero b at = []
read_from c (suc n) b at = before (c.read_at b at) (read_from c n b)

-- the steps from the first on, until the end is found (no sheet has as many steps as bytes)
abbrev pub read_by : Code → List ℕ → List Step
read_by c b = read_from c (length b) b (front_of b)

-- numbers below n, as a slice of the code's has them
abbrev pub Below : ℕ → List ℕ → Type 0
Below n l = (i : ℕ) → get_or l i 0 < n

-- ---- the demand

pub record Demand2 (c : Code) : Type 0 where
  -- a start is done in any buffer of the right length, and leaves the image of the rules' start
  pub started : (w : List ℕ) (mask : ℕ) → length w ≡ world_width → 0 < mask → mask < 256
      → ((c.start w mask).number ≡ 0) × (report_of (c.start w mask).report ≡ no_report) × (c.start_world w mask ≡ image (start mask))
  -- an accepted step was put to a good world; it leaves the image of what the rules make of that, and reports what they report
  pub accepted : (w : List ℕ) (k : Step) → (c.step w k).number ≡ 0
      → (good_bytes w ≡ true) × (c.step_world w k ≡ image (after (world_at w) (stepped (world_at w) k)))
      × (report_of (c.step w k).report ≡ report (stepped (world_at w) k))
  -- and so through any run, refused steps in it or not, from any good world
  pub run : (w : List ℕ) → good_bytes w ≡ true → (ks : List Step)
      → (ran_by c w ks ≡ image (last_world (world_at w) ks)) × (told_by c w ks ≡ map outcome_line (outcomes (world_at w) ks))
  -- and from any start
  pub run_started : (w : List ℕ) (mask : ℕ) → length w ≡ world_width → 0 < mask → mask < 256 → (ks : List Step)
      → (ran_by c (c.start_world w mask) ks ≡ image (last_world (start mask) ks))
      × (told_by c (c.start_world w mask) ks ≡ map outcome_line (outcomes (start mask) ks))
  -- a sheet is run where there is room for its record: that leaves the image of its last world, and its record whole at the front of the record's buffer
  pub rehearsed : (b world out : List ℕ) (mask : ℕ) (ks : List Step) → sheet_in b ≡ sheet mask ks → length world ≡ world_width → longest (length ks) ≤ length out
      → ((c.rehearse b world out).refused ≡ None)
      × ((c.rehearse b world out).length ≡ length (printed mask ks))
      × (c.rehearse_world b world out ≡ image (last_world (start mask) ks))
      × (c.rehearse_out b world out ≡ printed mask ks ++ drop (length (printed mask ks)) out)
  -- what is checked and read of an accepted sheet is document 01's: its mask, its steps, and how many they are
  pub sheet_read : (b : List ℕ) (s : Sheet) → c.check b ≡ Ok s → (sheet_in b ≡ sheet s.mask (read_by c b)) × (s.steps ≡ length (read_by c b))
  -- an accepted sheet, checked, read step by step and written again, gives the same bytes
  pub sheet_again : (b buf : List ℕ) (s : Sheet) → Below 256 b → c.check b ≡ Ok s → length b ≤ length buf
      → let ks = read_by c b in let r = c.write buf s.mask (kinds_of ks) (ids_of ks) (values_of ks) in
      (number_of r ≡ 0) × (size_of r ≡ length b) × (c.write_buf buf s.mask (kinds_of ks) (ids_of ks) (values_of ks) ≡ b ++ drop (length b) buf)
  -- up to 8,000 steps in slices, written and read, give the same slices
  pub sheet_back : (buf : List ℕ) (mask : ℕ) (kinds ids values : List ℕ) → 0 < mask → mask < 256
      → length ids ≡ length kinds → length values ≡ length kinds → length kinds ≤ version1.most_steps
      → Below 256 kinds → Below 256 ids → Below 4294967296 values
      → sheet_width version1 (length kinds) ≤ length buf
      → let b = take (sheet_width version1 (length kinds)) (c.write_buf buf mask kinds ids values) in
      (number_of (c.write buf mask kinds ids values) ≡ 0)
      × (size_of (c.write buf mask kinds ids values) ≡ sheet_width version1 (length kinds))
      × (c.check b ≡ Ok (record { mask = mask; steps = length kinds }))
      × (kinds_of (read_by c b) ≡ kinds) × (ids_of (read_by c b) ≡ ids) × (values_of (read_by c b) ≡ values)

-- of every program that keeps the promises of the sources
abbrev pub Demand2ForAll : Type 0
Demand2ForAll = (c : Code) → Promised c → Demand2 c

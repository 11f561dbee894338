-- What a run leaves in the lent buffers: of one step, and of a whole sheet. Assumes nothing.
use Rattle.std.specs.Prelude.{◌≡◌, List, [], ◌∷◌, ◌++◌, Option, None, Some, Result, Ok, Err, ℕ, ◌+◌, ◌*◌, ◌-◌, eqb, ltb, length, get_or, drop, if◌then◌else◌}
use Rattle.rows.specs.Bytes.{placed, bytes_of, cat, u16_at, u32_at}
use Rattle.rules.specs.Sets.{place_count}
use Rattle.rules.specs.Messages as table
use Rattle.rules.specs.State.{World, start}
use Rattle.rules.specs.declared.Refusal.{Refusal}
use Rattle.rules.specs.declared.Refusal.TheVariants.{BadWorld, NoRoom, BadSheet}
use Rattle.rules.specs.declared.Step.{Step}
use Rattle.rules.specs.Steps.{Outcome, after, report, stepped}
use Rattle.rules.specs.Sheets as sheets
use Rattle.rules.specs.Sheets.{Sheet, bad, sheet, sheet_in}
use Rattle.rules.specs.Runs.{outcomes, last_world, answer, fields}
use Rattle.layout.specs.Layout.{byte_width, u16_width, u32_width, world_width}
use Rattle.layout.specs.Image.{image}
use Rattle.world.specs.declared.run.Columns.{Columns}
use Rattle.world.specs.Commits.{free_rows}

-- how many places hold a message, whatever else the bytes are: those that are not free
abbrev pub waiting_rows : List ℕ → ℕ
waiting_rows b = place_count - free_rows b place_count

-- ---- rows

-- the columns after the answer
unfoldable pub columns_of : Columns → List ℕ
columns_of r = r.event ∷ r.who ∷ r.count ∷ r.desk ∷ r.last ∷ []

-- where each column of a row stands, and how wide the row is: answer, event, who, stamp count, stamp desk, value or view
abbrev pub answer_column : ℕ
answer_column = 0

abbrev pub event_column : ℕ
event_column = answer_column + byte_width

abbrev pub who_column : ℕ
who_column = event_column + byte_width

abbrev pub count_column : ℕ
count_column = who_column + byte_width

abbrev pub desk_column : ℕ
desk_column = count_column + u16_width

abbrev pub last_column : ℕ
last_column = desk_column + byte_width

abbrev pub trace_row_width : ℕ
trace_row_width = last_column + u32_width

-- the columns in these widths, one after another, high byte first
abbrev pub columns_bytes : List ℕ → List ℕ
columns_bytes xs =
    cat (
    bytes_of byte_width (get_or xs 0 0)
    ∷ bytes_of byte_width (get_or xs 1 0)
    ∷ bytes_of byte_width (get_or xs 2 0)
    ∷ bytes_of u16_width (get_or xs 3 0)
    ∷ bytes_of byte_width (get_or xs 4 0)
    ∷ bytes_of u32_width (get_or xs 5 0)
    ∷ [])

-- the columns of the row at o
unfoldable pub columns_at : List ℕ → ℕ → List ℕ
columns_at l o =
    get_or l (o + answer_column) 0 ∷ get_or l (o + event_column) 0 ∷ get_or l (o + who_column) 0
    ∷ u16_at l (o + count_column) ∷ get_or l (o + desk_column) 0 ∷ u32_at l (o + last_column)
    ∷ []

-- what a line of the record says of a step after its number, as a row
unfoldable pub trace_row : Outcome → List ℕ
trace_row o = columns_bytes (answer o ∷ fields (report o).event (report o).who)

-- a row for each step
unfoldable pub trace_rows : List Outcome → List ℕ
trace_rows [] = []
trace_rows (o ∷ os) = trace_row o ++ trace_rows os

-- the step k of W: l are the rows' bytes before it, and its row is written at `at`; w and rows are the buffers after it
pub record Stepped (W : World) (k : Step) (at : ℕ) (l w rows : List ℕ) : Type 0 where
  pub world : w ≡ image (after W (stepped W k))
  pub row : rows ≡ placed l at (trace_row (stepped W k))

-- ---- a sheet b, run in the world's buffer w, with something of its run laid in out

-- what comes of it: a refusal, or this mask and these steps are run
pub data Ruling : Type 0 where
  bad_world : Ruling
  bad_sheet : Ruling
  no_room : Ruling
  runs : (mask : ℕ) → List Step → Ruling

-- BAD SHEET, then NO ROOM: room for less than as many steps may need
abbrev pub room_for : (ℕ → ℕ) → ℕ → Sheet → Ruling
room_for needed room bad = bad_sheet
room_for needed room (sheet mask ks) = if ltb room (needed (length ks)) then no_room else runs mask ks

-- BAD WORLD: "at a start, wrong length". Decided before anything is done.
abbrev pub ruling : (ℕ → ℕ) → List ℕ → List ℕ → List ℕ → Ruling
ruling needed b w out = if eqb (length w) world_width then room_for needed (length out) (sheet_in b) else bad_world

-- the refusal, if it is one
abbrev pub refused_by : Ruling → Option Refusal
refused_by bad_world = Some BadWorld
refused_by bad_sheet = Some BadSheet
refused_by no_room = Some NoRoom
refused_by (runs mask ks) = None

-- document 01's numbers
abbrev pub number_by : Ruling → ℕ
number_by bad_world = table.number table.bad_world
number_by bad_sheet = sheets.number sheets.bad_sheet
number_by no_room = table.number table.no_room
number_by (runs mask ks) = 0

-- a refusal changes no byte of the world
abbrev pub world_by : List ℕ → Ruling → List ℕ
world_by w bad_world = w
world_by w bad_sheet = w
world_by w no_room = w
world_by w (runs mask ks) = image (last_world (start mask) ks)

-- ---- its trace

abbrev pub traces_wide : ℕ → ℕ
traces_wide n = n * trace_row_width

unfoldable pub traced : List ℕ → List ℕ → List ℕ → Ruling
traced b w rows = ruling traces_wide b w rows

abbrev pub refused_or : ℕ → Option Refusal → Result ℕ Refusal
refused_or n None = Ok n
refused_or n (Some x) = Err x

-- how many steps are run
abbrev pub steps_by : Ruling → ℕ
steps_by bad_world = 0
steps_by bad_sheet = 0
steps_by no_room = 0
steps_by (runs mask ks) = length ks

abbrev pub trace_by : Ruling → List ℕ
trace_by bad_world = []
trace_by bad_sheet = []
trace_by no_room = []
trace_by (runs mask ks) = trace_rows (outcomes (start mask) ks)

-- the refusal, or how many steps are run
unfoldable pub trace_answer : List ℕ → List ℕ → List ℕ → Result ℕ Refusal
trace_answer b w rows = let x = traced b w rows in refused_or (steps_by x) (refused_by x)

unfoldable pub trace_world : List ℕ → List ℕ → List ℕ → List ℕ
trace_world b w rows = world_by w (traced b w rows)

-- the rows at the front; the bytes past them stay
unfoldable pub trace_left : List ℕ → List ℕ → List ℕ → List ℕ
trace_left b w rows = let l = trace_by (traced b w rows) in l ++ drop (length l) rows

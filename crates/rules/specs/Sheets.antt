-- "Sheets": bytes to a mask and steps, and back. Assumes nothing.
use Rattle.std.specs.Prelude.{Bool, true, not, List, [], ◌∷◌, ◌++◌, ℕ, zero, suc, ◌+◌, ◌-◌, ◌*◌, ◌/◌, ◌%◌, eqb, ltb, length, get_or, drop, if◌then◌else◌, ◌&&◌, ◌||◌}
use Rattle.rows.specs.Bytes.{bytes_of, number_at, be16, u16_at, zeros}
use Rattle.rows.specs.Tests.{all_zero}
use Rattle.rules.specs.Steps.{Step}

-- ---- the form of a version

-- what versions differ in: how many zero bytes stand in a step between its id and its value, how many bytes its value has, and how many steps are the most
pub record Form : Type 0 where
  pub version : ℕ
  pub zero_bytes : ℕ
  pub value_bytes : ℕ
  pub most_steps : ℕ

-- "version 0x0001 [..] 8 bytes a step: kind, id, two zero bytes, value"; "over 8,000 steps"
abbrev pub version1 : Form
version1 = record { version = 1; zero_bytes = 2; value_bytes = 4; most_steps = 8000 }

-- the form of the version n; for a number that is no version, which is BAD SHEET, that of version 1
unfoldable pub form_of : ℕ → Form
form_of n = version1

-- ---- a step: "kind, id, two zero bytes, value", "all numbers high byte first"

-- where in a step its zero bytes begin, and where its value; how many bytes a step has
abbrev pub zeros_at : ℕ
zeros_at = 2

abbrev pub value_at : Form → ℕ
value_at f = zeros_at + f.zero_bytes

abbrev pub step_width : Form → ℕ
step_width f = value_at f + f.value_bytes

abbrev pub step_in : Form → List ℕ → Step
step_in f b = record { kind = get_or b 0 0; id = get_or b 1 0; value = number_at f.value_bytes b (value_at f) }

abbrev pub zeros_in : Form → List ℕ → Bool
zeros_in f b = all_zero b zeros_at f.zero_bytes

abbrev pub step_bytes : Form → Step → List ℕ
step_bytes f k = k.kind ∷ k.id ∷ (zeros f.zero_bytes ++ bytes_of f.value_bytes k.value)

-- "It is read from the front one step at a time."
unfoldable pub steps_in : Form → ℕ → List ℕ → List Step
steps_in f zero b = []
steps_in f (suc n) b = step_in f b ∷ steps_in f n (drop (step_width f) b)

unfoldable pub all_zeros_in : Form → ℕ → List ℕ → Bool
all_zeros_in f zero b = true
all_zeros_in f (suc n) b = zeros_in f b && all_zeros_in f n (drop (step_width f) b)

unfoldable pub steps_bytes : Form → List Step → List ℕ
steps_bytes f [] = []
steps_bytes f (k ∷ ks) = step_bytes f k ++ steps_bytes f ks

-- ---- the header: "the three bytes `ARS`, version 0x0001 and all numbers high byte first, one byte of start mask"

abbrev pub mark : List ℕ
mark = 65 ∷ 82 ∷ 83 ∷ []

abbrev pub header_bytes : Form → ℕ → List ℕ
header_bytes f mask = mark ++ (be16 f.version ++ (mask ∷ []))

-- where its version and its mask stand; how many bytes it has, in every form
abbrev pub version_at : ℕ
version_at = 3

abbrev pub mask_at : ℕ
mask_at = 5

abbrev pub header_width : Form → ℕ
header_width f = 6

abbrev pub marked : List ℕ → Bool
marked b = eqb (get_or b 0 0) (get_or mark 0 0) && eqb (get_or b 1 0) (get_or mark 1 0) && eqb (get_or b 2 0) (get_or mark 2 0)

abbrev pub version_in : List ℕ → ℕ
version_in b = u16_at b version_at

abbrev pub mask_in : List ℕ → ℕ
mask_in b = get_or b mask_at 0

-- ---- a sheet

pub data Sheet : Type 0 where
  bad : Sheet
  sheet : (mask : ℕ) → List Step → Sheet

-- the form that its version has
abbrev pub form_in : List ℕ → Form
form_in b = form_of (version_in b)

-- how many steps, by a form and by its own
abbrev pub steps_by : Form → List ℕ → ℕ
steps_by f b = (length b - header_width f) / step_width f

abbrev pub steps_of : List ℕ → ℕ
steps_of b = steps_by (form_in b) b

-- "BAD SHEET: under six bytes, wrong mark, version, mask 0, a part step, non-zero in the two bytes, over 8,000 steps."
abbrev pub bad_by : Form → List ℕ → Bool
bad_by f b =
    ltb (length b) (header_width f)
    || not (marked b)
    || not (eqb (version_in b) f.version)
    || eqb (mask_in b) 0
    || not (eqb ((length b - header_width f) % step_width f) 0)
    || not (all_zeros_in f (steps_by f b) (drop (header_width f) b))
    || ltb f.most_steps (steps_by f b)

abbrev pub is_bad_sheet : List ℕ → Bool
is_bad_sheet b = bad_by (form_in b) b

-- the steps of a sheet, by a form
abbrev pub list_by : Form → List ℕ → List Step
list_by f b = steps_in f (steps_by f b) (drop (header_width f) b)

unfoldable pub sheet_in : List ℕ → Sheet
sheet_in b = if is_bad_sheet b then bad else sheet (mask_in b) (list_by (form_in b) b)

unfoldable pub sheet_bytes : Form → ℕ → List Step → List ℕ
sheet_bytes f mask ks = header_bytes f mask ++ steps_bytes f ks

-- how many bytes a sheet of n steps has
abbrev pub sheet_width : Form → ℕ → ℕ
sheet_width f n = header_width f + step_width f * n

-- "A list with its mask is written into a lent buffer: BAD SHEET for mask 0 or over 8,000 steps, then NO ROOM; bytes past the sheet stay."
pub data Written : Type 0 where
  bad_sheet : Written
  no_room : Written
  -- the whole buffer after it
  wrote : List ℕ → Written

abbrev pub number : Written → ℕ
number bad_sheet = 9
number no_room = 8
number (wrote buffer) = 0

unfoldable pub written : Form → List ℕ → ℕ → List Step → Written
written f buffer mask ks =
    if eqb mask 0 || ltb f.most_steps (length ks) then bad_sheet
    else if ltb (length buffer) (length (sheet_bytes f mask ks)) then no_room
    else wrote (sheet_bytes f mask ks ++ drop (length (sheet_bytes f mask ks)) buffer)

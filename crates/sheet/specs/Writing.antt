-- What writing a sheet answers and leaves in the buffer, by the rules of crate `rules`, Sheets. Assumes nothing.
use Rattle.std.specs.Prelude.{Bool, not, List, [], ◌∷◌, map, ℕ, Result, Ok, Err, eqb, length, if◌then◌else◌, ◌||◌}
use Rattle.rules.specs.Coded as rules
use Rattle.rules.specs.declared.Refusal.{Refusal}
use Rattle.rules.specs.declared.Step.{Step}
use Rattle.rules.specs.Sheets.{version1, Written as Ruling, bad_sheet, no_room, wrote, sheet_bytes, written}

-- a list of steps in three of one length: of their kinds, their ids and their values
unfoldable pub listed : List ℕ → List ℕ → List ℕ → List Step
listed [] is vs = []
listed (k ∷ ks) [] vs = []
listed (k ∷ ks) (i ∷ is) [] = []
listed (k ∷ ks) (i ∷ is) (v ∷ vs) = record { kind = k; id = i; value = v } ∷ listed ks is vs

-- and the three of a list
abbrev pub kinds_of : List Step → List ℕ
kinds_of ks = map (λ (k : Step). k.kind) ks

abbrev pub ids_of : List Step → List ℕ
ids_of ks = map (λ (k : Step). k.id) ks

abbrev pub values_of : List Step → List ℕ
values_of ks = map (λ (k : Step). k.value) ks

abbrev pub unequal : List ℕ → List ℕ → List ℕ → Bool
unequal kinds ids values = not (eqb (length ids) (length kinds)) || not (eqb (length values) (length kinds))

-- a list is written as a sheet of version 1; three of other lengths are no list of steps: BAD SHEET
unfoldable pub ruled : List ℕ → ℕ → List ℕ → List ℕ → List ℕ → Ruling
ruled buf mask kinds ids values = if unequal kinds ids values then bad_sheet else written version1 buf mask (listed kinds ids values)

-- how many bytes the sheet has that is written, and 0 where none is
abbrev pub size_in : ℕ → Ruling → ℕ
size_in n bad_sheet = 0
size_in n no_room = 0
size_in n (wrote l) = n

unfoldable pub ruled_size : List ℕ → ℕ → List ℕ → List ℕ → List ℕ → ℕ
ruled_size buf mask kinds ids values = size_in (length (sheet_bytes version1 mask (listed kinds ids values))) (ruled buf mask kinds ids values)

-- the buffer that a ruling leaves of b
abbrev pub buffer_of : List ℕ → Ruling → List ℕ
buffer_of b bad_sheet = b
buffer_of b no_room = b
buffer_of b (wrote l) = l

-- document 01's number for each case of the code's answer, 0 for done; and how many bytes the sheet has
abbrev pub number_of : Result ℕ Refusal → ℕ
number_of (Ok n) = 0
number_of (Err x) = rules.number_of x

abbrev pub size_of : Result ℕ Refusal → ℕ
size_of (Ok n) = n
size_of (Err x) = 0

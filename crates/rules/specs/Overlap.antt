-- The history of one run (examples/overlap.txt), computed: two operations that overlap in time, a desk that crashes and leaves a write unfinished whose stamp
-- a read returns, and a view that opened. Assumes nothing.
use Rattle.std.specs.Prelude.{◌≡◌, refl, List, [], ◌∷◌, ℕ}
use Rattle.rules.specs.Stamps.{Value, no_value, Pair}
use Rattle.rules.specs.Steps.{Step}
use Rattle.rules.specs.History.{reading, writing, Operation, ended_in, told_in, operations, unfinished_in, unfinished, opened_in, open_views}
use Rattle.rules.specs.Examples.{recorded}

-- a sheet's steps, in its words
abbrev step : ℕ → ℕ → Value → Step
step k i x = record { kind = k; id = i; value = x }

abbrev pub JOIN : ℕ → Step
JOIN s = step 1 s no_value

abbrev pub TIMER : ℕ → Step
TIMER s = step 3 s no_value

abbrev pub READ : ℕ → Step
READ n = step 4 n no_value

abbrev pub WRITE : ℕ → Value → Step
WRITE n x = step 5 n x

abbrev pub DELIVER : ℕ → Step
DELIVER p = step 6 p no_value

abbrev pub DROP : ℕ → Step
DROP p = step 7 p no_value

-- 8 to 11 are the desks
abbrev pub CRASH : ℕ → Step
CRASH who = step 8 who no_value

abbrev pub steps : List Step
steps =
    WRITE 0 77 ∷ DELIVER 0 ∷ DELIVER 0 ∷ JOIN 1 ∷ DELIVER 1 ∷ TIMER 0 ∷ DELIVER 1 ∷ DELIVER 1 ∷ DELIVER 1 ∷ DELIVER 1
    ∷ DELIVER 2 ∷ DELIVER 3 ∷ DELIVER 0 ∷ DELIVER 0 ∷ READ 1 ∷ WRITE 2 88 ∷ DELIVER 0 ∷ CRASH 8 ∷ DROP 0 ∷ DROP 1
    ∷ DELIVER 2 ∷ DELIVER 0 ∷ DELIVER 0 ∷ DELIVER 1 ∷ DELIVER 0 ∷ DELIVER 1 ∷ DELIVER 0 ∷ DELIVER 1 ∷ DELIVER 0 ∷ DELIVER 1
    ∷ DELIVER 3 ∷ DELIVER 0 ∷ DELIVER 0 ∷ DELIVER 1 ∷ DELIVER 0 ∷ DELIVER 1 ∷ DELIVER 0 ∷ DELIVER 1 ∷ DELIVER 0 ∷ DELIVER 1 ∷ []

abbrev pair : ℕ → ℕ → Value → Pair
pair count desk x = record { stamp = record { count = count; desk = desk }; value = x }

-- the write that the crash of its desk left, the read that returned it, and the write that began before this read ended
abbrev pub left : Operation
left = record { desk = 0; task = writing 77; begun = 1; ended = 0; event = 0; pair = pair 1 0 77 }

abbrev pub had : Operation
had = record { desk = 1; task = reading; begun = 15; ended = 30; event = 2; pair = pair 1 0 77 }

abbrev pub wrote : Operation
wrote = record { desk = 2; task = writing 88; begun = 16; ended = 40; event = 3; pair = pair 2 2 88 }

pub overlap_ended : operations 1 steps ≡ had ∷ wrote ∷ []
unfolding recorded operations ended_in
overlap_ended = refl

pub overlap_unfinished : unfinished 1 steps ≡ left ∷ []
unfolding recorded unfinished unfinished_in told_in
overlap_unfinished = refl

-- the start's view, then view 3 at relay 0 and at relay 1
pub overlap_opened : open_views 1 steps ≡ 1 ∷ 3 ∷ 3 ∷ []
unfolding recorded open_views opened_in
overlap_opened = refl

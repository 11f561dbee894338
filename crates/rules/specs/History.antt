-- What a run did that everybody can see: the operations of the desks, and the views that opened. Assumes nothing.
use Rattle.std.specs.Prelude.{List, [], ◌∷◌, ◌++◌, ℕ, suc, get_or, set, replicate}
use Rattle.rules.specs.Stamps.{Value, Pair}
use Rattle.rules.specs.Messages.{Event, nothing, opened, read_done, write_done}
use Rattle.rules.specs.State.{Phase, Idle, Read1, Read2, Write1, Write2, Desk, start}
use Rattle.rules.specs.Steps.{Step, Act, join, leave, timer, read, write, deliver, drop, crash, bad, told, Outcome, refusal, done, report}
use Rattle.rules.specs.Runs.{outcomes, last_world}

-- what a desk was told
pub data Task : Type 0 where
  reading : Task
  writing : Value → Task

-- an operation: its desk, what it was told, the number of the step with which it began, the number of the step with which it ended (0: it has not)
-- and of the event that this step told (2 or 3; 0: it has not ended), and its stamp and value: what a read returned, what a write wrote
pub record Operation : Type 0 where
  pub desk : ℕ
  pub task : Task
  pub begun : ℕ
  pub ended : ℕ
  pub event : ℕ
  pub pair : Pair

-- what the four desks were last told, and when
pub record Told : Type 0 where
  pub task : Task
  pub begun : ℕ

abbrev pub nobody : List Told
nobody = replicate 4 (record { task = reading; begun = 0 })

abbrev pub told_at : List Told → ℕ → Told
told_at ts n = get_or ts n (record { task = reading; begun = 0 })

-- an accepted READ or WRITE begins an operation
abbrev pub begin : ℕ → List Told → Act → List Told
begin i ts (read n) = set ts n (record { task = reading; begun = i })
begin i ts (write n x) = set ts n (record { task = writing x; begun = i })
begin i ts (join s) = ts
begin i ts (leave s) = ts
begin i ts (timer s) = ts
begin i ts (deliver p) = ts
begin i ts (drop p) = ts
begin i ts (crash who) = ts
begin i ts bad = ts

abbrev pub began : ℕ → List Told → Step → Outcome → List Told
began i ts k (refusal x) = ts
began i ts k (done w e a b c) = begin i ts (told k)

-- events 2 and 3 end the one that the desk was last told, whichever that was: that it was a read or a write is Demand3's to say
abbrev pub operation : List Told → ℕ → ℕ → ℕ → Pair → Operation
operation ts n ended event p = record { desk = n; task = (told_at ts n).task; begun = (told_at ts n).begun; ended = ended; event = event; pair = p }

abbrev pub ended_by : ℕ → List Told → Event → ℕ → List Operation
ended_by i ts nothing n = []
ended_by i ts (opened v) n = []
ended_by i ts (read_done p) n = operation ts n i 2 p ∷ []
ended_by i ts (write_done p) n = operation ts n i 3 p ∷ []

-- the operations that ended, oldest first, from the step numbered i on
unfoldable pub ended_in : ℕ → List Told → List Step → List Outcome → List Operation
ended_in i ts [] os = []
ended_in i ts (k ∷ ks) [] = []
ended_in i ts (k ∷ ks) (o ∷ os) = ended_by i ts (report o).event (report o).who ++ ended_in (suc i) (began i ts k o) ks os

unfoldable pub told_in : ℕ → List Told → List Step → List Outcome → List Told
told_in i ts [] os = ts
told_in i ts (k ∷ ks) [] = ts
told_in i ts (k ∷ ks) (o ∷ os) = told_in (suc i) (began i ts k o) ks os

unfoldable pub operations : ℕ → List Step → List Operation
operations mask ks = ended_in 1 nobody ks (outcomes (start mask) ks)

-- the unfinished writes that have a stamp: those of the desks that the run leaves in write 2, crashed or not
abbrev pub unfinished_by : List Told → ℕ → Phase → Pair → List Operation
unfinished_by ts n Idle p = []
unfinished_by ts n Read1 p = []
unfinished_by ts n Read2 p = []
unfinished_by ts n Write1 p = []
unfinished_by ts n Write2 p = operation ts n 0 0 p ∷ []

unfoldable pub unfinished_in : List Told → ℕ → List Desk → List Operation
unfinished_in ts n [] = []
unfinished_in ts n (d ∷ ds) = unfinished_by ts n d.phase d.holds ++ unfinished_in ts (suc n) ds

unfoldable pub unfinished : ℕ → List Step → List Operation
unfinished mask ks = unfinished_in (told_in 1 nobody ks (outcomes (start mask) ks)) 0 (last_world (start mask) ks).desks

-- the views that opened, as the run tells it: the start's, and those of event 1 (of the views that relays entered, told or not: `one_chain` in
-- safety/proofs/Corollaries)
abbrev pub opened_by : Event → List ℕ
opened_by nothing = []
opened_by (opened v) = v ∷ []
opened_by (read_done p) = []
opened_by (write_done p) = []

unfoldable pub opened_in : List Outcome → List ℕ
opened_in [] = []
opened_in (o ∷ os) = opened_by (report o).event ++ opened_in os

unfoldable pub open_views : ℕ → List Step → List ℕ
open_views mask ks = mask ∷ opened_in (outcomes (start mask) ks)

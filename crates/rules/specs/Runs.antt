-- A run of a list of steps from a start, and the printed record. Assumes nothing.
use Rattle.std.specs.Prelude.{List, [], ◌∷◌, ◌++◌, ℕ, zero, suc, ◌+◌, ◌*◌, ◌/◌, ◌%◌, ltb, length, if◌then◌else◌}
use Rattle.rules.specs.Messages.{Event, nothing, opened, read_done, write_done, number}
use Rattle.rules.specs.State.{World, start}
use Rattle.rules.specs.Sending.{waiting_in}
use Rattle.rules.specs.Steps.{Step, Outcome, refusal, done, after, report, stepped}
use Rattle.rules.specs.Sheets.{Sheet, bad, sheet, sheet_in}

-- the outcome of each step, each from the world that the one before left
unfoldable pub outcomes : World → List Step → List Outcome
outcomes w [] = []
outcomes w (k ∷ ks) = let o = stepped w k in o ∷ outcomes (after w o) ks

-- the last world
unfoldable pub last_world : World → List Step → World
last_world w [] = w
last_world w (k ∷ ks) = last_world (after w (stepped w k)) ks

-- ---- the counts: "The first three are counted from the accepted steps, waiting from the last world"

abbrev pub sent_by : Outcome → ℕ
sent_by (refusal x) = 0
sent_by (done w e a b c) = a

abbrev pub delivered_by : Outcome → ℕ
delivered_by (refusal x) = 0
delivered_by (done w e a b c) = b

abbrev pub dropped_by : Outcome → ℕ
dropped_by (refusal x) = 0
dropped_by (done w e a b c) = c

unfoldable pub sum : (Outcome → ℕ) → List Outcome → ℕ
sum f [] = 0
sum f (o ∷ os) = f o + sum f os

-- ---- the printed record: single blanks, decimal, a newline after every line

unfoldable pub digits : ℕ → ℕ → List ℕ
digits zero n = []
digits (suc k) n = if ltb n 10 then (48 + n) ∷ [] else digits k (n / 10) ++ ((48 + n % 10) ∷ [])

-- ten digits hold every 32-bit number
abbrev pub decimal : ℕ → List ℕ
decimal n = digits 10 n

-- a line of numbers
unfoldable pub line : List ℕ → List ℕ
line [] = 10 ∷ []
line (n ∷ []) = decimal n ++ (10 ∷ [])
line (n ∷ m ∷ ns) = decimal n ++ (32 ∷ line (m ∷ ns))

-- "start", "end", "bad", each with a blank
abbrev pub start_word : List ℕ
start_word = 115 ∷ 116 ∷ 97 ∷ 114 ∷ 116 ∷ 32 ∷ []

abbrev pub end_word : List ℕ
end_word = 101 ∷ 110 ∷ 100 ∷ 32 ∷ []

abbrev pub bad_word : List ℕ
bad_word = 98 ∷ 97 ∷ 100 ∷ 32 ∷ []

-- "answer"
abbrev pub answer : Outcome → ℕ
answer (refusal x) = number x
answer (done w e a b c) = 0

-- "event, who, stamp count, stamp desk [..], and value (events 2, 3) or view (event 1), zeros where none"
abbrev pub fields : Event → ℕ → List ℕ
fields nothing who = 0 ∷ 0 ∷ 0 ∷ 0 ∷ 0 ∷ []
fields (opened v) who = 1 ∷ who ∷ 0 ∷ 0 ∷ v ∷ []
fields (read_done p) who = 2 ∷ who ∷ p.stamp.count ∷ p.stamp.desk ∷ p.value ∷ []
fields (write_done p) who = 3 ∷ who ∷ p.stamp.count ∷ p.stamp.desk ∷ p.value ∷ []

-- "a line a step: number from 1, answer, event, who, .."
abbrev pub step_line : ℕ → Outcome → List ℕ
step_line i o = line (i ∷ answer o ∷ fields (report o).event (report o).who)

unfoldable pub step_lines : ℕ → List Outcome → List ℕ
step_lines i [] = []
step_lines i (o ∷ os) = step_line i o ++ step_lines (suc i) os

-- "`start` and the mask"
abbrev pub start_of : ℕ → List ℕ
start_of mask = start_word ++ line (mask ∷ [])

-- "last `end` with messages sent, delivered, dropped, waiting"
abbrev pub end_of : ℕ → ℕ → ℕ → ℕ → List ℕ
end_of sent delivered dropped waiting = end_word ++ line (sent ∷ delivered ∷ dropped ∷ waiting ∷ [])

unfoldable pub printed : ℕ → List Step → List ℕ
printed mask ks =
    let os = outcomes (start mask) ks in
    start_of mask ++ (step_lines 1 os ++ end_of (sum sent_by os) (sum delivered_by os) (sum dropped_by os) (waiting_in (last_world (start mask) ks).places))

-- ---- how long the record of n steps can be: every column at its greatest

-- of a sheet's steps, answers, events, relays, stamps and values
abbrev pub widest_step : List ℕ
widest_step = line (8000 ∷ 8 ∷ 3 ∷ 7 ∷ 65535 ∷ 3 ∷ 4294967295 ∷ [])

-- 8,000 steps deliver or drop no more than 8,000 messages; 256 places wait
abbrev pub widest_end : List ℕ
widest_end = end_of 8256 8000 8000 256

unfoldable pub longest : ℕ → ℕ
longest n = length (start_of 255) + (n * length widest_step + length widest_end)

-- "For BAD SHEET it prints `bad 9` only."
abbrev pub bad_of : List ℕ
bad_of = bad_word ++ line (9 ∷ [])

abbrev pub rehearsal : Sheet → List ℕ
rehearsal bad = bad_of
rehearsal (sheet mask ks) = printed mask ks

unfoldable pub rehearsed : List ℕ → List ℕ
rehearsed b = rehearsal (sheet_in b)

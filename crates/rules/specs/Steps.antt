-- "Steps": one step of a world. The rules at relays and desks answer; here a step is routed, refused in the table's order, and its messages are placed.
-- Assumes nothing.
use Rattle.std.specs.Prelude.{Bool, List, ℕ, ◌+◌, ◌-◌, eqb, leb, ltb, length, set, if◌then◌else◌, ◌&&◌}
use Rattle.rules.specs.Sets.{relay_count, desk_count, everyone, place_count, seat_count}
use Rattle.rules.specs.Stamps.{Value, is_value, is_no_value}
use Rattle.rules.specs.Messages.{Message, outgoing, Event, nothing, opened, read_done, write_done, Refusal, bad_step, empty, dead, no_room, Answer, refused, does}
use Rattle.rules.specs.State.{Relay, Desk, Place, free, waiting, World, crashed_relay, crashed_desk, relay_at, desk_at, place_at, with_relay, with_desk, with_places}
use Rattle.rules.specs.Sending.{place_all, free_in}
use Rattle.rules.specs.Relays.{join_asked, leave_asked, timer_rang, relay_hears}
pub use Rattle.rules.specs.declared.Step.{Step}
use Rattle.rules.specs.Desks.{read_asked, write_asked, desk_hears}

-- what a step tells to do; `bad` is BAD STEP
pub data Act : Type 0 where
  join : (s : ℕ) → Act
  leave : (s : ℕ) → Act
  timer : (s : ℕ) → Act
  read : (n : ℕ) → Act
  write : (n : ℕ) (x : Value) → Act
  deliver : (p : ℕ) → Act
  drop : (p : ℕ) → Act
  crash : (who : ℕ) → Act
  bad : Act

-- the kinds of steps: "1 JOIN relay, 2 LEAVE relay, 3 TIMER relay, 4 READ desk, 5 WRITE desk value, 6 DELIVER place, 7 DROP place, 8 CRASH who"
abbrev pub JOIN : ℕ
JOIN = 1

abbrev pub LEAVE : ℕ
LEAVE = 2

abbrev pub TIMER : ℕ
TIMER = 3

abbrev pub READ : ℕ
READ = 4

abbrev pub WRITE : ℕ
WRITE = 5

abbrev pub DELIVER : ℕ
DELIVER = 6

abbrev pub DROP : ℕ
DROP = 7

abbrev pub CRASH : ℕ
CRASH = 8

-- "A value other than 0 belongs to WRITE only." BAD STEP: "kind, id or value out of range"
abbrev pub is : Step → ℕ → ℕ → Bool
is k kind ids = eqb k.kind kind && (ltb k.id ids && is_no_value k.value)

unfoldable pub told : Step → Act
told k =
    if is k JOIN relay_count then join k.id
    else if is k LEAVE relay_count then leave k.id
    else if is k TIMER relay_count then timer k.id
    else if is k READ desk_count then read k.id
    else if eqb k.kind WRITE && (ltb k.id desk_count && is_value k.value) then write k.id k.value
    else if is k DELIVER place_count then deliver k.id
    else if is k DROP place_count then drop k.id
    else if is k CRASH everyone then crash k.id
    else bad

-- ---- outcomes

-- an event with the relay or desk that it is about: a desk by its own number 0 to 3
pub record Report : Type 0 where
  pub event : Event
  pub who : ℕ

pub data Outcome : Type 0 where
  refusal : Refusal → Outcome
  -- the world after it, what it reports, and how many messages it sent, delivered and dropped
  done : World → Report → (sent delivered dropped : ℕ) → Outcome

abbrev pub no_report : Report
no_report = record { event = nothing; who = 0 }

-- "All but 0 report event 0 with zero fields and change nothing."
abbrev pub after : World → Outcome → World
after w (refusal x) = w
after w (done next e a b c) = next

abbrev pub report : Outcome → Report
report (refusal x) = no_report
report (done next e a b c) = e

-- an event tells who; event 0 has zero fields
abbrev pub reports : Event → ℕ → Report
reports nothing who = no_report
reports (opened v) who = record { event = opened v; who = who }
reports (read_done p) who = record { event = read_done p; who = who }
reports (write_done p) who = record { event = write_done p; who = who }

-- ---- committing an answer. `w` is the world with the delivered place free, if any; n is 1 for a DELIVER.
-- NO ROOM: "the step needs more messages, generators or transfers than are free at its begin, its own delivered place counted as free"
-- (a list of generators or transfers that has grown past 8 is one that needed a place more than there was; no rule both frees and takes places of one kind)

unfoldable pub roomy : World → List Message → Bool
roomy w ms = leb (length ms) (free_in w.places)

unfoldable pub relay_does : World → ℕ → ℕ → Answer Relay → Outcome
relay_does w n s (refused x) = refusal x
relay_does w n s (does r ss e) =
    if roomy w (outgoing s ss) && (leb (length r.generators) seat_count && leb (length r.transfers) seat_count)
    then done (with_places (with_relay w s r) (place_all (outgoing s ss) w.places)) (reports e s) (length (outgoing s ss)) n 0
    else refusal no_room

unfoldable pub desk_does : World → ℕ → ℕ → Answer Desk → Outcome
desk_does w n d (refused x) = refusal x
desk_does w n d (does next ss e) =
    if roomy w (outgoing (relay_count + d) ss)
    then done (with_places (with_desk w d next) (place_all (outgoing (relay_count + d) ss) w.places)) (reports e d) (length (outgoing (relay_count + d) ss)) n 0
    else refusal no_room

-- ---- who is alive: 0..7 relays, 8..11 desks

abbrev pub alive_in : World → ℕ → Bool
alive_in w who = if ltb who relay_count then (relay_at w who).alive else (desk_at w (who - relay_count)).alive

unfoldable pub if_alive : World → ℕ → Outcome → Outcome
if_alive w who o = if alive_in w who then o else refusal dead

-- ---- the steps. "DELIVER frees its place first, DROP only frees, CRASH only ends alive."

unfoldable pub freed : World → ℕ → World
freed w p = with_places w (set w.places p free)

unfoldable pub delivers : World → Message → Outcome
delivers w m =
    if ltb m.to relay_count
    then relay_does w 1 m.to (relay_hears m.to (relay_at w m.to) m.from m.body)
    else desk_does w 1 (m.to - relay_count) (desk_hears (m.to - relay_count) (desk_at w (m.to - relay_count)) m.from m.body)

unfoldable pub delivery : World → ℕ → Place → Outcome
delivery w p free = refusal empty
delivery w p (waiting m) = if_alive w m.to (delivers (freed w p) m)

unfoldable pub dropping : World → ℕ → Place → Outcome
dropping w p free = refusal empty
dropping w p (waiting m) = done (freed w p) no_report 0 0 1

unfoldable pub crashing : World → ℕ → Outcome
crashing w who =
    if ltb who relay_count
    then done (with_relay w who (crashed_relay (relay_at w who))) no_report 0 0 0
    else done (with_desk w (who - relay_count) (crashed_desk (desk_at w (who - relay_count)))) no_report 0 0 0

unfoldable pub acts : World → Act → Outcome
acts w (join s) = if_alive w s (relay_does w 0 s (join_asked s (relay_at w s)))
acts w (leave s) = if_alive w s (relay_does w 0 s (leave_asked s (relay_at w s)))
acts w (timer s) = if_alive w s (relay_does w 0 s (timer_rang (relay_at w s)))
acts w (read n) = if_alive w (relay_count + n) (desk_does w 0 n (read_asked (desk_at w n)))
acts w (write n x) = if_alive w (relay_count + n) (desk_does w 0 n (write_asked (desk_at w n) x))
acts w (deliver p) = delivery w p (place_at w p)
acts w (drop p) = dropping w p (place_at w p)
acts w (crash who) = if_alive w who (crashing w who)
acts w bad = refusal bad_step

-- one step
unfoldable pub stepped : World → Step → Outcome
stepped w k = acts w (told k)

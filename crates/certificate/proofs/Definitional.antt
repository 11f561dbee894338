-- Demands 1 and 2 speak of programs that keep the promises of the sources (`Promised`): there is one, the definitions themselves. So the two are not about
-- nothing.
-- Assumes nothing.
use Rattle.std.specs.Prelude.{◌&&◌, Result, Ok, Err}
use mathlib.Core.Path.{◌≡◌, refl}
use mathlib.Core.List.{List}
use Prim.Native.Nat.{ℕ, ◌+◌, ◌-◌}
use lib.Dec.{eqb, leb, ltb}
use lib.ListN.{length}
use Rattle.views.proofs.Truth.{cases}
use Rattle.rules.specs.Messages.{Answer as RuleAnswer, refused, does, outgoing, Event, nothing, opened, read_done, write_done}
use Rattle.rules.specs.State.{Relay, Place, free, waiting, World, place_at}
use Rattle.rules.specs.declared.Desk.{Desk}
use Rattle.rules.specs.declared.Refusal.{Refusal}
use Rattle.rules.specs.declared.Refusal.TheVariants.{BadSheet, NoRoom}
use Rattle.rules.specs.declared.Step.{Step}
use Rattle.rules.specs.Steps.{Act, join, leave, timer, read, write, deliver, drop, crash, bad, told, Outcome, refusal, done, report, reports, roomy, relay_does, desk_does, alive_in, if_alive, freed, delivers, delivery, dropping, crashing, acts, stepped}
use Rattle.layout.specs.Layout.{world_width}
use Rattle.layout.specs.Image.{world_at, good_bytes}
use Rattle.layout.specs.Lent.{Lent, left, lent_step, lent_start}
use Rattle.rules.specs.Sheets.{Written as Ruling, bad_sheet, no_room, wrote}
use Rattle.rules.specs.Sheets as sheets
use Rattle.sheet.specs.Reading.{check_of, taken_at}
use Rattle.sheet.specs.Writing.{listed, ruled, ruled_size, size_in, buffer_of, number_of, size_of}
use Rattle.world.specs.declared.Answer.{Answer}
use Rattle.world.specs.declared.Report.{Report}
use Rattle.world.specs.declared.Report.TheVariants.{Nothing, Opened, ReadDone, WriteDone}
use Rattle.world.specs.Answer.{report_of, lent_of}
use Rattle.rehearsal.specs.Playing.{rehearse_answer, world_left, record_left}
use Rattle.certificate.specs.Code.{Code, Promised}

-- ---- a report of the rules as the code has it: "an event tells who; event 0 has zero fields"

abbrev told_as : Event → ℕ → Report
told_as nothing who = Nothing
told_as (opened v) who = Opened who v
told_as (read_done p) who = ReadDone who p
told_as (write_done p) who = WriteDone who p

made : (e : Event) (who : ℕ) → report_of (told_as (reports e who).event (reports e who).who) ≡ reports e who
unfolding report_of
made nothing who = refl
made (opened v) who = refl
made (read_done p) who = refl
made (write_done p) who = refl

-- ---- every step reports so

record Reports (o : Outcome) : Type 0 where
  is : report_of (told_as (report o).event (report o).who) ≡ report o

relay_made : (w : World) (n s : ℕ) (a : RuleAnswer Relay) → Reports (relay_does w n s a)
unfolding relay_does
relay_made w n s (refused x) = record { is = made nothing 0 }
relay_made w n s (does r ss e) =
    cases Reports (roomy w (outgoing s ss) && (leb (length r.generators) 8 && leb (length r.transfers) 8)) (λ _. record { is = made e s })
    (λ _. record { is = made nothing 0 })

desk_made : (w : World) (n d : ℕ) (a : RuleAnswer Desk) → Reports (desk_does w n d a)
unfolding desk_does
desk_made w n d (refused x) = record { is = made nothing 0 }
desk_made w n d (does next ss e) = cases Reports (roomy w (outgoing (8 + d) ss)) (λ _. record { is = made e d }) (λ _. record { is = made nothing 0 })

alive_made : (w : World) (who : ℕ) (o : Outcome) → Reports o → Reports (if_alive w who o)
unfolding if_alive
alive_made w who o r = cases Reports (alive_in w who) (λ _. r) (λ _. record { is = made nothing 0 })

delivery_made : (w : World) (p : ℕ) (x : Place) → Reports (delivery w p x)
unfolding delivery delivers
delivery_made w p free = record { is = made nothing 0 }
delivery_made w p (waiting m) =
    alive_made w m.to _ (cases Reports (ltb m.to 8) (λ _. relay_made (freed w p) 1 m.to _) (λ _. desk_made (freed w p) 1 (m.to - 8) _))

dropping_made : (w : World) (p : ℕ) (x : Place) → Reports (dropping w p x)
unfolding dropping
dropping_made w p free = record { is = made nothing 0 }
dropping_made w p (waiting m) = record { is = made nothing 0 }

crashing_made : (w : World) (who : ℕ) → Reports (crashing w who)
unfolding crashing
crashing_made w who = cases Reports (ltb who 8) (λ _. record { is = made nothing 0 }) (λ _. record { is = made nothing 0 })

acts_made : (w : World) (a : Act) → Reports (acts w a)
unfolding acts
acts_made w (join s) = alive_made w s _ (relay_made w 0 s _)
acts_made w (leave s) = alive_made w s _ (relay_made w 0 s _)
acts_made w (timer s) = alive_made w s _ (relay_made w 0 s _)
acts_made w (read n) = alive_made w (8 + n) _ (desk_made w 0 n _)
acts_made w (write n x) = alive_made w (8 + n) _ (desk_made w 0 n _)
acts_made w (deliver p) = delivery_made w p (place_at w p)
acts_made w (drop p) = dropping_made w p (place_at w p)
acts_made w (crash who) = alive_made w who _ (crashing_made w who)
acts_made w bad = record { is = made nothing 0 }

-- ---- the program

answer_as : Lent → Answer
answer_as l = record { number = l.answer; report = told_as l.report.event l.report.who }

-- what is left of a buffer, with a report that the code can have
record Sayable (l : Lent) : Type 0 where
  is : lent_of (answer_as l) l.buffer ≡ l

sayable : (l : Lent) → report_of (told_as l.report.event l.report.who) ≡ l.report → Sayable l
unfolding lent_of answer_as
sayable l e = record { is = λ i. record { answer = l.answer; report = e i; buffer = l.buffer } }

left_sayable : (w : List ℕ) (o : Outcome) → Reports o → Sayable (left w o)
left_sayable w (refusal x) r = sayable _ r.is
left_sayable w (done next e a b c) r = sayable _ r.is

step_sayable : (w : List ℕ) (k : Step) → Sayable (lent_step w k)
unfolding lent_step stepped
step_sayable w k = cases Sayable (good_bytes w) (λ _. left_sayable w _ (acts_made (world_at w) (told k))) (λ _. sayable _ (made nothing 0))

start_sayable : (w : List ℕ) (mask : ℕ) → Sayable (lent_start w mask)
unfolding lent_start
start_sayable w mask =
    cases Sayable (eqb (length w) world_width)
    (λ _. cases Sayable (eqb mask 0) (λ _. sayable _ (made nothing 0))
    (λ _. cases Sayable (leb 256 mask) (λ _. sayable _ (made nothing 0)) (λ _. sayable _ (made nothing 0))))
    (λ _. sayable _ (made nothing 0))

-- a ruling on a sheet of n bytes as the code's answer
write_as : ℕ → Ruling → Result ℕ Refusal
write_as n bad_sheet = Err BadSheet
write_as n no_room = Err NoRoom
write_as n (wrote l) = Ok n

write_says : (n : ℕ) (x : Ruling) → (number_of (write_as n x) ≡ sheets.number x) × (size_of (write_as n x) ≡ size_in n x)
unfolding write_as
write_says n bad_sheet = (refl, refl)
write_says n no_room = (refl, refl)
write_says n (wrote l) = (refl, refl)

pub definitional : Code
definitional =
    record {
      step = λ w k. answer_as (lent_step w k);
      step_world = λ w k. (lent_step w k).buffer;
      start = λ w mask. answer_as (lent_start w mask);
      start_world = λ w mask. (lent_start w mask).buffer;
      check = check_of;
      read_at = taken_at;
      write = λ buf mask kinds ids values.
          write_as (length (sheets.sheet_bytes sheets.version1 mask (listed kinds ids values))) (ruled buf mask kinds ids values);
      write_buf = λ buf mask kinds ids values. buffer_of buf (ruled buf mask kinds ids values);
      rehearse = rehearse_answer;
      rehearse_world = world_left;
      rehearse_out = record_left;
    }

pub definitional_keeps : Promised definitional
unfolding definitional ruled_size
definitional_keeps =
    record {
      step_kept = λ w k. (step_sayable w k).is;
      start_kept = λ w mask. (start_sayable w mask).is;
      check_kept = λ b. refl;
      read_at_kept = λ sheet at. refl;
      write_answer = λ buf mask kinds ids values. write_says _ (ruled buf mask kinds ids values);
      write_left = λ buf mask kinds ids values. refl;
      rehearse_answer_lem = λ sheet world out. refl;
      rehearse_last = λ sheet world out. refl;
      rehearse_printed = λ sheet world out. refl;
    }

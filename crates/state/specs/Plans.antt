-- What a plan says, and the plan that a rule's answer asks for. Assumes nothing.
use Rattle.std.specs.Prelude.{List, [], ◌∷◌, ℕ, zero, suc, Result, Ok, Err}
use Rattle.rules.specs.Messages.{Sending, ack, Event, nothing, number, Answer, refused, does}
use Rattle.rules.specs.State.{Relay, Generator, no_relay, no_desk}
use Rattle.rules.specs.Coded.{number_of}
use Rattle.rules.specs.declared.Refusal.{Refusal}
use Rattle.rules.specs.declared.Desk.{Desk}
use Rattle.rules.specs.Generators.{Turn}
use Rattle.state.specs.declared.Turn as code-turn
use Rattle.state.specs.declared.Plan.{Plan}
use Rattle.state.specs.declared.Part.{Part}
use Rattle.state.specs.Meaning.{generator_of, part_of, sendings_of, event_of}

-- nothing is sent
abbrev pub no_sending : Sending
no_sending = record { body = ack 0; receivers = 0 }

-- the most that one rule sends
abbrev pub most : ℕ
most = 2

-- the first n of a list; of one that is shorter, all of it and then blanks
unfoldable pub padded : {A : Type 0} → ℕ → A → List A → List A
padded zero blank xs = []
padded (suc n) blank [] = blank ∷ padded n blank []
padded (suc n) blank (x ∷ xs) = x ∷ padded n blank xs

-- what a rule sends, in the room that a plan has for it
abbrev pub bounded : List Sending → List Sending
bounded ss = padded most no_sending ss

-- ---- at a generator

pub record Turned : Type 0 where
  pub next : Generator
  pub sendings : List Sending

unfoldable pub turn_of : code-turn.Turn → Turned
turn_of t = record { next = generator_of t.next; sendings = sendings_of t.sends }

unfoldable pub turned : Turn → Turned
turned t = record { next = t.next; sendings = bounded t.sendings }

-- ---- at a relay or a desk: the answer's number, its state after it, what it sends, the event

pub record Planned (A : Type 0) : Type 0 where
  pub answer : ℕ
  pub next : A
  pub sendings : List Sending
  pub event : Event

-- the plan that an answer asks for; of a refusal, everything else is blank
unfoldable pub planned : {A : Type 0} → A → Answer A → Planned A
planned blank (refused x) = record { answer = number x; next = blank; sendings = bounded []; event = nothing }
planned blank (does a ss e) = record { answer = 0; next = a; sendings = bounded ss; event = e }

-- what the code answers, by what each of its values means; of a refusal, everything but the number is blank
abbrev pub planned_by : {T A : Type 0} → (T → A) → A → Result (Plan T) Refusal → Planned A
planned_by means blank (Ok p) = record { answer = 0; next = means p.next; sendings = sendings_of p.sends; event = event_of p.event }
planned_by means blank (Err x) = record { answer = number_of x; next = blank; sendings = bounded []; event = nothing }

unfoldable pub plan_of : Result (Plan Part) Refusal → Planned Relay
plan_of = planned_by part_of no_relay

unfoldable pub desk_plan_of : Result (Plan Desk) Refusal → Planned Desk
desk_plan_of = planned_by (λ d. d) no_desk

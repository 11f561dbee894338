-- The messages, what is sent, and what a rule answers. Assumes nothing.
use Rattle.std.specs.Prelude.{List, [], ◌∷◌, ◌++◌, map, ℕ}
use Rattle.rules.specs.Sets.{bit, those, members, only, joined}
use Rattle.rules.specs.Stamps.{Pair}

-- what a message says; its sender and receiver stand outside
pub data Body : Type 0 where
  -- request(u, c): please take the update u into your view c
  request : (u c : ℕ) → Body
  -- "Another own view: send that one"
  view : (v : ℕ) → Body
  -- for view v, the sequence q
  proposal : (v : ℕ) (q : List ℕ) → Body
  converged : (v : ℕ) (q : List ℕ) → Body
  -- from old view o to new view w
  install : (o w : ℕ) (q : List ℕ) → Body
  state : (o w : ℕ) (p : Pair) (updates : ℕ) → Body
  -- a desk's try, for its view c
  get : (try c : ℕ) → Body
  put : (try c : ℕ) (p : Pair) → Body
  -- replies to that try: "reply with the own view", "replies stamp and value", "acknowledges"
  view_reply : (try v : ℕ) → Body
  pair_reply : (try : ℕ) (p : Pair) → Body
  ack : (try : ℕ) → Body

-- sender and receiver: 0..7 relays, 8..11 desks
pub record Message : Type 0 where
  pub from : ℕ
  pub to : ℕ
  pub body : Body

-- a body, and the mask of its receivers
pub record Sending : Type 0 where
  pub body : Body
  pub receivers : ℕ

abbrev pub to_members : ℕ → Body → Sending
to_members v b = record { body = b; receivers = members v }

abbrev pub to_both : ℕ → ℕ → Body → Sending
to_both v w b = record { body = b; receivers = joined (members v) (members w) }

abbrev pub to_one : ℕ → Body → Sending
to_one s b = record { body = b; receivers = only s }

-- "in the order in which the rules name them, each to its receivers in ascending order"
unfoldable pub copies : ℕ → Sending → List Message
copies from s =
    map (λ n. record { from = from; to = n; body = s.body })
    (those (bit s.receivers) (0 ∷ 1 ∷ 2 ∷ 3 ∷ 4 ∷ 5 ∷ 6 ∷ 7 ∷ 8 ∷ 9 ∷ 10 ∷ 11 ∷ []))

unfoldable pub outgoing : ℕ → List Sending → List Message
outgoing from [] = []
outgoing from (s ∷ ss) = copies from s ++ outgoing from ss

-- what a step may bring about: event 0; 1, a view opened; 2, a read ended; 3, a write ended
pub data Event : Type 0 where
  nothing : Event
  opened : (v : ℕ) → Event
  read_done : Pair → Event
  write_done : Pair → Event

-- the table of answers, 1 to 8 (9, BAD SHEET, is no answer to a step: Sheets)
pub data Refusal : Type 0 where
  bad_world : Refusal
  bad_step : Refusal
  empty : Refusal
  dead : Refusal
  not_now : Refusal
  not_yet : Refusal
  worn : Refusal
  no_room : Refusal

abbrev pub number : Refusal → ℕ
number bad_world = 1
number bad_step = 2
number empty = 3
number dead = 4
number not_now = 5
number not_yet = 6
number worn = 7
number no_room = 8

-- what one relay, or one desk, answers to one thing that is put to it: it refuses, or it is changed, sends, and tells an event
pub data Answer (A : Type 0) : Type 0 where
  refused : Refusal → Answer A
  does : A → List Sending → Event → Answer A

abbrev pub quietly : {A : Type 0} → A → Answer A
quietly a = does a [] nothing

abbrev pub sends : {A : Type 0} → A → List Sending → Answer A
sends a ss = does a ss nothing

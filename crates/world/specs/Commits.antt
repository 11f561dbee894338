-- In what parts the code takes a step: what it looks up in the buffer, and what it makes of a plan. Assumes nothing.
use Rattle.std.specs.Prelude.{◌≡◌, Bool, true, false, not, ◌&&◌, ◌||◌, List, ℕ, zero, suc, ◌+◌, ◌*◌, ◌-◌, ◌≤◌, ◌<◌, eqb, ltb, get_or, set, replicate}
use Rattle.std.specs.Prelude.{Option, unwrap_or, IfSome, if◌then◌else◌}
use Rattle.rows.specs.Bytes.{u16_at, tab}
use Rattle.rules.specs.Sets.{bit, those, inside, relay_count, desk_count, everyone}
use Rattle.rules.specs.Messages.{Body, Message, bad_step, Answer}
use Rattle.rules.specs.State.{Transfer, Relay, Place, free, waiting, no_relay, no_desk, World, relay_at, desk_at, place_at, start_relay, start_desk}
use Rattle.rules.specs.declared.Desk.{Desk}
use Rattle.rules.specs.Steps.{Outcome, refusal, relay_does, desk_does, if_alive, freed, crashing}
use Rattle.layout.specs.Layout.{generator_width, transfer_new, transfer_width, relay_begin, desk_begin, place_begin}
use Rattle.layout.specs.Image.{transfer_at, world_at}
use Rattle.layout.specs.Lent.{Lent, left}
use Rattle.locality.specs.Narrow.{widens}
use Rattle.locality.specs.Asked.{relay_asked, desk_asked}

-- r is the first number below n that passes the test, or n
pub record First (n : ℕ) (f : ℕ → Bool) (r : ℕ) : Type 0 where
  pub within : r ≤ n
  pub below : (k : ℕ) → k < r → f k ≡ false
  pub here : r < n → f r ≡ true

-- what a search below n finds: the first that passes the test, if any
abbrev pub Found : ℕ → (ℕ → Bool) → Option ℕ → Type 0
Found n f r = First n f (unwrap_or r n) × IfSome r (λ i. i < n)

-- ---- looked up in the bytes

-- the row of who
abbrev pub row_of : ℕ → ℕ
row_of who = if ltb who relay_count then relay_begin who else desk_begin (who - relay_count)

-- the place p is free: its kind is 0
unfoldable pub free_row : List ℕ → ℕ → Bool
free_row l p = eqb (get_or l (place_begin p) 0) 0

-- how many of the places below n are free
unfoldable pub free_rows : List ℕ → ℕ → ℕ
free_rows l zero = 0
free_rows l (suc n) = free_rows l n + (if free_row l n then 1 else 0)

-- no place below p is free
pub record TakenTo (l : List ℕ) (p : ℕ) : Type 0 where
  pub within : p ≤ 256
  pub each : (k : ℕ) → k < p → free_row l k ≡ false

-- row k of the generators that begin at i is not filled, or is for the view v; row k of the transfers, for the move from o to n
unfoldable pub ends_view : List ℕ → ℕ → ℕ → ℕ → Bool
ends_view l i v k = eqb (u16_at l (i + k * generator_width)) 0 || eqb (u16_at l (i + k * generator_width)) v

unfoldable pub ends_move : List ℕ → ℕ → ℕ → ℕ → ℕ → Bool
ends_move l i o n k = eqb (u16_at l (i + k * transfer_width + transfer_new)) 0 || (eqb (u16_at l (i + k * transfer_width)) o && eqb (u16_at l (i + k * transfer_width + transfer_new)) n)

-- of the first n transfer rows from i on, those that stay when v is entered
unfoldable pub kept_rows : List ℕ → ℕ → ℕ → ℕ → List Transfer
kept_rows l i v n = those (λ t. inside v t.new) (tab n (λ k. transfer_at l (i + k * transfer_width)))

-- "each to its receivers in ascending order": those below n of a set
unfoldable pub receivers_below : ℕ → ℕ → List ℕ
receivers_below m n = those (bit m) (tab n (λ k. k))

-- ---- committed

unfoldable pub message : ℕ → Body → ℕ → Message
message from b to = record { from = from; to = to; body = b }

-- the delivered place is free; 256 is none
unfoldable pub freed_at : World → ℕ → World
freed_at w p = if ltb p 256 then freed w p else w

abbrev pub is_waiting : Place → Bool
is_waiting free = false
is_waiting (waiting m) = true

-- where a place is delivered, it holds a message
unfoldable pub delivered : World → ℕ → Bool
delivered w p = not (ltb p 256) || is_waiting (place_at w p)

-- what is left when the relay s, of whose part the rule made a, or the desk d answers; n counts the delivered
unfoldable pub relay_left : List ℕ → ℕ → ℕ → ℕ → Answer Relay → Lent
relay_left b n p s a = left b (relay_does (freed_at (world_at b) p) n s (widens (relay_at (world_at b) s) a))

unfoldable pub desk_left : List ℕ → ℕ → ℕ → ℕ → Answer Desk → Lent
desk_left b n p d a = left b (desk_does (freed_at (world_at b) p) n d a)

-- ---- asked: what a kind asks of the relay s or the desk n. BAD STEP: "id [..] out of range"; DEAD: "actor [..] crashed"

abbrev pub relay_steps : World → ℕ → ℕ → Outcome
relay_steps w kind s = if ltb s relay_count then if_alive w s (relay_does w 0 s (relay_asked kind s (relay_at w s))) else refusal bad_step

abbrev pub desk_steps : World → ℕ → ℕ → ℕ → Outcome
desk_steps w kind n x =
    if ltb n desk_count then if_alive w (relay_count + n) (desk_does w 0 n (desk_asked kind x (desk_at w n))) else refusal bad_step

-- "CRASH target crashed"
abbrev pub crash_steps : World → ℕ → Outcome
crash_steps w who = if ltb who everyone then if_alive w who (crashing w who) else refusal bad_step

-- ---- begun: the first n relays and m desks of a start are there

unfoldable pub relays_to : ℕ → ℕ → List Relay
relays_to mask zero = replicate 8 no_relay
relays_to mask (suc n) = set (relays_to mask n) n (start_relay mask n)

unfoldable pub desks_to : ℕ → ℕ → List Desk
desks_to mask zero = replicate 4 no_desk
desks_to mask (suc n) = set (desks_to mask n) n (start_desk mask)

unfoldable pub begun : ℕ → ℕ → ℕ → World
begun mask n m = record { relays = relays_to mask n; desks = desks_to mask m; places = replicate 256 free }

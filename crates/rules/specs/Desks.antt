-- "Delivery at a desk", and READ, WRITE: each a function of the desk (its number n, its state d) and of what is put to it. Assumes nothing.
use Rattle.std.specs.Prelude.{Bool, true, false, not, [], ◌∷◌, ℕ, ◌+◌, eqb, leb, if◌then◌else◌, ◌&&◌}
use Rattle.rules.specs.Sets.{only, joined, member, inside, reaches}
use Rattle.rules.specs.Stamps.{Value, Pair, zero_pair, same_stamp, greatest}
use Rattle.rules.specs.Messages.{Body, request, view, proposal, converged, install, state, get, put, view_reply, pair_reply, ack, to_members, read_done, write_done, not_now, worn, Answer, refused, does, quietly, sends}
use Rattle.rules.specs.State.{Phase, Idle, Read1, Read2, Write1, Write2, Desk}

abbrev pub is_idle : Phase → Bool
is_idle Idle = true
is_idle Read1 = false
is_idle Read2 = false
is_idle Write1 = false
is_idle Write2 = false

-- phase 1 of a read or a write; phase 2
abbrev pub is_first : Phase → Bool
is_first Idle = false
is_first Read1 = true
is_first Read2 = false
is_first Write1 = true
is_first Write2 = false

abbrev pub is_second : Phase → Bool
is_second Idle = false
is_second Read1 = false
is_second Read2 = true
is_second Write1 = false
is_second Write2 = true

-- ---- "Each phase begins by adding 1 to the try, clearing the replies and sending to all members of the desk's view: Get in phase 1, Put in phase 2."

-- WORN: "a try or stamp count would pass 65,535"
abbrev pub full : ℕ → Bool
full count = leb 65535 count

-- desk d in the phase ph with the view v, the stamp and value p and that try, its replies cleared
abbrev pub cleared : Desk → Phase → ℕ → Pair → ℕ → Desk
cleared d ph v p try = record { alive = d.alive; view = v; phase = ph; tries = try; holds = p; replied = 0; best = zero_pair; agreed = false }

-- the desk in its next phase, with the next try; one that has no try left stays as it is (and its step is WORN)
unfoldable pub begun : Desk → Phase → ℕ → Pair → Desk
begun d ph v p = if full d.tries then d else cleared d ph v p (d.tries + 1)

abbrev pub asks : Phase → ℕ → ℕ → Pair → Body
asks ph try v p = if is_first ph then get try v else put try v p

unfoldable pub begins : Desk → Phase → ℕ → Pair → Answer Desk
begins d ph v p =
    if full d.tries
    then refused worn
    else sends (cleared d ph v p (d.tries + 1)) (to_members v (asks ph (d.tries + 1) v p) ∷ [])

-- "Idle, only alive, view and try stay."
abbrev pub ended : Desk → Desk
ended d = cleared d Idle d.view zero_pair d.tries

-- ---- "READ and WRITE are NOT NOW unless the desk is idle."

unfoldable pub read_asked : Desk → Answer Desk
read_asked d = if is_idle d.phase then begins d Read1 d.view zero_pair else refused not_now

unfoldable pub write_asked : Desk → Value → Answer Desk
write_asked d x = if is_idle d.phase then begins d Write1 d.view (record { stamp = zero_pair.stamp; value = x }) else refused not_now

-- ---- "A reply with another try, of the other phase's kind, from no member of the desk's view, or to an idle desk does nothing."

abbrev pub current : Desk → ℕ → ℕ → Bool
current d from try = not (is_idle d.phase) && (eqb try d.tries && member d.view from)

-- "A view reply that strictly includes the desk's view is adopted and the phase starts again; any other does nothing."
unfoldable pub view_came : Desk → ℕ → ℕ → ℕ → Answer Desk
view_came d from try v =
    if current d from try && inside d.view v
    then begins d d.phase v d.holds
    else quietly d

-- ---- "who replied, best reply, whether all stamps agreed"

-- the first reply agrees with itself, each other one with those before if its stamp is the best one's
abbrev pub agrees : Desk → Pair → Bool
agrees d p = if eqb d.replied 0 then true else d.agreed && same_stamp p.stamp d.best.stamp

-- `from` has replied; what that makes of the best reply and of the agreement
abbrev pub with_reply : Desk → ℕ → Pair → Bool → Desk
with_reply d from best agreed =
    record {
      alive = d.alive;
      view = d.view;
      phase = d.phase;
      tries = d.tries;
      holds = d.holds;
      replied = joined d.replied (only from);
      best = best;
      agreed = agreed;
    }

unfoldable pub notes_pair : Desk → ℕ → Pair → Desk
notes_pair d from p = with_reply d from (greatest d.best p) (agrees d p)

-- "an acknowledgement sets only who replied."
unfoldable pub notes_ack : Desk → ℕ → Desk
notes_ack d from = with_reply d from d.best d.agreed

-- ---- "At a quorum of replies: write 1 takes (greatest count + 1, own number) and starts write 2; write 2 ends, event 3;
-- read 1 ends with event 2 if all stamps agreed, else read 2 puts back the greatest; read 2 ends, event 2."

unfoldable pub takes_stamp : ℕ → Desk → Answer Desk
takes_stamp n d =
    if full d.best.stamp.count
    then refused worn
    else begins d Write2 d.view (record { stamp = record { count = d.best.stamp.count + 1; desk = n }; value = d.holds.value })

unfoldable pub completes : ℕ → Desk → Phase → Answer Desk
completes n d Idle = quietly d
completes n d Read1 = if d.agreed then does (ended d) [] (read_done d.best) else begins d Read2 d.view d.best
completes n d Read2 = does (ended d) [] (read_done d.holds)
completes n d Write1 = takes_stamp n d
completes n d Write2 = does (ended d) [] (write_done d.holds)

unfoldable pub counted : ℕ → Desk → Answer Desk
counted n d = if reaches d.view d.replied then completes n d d.phase else quietly d

unfoldable pub pair_came : ℕ → Desk → ℕ → ℕ → Pair → Answer Desk
pair_came n d from try p = if current d from try && is_first d.phase then counted n (notes_pair d from p) else quietly d

unfoldable pub ack_came : ℕ → Desk → ℕ → ℕ → Answer Desk
ack_came n d from try = if current d from try && is_second d.phase then counted n (notes_ack d from) else quietly d

-- ---- a message from `from` comes to the desk n. (All but replies go to relays only.)

unfoldable pub desk_hears : ℕ → Desk → ℕ → Body → Answer Desk
desk_hears n d from (view_reply try v) = view_came d from try v
desk_hears n d from (pair_reply try p) = pair_came n d from try p
desk_hears n d from (ack try) = ack_came n d from try
desk_hears n d from (request u c) = quietly d
desk_hears n d from (view v) = quietly d
desk_hears n d from (proposal v q) = quietly d
desk_hears n d from (converged v q) = quietly d
desk_hears n d from (install o w q) = quietly d
desk_hears n d from (state o w p updates) = quietly d
desk_hears n d from (get try c) = quietly d
desk_hears n d from (put try c p) = quietly d

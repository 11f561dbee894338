-- "Delivery at a relay", and JOIN, LEAVE, TIMER: each a function of the relay (its number s, its state r) and of what is put to it. Assumes nothing.
use Rattle.std.specs.Prelude.{Bool, true, false, not, List, [], ◌∷◌, ◌++◌, ℕ, eqb, if◌then◌else◌, ◌&&◌, ◌||◌}
use Rattle.rules.specs.Sets.{joins, leaves, only, joined, less, member, within, inside, reaches, none, those, beyond}
use Rattle.rules.specs.Stamps.{Pair, zero_pair, greatest}
use Rattle.rules.specs.Messages.{Body, request, view, proposal, converged, install, state, get, put, view_reply, pair_reply, ack, Sending, to_members, to_one, opened, not_now, not_yet, Answer, refused, does, quietly, sends}
use Rattle.rules.specs.State.{Transfer, Relay, with_known, with_pending, with_active, with_holds, with_generators, with_transfers}
use Rattle.rules.specs.Generators.{generator_for, put_generator, Turn, proposes, proposal_heard, converged_heard}

-- a rule at the generator for v. "A generator or transfer that a rule notes into, proposes with or keeps an install in is taken if absent, and at no other time."
-- (Propose leaves a generator alone only where it has an own sequence, so where it is there.)
abbrev pub turned : Relay → Turn → Relay
turned r t = with_generators r (put_generator t.next r.generators)

unfoldable pub at_generator : Relay → Turn → Answer Relay
at_generator r t = sends (turned r t) t.sendings

-- ---- steps

-- "JOIN is NOT NOW if the relay has entered any view or its join is in its known view; else it sends request(+s, known view) to that view's members."
unfoldable pub join_asked : ℕ → Relay → Answer Relay
join_asked s r =
    if r.entered || within (joins s) r.known
    then refused not_now
    else sends r (to_members r.known (request (joins s) r.known) ∷ [])

-- "LEAVE is NOT NOW unless it is a member of its view; it sends request(-s, its view) likewise."
unfoldable pub leave_asked : ℕ → Relay → Answer Relay
leave_asked s r =
    if member r.view s
    then sends r (to_members r.view (request (leaves s) r.view) ∷ [])
    else refused not_now

-- "TIMER is NOT NOW unless active and its view lacks a pending update; it proposes the sequence of one view, its own joined with the pending updates."
unfoldable pub timer_rang : Relay → Answer Relay
timer_rang r =
    if r.active && not (within r.pending r.view)
    then at_generator r (proposes (generator_for r.view r.generators) (joined r.view r.pending ∷ []))
    else refused not_now

-- ---- "Request(u, c), from s. Not entered: nothing. Own view c: add u to pending unless in the view. Another own view: send that one to s,"

unfoldable pub request_heard : Relay → ℕ → ℕ → ℕ → Answer Relay
request_heard r from u c =
    if not r.entered then quietly r
    else if eqb r.view c then quietly (if within u r.view then r else with_pending r (joined r.pending u))
    else sends r (to_one from (view r.view) ∷ [])

-- "who keeps it as known view if the one known is inside it."
unfoldable pub learns : Relay → ℕ → Relay
learns r v = if inside r.known v then with_known r v else r

-- ---- transfers

unfoldable pub fresh_transfer : ℕ → ℕ → Transfer
fresh_transfer o w = record { old = o; new = w; sequence = []; senders = 0; best = zero_pair; gathered = 0 }

abbrev pub is_for : ℕ → ℕ → Transfer → Bool
is_for o w t = eqb t.old o && eqb t.new w

unfoldable pub transfer_for : ℕ → ℕ → List Transfer → Transfer
transfer_for o w [] = fresh_transfer o w
transfer_for o w (t ∷ ts) = if is_for o w t then t else transfer_for o w ts

unfoldable pub put_transfer : Transfer → List Transfer → List Transfer
put_transfer t [] = t ∷ []
put_transfer t (u ∷ us) = if is_for t.old t.new u then t ∷ us else u ∷ put_transfer t us

-- "the transfer keeps q unless it has one already"
unfoldable pub keeps : Transfer → List ℕ → Transfer
keeps t q = record { old = t.old; new = t.new; sequence = if none t.sequence then q else t.sequence; senders = t.senders; best = t.best; gathered = t.gathered }

-- "note sender, greatest stamp with its value, updates"
unfoldable pub gathers : Transfer → ℕ → Pair → ℕ → Transfer
gathers t from p updates =
    record { old = t.old; new = t.new; sequence = t.sequence; senders = joined t.senders (only from); best = greatest t.best p; gathered = joined t.gathered updates }

-- ---- "Entry test: install present and a quorum of o has sent state."

abbrev pub passes : Transfer → Bool
passes t = not (none t.sequence) && reaches t.old t.senders

-- "Then stamp and value become the best received, pending becomes pending and gathered updates less those in w, view is w, entered;
-- known becomes w if inside it; transfers whose new view does not strictly include w are freed, and the rest move down in their order."
unfoldable pub moved : Relay → Transfer → Bool → Relay
moved r t active =
    record {
      alive = r.alive;
      view = t.new;
      entered = true;
      active = active;
      known = if inside r.known t.new then t.new else r.known;
      pending = less (joined r.pending t.gathered) t.new;
      holds = t.best;
      generators = r.generators;
      transfers = those (λ u. inside t.new u.new) r.transfers;
    }

-- "If q has views above w, propose those for w, not active; else active, event 1."
abbrev pub onward : Transfer → List ℕ
onward t = beyond t.new t.sequence

unfoldable pub enters : Relay → Transfer → Answer Relay
enters r t =
    if none (onward t)
    then does (moved r t true) [] (opened t.new)
    else at_generator (moved r t false) (proposes (generator_for t.new r.generators) (onward t))

-- the transfer t is put back into r, then the entry test
unfoldable pub tested : Relay → Transfer → Answer Relay
tested r t =
    let kept = with_transfers r (put_transfer t r.transfers) in
    if passes t then enters kept t else quietly kept

-- ---- "Install(o, w, q)"

-- "NOT YET exactly if the receiver is a member of o and its own view neither equals nor includes o (view 0 never does)."
abbrev pub early : ℕ → Relay → ℕ → Bool
early s r o = member o s && not (eqb r.view o || inside o r.view)

-- "A member of o, if its view is inside w, stops being active;"
abbrev pub stopped : ℕ → Relay → ℕ → ℕ → Relay
stopped s r o w = if member o s && inside r.view w then with_active r false else r

-- "in any case it sends state(o, w, stamp, value, pending) to w's members."
abbrev pub handed : ℕ → Relay → ℕ → ℕ → List Sending
handed s r o w = if member o s then to_members w (state o w r.holds r.pending) ∷ [] else []

-- "If its view is inside w and it is a member of w, the transfer keeps q unless it has one already; then the entry test."
unfoldable pub takes_install : ℕ → Relay → ℕ → ℕ → List ℕ → Answer Relay
takes_install s r o w q =
    if inside r.view w && member w s
    then tested r (keeps (transfer_for o w r.transfers) q)
    else quietly r

-- sendings that the rule names first
abbrev pub sent_first : List Sending → Answer Relay → Answer Relay
sent_first first (refused x) = refused x
sent_first first (does r later e) = does r (first ++ later) e

unfoldable pub install_heard : ℕ → Relay → ℕ → ℕ → List ℕ → Answer Relay
install_heard s r o w q =
    if early s r o
    then refused not_yet
    else sent_first (handed s r o w) (takes_install s (stopped s r o w) o w q)

-- ---- "State(o, w, ..): nothing unless the receiver's view is inside w. Else note sender, greatest stamp with its value, updates; then the entry test."

unfoldable pub state_heard : Relay → ℕ → ℕ → ℕ → Pair → ℕ → Answer Relay
state_heard r from o w p updates =
    if inside r.view w
    then tested r (gathers (transfer_for o w r.transfers) from p updates)
    else quietly r

-- ---- Get and Put: "NOT YET unless active and c equals the own view or is inside it."

abbrev pub serves : Relay → ℕ → Bool
serves r c = r.active && (eqb c r.view || inside c r.view)

-- "If inside: reply with the own view. If equal:" the relay is `next` afterwards, and `reply` goes out
abbrev pub served_by : Relay → Relay → ℕ → ℕ → ℕ → Body → Answer Relay
served_by r next from try c reply =
    if not (serves r c) then refused not_yet
    else if inside c r.view then sends r (to_one from (view_reply try r.view) ∷ [])
    else sends next (to_one from reply ∷ [])

-- "Get replies stamp and value;"
unfoldable pub get_heard : Relay → ℕ → ℕ → ℕ → Answer Relay
get_heard r from try c = served_by r r from try c (pair_reply try r.holds)

-- "Put stores if its stamp is greater, and acknowledges either way."
unfoldable pub put_heard : Relay → ℕ → ℕ → ℕ → Pair → Answer Relay
put_heard r from try c p = served_by r (with_holds r (greatest r.holds p)) from try c (ack try)

-- ---- a message from `from` comes to the relay s. (Replies go to desks only.)

unfoldable pub relay_hears : ℕ → Relay → ℕ → Body → Answer Relay
relay_hears s r from (request u c) = request_heard r from u c
relay_hears s r from (view v) = quietly (learns r v)
relay_hears s r from (proposal v q) = at_generator r (proposal_heard (generator_for v r.generators) from q)
relay_hears s r from (converged v q) = at_generator r (converged_heard (generator_for v r.generators) from q)
relay_hears s r from (install o w q) = install_heard s r o w q
relay_hears s r from (state o w p updates) = state_heard r from o w p updates
relay_hears s r from (get try c) = get_heard r from try c
relay_hears s r from (put try c p) = put_heard r from try c p
relay_hears s r from (view_reply try v) = quietly r
relay_hears s r from (pair_reply try p) = quietly r
relay_hears s r from (ack try) = quietly r

-- A rule at a relay sees its head, one generator and one transfer. What the rule does to that part is done to the whole relay. Assumes nothing.
use Rattle.std.specs.Prelude.{List, [], ◌∷◌, ℕ, eqb, if◌then◌else◌}
use Rattle.rules.specs.Sets.{inside, those}
use Rattle.rules.specs.Messages.{Body, request, view, proposal, converged, install, state, get, put, view_reply, pair_reply, ack, Answer, refused, does}
use Rattle.rules.specs.State.{Generator, Transfer, Relay}
use Rattle.rules.specs.Generators.{put_generator}
use Rattle.rules.specs.Relays.{is_for, put_transfer}

-- which generator, and which transfer, a message is about; 0 is no view of a generator
abbrev pub generator_of_body : Body → ℕ
generator_of_body (request u c) = 0
generator_of_body (view v) = 0
generator_of_body (proposal v q) = v
generator_of_body (converged v q) = v
generator_of_body (install o w q) = w
generator_of_body (state o w p u) = w
generator_of_body (get try c) = 0
generator_of_body (put try c p) = 0
generator_of_body (view_reply try v) = 0
generator_of_body (pair_reply try p) = 0
generator_of_body (ack try) = 0

pub record Move : Type 0 where
  pub old : ℕ
  pub new : ℕ

abbrev pub move : ℕ → ℕ → Move
move o w = record { old = o; new = w }

abbrev pub move_of_body : Body → Move
move_of_body (request u c) = move 0 0
move_of_body (view v) = move 0 0
move_of_body (proposal v q) = move 0 0
move_of_body (converged v q) = move 0 0
move_of_body (install o w q) = move o w
move_of_body (state o w p u) = move o w
move_of_body (get try c) = move 0 0
move_of_body (put try c p) = move 0 0
move_of_body (view_reply try v) = move 0 0
move_of_body (pair_reply try p) = move 0 0
move_of_body (ack try) = move 0 0

-- a relay with other generators and transfers
abbrev pub with_tables : Relay → List Generator → List Transfer → Relay
with_tables r gs ts =
    record {
      alive = r.alive;
      view = r.view;
      entered = r.entered;
      active = r.active;
      known = r.known;
      pending = r.pending;
      holds = r.holds;
      generators = gs;
      transfers = ts;
    }

-- the part of r that shows the generator for v and the transfer from o to w
unfoldable pub narrow : Relay → ℕ → Move → Relay
narrow r v m = with_tables r (those (λ g. eqb g.view v) r.generators) (those (is_for m.old m.new) r.transfers)

-- what a part shows is put back into the whole; it shows at most one
abbrev pub put_back : {A : Type 0} → (A → List A → List A) → List A → List A → List A
put_back into [] xs = xs
put_back into (x ∷ more) xs = into x xs

-- the whole relay r after a rule made n of its part: an entry, and nothing else, changes the view, and frees transfers
unfoldable pub widened : Relay → Relay → Relay
widened r n =
    with_tables n (put_back put_generator n.generators r.generators)
    (if eqb n.view r.view
    then put_back put_transfer n.transfers r.transfers
    else those (λ u. inside n.view u.new) r.transfers)

abbrev pub widens : Relay → Answer Relay → Answer Relay
widens r (refused x) = refused x
widens r (does n ss e) = does (widened r n) ss e

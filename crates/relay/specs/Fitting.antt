-- The rules at a relay, for any part and any message: what a part must show for the rule to be told by it, and the answer where it does not.
-- (In a good world every part that the world's step shows is fitting: locality/proofs/Fits.) Assumes nothing.
use Rattle.std.specs.Prelude.{Bool, true, ℕ, eqb, ltb, if◌then◌else◌, ◌&&◌}
use Rattle.rules.specs.Sets.{all}
use Rattle.rules.specs.Messages.{Body, request, view, proposal, converged, install, state, get, put, view_reply, pair_reply, ack, bad_step, Answer, refused}
use Rattle.rules.specs.State.{Relay}
use Rattle.rules.specs.Generators.{generator_for}
use Rattle.rules.specs.Relays.{is_for, at_generator, join_asked, timer_rang, relay_hears}
use Rattle.generator.specs.Heard.{heard_in_row}

-- the generator that is shown, if any, is the one for v; the transfer, if any, the one from o to w
abbrev pub shows_view : ℕ → Relay → Bool
shows_view v r = all (λ g. eqb g.view v) r.generators

abbrev pub shows_move : ℕ → ℕ → Relay → Bool
shows_move o w r = all (is_for o w) r.transfers

-- both, as what is told of a move needs them: the entry test proposes for w
abbrev pub shows_both : ℕ → ℕ → Relay → Bool
shows_both o w r = shows_view w r && shows_move o w r

-- senders are numbers 0 to 11; only relays send state
unfoldable pub fitting : Relay → ℕ → Body → Bool
fitting r from (request u c) = ltb from 12
fitting r from (view v) = true
fitting r from (proposal v q) = shows_view v r
fitting r from (converged v q) = shows_view v r
fitting r from (install o w q) = shows_both o w r
fitting r from (state o w p u) = ltb from 8 && shows_both o w r
fitting r from (get try c) = ltb from 12
fitting r from (put try c p) = ltb from 12
fitting r from (view_reply try v) = true
fitting r from (pair_reply try p) = true
fitting r from (ack try) = true

-- what is not fitting is BAD STEP
abbrev pub if_fitting : Bool → Answer Relay → Answer Relay
if_fitting b a = if b then a else refused bad_step

unfoldable pub join_answer : ℕ → Relay → Answer Relay
join_answer s r = if_fitting (ltb s 8) (join_asked s r)

unfoldable pub timer_answer : Relay → Answer Relay
timer_answer r = if_fitting (shows_view r.view r) (timer_rang r)

-- the rules, where a row holds the first fifteen views of what a proposal brings (generator's Heard)
unfoldable pub hears_in_row : ℕ → Relay → ℕ → Body → Answer Relay
hears_in_row s r from (request u c) = relay_hears s r from (request u c)
hears_in_row s r from (view v) = relay_hears s r from (view v)
hears_in_row s r from (proposal v q) = at_generator r (heard_in_row (generator_for v r.generators) from q)
hears_in_row s r from (converged v q) = relay_hears s r from (converged v q)
hears_in_row s r from (install o w q) = relay_hears s r from (install o w q)
hears_in_row s r from (state o w p u) = relay_hears s r from (state o w p u)
hears_in_row s r from (get try c) = relay_hears s r from (get try c)
hears_in_row s r from (put try c p) = relay_hears s r from (put try c p)
hears_in_row s r from (view_reply try v) = relay_hears s r from (view_reply try v)
hears_in_row s r from (pair_reply try p) = relay_hears s r from (pair_reply try p)
hears_in_row s r from (ack try) = relay_hears s r from (ack try)

unfoldable pub hears_answer : ℕ → Relay → ℕ → Body → Answer Relay
hears_answer s r from b = if_fitting (fitting r from b) (hears_in_row s r from b)

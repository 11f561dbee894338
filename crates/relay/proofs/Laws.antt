-- Laws of what a part shows, and of the rules at it. Assumes nothing.
use Rattle.std.specs.Prelude.{Option, None, Some, Ok, MatchOption, IsTrue, if◌then◌else◌}
use mathlib.Core.Path.{◌≡◌, refl, sym, ap, ◌∙◌}
use mathlib.Core.Bool.{Bool, true, false, and-true}
use mathlib.Core.List.{List, [], ◌∷◌, map}
use Prim.Native.Nat.{ℕ, ◌<◌}
use native.Mathlib.Omega.{arith}
use lib.Dec.{eqb, lit<}
use lib.ListN.{length}
use lib.Seq.{take_all}
use Rattle.views.specs.declared.Sequence.{Sequence}
use Rattle.views.specs.Row.{views_of, row_of}
use Rattle.views.proofs.Rows.{views_length, held}
use Rattle.rules.specs.Sets.{inside, beyond, all}
use Rattle.rules.specs.Stamps.{Pair}
use Rattle.rules.specs.Messages.{Refusal, bad_world, bad_step, empty, dead, not_now, not_yet, worn, no_room, number, Answer, refused, does}
use Rattle.rules.specs.State.{Generator, Transfer, Relay, no_relay, with_active}
use Rattle.rules.specs.Generators.{put_generator, with_own, hears}
use Rattle.rules.specs.Relays.{is_for, transfer_for, put_transfer, keeps, gathers, sent_first}
use Rattle.rules.proofs.Generators.{settles-leaves}
use Rattle.rules.proofs.Lists.{those_fewer}
use Rattle.rules.proofs.Transfers.{found_old, found_new}
use Rattle.state.specs.declared.Transfer as code
use Rattle.state.specs.declared.Sending as code-sending
use Rattle.state.specs.declared.Event as code-event
use Rattle.state.specs.declared.Part.{Part}
use Rattle.state.specs.declared.Plan.{Plan}
use Rattle.state.specs.Meaning.{listed, transfer_of, part_of, sending_of, event_of}
use Rattle.state.specs.Plans.{Planned, plan_of, planned}
use Rattle.messages.specs.Made.{plan_of_all}
use Rattle.messages.proofs.Plans.{plan_says, first_says}
use Rattle.generator.specs.Heard.{merged_in_row, hears_in_row, heard_in_row}
use Rattle.relay.specs.Fitting.{shows_both}

-- ---- sequences

-- a row has room for what stands beyond w in a row
pub held_beyond : (r : Sequence) (w : ℕ) (q : Sequence) → length q.views ≡ 15 → r ≡ row_of (beyond w (views_of q)) → views_of r ≡ beyond w (views_of q)
held_beyond r w q full e = held r _ e ∙ take_all 15 _ (omega (arith, those_fewer (inside w) (views_of q), views_length q full))

-- ---- what a part shows is at most one

pub all_shown : {A B : Type 0} (means : A → B) (test : B → Bool) (shown : Option A) (r : Bool) (P : A → Type 0)
    → MatchOption shown (IsTrue r) P → ((x : A) → P x → r ≡ test (means x)) → r ≡ all test (listed means shown)
unfolding all
all_shown means test (Some x) r P h e = e x h ∙ sym (and-true (test (means x)))
all_shown means test None r P h e = h

module _ {A : Type 0} where
  pub put_generator_lem : (means : A → Generator) (shown : Option A) (g : Generator) → all (λ x. eqb x.view g.view) (listed means shown) ≡ true
      → put_generator g (listed means shown) ≡ g ∷ []
  unfolding all put_generator
  put_generator_lem means (Some h) g e = rw (sym (and-true (eqb (means h).view g.view)) ∙ e)
  put_generator_lem means None g e = refl

  pub put_transfer_lem : (means : A → Transfer) (shown : Option A) (t : Transfer) → all (is_for t.old t.new) (listed means shown) ≡ true
      → put_transfer t (listed means shown) ≡ t ∷ []
  unfolding all put_transfer
  put_transfer_lem means (Some u) t e = rw (sym (and-true (is_for t.old t.new (means u))) ∙ e)
  put_transfer_lem means None t e = refl

-- ---- the rules at a generator and at a transfer leave its views

pub heard_view : (g : Generator) (from : ℕ) (q : List ℕ) → (heard_in_row g from q).next.view ≡ g.view
unfolding heard_in_row hears_in_row merged_in_row hears with_own
heard_view g from q = (settles-leaves (merged_in_row g from q)).for

-- what is kept in a transfer, or gathered in it, leaves its pair
module _ (r t : code.Transfer) (o w : ℕ) (ts : List Transfer) (found : transfer_of t ≡ transfer_for o w ts) where
  same_pair : r.old ≡ t.old → r.new ≡ t.new → (r.old ≡ o) × (r.new ≡ w)
  unfolding transfer_of
  same_pair e f = (e ∙ ap (λ (u : Transfer). u.old) found ∙ found_old o w ts, f ∙ ap (λ (u : Transfer). u.new) found ∙ found_new o w ts)

  pub kept_pair : (q : List ℕ) → transfer_of r ≡ keeps (transfer_of t) q → (r.old ≡ o) × (r.new ≡ w)
  unfolding transfer_of keeps
  kept_pair q e = same_pair (ap (λ (u : Transfer). u.old) e) (ap (λ (u : Transfer). u.new) e)

  pub gathered-pair : (from : ℕ) (p : Pair) (u : ℕ) → transfer_of r ≡ gathers (transfer_of t) from p u → (r.old ≡ o) × (r.new ≡ w)
  unfolding transfer_of gathers
  gathered-pair from p u e = same_pair (ap (λ (u : Transfer). u.old) e) (ap (λ (u : Transfer). u.new) e)

-- ---- the plans that are made

pub plan_is : (next : Part) (ss : List code-sending.Sending) (e : code-event.Event)
    → plan_of (Ok (plan_of_all next ss e)) ≡ planned no_relay (does (part_of next) (map sending_of ss) (event_of e))
unfolding plan_of
plan_is next ss e = plan_says part_of no_relay next ss e

-- ---- an install: a plan is no refusal, so what is sent first goes before what the rule sends

number_pos : (x : Refusal) → 0 < number x
number_pos bad_world = lit< tt
number_pos bad_step = lit< tt
number_pos empty = lit< tt
number_pos dead = lit< tt
number_pos not_now = lit< tt
number_pos not_yet = lit< tt
number_pos worn = lit< tt
number_pos no_room = lit< tt

pub first_answer : {p : Plan Part} (s : code-sending.Sending) (later : Plan Part) (x : Answer Relay)
    → p ≡ plan_of_all later.next (s ∷ later.sends.of) later.event
    → plan_of (Ok later) ≡ planned no_relay x → plan_of (Ok p) ≡ planned no_relay (sent_first (sending_of s ∷ []) x)
unfolding plan_of planned
first_answer s later (does a ss e) h k = rw h (first_says part_of no_relay s later a ss e k)
first_answer s later (refused x) h k = absurd (omega (arith, number_pos x, ap (λ (q : Planned Relay). q.answer) k))

pub sent-none : (a : Answer Relay) → sent_first [] a ≡ a
sent-none (refused x) = refl
sent-none (does r ss e) = refl

pub stopped_shows : (b : Bool) (r : Relay) (o w : ℕ) → shows_both o w r ≡ true
    → shows_both o w (if b then with_active r false else r) ≡ true
unfolding with_active
stopped_shows true r o w e = e
stopped_shows false r o w e = e

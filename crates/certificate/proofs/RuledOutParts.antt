-- Wrong programs that the promises rule out: layout, messages, generator, relay and desk. Where a promise speaks of what a result means, so does the wrong
-- program. Assumes nothing.
use Rattle.std.specs.Prelude.{None, if◌then◌else◌}
use mathlib.Core.Path.{◌≡◌}
use mathlib.Core.Bool.{Bool, true, false, not}
use mathlib.Core.List.{List, [], ◌∷◌}
use Prim.Native.Nat.{ℕ, ◌+◌, ◌-◌, ◌%◌}
use lib.Bits.{bit_and}
use lib.Count.{ones, ones_in}
use lib.Dec.{T, eqb, leb}
use lib.ListN.{length, get_or, replicate}
use Rattle.views.specs.View.{member_of, quorum_of, reaches_of, inside_of, clash_of}
use Rattle.views.specs.Chain.{some, same_of, plus_of, union_of, heard_of}
use Rattle.views.specs.Row.{views_of, row_of}
use Rattle.views.specs.declared.Sequence.{Sequence}
use Rattle.stamps.specs.Stamp.{sign_of, compared_of, greater_of, greatest_of, fresh_pair}
use Rattle.stamps.specs.Stamp as stamps
use Rattle.stamps.specs.declared.Pair.{Pair}
use Rattle.rules.specs.Sets.{joins, members, joined, all}
use Rattle.rules.specs.Messages as rules
use Rattle.rules.specs.State.{no_relay, no_desk, with_holds, with_generators}
use Rattle.rules.specs.State as state
use Rattle.rules.specs.Generators as generators
use Rattle.rules.specs.Relays as relays
use Rattle.rules.specs.Desks.{cleared}
use Rattle.rules.specs.Desks as desks
use Rattle.layout.specs.Kinds.{number_of_kind, kind_of}
use Rattle.layout.specs.declared.MessageKind.{MessageKind}
use Rattle.layout.specs.declared.MessageKind.TheVariants.{Request, View}
use Rattle.layout.specs.contracts.MessageKindPartialEq.TheImpl.{ghosts as message_kind_partial_eq}
use Rattle.layout.specs.Image.{phase_number, body_row, body_in}
use Rattle.rules.specs.declared.Desk.{Desk}
use Rattle.rules.specs.declared.Phase.{Phase}
use Rattle.rules.specs.declared.Phase.TheVariants.{Idle, Read1}
use Rattle.state.specs.declared.Notes.{Notes}
use Rattle.state.specs.declared.Generator.{Generator}
use Rattle.state.specs.declared.Part.{Part}
use Rattle.state.specs.declared.Body.{Body}
use Rattle.state.specs.declared.Sending.{Sending}
use Rattle.state.specs.declared.Sendings.{Sendings}
use Rattle.state.specs.declared.Event.{Event}
use Rattle.state.specs.declared.Event.TheVariants.{Nothing, Opened, ReadDone, WriteDone}
use Rattle.state.specs.declared.Plan.{Plan}
use Rattle.state.specs.Meaning.{notes_of, generator_of, relay_of, part_of, body_of}
use Rattle.state.specs.Plans.{no_sending, padded, Turned, turned, Planned, planned}
use Rattle.messages.specs.Made.{blank_of, made_with, made, send_to, to_nobody, all_sent, one_of, plan_of_all}
use Rattle.generator.specs.Heard.{merged_in_row, hears_in_row, heard_in_row}
use Rattle.generator.specs.Rows.{no_notes, fresh_row, noted_row}
use Rattle.relay.specs.Fitting.{fitting, join_answer, timer_answer, hears_answer}
use Rattle.relay.specs.Fitting as fit
use Rattle.desk.specs.Replies.{reply_noted}
use Rattle.certificate.proofs.Differ.{differ, itself, truth}
use Rattle.certificate.proofs.Typed.{in_u16, in_u32, in_u8, in_Body, in_Desk, in_Event, in_Generator, in_Notes, in_Pair, in_Part, in_Sequence}
use Rattle.certificate.proofs.Typed.{anything, in_Plan, in_Sending, in_Sendings}

-- ---- layout

pub layout_number_counted_from_zero : ¬ ((self : MessageKind) → number_of_kind self - 1 ≡ number_of_kind self)
layout_number_counted_from_zero p = differ itself (p Request) tt

pub layout_number_of_an_acknowledgement : ¬ ((self : MessageKind) → 11 ≡ number_of_kind self)
layout_number_of_an_acknowledgement p = differ itself (p Request) tt

pub layout_message_kind_from_a_request_of_no_kind : ¬ ((number : ℕ) → T (in_u8 number)
    → (if eqb number 0 then Request else kind_of number) ≡ kind_of number)
unfolding kind_of
layout_message_kind_from_a_request_of_no_kind p = differ number_of_kind (p 0 tt) tt

pub layout_message_kind_from_the_next : ¬ ((number : ℕ) → T (in_u8 number) → kind_of (number + 1) ≡ kind_of number)
unfolding kind_of
layout_message_kind_from_the_next p = differ number_of_kind (p 1 tt) tt

pub layout_message_kind_eq_always : ¬ ((self other : MessageKind) → true ≡ message_kind_partial_eq.eq self other)
layout_message_kind_eq_always p = differ truth (p Request View) tt

pub layout_message_kind_eq_of_no_greater_number : ¬ ((self other : MessageKind)
    → leb (number_of_kind self) (number_of_kind other) ≡ message_kind_partial_eq.eq self other)
layout_message_kind_eq_of_no_greater_number p = differ truth (p Request View) tt

-- ---- messages; the fields of a body, and a body with another

abbrev kind : Body → ℕ
kind b = b.kind

abbrev about : Body → ℕ
about b = b.first

abbrev tries : Body → ℕ
tries b = b.tries

abbrev many : Body → ℕ
many b = b.sequence.len

abbrev value : Body → ℕ
value b = b.pair.value

abbrev updates : Body → ℕ
updates b = b.updates

abbrev of_kind : ℕ → Body → Body
of_kind n b = record { kind = n; first = b.first; second = b.second; tries = b.tries; sequence = b.sequence; pair = b.pair; updates = b.updates }

abbrev with_sequence : Sequence → Body → Body
with_sequence q b = record { kind = b.kind; first = b.first; second = b.second; tries = b.tries; sequence = q; pair = b.pair; updates = b.updates }

abbrev pair : Pair
pair = record { stamp = record { count = 1; desk = 0 }; value = 77 }

pub messages_request_exchanged : ¬ ((u c : ℕ) → T (in_u16 u) → T (in_u16 c) → made (rules.request c u) ≡ made (rules.request u c))
unfolding made_with
messages_request_exchanged p = differ updates (p 2 1 tt tt) tt

pub messages_request_for_the_view_it_gives : ¬ ((u c : ℕ) → T (in_u16 u) → T (in_u16 c) → made (rules.request u (u + c)) ≡ made (rules.request u c))
unfolding made_with
messages_request_for_the_view_it_gives p = differ about (p 2 1 tt tt) tt

pub messages_view_of_the_members : ¬ ((v : ℕ) → T (in_u16 v) → made (rules.view (members v)) ≡ made (rules.view v))
unfolding made_with
messages_view_of_the_members p = differ about (p 257 tt) tt

pub messages_view_as_a_reply : ¬ ((v : ℕ) → T (in_u16 v) → made (rules.view_reply 0 v) ≡ made (rules.view v))
unfolding made_with
messages_view_as_a_reply p = differ kind (p 1 tt) tt

pub messages_proposal_as_converged : ¬ ((v : ℕ) (q : Sequence) → T (in_u16 v) → T (in_Sequence q)
    → made_with q (rules.converged v (views_of q)) ≡ made_with q (rules.proposal v (views_of q)))
unfolding made_with views_of row_of
messages_proposal_as_converged p = differ kind (p 1 (row_of (3 ∷ [])) tt tt) tt

pub messages_proposal_without_its_views : ¬ ((v : ℕ) (q : Sequence) → T (in_u16 v) → T (in_Sequence q)
    → made (rules.proposal v (views_of q)) ≡ made_with q (rules.proposal v (views_of q)))
unfolding made_with views_of row_of
messages_proposal_without_its_views p = differ many (p 1 (row_of (3 ∷ 7 ∷ [])) tt tt) tt

pub messages_converged_as_proposal : ¬ ((v : ℕ) (q : Sequence) → T (in_u16 v) → T (in_Sequence q)
    → made_with q (rules.proposal v (views_of q)) ≡ made_with q (rules.converged v (views_of q)))
unfolding made_with views_of row_of
messages_converged_as_proposal p = differ kind (p 1 (row_of (3 ∷ [])) tt tt) tt

pub messages_converged_for_no_view : ¬ ((v : ℕ) (q : Sequence) → T (in_u16 v) → T (in_Sequence q)
    → made_with q (rules.converged 0 (views_of q)) ≡ made_with q (rules.converged v (views_of q)))
unfolding made_with views_of row_of
messages_converged_for_no_view p = differ about (p 1 (row_of (3 ∷ [])) tt tt) tt

pub messages_install_exchanged : ¬ ((o w : ℕ) (q : Sequence) → T (in_u16 o) → T (in_u16 w) → T (in_Sequence q)
    → made_with q (rules.install w o (views_of q)) ≡ made_with q (rules.install o w (views_of q)))
unfolding made_with views_of row_of
messages_install_exchanged p = differ about (p 1 3 (row_of (3 ∷ [])) tt tt tt) tt

pub messages_install_without_its_views : ¬ ((o w : ℕ) (q : Sequence) → T (in_u16 o) → T (in_u16 w) → T (in_Sequence q)
    → made (rules.install o w (views_of q)) ≡ made_with q (rules.install o w (views_of q)))
unfolding made_with views_of row_of
messages_install_without_its_views p = differ many (p 1 3 (row_of (3 ∷ [])) tt tt tt) tt

pub messages_state_without_its_pair : ¬ ((o w : ℕ) (p : Pair) (updates : ℕ) → T (in_u16 o) → T (in_u16 w) → T (in_Pair p) → T (in_u16 updates)
    → made (rules.state o w fresh_pair updates) ≡ made (rules.state o w p updates))
unfolding made_with
messages_state_without_its_pair p = differ value (p 1 3 pair 4 tt tt tt tt) tt

pub messages_state_without_updates : ¬ ((o w : ℕ) (p : Pair) (updates : ℕ) → T (in_u16 o) → T (in_u16 w) → T (in_Pair p) → T (in_u16 updates)
    → made (rules.state o w p 0) ≡ made (rules.state o w p updates))
unfolding made_with
messages_state_without_updates p = differ updates (p 1 3 pair 4 tt tt tt tt) tt

pub messages_get_of_the_next_try : ¬ ((tries c : ℕ) → T (in_u16 tries) → T (in_u16 c) → made (rules.get (tries + 1) c) ≡ made (rules.get tries c))
unfolding made_with
messages_get_of_the_next_try p = differ tries (p 5 1 tt tt) tt

pub messages_get_exchanged : ¬ ((tries c : ℕ) → T (in_u16 tries) → T (in_u16 c) → made (rules.get c tries) ≡ made (rules.get tries c))
unfolding made_with
messages_get_exchanged p = differ tries (p 5 1 tt tt) tt

pub messages_put_as_get : ¬ ((tries c : ℕ) (p : Pair) → T (in_u16 tries) → T (in_u16 c) → T (in_Pair p) → made (rules.get tries c) ≡ made (rules.put tries c p))
unfolding made_with
messages_put_as_get p = differ kind (p 5 1 pair tt tt tt) tt

pub messages_put_without_its_pair : ¬ ((tries c : ℕ) (p : Pair) → T (in_u16 tries) → T (in_u16 c) → T (in_Pair p)
    → made (rules.put tries c fresh_pair) ≡ made (rules.put tries c p))
unfolding made_with
messages_put_without_its_pair p = differ value (p 5 1 pair tt tt tt) tt

pub messages_view_reply_as_a_view : ¬ ((tries v : ℕ) → T (in_u16 tries) → T (in_u16 v) → made (rules.view v) ≡ made (rules.view_reply tries v))
unfolding made_with
messages_view_reply_as_a_view p = differ kind (p 5 1 tt tt) tt

pub messages_view_reply_of_no_try : ¬ ((tries v : ℕ) → T (in_u16 tries) → T (in_u16 v) → made (rules.view_reply 0 v) ≡ made (rules.view_reply tries v))
unfolding made_with
messages_view_reply_of_no_try p = differ tries (p 5 1 tt tt) tt

pub messages_pair_reply_as_ack : ¬ ((tries : ℕ) (p : Pair) → T (in_u16 tries) → T (in_Pair p) → made (rules.ack tries) ≡ made (rules.pair_reply tries p))
unfolding made_with
messages_pair_reply_as_ack p = differ kind (p 5 pair tt tt) tt

pub messages_pair_reply_without_its_pair : ¬ ((tries : ℕ) (p : Pair) → T (in_u16 tries) → T (in_Pair p)
    → made (rules.pair_reply tries fresh_pair) ≡ made (rules.pair_reply tries p))
unfolding made_with
messages_pair_reply_without_its_pair p = differ value (p 5 pair tt tt) tt

pub messages_ack_of_no_try : ¬ ((tries : ℕ) → T (in_u16 tries) → made (rules.ack 0) ≡ made (rules.ack tries))
unfolding made_with
messages_ack_of_no_try p = differ tries (p 5 tt) tt

pub messages_ack_as_a_pair : ¬ ((tries : ℕ) → T (in_u16 tries) → made (rules.pair_reply tries fresh_pair) ≡ made (rules.ack tries))
unfolding made_with
messages_ack_as_a_pair p = differ kind (p 5 tt) tt

pub messages_ack_of_kind_0 : ¬ ((tries : ℕ) → T (in_u16 tries) → of_kind 0 (made (rules.ack tries)) ≡ made (rules.ack tries))
unfolding made_with
messages_ack_of_kind_0 p = differ kind (p 5 tt) tt

-- a view message with two fields that its kind does not say
abbrev unclean : Body
unclean = record { kind = 2; first = 1; second = 0; tries = 0; sequence = row_of (3 ∷ []); pair = fresh_pair; updates = 9 }

pub messages_plain_as_it_is : ¬ ((b : Body) → T (in_Body b) → b ≡ made_with b.sequence (body_of b))
unfolding made_with body_of body_in kind_of row_of
messages_plain_as_it_is p = differ updates (p unclean tt) tt

pub messages_plain_with_a_sequence_always : ¬ ((b : Body) → T (in_Body b)
    → with_sequence b.sequence (made_with b.sequence (body_of b)) ≡ made_with b.sequence (body_of b))
unfolding made_with body_of body_in kind_of row_of
messages_plain_with_a_sequence_always p = differ many (p unclean tt) tt

pub messages_plain_emptied : ¬ ((b : Body) → T (in_Body b) → made (rules.ack 0) ≡ made_with b.sequence (body_of b))
unfolding made_with body_of body_in kind_of row_of
messages_plain_emptied p = differ kind (p unclean tt) tt

abbrev receivers : Sending → ℕ
receivers s = s.receivers

pub messages_no_sending_of_a_view : ¬ (send_to 0 (made (rules.view 0)) ≡ to_nobody)
unfolding made_with
messages_no_sending_of_a_view p = differ (λ (s : Sending). kind s.body) p tt

pub messages_no_sending_to_relay_0 : ¬ (send_to (one_of 0) (made (rules.ack 0)) ≡ to_nobody)
messages_no_sending_to_relay_0 p = differ receivers p tt

pub messages_to_members_who_left_too : ¬ ((v : ℕ) (body : Body) → T (in_u16 v) → T (in_Body body) → send_to (v % 256) body ≡ send_to (members v) body)
unfolding row_of blank_of
messages_to_members_who_left_too p = differ receivers (p 257 (blank_of 11) tt tt) tt

pub messages_to_members_to_nobody : ¬ ((v : ℕ) (body : Body) → T (in_u16 v) → T (in_Body body) → send_to 0 body ≡ send_to (members v) body)
unfolding row_of blank_of
messages_to_members_to_nobody p = differ receivers (p 3 (blank_of 11) tt tt) tt

pub messages_to_members_another_body : ¬ ((v : ℕ) (body : Body) → T (in_u16 v) → T (in_Body body)
    → send_to (members v) (blank_of body.kind) ≡ send_to (members v) body)
unfolding made_with blank_of row_of
messages_to_members_another_body p = differ (λ (s : Sending). tries s.body) (p 3 (made (rules.ack 5)) tt tt) tt

pub messages_to_both_to_old_members_only : ¬ ((v w : ℕ) (body : Body) → T (in_u16 v) → T (in_u16 w) → T (in_Body body)
    → send_to (members v) body ≡ send_to (joined (members v) (members w)) body)
unfolding row_of blank_of
messages_to_both_to_old_members_only p = differ receivers (p 1 3 (blank_of 11) tt tt tt) tt

pub messages_to_both_who_are_in_both : ¬ ((v w : ℕ) (body : Body) → T (in_u16 v) → T (in_u16 w) → T (in_Body body)
    → send_to (bit_and (members v) (members w)) body ≡ send_to (joined (members v) (members w)) body)
unfolding row_of blank_of
messages_to_both_who_are_in_both p = differ receivers (p 1 3 (blank_of 11) tt tt tt) tt

pub messages_to_one_number_as_a_set : ¬ ((s : ℕ) (body : Body) → T (in_u8 s) → T (in_Body body) → send_to s body ≡ send_to (one_of s) body)
unfolding row_of blank_of
messages_to_one_number_as_a_set p = differ receivers (p 0 (blank_of 11) tt tt) tt

pub messages_to_one_to_all : ¬ ((s : ℕ) (body : Body) → T (in_u8 s) → T (in_Body body) → send_to (members 255) body ≡ send_to (one_of s) body)
unfolding row_of blank_of
messages_to_one_to_all p = differ receivers (p 0 (blank_of 11) tt tt) tt

-- to whom the entry i of these is sent
abbrev sent_at : ℕ → Sendings → ℕ
sent_at i x = (get_or x.of i to_nobody).receivers

abbrev to_first : Sending
to_first = send_to 1 (blank_of 11)

pub messages_nothing_sent_but_to_relay_0 : ¬ (all_sent (send_to (one_of 0) (made (rules.ack 0)) ∷ []) ≡ all_sent [])
unfolding all_sent padded
messages_nothing_sent_but_to_relay_0 p = differ (sent_at 0) p tt

pub messages_nothing_sent_of_a_view : ¬ (all_sent (send_to 0 (made (rules.view 0)) ∷ []) ≡ all_sent [])
unfolding all_sent padded made_with
messages_nothing_sent_of_a_view p = differ (λ (x : Sendings). kind (get_or x.of 0 to_nobody).body) p tt

pub messages_sent_before_without_the_rest : ¬ ((s : Sending) (rest : Sendings) → T (in_Sending s) → T (in_Sendings rest)
    → all_sent (s ∷ []) ≡ all_sent (s ∷ rest.of))
unfolding row_of blank_of made_with all_sent padded
messages_sent_before_without_the_rest p = differ (sent_at 1) (p to_nobody (all_sent (to_first ∷ [])) tt tt) tt

pub messages_sent_before_not_sent : ¬ ((s : Sending) (rest : Sendings) → T (in_Sending s) → T (in_Sendings rest) → rest ≡ all_sent (s ∷ rest.of))
unfolding row_of blank_of made_with all_sent padded
messages_sent_before_not_sent p = differ (sent_at 0) (p to_first (all_sent []) tt tt) tt

pub messages_one_sent_twice : ¬ ((s : Sending) → T (in_Sending s) → all_sent (s ∷ s ∷ []) ≡ all_sent (s ∷ []))
unfolding row_of blank_of made_with all_sent padded
messages_one_sent_twice p = differ (sent_at 1) (p to_first tt) tt

pub messages_one_sent_to_nobody : ¬ ((s : Sending) → T (in_Sending s) → all_sent [] ≡ all_sent (s ∷ []))
unfolding row_of blank_of made_with all_sent padded
messages_one_sent_to_nobody p = differ (sent_at 0) (p to_first tt) tt

-- of a plan, whatever is so next: to whom its entry i is sent, and the event
abbrev planned_to : {A : Type 0} → ℕ → Plan A → ℕ
planned_to i x = sent_at i x.sends

abbrev event_number : Event → ℕ
event_number Nothing = 0
event_number (Opened v) = 1
event_number (ReadDone p) = 2
event_number (WriteDone p) = 3

abbrev happens : {A : Type 0} → Plan A → ℕ
happens x = event_number x.event

pub messages_tells_of_nothing : ¬ ((A : Type 0) (next : A) (event : Event) → T (in_Event event) → plan_of_all next [] Nothing ≡ plan_of_all next [] event)
unfolding all_sent padded row_of blank_of made_with plan_of_all
messages_tells_of_nothing p = differ happens (p ℕ 5 (Opened 1) tt) tt

pub messages_tells_and_sends : ¬ ((A : Type 0) (next : A) (event : Event) → T (in_Event event)
    → plan_of_all next (to_first ∷ []) event ≡ plan_of_all next [] event)
unfolding all_sent padded row_of blank_of made_with plan_of_all
messages_tells_and_sends p = differ (planned_to 0) (p ℕ 5 Nothing tt) tt

pub messages_quietly_opened : ¬ ((A : Type 0) (next : A) → plan_of_all next [] (Opened 1) ≡ plan_of_all next [] Nothing)
unfolding all_sent padded row_of blank_of made_with plan_of_all
messages_quietly_opened p = differ happens (p ℕ 5) tt

pub messages_quietly_and_sends : ¬ ((A : Type 0) (next : A) → plan_of_all next (to_first ∷ []) Nothing ≡ plan_of_all next [] Nothing)
unfolding all_sent padded row_of blank_of made_with plan_of_all
messages_quietly_and_sends p = differ (planned_to 0) (p ℕ 5) tt

pub messages_sends_not_at_all : ¬ ((A : Type 0) (next : A) (s : Sending) → T (in_Sending s) → plan_of_all next [] Nothing ≡ plan_of_all next (s ∷ []) Nothing)
unfolding all_sent padded row_of blank_of made_with plan_of_all
messages_sends_not_at_all p = differ (planned_to 0) (p ℕ 5 to_first tt) tt

pub messages_sends_twice : ¬ ((A : Type 0) (next : A) (s : Sending) → T (in_Sending s)
    → plan_of_all next (s ∷ s ∷ []) Nothing ≡ plan_of_all next (s ∷ []) Nothing)
unfolding all_sent padded row_of blank_of made_with plan_of_all
messages_sends_twice p = differ (planned_to 1) (p ℕ 5 to_first tt) tt

pub messages_sent_first_not_sent : ¬ ((A : Type 0) (s : Sending) (later : Plan A) → T (in_Sending s) → T (in_Plan anything later)
    → later ≡ plan_of_all later.next (s ∷ later.sends.of) later.event)
unfolding all_sent padded row_of blank_of made_with plan_of_all
messages_sent_first_not_sent p = differ (planned_to 0) (p ℕ to_first (plan_of_all 5 [] Nothing) tt tt) tt

pub messages_sent_first_without_the_rest : ¬ ((A : Type 0) (s : Sending) (later : Plan A) → T (in_Sending s) → T (in_Plan anything later)
    → plan_of_all later.next (s ∷ []) later.event ≡ plan_of_all later.next (s ∷ later.sends.of) later.event)
unfolding all_sent padded row_of blank_of made_with plan_of_all
messages_sent_first_without_the_rest p = differ (planned_to 1) (p ℕ to_nobody (plan_of_all 5 (to_first ∷ []) Nothing) tt tt) tt

pub messages_sent_first_of_nothing : ¬ ((A : Type 0) (s : Sending) (later : Plan A) → T (in_Sending s) → T (in_Plan anything later)
    → plan_of_all later.next (s ∷ later.sends.of) Nothing ≡ plan_of_all later.next (s ∷ later.sends.of) later.event)
unfolding all_sent padded row_of blank_of made_with plan_of_all
messages_sent_first_of_nothing p = differ happens (p ℕ to_first (plan_of_all 5 [] (Opened 1)) tt tt) tt

-- ---- generator

-- relay 1 alone has noted {3}
abbrev note_of_one : Notes
note_of_one = record { of = row_of [] ∷ row_of (3 ∷ []) ∷ replicate 6 (row_of []) }

-- the generator for v, with this own and this last raised sequence, and nothing else
abbrev generator : ℕ → List ℕ → List ℕ → Generator
generator v own raised = record { view = v; own = row_of own; converged = row_of []; raised = row_of raised; proposals = no_notes; convergences = no_notes }

pub generator_fresh_of_no_view : ¬ ((v : ℕ) → T (in_u16 v) → fresh_row 0 ≡ fresh_row v)
unfolding fresh_row
generator_fresh_of_no_view p = differ (λ (g : Generator). g.view) (p 1 tt) tt

pub generator_fresh_proposes_its_view : ¬ ((v : ℕ) → T (in_u16 v) → generator v (v ∷ []) [] ≡ fresh_row v)
unfolding fresh_row row_of
generator_fresh_proposes_its_view p = differ (λ (g : Generator). g.own.len) (p 1 tt) tt

abbrev of_zero : Notes → ℕ
of_zero n = (get_or n.of 0 (row_of [])).len

pub generator_noted_for_the_next : ¬ ((n : Notes) (from : ℕ) (q : Sequence) → T (in_Notes n) → T (in_u8 from) → T (in_Sequence q)
    → noted_row n (from + 1) q ≡ noted_row n from q)
unfolding noted_row row_of
generator_noted_for_the_next p = differ of_zero (p no_notes 0 (row_of (3 ∷ [])) tt tt tt) tt

pub generator_noted_not_at_all : ¬ ((n : Notes) (from : ℕ) (q : Sequence) → T (in_Notes n) → T (in_u8 from) → T (in_Sequence q) → n ≡ noted_row n from q)
unfolding noted_row row_of
generator_noted_not_at_all p = differ of_zero (p no_notes 0 (row_of (3 ∷ [])) tt tt tt) tt

pub generator_agreeing_how_many : ¬ ((n : Notes) (q : Sequence) → T (in_Notes n) → T (in_Sequence q)
    → ones (generators.agreeing (notes_of n) (views_of q)) ≡ generators.agreeing (notes_of n) (views_of q))
unfolding notes_of views_of row_of same_of generators.agreeing ones ones_in
generator_agreeing_how_many p = differ itself (p note_of_one (row_of (3 ∷ [])) tt tt) tt

pub generator_agreeing_everybody : ¬ ((n : Notes) (q : Sequence) → T (in_Notes n) → T (in_Sequence q) → 255 ≡ generators.agreeing (notes_of n) (views_of q))
unfolding notes_of views_of row_of same_of generators.agreeing
generator_agreeing_everybody p = differ itself (p note_of_one (row_of (3 ∷ [])) tt tt) tt

pub generator_agree_by_one : ¬ ((v : ℕ) (n : Notes) (q : Sequence) → T (in_u16 v) → T (in_Notes n) → T (in_Sequence q)
    → not (eqb (generators.agreeing (notes_of n) (views_of q)) 0) ≡ generators.agree v (notes_of n) (views_of q))
unfolding notes_of views_of row_of same_of generators.agreeing ones ones_in reaches_of
generator_agree_by_one p = differ truth (p 3 note_of_one (row_of (3 ∷ [])) tt tt tt) tt

pub generator_agree_by_others_too : ¬ ((v : ℕ) (n : Notes) (q : Sequence) → T (in_u16 v) → T (in_Notes n) → T (in_Sequence q)
    → leb (quorum_of v) (ones (generators.agreeing (notes_of n) (views_of q))) ≡ generators.agree v (notes_of n) (views_of q))
unfolding notes_of views_of row_of same_of generators.agreeing ones ones_in reaches_of
generator_agree_by_others_too p = differ truth (p 1 note_of_one (row_of (3 ∷ [])) tt tt tt) tt

-- what is sent first
abbrev first_of : List rules.Sending → rules.Sending
first_of ss = get_or ss 0 no_sending

abbrev first_to : Turned → ℕ
first_to t = (first_of t.sendings).receivers

pub generator_proposes_though_it_has : ¬ ((g : Generator) (q : Sequence) → T (in_Generator g) → T (in_Sequence q)
    → turned (record { next = generators.with_own (generator_of g) (views_of q); sendings = rules.to_members g.view (rules.proposal g.view (views_of q)) ∷ [] }) ≡ turned (generators.proposes (generator_of g) (views_of q)))
unfolding generator_of notes_of views_of row_of generators.proposes generators.with_own turned padded
generator_proposes_though_it_has p = differ first_to (p (generator 1 (3 ∷ []) []) (row_of (7 ∷ [])) tt tt) tt

pub generator_proposes_in_silence : ¬ ((g : Generator) (q : Sequence) → T (in_Generator g) → T (in_Sequence q)
    → turned (record { next = generators.with_own (generator_of g) (views_of q); sendings = [] }) ≡ turned (generators.proposes (generator_of g) (views_of q)))
unfolding generator_of notes_of views_of row_of generators.proposes generators.with_own turned padded
generator_proposes_in_silence p = differ first_to (p (generator 1 [] []) (row_of (7 ∷ [])) tt tt) tt

pub generator_proposal_heard_without_settling : ¬ ((g : Generator) (from : ℕ) (q : Sequence) → T (in_Generator g) → T (in_u8 from) → T (in_Sequence q)
    → turned (hears_in_row (generator_of g) from (views_of q)) ≡ turned (heard_in_row (generator_of g) from (views_of q)))
unfolding generator_of notes_of views_of row_of some inside_of clash_of plus_of union_of heard_of same_of ones ones_in reaches_of generators.with_own generators.agreeing generators.hears generators.settles merged_in_row hears_in_row heard_in_row turned padded
generator_proposal_heard_without_settling p = differ (λ (t : Turned). length t.next.converged) (p (generator 1 [] []) 0 (row_of (3 ∷ [])) tt tt tt) tt

pub generator_proposal_heard_without_a_note : ¬ ((g : Generator) (from : ℕ) (q : Sequence) → T (in_Generator g) → T (in_u8 from) → T (in_Sequence q)
    → turned (heard_in_row (generator_of g) 8 (views_of q)) ≡ turned (heard_in_row (generator_of g) from (views_of q)))
unfolding generator_of notes_of views_of row_of some inside_of clash_of plus_of union_of heard_of same_of ones ones_in reaches_of generators.with_own generators.agreeing generators.hears generators.settles merged_in_row hears_in_row heard_in_row turned padded
generator_proposal_heard_without_a_note p = differ (λ (t : Turned). length (get_or t.next.proposals 0 [])) (p (generator 1 [] []) 0 (row_of (3 ∷ [])) tt tt tt) tt

pub generator_converged_heard_without_raising : ¬ ((g : Generator) (from : ℕ) (q : Sequence) → T (in_Generator g) → T (in_u8 from) → T (in_Sequence q)
    → turned (record { next = generators.notes_converged (generator_of g) from (views_of q); sendings = [] }) ≡ turned (generators.converged_heard (generator_of g) from (views_of q)))
unfolding generator_of notes_of views_of row_of same_of ones ones_in reaches_of generators.agreeing generators.notes_converged generators.raises generators.converged_heard turned padded
generator_converged_heard_without_raising p = differ first_to (p (generator 1 [] []) 0 (row_of (3 ∷ [])) tt tt tt) tt

pub generator_converged_heard_raised_again : ¬ ((g : Generator) (from : ℕ) (q : Sequence) → T (in_Generator g) → T (in_u8 from) → T (in_Sequence q)
    → turned (generators.converged_heard (generators.raises (generator_of g) []) from (views_of q)) ≡ turned (generators.converged_heard (generator_of g) from (views_of q)))
unfolding generator_of notes_of views_of row_of same_of ones ones_in reaches_of generators.agreeing generators.notes_converged generators.raises generators.converged_heard turned padded
generator_converged_heard_raised_again p = differ first_to (p (generator 1 [] (3 ∷ [])) 0 (row_of (3 ∷ [])) tt tt tt) tt

-- ---- relay

-- a relay that has entered the view or none, with this known view and these pending updates, and nothing else
abbrev part : Bool → ℕ → ℕ → ℕ → Part
part entered view known pending =
    record {
      head = record { alive = true; entered = entered; active = entered; view = view; known = known; pending = pending; holds = fresh_pair };
      generator = None;
      transfer = None;
    }

abbrev answer : {A : Type 0} → Planned A → ℕ
answer p = p.answer

abbrev sent_to : {A : Type 0} → Planned A → ℕ
sent_to p = (first_of p.sendings).receivers

pub relay_join_asked_refused_always : ¬ ((s : ℕ) (p : Part) → T (in_u8 s) → T (in_Part p)
    → planned no_relay (rules.refused rules.not_now) ≡ planned no_relay (join_answer s (part_of p)))
unfolding part_of relay_of join_answer relays.join_asked planned padded row_of
relay_join_asked_refused_always p = differ answer (p 1 (part false 0 1 0) tt tt) tt

pub relay_join_asked_nothing_sent : ¬ ((s : ℕ) (p : Part) → T (in_u8 s) → T (in_Part p)
    → planned no_relay (rules.quietly (part_of p)) ≡ planned no_relay (join_answer s (part_of p)))
unfolding part_of relay_of join_answer relays.join_asked planned padded row_of
relay_join_asked_nothing_sent p = differ sent_to (p 1 (part false 0 1 0) tt tt) tt

pub relay_leave_asked_by_anyone : ¬ ((s : ℕ) (p : Part) → T (in_u8 s) → T (in_Part p)
    → planned no_relay (rules.sends (part_of p) (rules.to_members (part_of p).view (rules.request (joins (8 + s)) (part_of p).view) ∷ [])) ≡ planned no_relay (relays.leave_asked s (part_of p)))
unfolding part_of relay_of member_of relays.leave_asked planned padded row_of
relay_leave_asked_by_anyone p = differ answer (p 1 (part false 0 1 0) tt tt) tt

pub relay_leave_asked_as_a_join : ¬ ((s : ℕ) (p : Part) → T (in_u8 s) → T (in_Part p)
    → planned no_relay (rules.sends (part_of p) (rules.to_members (part_of p).view (rules.request (joins s) (part_of p).view) ∷ [])) ≡ planned no_relay (relays.leave_asked s (part_of p)))
unfolding part_of relay_of member_of relays.leave_asked planned padded row_of
relay_leave_asked_as_a_join p = differ (λ (x : Planned state.Relay). (body_row 0 0 (first_of x.sendings).body).updates) (p 0 (part true 1 1 0) tt tt) tt

pub relay_timer_rang_refused_always : ¬ ((p : Part) → T (in_Part p) → planned no_relay (rules.refused rules.not_now) ≡ planned no_relay (timer_answer (part_of p)))
unfolding part_of relay_of views_of row_of all timer_answer relays.timer_rang relays.at_generator generators.fresh generators.generator_for generators.put_generator generators.with_own generators.proposes with_generators planned padded
relay_timer_rang_refused_always p = differ answer (p (part true 1 1 2) tt) tt

pub relay_timer_rang_nothing_pending : ¬ ((p : Part) → T (in_Part p)
    → planned no_relay (relays.at_generator (part_of p) (generators.proposes (generators.generator_for (part_of p).view (part_of p).generators) ((part_of p).view ∷ []))) ≡ planned no_relay (timer_answer (part_of p)))
unfolding part_of relay_of views_of row_of all timer_answer relays.timer_rang relays.at_generator generators.fresh generators.generator_for generators.put_generator generators.with_own generators.proposes with_generators planned padded
relay_timer_rang_nothing_pending p = differ answer (p (part true 1 1 0) tt) tt

-- a Get and a Put of try 5 for view 1
abbrev get : Body
get = record { kind = 7; first = 1; second = 0; tries = 5; sequence = row_of []; pair = fresh_pair; updates = 0 }

abbrev put : Body
put = record { kind = 8; first = 1; second = 0; tries = 5; sequence = row_of []; pair = pair; updates = 0 }

pub relay_hears_refused_always : ¬ ((s : ℕ) (p : Part) (from : ℕ) (b : Body) → T (in_u8 s) → T (in_Part p) → T (in_u8 from) → T (in_Body b)
    → planned no_relay (rules.refused rules.not_yet) ≡ planned no_relay (hears_answer s (part_of p) from (body_of b)))
unfolding part_of relay_of body_of body_in kind_of views_of row_of inside_of fitting fit.hears_in_row hears_answer
    relays.relay_hears relays.get_heard planned padded
relay_hears_refused_always p = differ answer (p 0 (part true 1 1 0) 8 get tt tt tt tt) tt

pub relay_hears_and_does_nothing : ¬ ((s : ℕ) (p : Part) (from : ℕ) (b : Body) → T (in_u8 s) → T (in_Part p) → T (in_u8 from) → T (in_Body b)
    → planned no_relay (rules.quietly (part_of p)) ≡ planned no_relay (hears_answer s (part_of p) from (body_of b)))
unfolding part_of relay_of body_of body_in kind_of views_of row_of inside_of fitting fit.hears_in_row hears_answer
    relays.relay_hears relays.get_heard planned padded
relay_hears_and_does_nothing p = differ sent_to (p 0 (part true 1 1 0) 8 get tt tt tt tt) tt

pub relay_hears_and_acknowledges_only : ¬ ((s : ℕ) (p : Part) (from : ℕ) (b : Body) → T (in_u8 s) → T (in_Part p) → T (in_u8 from) → T (in_Body b)
    → planned no_relay (rules.sends (part_of p) (rules.to_one from (rules.ack b.tries) ∷ [])) ≡ planned no_relay (hears_answer s (part_of p) from (body_of b)))
unfolding part_of relay_of body_of body_in kind_of views_of row_of inside_of sign_of compared_of greater_of greatest_of with_holds fitting
    fit.hears_in_row hears_answer relays.relay_hears relays.put_heard planned padded
relay_hears_and_acknowledges_only p = differ (λ (x : Planned state.Relay). x.next.holds.value) (p 0 (part true 1 1 0) 8 put tt tt tt tt) tt

-- ---- desk

-- a desk of view 1 in this phase and of try 5, to which nobody has replied
abbrev desk : Phase → Desk
desk phase = record { alive = true; view = 1; phase = phase; tries = 5; holds = fresh_pair; replied = 0; best = fresh_pair; agreed = false }

abbrev phased : Planned Desk → ℕ
phased x = phase_number x.next.phase

pub desk_read_asked_refused_always : ¬ ((d : Desk) → T (in_Desk d) → planned no_desk (rules.refused rules.not_now) ≡ planned no_desk (desks.read_asked d))
unfolding desks.begins desks.read_asked planned padded
desk_read_asked_refused_always p = differ answer (p (desk Idle) tt) tt

pub desk_read_asked_of_the_same_try : ¬ ((d : Desk) → T (in_Desk d)
    → planned no_desk (rules.sends (cleared d Read1 d.view fresh_pair d.tries) (rules.to_members d.view (rules.get d.tries d.view) ∷ [])) ≡ planned no_desk (desks.read_asked d))
unfolding desks.begins desks.read_asked planned padded
desk_read_asked_of_the_same_try p = differ (λ (x : Planned Desk). x.next.tries) (p (desk Idle) tt) tt

pub desk_write_asked_without_its_value : ¬ ((d : Desk) (x : ℕ) → T (in_Desk d) → T (in_u32 x)
    → planned no_desk (desks.write_asked d 0) ≡ planned no_desk (desks.write_asked d x))
unfolding desks.begins desks.write_asked planned padded
desk_write_asked_without_its_value p = differ (λ (x : Planned Desk). x.next.holds.value) (p (desk Idle) 77 tt tt) tt

pub desk_write_asked_as_a_read : ¬ ((d : Desk) (x : ℕ) → T (in_Desk d) → T (in_u32 x)
    → planned no_desk (desks.read_asked d) ≡ planned no_desk (desks.write_asked d x))
unfolding desks.begins desks.read_asked desks.write_asked planned padded
desk_write_asked_as_a_read p = differ phased (p (desk Idle) 77 tt tt) tt

-- a reply with stamp and value to this try; a desk of another try
abbrev reply : ℕ → Body
reply try = record { kind = 10; first = 0; second = 0; tries = try; sequence = row_of []; pair = pair; updates = 0 }

abbrev of_try : Desk → ℕ → Desk
of_try d try = record { alive = d.alive; view = d.view; phase = d.phase; tries = try; holds = d.holds; replied = d.replied; best = d.best; agreed = d.agreed }

pub desk_hears_nothing : ¬ ((n : ℕ) (d : Desk) (from : ℕ) (b : Body) → T (in_u8 n) → T (in_Desk d) → T (in_u8 from) → T (in_Body b)
    → planned no_desk (rules.quietly d) ≡ planned no_desk (desks.desk_hears n d from (body_of b)))
unfolding body_of body_in kind_of views_of row_of member_of ones ones_in reaches_of sign_of compared_of greater_of greatest_of stamps.same_of
    desks.notes_pair desks.completes desks.counted desks.pair_came desks.desk_hears planned padded
desk_hears_nothing p = differ phased (p 0 (desk Read1) 0 (reply 5) tt tt tt tt) tt

-- "Letting a reply from an older try complete a quorum."
pub desk_hears_any_try : ¬ ((n : ℕ) (d : Desk) (from : ℕ) (b : Body) → T (in_u8 n) → T (in_Desk d) → T (in_u8 from) → T (in_Body b)
    → planned no_desk (desks.desk_hears n (of_try d b.tries) from (body_of b)) ≡ planned no_desk (desks.desk_hears n d from (body_of b)))
unfolding body_of body_in kind_of views_of row_of member_of ones ones_in reaches_of sign_of compared_of greater_of greatest_of stamps.same_of
    desks.notes_pair desks.completes desks.counted desks.pair_came desks.desk_hears planned padded
desk_hears_any_try p = differ phased (p 0 (desk Read1) 0 (reply 4) tt tt tt tt) tt

pub desk_note_reply_not_at_all : ¬ ((desk : Desk) (from : ℕ) (p : Pair) → T (in_Desk desk) → T (in_u8 from) → T (in_Pair p) → desk ≡ reply_noted desk from p)
unfolding sign_of compared_of greater_of greatest_of desks.notes_pair reply_noted
desk_note_reply_not_at_all p = differ (λ (d : Desk). d.replied) (p (desk Read1) 0 pair tt tt tt) tt

pub desk_note_reply_as_an_acknowledgement : ¬ ((desk : Desk) (from : ℕ) (p : Pair) → T (in_Desk desk) → T (in_u8 from) → T (in_Pair p)
    → desks.notes_ack desk from ≡ reply_noted desk from p)
unfolding sign_of compared_of greater_of greatest_of desks.notes_pair desks.notes_ack reply_noted
desk_note_reply_as_an_acknowledgement p = differ (λ (d : Desk). d.best.value) (p (desk Read1) 0 pair tt tt tt) tt

pub desk_note_reply_of_no_relay : ¬ ((desk : Desk) (from : ℕ) (p : Pair) → T (in_Desk desk) → T (in_u8 from) → T (in_Pair p)
    → desks.notes_pair desk from p ≡ reply_noted desk from p)
unfolding sign_of compared_of greater_of greatest_of desks.notes_pair reply_noted
desk_note_reply_of_no_relay p = differ (λ (d : Desk). d.best.value) (p (desk Read1) 8 pair tt tt tt) tt

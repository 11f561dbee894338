-- "Two results that satisfy one promise are proved equal" (document 01): for every public function, its promise and that two results, or two
-- buffers, that satisfy it are equal. Results that a promise states by a meaning are equal in what they mean: the unused entries of a row and
-- the unused fields of a body may differ (docs/DECISIONS.md, 34). Assumes nothing.
--
-- Each line is the promise as it stands in the source (checks/total compares them): r is the result; of a lent buffer, its name is what it held
-- before and b what it holds afterwards. A function with several promises has a line for each, by its name. What a type derives has no text in the source: its
-- promise is what the prover makes of the type's fields, here by the type's name and the trait's, as `stamp_ord.cmp`; Derived.antt says what each of these is.
use Rattle.std.specs.Prelude.{if◌then◌else◌, Option, Result, Ok, Err}
use Rattle.std.specs.Iterator.{YieldsFirst}
use mathlib.Core.Path.{◌≡◌, refl, sym, ap, ◌∙◌}
use mathlib.Core.List.{List, [], ◌∷◌}
use Prim.Native.Nat.{ℕ, ◌+◌, ◌≤◌, min}
use lib.Bits.{bit_or}
use lib.Dec.{eqb, leb}
use lib.ListN.{length, get_or}
use denote.Ref.{Bor}
use Rattle.views.specs.View.{members_of, member_of, quorum_of, reaches_of, within_of, inside_of, clash_of}
use Rattle.views.specs.Chain.{has_of, lacks_of, conflict_of, same_of, least_of, most_of, plus_of, union_of, heard_of, beyond_of, above_of}
use Rattle.views.specs.Row.{views_of, row_of}
use Rattle.views.specs.declared.Sequence.{Sequence}
use Rattle.stamps.specs.Stamp.{compared_of, greater_of, greatest_of, fresh_pair}
use Rattle.stamps.specs.Stamp as stamps
use Rattle.stamps.specs.declared.Stamp.{Stamp}
use Rattle.stamps.specs.declared.Pair.{Pair}
use Rattle.stamps.specs.contracts.StampPartialEq.TheImpl.{ghosts as stamp_partial_eq}
use Rattle.stamps.specs.contracts.StampPartialOrd.TheImpl.{ghosts as stamp_partial_ord}
use Rattle.stamps.specs.contracts.StampOrd.TheImpl.{ghosts as stamp_ord}
use Rattle.stamps.specs.contracts.StampDefault.TheImpl.{ghosts as stamp_default}
use Rattle.stamps.specs.contracts.PairPartialEq.TheImpl.{ghosts as pair_partial_eq}
use Rattle.stamps.specs.contracts.PairDefault.TheImpl.{ghosts as pair_default}
use Rattle.rows.specs.Bytes as rows
use Rattle.rows.specs.Bytes.{placed, be16, u16_at, u32_at, zeros}
use Rattle.rows.specs.Tests.{all_zero}
use Rattle.rows.specs.declared.Field.{Field}
use Rattle.rules.specs.Coded as coded
use Rattle.rules.specs.Coded.{kind_told}
use Rattle.rules.specs.declared.Refusal.{Refusal}
use Rattle.rules.specs.declared.Refusal.TheVariants.{BadWorld, BadStep, Empty, Dead, NotNow, NotYet, Worn, NoRoom, BadSheet}
use Rattle.rules.specs.Sets.{members, joined}
use Rattle.rules.specs.Messages as rules
use Rattle.rules.specs.State.{no_relay, no_desk}
use Rattle.rules.specs.Generators as generators
use Rattle.rules.specs.Relays as relays
use Rattle.rules.specs.Desks.{begun, ended}
use Rattle.rules.specs.Desks as desks
use Rattle.layout.specs.Image.{sequence_bytes, pair_at, head_bytes, generator_bytes, transfer_bytes, desk_bytes, desk_at, row_bytes, good_bytes}
use Rattle.layout.specs.Kinds.{number_of_kind, kind_of}
use Rattle.layout.specs.declared.MessageKind.{MessageKind}
use Rattle.layout.specs.Lent.{Lent, lent_start, lent_step}
use Rattle.layout.specs.contracts.MessageKindPartialEq.TheImpl.{ghosts as message_kind_partial_eq}
use Rattle.rules.specs.Sheets as sheets
use Rattle.rules.specs.Runs.{decimal, line, fields, start_of, end_of, bad_of}
use Rattle.rules.specs.declared.Desk.{Desk}
use Rattle.rules.specs.declared.Phase.{Phase}
use Rattle.rules.specs.declared.Step.{Step}
use Rattle.rules.specs.contracts.RefusalPartialEq.TheImpl.{ghosts as refusal_partial_eq}
use Rattle.rules.specs.contracts.StepKindPartialEq.TheImpl.{ghosts as step_kind_partial_eq}
use Rattle.rules.specs.declared.StepKind.{StepKind}
use Rattle.rules.specs.contracts.StepPartialEq.TheImpl.{ghosts as step_partial_eq}
use Rattle.rules.specs.contracts.PhasePartialEq.TheImpl.{ghosts as phase_partial_eq}
use Rattle.state.specs.declared.Notes.{Notes}
use Rattle.state.specs.declared.Generator.{Generator}
use Rattle.state.specs.declared.Transfer.{Transfer}
use Rattle.state.specs.declared.Head.{Head}
use Rattle.state.specs.declared.Part.{Part}
use Rattle.state.specs.declared.Body.{Body}
use Rattle.state.specs.declared.Message.{Message}
use Rattle.state.specs.declared.Sending.{Sending}
use Rattle.state.specs.declared.Sendings.{Sendings}
use Rattle.state.specs.declared.Event.{Event}
use Rattle.state.specs.declared.Event.TheVariants as events
use Rattle.state.specs.declared.Plan.{Plan}
use Rattle.state.specs.Meaning.{notes_of, generator_of, transfer_of, relay_of, part_of, body_of}
use Rattle.state.specs.Plans.{turn_of, turned, plan_of, desk_plan_of, planned}
use Rattle.messages.specs.Made.{made_with, made, send_to, to_nobody, all_sent, one_of, plan_of_all}
use Rattle.generator.specs.Heard.{heard_in_row}
use Rattle.generator.specs.Rows.{fresh_row, noted_row}
use Rattle.relay.specs.Fitting.{join_answer, timer_answer, hears_answer}
use Rattle.desk.specs.Replies.{reply_noted}
use Rattle.image.specs.Parts.{notes_bytes, head_at, message_row, sequence_row_at, notes_row_at, generator_row_at, transfer_row_at, message_row_at}
use Rattle.sheet.specs.Reading.{check_of, front_of, step_at, after_of, taken_at, steps_left}
use Rattle.sheet.specs.Writing.{ruled, ruled_size, buffer_of, number_of, size_of}
use Rattle.sheet.specs.declared.reader.Reader.{Reader}
use Rattle.sheet.specs.contracts.SheetPartialEq.TheImpl.{ghosts as sheet_partial_eq}
use Rattle.sheet.specs.declared.Sheet.{Sheet}
use Rattle.record.specs.Lines.{laid, past, step_of}
use Rattle.world.specs.Answer.{report_of, lent_of, answer_of}
use Rattle.world.specs.Tracing.{columns_of, waiting_rows, trace_answer, trace_world, trace_left}
use Rattle.rehearsal.specs.Playing.{rehearse_answer, world_left, record_left}
use Rattle.world.specs.declared.Answer.{Answer}
use Rattle.world.specs.declared.Report.{Report}
use Rattle.world.specs.declared.Report.TheVariants.{Nothing, Opened, ReadDone, WriteDone}
use Rattle.world.specs.declared.run.Columns.{Columns}
use Rattle.engine.specs.Told.{good_number, sheet_number, told_step, told_rehearsal}

-- whatever satisfies P is equal
abbrev pub Determined : {A : Type 0} → (A → Type 0) → Type 0
Determined {A} P = (r s : A) → P r → P s → r ≡ s

pub by_equation : {A : Type 0} (x : A) → Determined (λ (r : A). r ≡ x)
by_equation x r s e f = e ∙ sym f

-- whatever satisfies P is equal in what it means
abbrev pub DeterminedBy : {A B : Type 0} → (A → B) → (A → Type 0) → Type 0
DeterminedBy {A} f P = (r s : A) → P r → P s → f r ≡ f s

pub by_meaning : {A B : Type 0} (f : A → B) (x : B) → DeterminedBy f (λ (r : A). f r ≡ x)
by_meaning f x r s e g = e ∙ sym g

-- two results with the buffers after them, that satisfy P, are equal, and so are the buffers
abbrev pub DeterminedWith : {A B : Type 0} → (A → B → Type 0) → Type 0
DeterminedWith {A} {B} P = (r s : A) (b c : B) → P r b → P s c → (r ≡ s) × (b ≡ c)

-- ---- views

pub views_members : (v : ℕ) → Determined (λ r. r ≡ members_of v)
views_members v = by_equation (members_of v)

pub views_is_member : (v s : ℕ) → Determined (λ r. r ≡ member_of v s)
views_is_member v s = by_equation (member_of v s)

pub views_quorum : (v : ℕ) → Determined (λ r. r ≡ quorum_of v)
views_quorum v = by_equation (quorum_of v)

pub views_reaches : (v who : ℕ) → Determined (λ r. r ≡ reaches_of v who)
views_reaches v who = by_equation (reaches_of v who)

pub views_within : (a b : ℕ) → Determined (λ r. r ≡ within_of a b)
views_within a b = by_equation (within_of a b)

pub views_inside : (a b : ℕ) → Determined (λ r. r ≡ inside_of a b)
views_inside a b = by_equation (inside_of a b)

pub views_clash : (a b : ℕ) → Determined (λ r. r ≡ clash_of a b)
views_clash a b = by_equation (clash_of a b)

pub views_join : (a b : ℕ) → Determined (λ r. r ≡ bit_or a b)
views_join a b = by_equation (bit_or a b)

pub views_empty : Determined (λ r. r ≡ row_of [])
views_empty = by_equation (row_of [])

pub views_count : (q : Sequence) → Determined (λ r. (r ≡ length (views_of q)) × (r ≤ 15))
views_count q r s e f = e.0 ∙ sym f.0

pub views_view_at : (q : Sequence) (i : ℕ) → Determined (λ r. r ≡ get_or (views_of q) i 0)
views_view_at q i = by_equation (get_or (views_of q) i 0)

pub views_kept : (q : Sequence) → Determined (λ r. r ≡ row_of (views_of q))
views_kept q = by_equation (row_of (views_of q))

pub views_has : (q : Sequence) (v : ℕ) → Determined (λ r. r ≡ has_of (views_of q) v)
views_has q v = by_equation (has_of (views_of q) v)

pub views_lacks : (q own : Sequence) → Determined (λ r. r ≡ lacks_of (views_of q) (views_of own))
views_lacks q own = by_equation (lacks_of (views_of q) (views_of own))

pub views_conflict : (q own : Sequence) → Determined (λ r. r ≡ conflict_of (views_of q) (views_of own))
views_conflict q own = by_equation (conflict_of (views_of q) (views_of own))

pub views_same : (a b : Sequence) → Determined (λ r. r ≡ same_of (views_of a) (views_of b))
views_same a b = by_equation (same_of (views_of a) (views_of b))

pub views_least : (q : Sequence) → Determined (λ r. r ≡ least_of (views_of q))
views_least q = by_equation (least_of (views_of q))

pub views_most : (q : Sequence) → Determined (λ r. r ≡ most_of (views_of q))
views_most q = by_equation (most_of (views_of q))

pub views_single : (v : ℕ) → Determined (λ r. r ≡ row_of (v ∷ []))
views_single v = by_equation (row_of (v ∷ []))

pub views_plus : (v : ℕ) (q : Sequence) → Determined (λ r. r ≡ row_of (plus_of v (views_of q)))
views_plus v q = by_equation (row_of (plus_of v (views_of q)))

pub views_union : (a b : Sequence) → Determined (λ r. r ≡ row_of (union_of (views_of a) (views_of b)))
views_union a b = by_equation (row_of (union_of (views_of a) (views_of b)))

pub views_heard : (own converged q : Sequence) → Determined (λ r. r ≡ row_of (heard_of (views_of own) (views_of converged) (views_of q)))
views_heard own converged q = by_equation (row_of (heard_of (views_of own) (views_of converged) (views_of q)))

pub views_beyond : (w : ℕ) (q : Sequence) → Determined (λ r. r ≡ row_of (beyond_of w (views_of q)))
views_beyond w q = by_equation (row_of (beyond_of w (views_of q)))

pub views_above : (v : ℕ) (q : Sequence) → Determined (λ r. r ≡ above_of v (views_of q))
views_above v q = by_equation (above_of v (views_of q))

-- ---- stamps

pub stamps_compare : (a b : Stamp) → Determined (λ r. r ≡ compared_of a b)
stamps_compare a b = by_equation (compared_of a b)

pub stamps_greater : (a b : Stamp) → Determined (λ r. r ≡ greater_of a b)
stamps_greater a b = by_equation (greater_of a b)

pub stamps_same : (a b : Stamp) → Determined (λ r. r ≡ stamps.same_of a b)
stamps_same a b = by_equation (stamps.same_of a b)

pub stamps_greatest : (held new : Pair) → Determined (λ r. r ≡ greatest_of held new)
stamps_greatest held new = by_equation (greatest_of held new)

pub stamps_fresh : Determined (λ r. r ≡ fresh_pair)
stamps_fresh = by_equation fresh_pair

pub stamps_stamp_eq : (self other : Stamp) → Determined (λ r. r ≡ stamp_partial_eq.eq self other)
stamps_stamp_eq self other = by_equation (stamp_partial_eq.eq self other)

pub stamps_stamp_partial_cmp : (self other : Stamp) → Determined (λ r. r ≡ stamp_partial_ord.partial_cmp self other)
stamps_stamp_partial_cmp self other = by_equation (stamp_partial_ord.partial_cmp self other)

pub stamps_stamp_cmp : (self other : Stamp) → Determined (λ r. r ≡ stamp_ord.cmp self other)
stamps_stamp_cmp self other = by_equation (stamp_ord.cmp self other)

pub stamps_stamp_default : Determined (λ r. stamp_default.is_default r)
stamps_stamp_default r s e f = λ i. record { count = (e.0 ∙ sym f.0) i; desk = (e.1 ∙ sym f.1) i }

pub stamps_pair_eq : (self other : Pair) → Determined (λ r. r ≡ pair_partial_eq.eq self other)
stamps_pair_eq self other = by_equation (pair_partial_eq.eq self other)

pub stamps_pair_default : Determined (λ r. pair_default.is_default r)
stamps_pair_default r s e f = λ i. record { stamp = stamps_stamp_default r.stamp s.stamp e.0 f.0 i; value = (e.1 ∙ sym f.1) i }

-- ---- rows; of a function that writes, the bytes after it, where s is what the buffer held before

pub rows_has_room : (len at n : ℕ) → Determined (λ r. r ≡ leb (at + n) len)
rows_has_room len at n = by_equation (leb (at + n) len)

pub rows_smaller : (a b : ℕ) → Determined (λ r. r ≡ min a b)
rows_smaller a b = by_equation (min a b)

pub rows_byte_at : (s : List ℕ) (at : ℕ) → Determined (λ r. r ≡ get_or s at 0)
rows_byte_at s at = by_equation (get_or s at 0)

pub rows_put_byte : (s : List ℕ) (at x : ℕ) → Determined (λ b. b ≡ placed s at (x ∷ []))
rows_put_byte s at x = by_equation (placed s at (x ∷ []))

pub rows_put_u16 : (s : List ℕ) (at x : ℕ) → Determined (λ b. b ≡ placed s at (be16 x))
rows_put_u16 s at x = by_equation (placed s at (be16 x))

pub rows_clear : (s : List ℕ) (at n : ℕ) → Determined (λ b. b ≡ placed s at (zeros n))
rows_clear s at n = by_equation (placed s at (zeros n))

pub rows_put_row : (s : List ℕ) (at : ℕ) (fields : List Field) → Determined (λ b. b ≡ placed s at (rows.fields_bytes fields))
rows_put_row s at fields = by_equation (placed s at (rows.fields_bytes fields))

pub rows_put_fields : (s : List ℕ) (at : ℕ) (widths xs : List ℕ) → Determined (λ b. b ≡ placed s at (rows.fields_of widths xs))
rows_put_fields s at widths xs = by_equation (placed s at (rows.fields_of widths xs))

pub rows_read_u16 : (s : List ℕ) (at : ℕ) → Determined (λ r. r ≡ u16_at s at)
rows_read_u16 s at = by_equation (u16_at s at)

pub rows_read_u32 : (s : List ℕ) (at : ℕ) → Determined (λ r. r ≡ u32_at s at)
rows_read_u32 s at = by_equation (u32_at s at)

pub rows_is_zero : (s : List ℕ) (at n : ℕ) → Determined (λ r. r ≡ all_zero s at n)
rows_is_zero s at n = by_equation (all_zero s at n)

-- ---- rules

pub rules_number : (self : Refusal) → Determined (λ r. r ≡ coded.number_of self)
rules_number self = by_equation (coded.number_of self)

pub rules_step_kind_try_from : (number : ℕ) → Determined (λ r. r ≡ kind_told number)
rules_step_kind_try_from number = by_equation (kind_told number)

pub rules_refusal_eq : (self other : Refusal) → Determined (λ r. r ≡ refusal_partial_eq.eq self other)
rules_refusal_eq self other = by_equation (refusal_partial_eq.eq self other)

pub rules_step_kind_eq : (self other : StepKind) → Determined (λ r. r ≡ step_kind_partial_eq.eq self other)
rules_step_kind_eq self other = by_equation (step_kind_partial_eq.eq self other)

pub rules_step_eq : (self other : Step) → Determined (λ r. r ≡ step_partial_eq.eq self other)
rules_step_eq self other = by_equation (step_partial_eq.eq self other)

pub rules_phase_eq : (self other : Phase) → Determined (λ r. r ≡ phase_partial_eq.eq self other)
rules_phase_eq self other = by_equation (phase_partial_eq.eq self other)

pub rules_begun : (self : Desk) (phase : Phase) (view : ℕ) (holds : Pair) → Determined (λ r. r ≡ begun self phase view holds)
rules_begun self phase view holds = by_equation (begun self phase view holds)

pub rules_ended : (self : Desk) → Determined (λ r. r ≡ ended self)
rules_ended self = by_equation (ended self)

-- ---- layout

pub layout_number : (self : MessageKind) → Determined (λ r. r ≡ number_of_kind self)
layout_number self = by_equation (number_of_kind self)

pub layout_message_kind_from : (number : ℕ) → Determined (λ r. r ≡ kind_of number)
layout_message_kind_from number = by_equation (kind_of number)

pub layout_message_kind_eq : (self other : MessageKind) → Determined (λ r. r ≡ message_kind_partial_eq.eq self other)
layout_message_kind_eq self other = by_equation (message_kind_partial_eq.eq self other)

-- ---- messages

pub messages_request : (u c : ℕ) → Determined (λ r. r ≡ made (rules.request u c))
messages_request u c = by_equation (made (rules.request u c))

pub messages_view : (v : ℕ) → Determined (λ r. r ≡ made (rules.view v))
messages_view v = by_equation (made (rules.view v))

pub messages_proposal : (v : ℕ) (q : Sequence) → Determined (λ r. r ≡ made_with q (rules.proposal v (views_of q)))
messages_proposal v q = by_equation (made_with q (rules.proposal v (views_of q)))

pub messages_converged : (v : ℕ) (q : Sequence) → Determined (λ r. r ≡ made_with q (rules.converged v (views_of q)))
messages_converged v q = by_equation (made_with q (rules.converged v (views_of q)))

pub messages_install : (o w : ℕ) (q : Sequence) → Determined (λ r. r ≡ made_with q (rules.install o w (views_of q)))
messages_install o w q = by_equation (made_with q (rules.install o w (views_of q)))

pub messages_state : (o w : ℕ) (p : Pair) (updates : ℕ) → Determined (λ r. r ≡ made (rules.state o w p updates))
messages_state o w p updates = by_equation (made (rules.state o w p updates))

pub messages_get : (tries c : ℕ) → Determined (λ r. r ≡ made (rules.get tries c))
messages_get tries c = by_equation (made (rules.get tries c))

pub messages_put : (tries c : ℕ) (p : Pair) → Determined (λ r. r ≡ made (rules.put tries c p))
messages_put tries c p = by_equation (made (rules.put tries c p))

pub messages_view_reply : (tries v : ℕ) → Determined (λ r. r ≡ made (rules.view_reply tries v))
messages_view_reply tries v = by_equation (made (rules.view_reply tries v))

pub messages_pair_reply : (tries : ℕ) (p : Pair) → Determined (λ r. r ≡ made (rules.pair_reply tries p))
messages_pair_reply tries p = by_equation (made (rules.pair_reply tries p))

pub messages_ack : (tries : ℕ) → Determined (λ r. r ≡ made (rules.ack tries))
messages_ack tries = by_equation (made (rules.ack tries))

pub messages_plain : (b : Body) → Determined (λ r. r ≡ made_with b.sequence (body_of b))
messages_plain b = by_equation (made_with b.sequence (body_of b))

pub messages_no_sending : Determined (λ r. r ≡ to_nobody)
messages_no_sending = by_equation to_nobody

pub messages_to_members : (v : ℕ) (body : Body) → Determined (λ r. r ≡ send_to (members v) body)
messages_to_members v body = by_equation (send_to (members v) body)

pub messages_to_both : (v w : ℕ) (body : Body) → Determined (λ r. r ≡ send_to (joined (members v) (members w)) body)
messages_to_both v w body = by_equation (send_to (joined (members v) (members w)) body)

pub messages_to_one : (s : ℕ) (body : Body) → Determined (λ r. r ≡ send_to (one_of s) body)
messages_to_one s body = by_equation (send_to (one_of s) body)

pub messages_nothing_sent : Determined (λ r. r ≡ all_sent [])
messages_nothing_sent = by_equation (all_sent [])

pub messages_sent_before : (s : Sending) (rest : Sendings) → Determined (λ r. r ≡ all_sent (s ∷ rest.of))
messages_sent_before s rest = by_equation (all_sent (s ∷ rest.of))

pub messages_one_sent : (s : Sending) → Determined (λ r. r ≡ all_sent (s ∷ []))
messages_one_sent s = by_equation (all_sent (s ∷ []))

pub messages_tells : {A : Type 0} (next : A) (event : Event) → Determined (λ r. r ≡ plan_of_all next [] event)
messages_tells next event = by_equation (plan_of_all next [] event)

pub messages_quietly : {A : Type 0} (next : A) → Determined (λ r. r ≡ plan_of_all next [] events.Nothing)
messages_quietly next = by_equation (plan_of_all next [] events.Nothing)

pub messages_sent_first : {A : Type 0} (s : Sending) (later : Plan A) → Determined (λ r. r ≡ plan_of_all later.next (s ∷ later.sends.of) later.event)
messages_sent_first s later = by_equation (plan_of_all later.next (s ∷ later.sends.of) later.event)

pub messages_sends : {A : Type 0} (next : A) (s : Sending) → Determined (λ r. r ≡ plan_of_all next (s ∷ []) events.Nothing)
messages_sends next s = by_equation (plan_of_all next (s ∷ []) events.Nothing)

-- ---- generator

pub generator_fresh : (v : ℕ) → Determined (λ r. r ≡ fresh_row v)
generator_fresh v = by_equation (fresh_row v)

pub generator_noted : (n : Notes) (from : ℕ) (q : Sequence) → Determined (λ r. r ≡ noted_row n from q)
generator_noted n from q = by_equation (noted_row n from q)

pub generator_agreeing : (n : Notes) (q : Sequence) → Determined (λ r. r ≡ generators.agreeing (notes_of n) (views_of q))
generator_agreeing n q = by_equation (generators.agreeing (notes_of n) (views_of q))

pub generator_agree : (v : ℕ) (n : Notes) (q : Sequence) → Determined (λ r. r ≡ generators.agree v (notes_of n) (views_of q))
generator_agree v n q = by_equation (generators.agree v (notes_of n) (views_of q))

pub generator_proposes : (g : Generator) (q : Sequence) → DeterminedBy turn_of (λ r. turn_of r ≡ turned (generators.proposes (generator_of g) (views_of q)))
generator_proposes g q = by_meaning turn_of (turned (generators.proposes (generator_of g) (views_of q)))

pub generator_proposal_heard : (g : Generator) (from : ℕ) (q : Sequence) → DeterminedBy turn_of (λ r. turn_of r ≡ turned (heard_in_row (generator_of g) from (views_of q)))
generator_proposal_heard g from q = by_meaning turn_of (turned (heard_in_row (generator_of g) from (views_of q)))

pub generator_converged_heard : (g : Generator) (from : ℕ) (q : Sequence) → DeterminedBy turn_of (λ r. turn_of r ≡ turned (generators.converged_heard (generator_of g) from (views_of q)))
generator_converged_heard g from q = by_meaning turn_of (turned (generators.converged_heard (generator_of g) from (views_of q)))

-- ---- relay

pub relay_join_asked : (s : ℕ) (p : Part) → DeterminedBy plan_of (λ r. plan_of r ≡ planned no_relay (join_answer s (part_of p)))
relay_join_asked s p = by_meaning plan_of (planned no_relay (join_answer s (part_of p)))

pub relay_leave_asked : (s : ℕ) (p : Part) → DeterminedBy plan_of (λ r. plan_of r ≡ planned no_relay (relays.leave_asked s (part_of p)))
relay_leave_asked s p = by_meaning plan_of (planned no_relay (relays.leave_asked s (part_of p)))

pub relay_timer_rang : (p : Part) → DeterminedBy plan_of (λ r. plan_of r ≡ planned no_relay (timer_answer (part_of p)))
relay_timer_rang p = by_meaning plan_of (planned no_relay (timer_answer (part_of p)))

pub relay_hears : (s : ℕ) (p : Part) (from : ℕ) (b : Body)
    → DeterminedBy plan_of (λ r. plan_of r ≡ planned no_relay (hears_answer s (part_of p) from (body_of b)))
relay_hears s p from b = by_meaning plan_of (planned no_relay (hears_answer s (part_of p) from (body_of b)))

-- ---- desk

pub desk_read_asked : (d : Desk) → DeterminedBy desk_plan_of (λ r. desk_plan_of r ≡ planned no_desk (desks.read_asked d))
desk_read_asked d = by_meaning desk_plan_of (planned no_desk (desks.read_asked d))

pub desk_write_asked : (d : Desk) (x : ℕ) → DeterminedBy desk_plan_of (λ r. desk_plan_of r ≡ planned no_desk (desks.write_asked d x))
desk_write_asked d x = by_meaning desk_plan_of (planned no_desk (desks.write_asked d x))

pub desk_hears : (n : ℕ) (d : Desk) (from : ℕ) (b : Body)
    → DeterminedBy desk_plan_of (λ r. desk_plan_of r ≡ planned no_desk (desks.desk_hears n d from (body_of b)))
desk_hears n d from b = by_meaning desk_plan_of (planned no_desk (desks.desk_hears n d from (body_of b)))

pub desk_note_reply : (desk : Desk) (from : ℕ) (p : Pair) → Determined (λ b. b ≡ reply_noted desk from p)
desk_note_reply desk from p = by_equation (reply_noted desk from p)

-- ---- image

pub image_sequence_at : (s : List ℕ) (at : ℕ) → Determined (λ r. r ≡ sequence_row_at s at)
image_sequence_at s at = by_equation (sequence_row_at s at)

pub image_put_sequence : (s : List ℕ) (at : ℕ) (q : Sequence) → Determined (λ b. b ≡ placed s at (sequence_bytes (views_of q)))
image_put_sequence s at q = by_equation (placed s at (sequence_bytes (views_of q)))

pub image_pair_at : (s : List ℕ) (at : ℕ) → Determined (λ r. r ≡ pair_at s at)
image_pair_at s at = by_equation (pair_at s at)

pub image_head_at : (s : List ℕ) (at : ℕ) → Determined (λ r. r ≡ head_at s at)
image_head_at s at = by_equation (head_at s at)

pub image_put_head : (s : List ℕ) (at : ℕ) (h : Head) → Determined (λ b. b ≡ placed s at (head_bytes (relay_of h [] [])))
image_put_head s at h = by_equation (placed s at (head_bytes (relay_of h [] [])))

pub image_notes_at : (s : List ℕ) (at : ℕ) → Determined (λ r. r ≡ notes_row_at s at)
image_notes_at s at = by_equation (notes_row_at s at)

pub image_put_notes : (s : List ℕ) (at : ℕ) (n : Notes) → Determined (λ b. b ≡ placed s at (notes_bytes (notes_of n)))
image_put_notes s at n = by_equation (placed s at (notes_bytes (notes_of n)))

pub image_generator_at : (s : List ℕ) (at : ℕ) → Determined (λ r. r ≡ generator_row_at s at)
image_generator_at s at = by_equation (generator_row_at s at)

pub image_put_generator : (s : List ℕ) (at : ℕ) (g : Generator) → Determined (λ b. b ≡ placed s at (generator_bytes (generator_of g)))
image_put_generator s at g = by_equation (placed s at (generator_bytes (generator_of g)))

pub image_transfer_at : (s : List ℕ) (at : ℕ) → Determined (λ r. r ≡ transfer_row_at s at)
image_transfer_at s at = by_equation (transfer_row_at s at)

pub image_put_transfer : (s : List ℕ) (at : ℕ) (t : Transfer) → Determined (λ b. b ≡ placed s at (transfer_bytes (transfer_of t)))
image_put_transfer s at t = by_equation (placed s at (transfer_bytes (transfer_of t)))

pub image_desk_at : (s : List ℕ) (at : ℕ) → Determined (λ r. r ≡ desk_at s at)
image_desk_at s at = by_equation (desk_at s at)

pub image_put_desk : (s : List ℕ) (at : ℕ) (d : Desk) → Determined (λ b. b ≡ placed s at (desk_bytes d))
image_put_desk s at d = by_equation (placed s at (desk_bytes d))

pub image_message_at : (s : List ℕ) (at : ℕ) → Determined (λ r. r ≡ message_row_at s at)
image_message_at s at = by_equation (message_row_at s at)

pub image_put_message : (s : List ℕ) (at : ℕ) (m : Message) → Determined (λ b. b ≡ placed s at (row_bytes (message_row m)))
image_put_message s at m = by_equation (placed s at (row_bytes (message_row m)))

-- ---- good

pub good_is_good : (w : List ℕ) → Determined (λ r. r ≡ good_bytes w)
good_is_good w = by_equation (good_bytes w)

-- ---- sheet

pub sheet_check : (b : List ℕ) → Determined (λ r. r ≡ check_of b)
sheet_check b = by_equation (check_of b)

pub sheet_step_at : (b : List ℕ) (at : ℕ) → Determined (λ r. r ≡ step_at b at)
sheet_step_at b at = by_equation (step_at b at)

pub sheet_after : (b : List ℕ) (at : ℕ) → Determined (λ r. r ≡ after_of b at)
sheet_after b at = by_equation (after_of b at)

-- the answer with this number, of a sheet of this many bytes
refusal_for : ℕ → Refusal
refusal_for n =
    if eqb n 1 then BadWorld
    else if eqb n 2 then BadStep
    else if eqb n 3 then Empty
    else if eqb n 4 then Dead
    else if eqb n 5 then NotNow
    else if eqb n 6 then NotYet
    else if eqb n 7 then Worn
    else if eqb n 8 then NoRoom
    else BadSheet

written_for : ℕ → ℕ → Result ℕ Refusal
written_for n size = if eqb n 0 then Ok size else Err (refusal_for n)

written_back : (r : Result ℕ Refusal) → written_for (number_of r) (size_of r) ≡ r
unfolding refusal_for written_for
written_back (Ok n) = refl
written_back (Err BadWorld) = refl
written_back (Err BadStep) = refl
written_back (Err Empty) = refl
written_back (Err Dead) = refl
written_back (Err NotNow) = refl
written_back (Err NotYet) = refl
written_back (Err Worn) = refl
written_back (Err NoRoom) = refl
written_back (Err BadSheet) = refl

pub sheet_write_answer : (buf : List ℕ) (mask : ℕ) (kinds ids values : List ℕ)
    → Determined (λ r. (number_of r ≡ sheets.number (ruled buf mask kinds ids values)) × (size_of r ≡ ruled_size buf mask kinds ids values))
sheet_write_answer buf mask kinds ids values r s e f =
    sym (written_back r) ∙ (λ i. written_for ((e.0 ∙ sym f.0) i) ((e.1 ∙ sym f.1) i)) ∙ written_back s

pub sheet_write_left : (buf : List ℕ) (mask : ℕ) (kinds ids values : List ℕ) → Determined (λ b. b ≡ buffer_of buf (ruled buf mask kinds ids values))
sheet_write_left buf mask kinds ids values = by_equation (buffer_of buf (ruled buf mask kinds ids values))

pub sheet_sheet_eq : (self other : Sheet) → Determined (λ r. r ≡ sheet_partial_eq.eq self other)
sheet_sheet_eq self other = by_equation (sheet_partial_eq.eq self other)

reader_back : (r s : Reader) → r.sheet ≡ s.sheet → r.at ≡ s.at → r ≡ s
reader_back r s e f = λ i. record { sheet = e i; at = f i }

pub sheet_new : (sheet : Bor (List ℕ)) → Determined (λ (r : Reader). (r.sheet ≡ sheet) × (r.at ≡ front_of sheet.now))
sheet_new sheet r s e f = reader_back r s (e.0 ∙ sym f.0) (e.1 ∙ sym f.1)

-- the step that a reader gives, and the reader past it
pub sheet_reader_next : (self : Reader)
    → DeterminedWith (λ (r : Option Step) (b : Reader). (r ≡ step_at self.sheet.now self.at)
    × ((b.sheet ≡ self.sheet) × (b.at ≡ after_of self.sheet.now self.at))
    × YieldsFirst steps_left self r b)
sheet_reader_next self r s b c e f = (e.0 ∙ sym f.0, reader_back b c (e.1.0 ∙ sym f.1.0) (e.1.1 ∙ sym f.1.1))

pub sheet_read_at : (sheet : List ℕ) (at : ℕ) → Determined (λ r. r ≡ taken_at sheet at)
sheet_read_at sheet at = by_equation (taken_at sheet at)

-- ---- record; the position past the bytes, and the bytes

pub record_put_position : (out : List ℕ) (at x : ℕ) → Determined (λ r. r ≡ past at (x ∷ []))
record_put_position out at x = by_equation (past at (x ∷ []))

pub record_put_bytes : (out : List ℕ) (at x : ℕ) → Determined (λ b. b ≡ laid out at (x ∷ []))
record_put_bytes out at x = by_equation (laid out at (x ∷ []))

pub record_put_number_position : (out : List ℕ) (at n : ℕ) → Determined (λ r. r ≡ past at (decimal n))
record_put_number_position out at n = by_equation (past at (decimal n))

pub record_put_number_bytes : (out : List ℕ) (at n : ℕ) → Determined (λ b. b ≡ laid out at (decimal n))
record_put_number_bytes out at n = by_equation (laid out at (decimal n))

pub record_put_line_position : (out : List ℕ) (at : ℕ) (numbers : List ℕ) → Determined (λ r. r ≡ past at (line numbers))
record_put_line_position out at numbers = by_equation (past at (line numbers))

pub record_put_line_bytes : (out : List ℕ) (at : ℕ) (numbers : List ℕ) → Determined (λ b. b ≡ laid out at (line numbers))
record_put_line_bytes out at numbers = by_equation (laid out at (line numbers))

pub record_put_word_position : (out : List ℕ) (at : ℕ) (word : List ℕ) → Determined (λ r. r ≡ past at word)
record_put_word_position out at word = by_equation (past at word)

pub record_put_word_bytes : (out : List ℕ) (at : ℕ) (word : List ℕ) → Determined (λ b. b ≡ laid out at word)
record_put_word_bytes out at word = by_equation (laid out at word)

pub record_put_start_position : (out : List ℕ) (mask : ℕ) → Determined (λ r. r ≡ past 0 (start_of mask))
record_put_start_position out mask = by_equation (past 0 (start_of mask))

pub record_put_start_bytes : (out : List ℕ) (mask : ℕ) → Determined (λ b. b ≡ laid out 0 (start_of mask))
record_put_start_bytes out mask = by_equation (laid out 0 (start_of mask))

pub record_put_step_position : (out : List ℕ) (at number answer event who count desk last : ℕ) → Determined (λ r. r ≡ past at (step_of number answer event who count desk last))
record_put_step_position out at number answer event who count desk last = by_equation (past at (step_of number answer event who count desk last))

pub record_put_step_bytes : (out : List ℕ) (at number answer event who count desk last : ℕ) → Determined (λ b. b ≡ laid out at (step_of number answer event who count desk last))
record_put_step_bytes out at number answer event who count desk last = by_equation (laid out at (step_of number answer event who count desk last))

pub record_put_end_position : (out : List ℕ) (at sent delivered dropped waiting : ℕ) → Determined (λ r. r ≡ past at (end_of sent delivered dropped waiting))
record_put_end_position out at sent delivered dropped waiting = by_equation (past at (end_of sent delivered dropped waiting))

pub record_put_end_bytes : (out : List ℕ) (at sent delivered dropped waiting : ℕ) → Determined (λ b. b ≡ laid out at (end_of sent delivered dropped waiting))
record_put_end_bytes out at sent delivered dropped waiting = by_equation (laid out at (end_of sent delivered dropped waiting))

pub record_put_bad_position : (out : List ℕ) → Determined (λ r. r ≡ past 0 bad_of)
record_put_bad_position out = by_equation (past 0 bad_of)

pub record_put_bad_bytes : (out : List ℕ) → Determined (λ b. b ≡ laid out 0 bad_of)
record_put_bad_bytes out = by_equation (laid out 0 bad_of)

-- ---- world; of a step and of a start, the answer and the bytes after it at once

-- the report that means this event, of this relay or desk
report_for : rules.Event → ℕ → Report
report_for rules.nothing who = Nothing
report_for (rules.opened v) who = Opened who v
report_for (rules.read_done p) who = ReadDone who p
report_for (rules.write_done p) who = WriteDone who p

report_back : (r : Report) → report_for (report_of r).event (report_of r).who ≡ r
unfolding report_of report_for
report_back Nothing = refl
report_back (Opened relay view) = refl
report_back (ReadDone desk pair) = refl
report_back (WriteDone desk pair) = refl

answer_for : Lent → Answer
answer_for l = record { number = l.answer; report = report_for l.report.event l.report.who }

answer_back : (r : Answer) (b : List ℕ) → answer_for (lent_of r b) ≡ r
unfolding lent_of answer_for
answer_back r b =
    let with : Report → Answer = λ x. record { number = r.number; report = x } in
    ap with (report_back r.report)

by_lent : (l : Lent) → DeterminedWith (λ r b. lent_of r b ≡ l)
unfolding lent_of
by_lent l r s b c e f =
    let same = e ∙ sym f in
    (sym (answer_back r b) ∙ ap answer_for same ∙ answer_back s c, ap (λ (x : Lent). x.buffer) same)

pub world_step : (w : List ℕ) (k : Step) → DeterminedWith (λ r b. lent_of r b ≡ lent_step w k)
world_step w k = by_lent (lent_step w k)

pub world_answer_from : (done : Result Report Refusal) → Determined (λ r. r ≡ answer_of done)
world_answer_from done = by_equation (answer_of done)

pub world_start : (w : List ℕ) (mask : ℕ) → DeterminedWith (λ r b. lent_of r b ≡ lent_start w mask)
world_start w mask = by_lent (lent_start w mask)

columns_back : (r s : Columns) → columns_of r ≡ columns_of s → r ≡ s
unfolding columns_of
columns_back r s e = λ i. record { event = get_or (e i) 0 0; who = get_or (e i) 1 0; count = get_or (e i) 2 0; desk = get_or (e i) 3 0; last = get_or (e i) 4 0 }

pub world_columns_of : (a : Answer) → Determined (λ r. columns_of r ≡ fields (report_of a.report).event (report_of a.report).who)
world_columns_of a r s e f = columns_back r s (e ∙ sym f)

pub world_waiting : (w : List ℕ) → Determined (λ r. r ≡ waiting_rows w)
world_waiting w = by_equation (waiting_rows w)

pub world_trace_answer : (sheet world rows : List ℕ) → Determined (λ r. r ≡ trace_answer sheet world rows)
world_trace_answer sheet world rows = by_equation (trace_answer sheet world rows)

pub world_trace_last : (sheet world rows : List ℕ) → Determined (λ b. b ≡ trace_world sheet world rows)
world_trace_last sheet world rows = by_equation (trace_world sheet world rows)

pub world_trace_rows : (sheet world rows : List ℕ) → Determined (λ b. b ≡ trace_left sheet world rows)
world_trace_rows sheet world rows = by_equation (trace_left sheet world rows)

-- ---- rehearsal

pub rehearsal_rehearse_answer : (sheet world out : List ℕ) → Determined (λ r. r ≡ rehearse_answer sheet world out)
rehearsal_rehearse_answer sheet world out = by_equation (rehearse_answer sheet world out)

pub rehearsal_rehearse_last : (sheet world out : List ℕ) → Determined (λ b. b ≡ world_left sheet world out)
rehearsal_rehearse_last sheet world out = by_equation (world_left sheet world out)

pub rehearsal_rehearse_printed : (sheet world out : List ℕ) → Determined (λ b. b ≡ record_left sheet world out)
rehearsal_rehearse_printed sheet world out = by_equation (record_left sheet world out)

-- ---- engine; the answer and each buffer that is lent, each with a promise of its own

pub engine_world_good : (w : List ℕ) → Determined (λ r. r ≡ good_number w)
engine_world_good w = by_equation (good_number w)

pub engine_world_start_answer : (w : List ℕ) (mask : ℕ) → Determined (λ r. r ≡ (lent_start w mask).answer)
engine_world_start_answer w mask = by_equation (lent_start w mask).answer

pub engine_world_start_buffer : (w : List ℕ) (mask : ℕ) → Determined (λ b. b ≡ (lent_start w mask).buffer)
engine_world_start_buffer w mask = by_equation (lent_start w mask).buffer

pub engine_world_step_answer : (w : List ℕ) (kind id value : ℕ) (told : List ℕ) → Determined (λ r. r ≡ (told_step w kind id value told).answer)
engine_world_step_answer w kind id value told = by_equation (told_step w kind id value told).answer

pub engine_world_step_buffer : (w : List ℕ) (kind id value : ℕ) (told : List ℕ) → Determined (λ b. b ≡ (told_step w kind id value told).buffer)
engine_world_step_buffer w kind id value told = by_equation (told_step w kind id value told).buffer

pub engine_world_step_columns : (w : List ℕ) (kind id value : ℕ) (told : List ℕ) → Determined (λ b. b ≡ (told_step w kind id value told).told)
engine_world_step_columns w kind id value told = by_equation (told_step w kind id value told).told

pub engine_sheet_check : (sheet : List ℕ) → Determined (λ r. r ≡ sheet_number sheet)
engine_sheet_check sheet = by_equation (sheet_number sheet)

pub engine_sheet_write_answer : (buf : List ℕ) (mask : ℕ) (kinds ids values : List ℕ) → Determined (λ r. r ≡ sheets.number (ruled buf mask kinds ids values))
engine_sheet_write_answer buf mask kinds ids values = by_equation (sheets.number (ruled buf mask kinds ids values))

pub engine_sheet_write_left : (buf : List ℕ) (mask : ℕ) (kinds ids values : List ℕ) → Determined (λ b. b ≡ buffer_of buf (ruled buf mask kinds ids values))
engine_sheet_write_left buf mask kinds ids values = sheet_write_left buf mask kinds ids values

pub engine_sheet_rehearse_answer : (sheet world out told : List ℕ) → Determined (λ r. r ≡ (told_rehearsal sheet world out told).answer)
engine_sheet_rehearse_answer sheet world out told = by_equation (told_rehearsal sheet world out told).answer

pub engine_sheet_rehearse_last : (sheet world out told : List ℕ) → Determined (λ b. b ≡ (told_rehearsal sheet world out told).last)
engine_sheet_rehearse_last sheet world out told = by_equation (told_rehearsal sheet world out told).last

pub engine_sheet_rehearse_printed : (sheet world out told : List ℕ) → Determined (λ b. b ≡ (told_rehearsal sheet world out told).printed)
engine_sheet_rehearse_printed sheet world out told = by_equation (told_rehearsal sheet world out told).printed

pub engine_sheet_rehearse_length : (sheet world out told : List ℕ) → Determined (λ b. b ≡ (told_rehearsal sheet world out told).told)
engine_sheet_rehearse_length sheet world out told = by_equation (told_rehearsal sheet world out told).told

-- Wrong programs that the promises rule out: image, the rows of a world. Assumes nothing.
use mathlib.Core.Path.{◌≡◌}
use mathlib.Core.Bool.{true, false}
use mathlib.Core.List.{List, [], ◌∷◌, ◌++◌}
use Prim.Native.Nat.{ℕ, ◌+◌, ◌*◌}
use lib.Dec.{T}
use lib.ListN.{get_or, replicate}
use Rattle.views.specs.Row.{views_of, row_of}
use Rattle.views.specs.declared.Sequence.{Sequence}
use Rattle.stamps.specs.declared.Pair.{Pair}
use Rattle.stamps.specs.Stamp.{fresh_pair}
use Rattle.rows.specs.Bytes.{splice, placed, bytes_of, number_at, be16, u16_at, run, tab, cat, zeros}
use Rattle.rules.specs.State.{with_known}
use Rattle.layout.specs.Layout.{notes_width, generator_width, relay_generators}
use Rattle.layout.specs.Image.{flag_at, sequence_bytes, pair_bytes, pair_at, head_bytes, generator_bytes, transfer_bytes, desk_bytes, desk_at, row_bytes}
use Rattle.rules.specs.declared.Desk.{Desk}
use Rattle.rules.specs.declared.Phase.TheVariants.{Read1}
use Rattle.state.specs.declared.Notes.{Notes}
use Rattle.state.specs.declared.Generator.{Generator}
use Rattle.state.specs.declared.Transfer.{Transfer}
use Rattle.state.specs.declared.Head.{Head}
use Rattle.state.specs.declared.Message.{Message}
use Rattle.state.specs.Meaning.{notes_of, generator_of, transfer_of, relay_of}
use Rattle.image.specs.Parts.{notes_bytes, head_at, message_row, sequence_row_at, notes_row_at, generator_row_at, transfer_row_at, message_row_at}
use Rattle.certificate.proofs.Differ.{differ, truth, entry}
use Rattle.certificate.proofs.Typed.{in_bytes, in_usize, in_Desk, in_Generator, in_Head, in_Message, in_Notes, in_Sequence, in_Transfer}

-- ---- image; {3} and {3, 7} as they stand in a buffer, and how many views a sequence has

abbrev sequence : Sequence
sequence = row_of (3 ∷ [])

abbrev many : Sequence → ℕ
many q = q.len

abbrev many_in : Notes → ℕ → ℕ
many_in n i = many (get_or n.of i (row_of []))

pub image_sequence_at_all_fifteen : ¬ ((s : List ℕ) (at : ℕ) → T (in_bytes s) → T (in_usize at)
    → record { views = tab 15 (λ k. u16_at s (at + 2 * k)); len = 15 } ≡ sequence_row_at s at)
unfolding sequence_row_at
image_sequence_at_all_fifteen p = differ many (p [] 0 tt tt) tt

pub image_sequence_at_the_next : ¬ ((s : List ℕ) (at : ℕ) → T (in_bytes s) → T (in_usize at) → sequence_row_at s (at + 31) ≡ sequence_row_at s at)
unfolding bytes_of run sequence_bytes sequence_row_at
image_sequence_at_the_next p = differ many (p (sequence_bytes (3 ∷ 7 ∷ [])) 0 tt tt) tt

-- a view past the length, which means nothing
pub image_sequence_at_with_unused_views : ¬ ((s : List ℕ) (at : ℕ) → T (in_bytes s) → T (in_usize at)
    → record { views = tab 15 (λ k. u16_at s (at + 2 * k)); len = get_or s (at + 30) 0 } ≡ sequence_row_at s at)
unfolding number_at tab sequence_row_at
image_sequence_at_with_unused_views p = differ (λ (q : Sequence). entry 0 q.views) (p (0 ∷ 7 ∷ []) 0 tt tt) tt

pub image_put_sequence_nowhere : ¬ ((s : List ℕ) (at : ℕ) (q : Sequence) → T (in_bytes s) → T (in_usize at) → T (in_Sequence q)
    → s ≡ placed s at (sequence_bytes (views_of q)))
unfolding views_of row_of placed splice bytes_of run zeros sequence_bytes
image_put_sequence_nowhere p = differ (entry 30) (p (zeros 31) 0 sequence tt tt tt) tt

pub image_put_sequence_without_its_length : ¬ ((s : List ℕ) (at : ℕ) (q : Sequence) → T (in_bytes s) → T (in_usize at) → T (in_Sequence q)
    → placed s at (run 15 (λ k. be16 (get_or (views_of q) k 0))) ≡ placed s at (sequence_bytes (views_of q)))
unfolding views_of row_of placed splice bytes_of run zeros sequence_bytes
image_put_sequence_without_its_length p = differ (entry 30) (p (zeros 31) 0 sequence tt tt tt) tt

-- stamp (1, 2) and value 77
abbrev pair : Pair
pair = record { stamp = record { count = 1; desk = 2 }; value = 77 }

abbrev value : Pair → ℕ
value p = p.value

pub image_pair_at_the_next : ¬ ((s : List ℕ) (at : ℕ) → T (in_bytes s) → T (in_usize at) → pair_at s (at + 1) ≡ pair_at s at)
unfolding number_at pair_at
image_pair_at_the_next p = differ value (p (0 ∷ 1 ∷ 2 ∷ 0 ∷ 0 ∷ 0 ∷ 77 ∷ []) 0 tt tt) tt

pub image_pair_at_low_half_only : ¬ ((s : List ℕ) (at : ℕ) → T (in_bytes s) → T (in_usize at)
    → record { stamp = record { count = u16_at s at; desk = get_or s (at + 2) 0 }; value = u16_at s (at + 5) } ≡ pair_at s at)
unfolding number_at pair_at
image_pair_at_low_half_only p = differ value (p (0 ∷ 1 ∷ 2 ∷ 0 ∷ 1 ∷ 0 ∷ 77 ∷ []) 0 tt tt) tt

-- alive, entered and not active, of view 3, known view 7
abbrev head_row : List ℕ
head_row = 1 ∷ 1 ∷ 0 ∷ 0 ∷ 3 ∷ 0 ∷ 7 ∷ []

abbrev head : Head
head = record { alive = true; entered = true; active = false; view = 3; known = 7; pending = 0; holds = pair }

pub image_head_at_the_next : ¬ ((s : List ℕ) (at : ℕ) → T (in_bytes s) → T (in_usize at) → head_at s (at + relay_generators) ≡ head_at s at)
unfolding number_at pair_at head_at
image_head_at_the_next p = differ (λ (h : Head). h.view) (p head_row 0 tt tt) tt

pub image_head_at_active_from_entered : ¬ ((s : List ℕ) (at : ℕ) → T (in_bytes s) → T (in_usize at)
    → record { alive = flag_at s at; entered = flag_at s (at + 1); active = flag_at s (at + 1); view = u16_at s (at + 3); known = u16_at s (at + 5); pending = u16_at s (at + 7); holds = pair_at s (at + 9) } ≡ head_at s at)
unfolding number_at pair_at head_at
image_head_at_active_from_entered p = differ (λ (h : Head). truth h.active) (p head_row 0 tt tt) tt

pub image_put_head_nowhere : ¬ ((s : List ℕ) (at : ℕ) (h : Head) → T (in_bytes s) → T (in_usize at) → T (in_Head h)
    → s ≡ placed s at (head_bytes (relay_of h [] [])))
unfolding placed splice bytes_of run zeros cat pair_bytes head_bytes relay_of
image_put_head_nowhere p = differ (entry 0) (p (zeros 64) 0 head tt tt tt) tt

pub image_put_head_without_known : ¬ ((s : List ℕ) (at : ℕ) (h : Head) → T (in_bytes s) → T (in_usize at) → T (in_Head h)
    → placed s at (head_bytes (with_known (relay_of h [] []) 0)) ≡ placed s at (head_bytes (relay_of h [] [])))
unfolding placed splice bytes_of run zeros cat pair_bytes head_bytes relay_of with_known
image_put_head_without_known p = differ (entry 6) (p (zeros 64) 0 head tt tt tt) tt

-- relay 1 alone has noted {3}
abbrev notes : Notes
notes = record { of = row_of [] ∷ sequence ∷ replicate 6 (row_of []) }

pub image_notes_at_from_the_next : ¬ ((s : List ℕ) (at : ℕ) → T (in_bytes s) → T (in_usize at) → notes_row_at s (at + 31) ≡ notes_row_at s at)
unfolding tab bytes_of run sequence_bytes sequence_row_at notes_row_at
image_notes_at_from_the_next p = differ (λ n. many_in n 0) (p (sequence_bytes (3 ∷ [])) 0 tt tt) tt

pub image_notes_at_the_first_eight_times : ¬ ((s : List ℕ) (at : ℕ) → T (in_bytes s) → T (in_usize at)
    → record { of = replicate 8 (sequence_row_at s at) } ≡ notes_row_at s at)
unfolding tab bytes_of run sequence_bytes sequence_row_at notes_row_at
image_notes_at_the_first_eight_times p = differ (λ n. many_in n 1) (p (sequence_bytes (3 ∷ [])) 0 tt tt) tt

pub image_put_notes_nowhere : ¬ ((s : List ℕ) (at : ℕ) (n : Notes) → T (in_bytes s) → T (in_usize at) → T (in_Notes n)
    → s ≡ placed s at (notes_bytes (notes_of n)))
unfolding views_of row_of notes_of placed splice bytes_of run zeros sequence_bytes notes_bytes
image_put_notes_nowhere p = differ (entry 61) (p (zeros notes_width) 0 notes tt tt tt) tt

pub image_put_notes_first_only : ¬ ((s : List ℕ) (at : ℕ) (n : Notes) → T (in_bytes s) → T (in_usize at) → T (in_Notes n)
    → placed s at (sequence_bytes (get_or (notes_of n) 0 [])) ≡ placed s at (notes_bytes (notes_of n)))
unfolding views_of row_of notes_of placed splice bytes_of run zeros sequence_bytes notes_bytes
image_put_notes_first_only p = differ (entry 61) (p (zeros notes_width) 0 notes tt tt tt) tt

-- the generator for 1 with own {3}, and one whose own and converged are exchanged
abbrev generator : Generator
generator = record { view = 1; own = sequence; converged = row_of []; raised = row_of []; proposals = notes; convergences = notes }

abbrev exchanged : Generator → Generator
exchanged g = record { view = g.view; own = g.converged; converged = g.own; raised = g.raised; proposals = g.proposals; convergences = g.convergences }

abbrev many_own : Generator → ℕ
many_own g = many g.own

pub image_generator_at_the_next : ¬ ((s : List ℕ) (at : ℕ) → T (in_bytes s) → T (in_usize at) → generator_row_at s (at + generator_width) ≡ generator_row_at s at)
unfolding bytes_of run sequence_bytes sequence_row_at generator_row_at
image_generator_at_the_next p = differ many_own (p (be16 1 ++ sequence_bytes (3 ∷ [])) 0 tt tt) tt

pub image_generator_at_own_for_converged : ¬ ((s : List ℕ) (at : ℕ) → T (in_bytes s) → T (in_usize at) → exchanged (generator_row_at s at) ≡ generator_row_at s at)
unfolding bytes_of run sequence_bytes sequence_row_at generator_row_at
image_generator_at_own_for_converged p = differ many_own (p (be16 1 ++ sequence_bytes (3 ∷ [])) 0 tt tt) tt

pub image_put_generator_nowhere : ¬ ((s : List ℕ) (at : ℕ) (g : Generator) → T (in_bytes s) → T (in_usize at) → T (in_Generator g)
    → s ≡ placed s at (generator_bytes (generator_of g)))
unfolding views_of row_of notes_of generator_of placed splice bytes_of run zeros cat sequence_bytes generator_bytes
image_put_generator_nowhere p = differ (entry 32) (p (zeros generator_width) 0 generator tt tt tt) tt

pub image_put_generator_own_for_converged : ¬ ((s : List ℕ) (at : ℕ) (g : Generator) → T (in_bytes s) → T (in_usize at) → T (in_Generator g)
    → placed s at (generator_bytes (generator_of (exchanged g))) ≡ placed s at (generator_bytes (generator_of g)))
unfolding views_of row_of notes_of generator_of placed splice bytes_of run zeros cat sequence_bytes generator_bytes
image_put_generator_own_for_converged p = differ (entry 32) (p (zeros generator_width) 0 generator tt tt tt) tt

-- the transfer from 1 to 3, and one the other way
abbrev transfer : Transfer
transfer = record { old = 1; new = 3; sequence = sequence; senders = 1; best = pair; gathered = 0 }

abbrev backwards : Transfer → Transfer
backwards t = record { old = t.new; new = t.old; sequence = t.sequence; senders = t.senders; best = t.best; gathered = t.gathered }

pub image_transfer_at_the_next : ¬ ((s : List ℕ) (at : ℕ) → T (in_bytes s) → T (in_usize at) → transfer_row_at s (at + 80) ≡ transfer_row_at s at)
unfolding number_at transfer_row_at
image_transfer_at_the_next p = differ (λ (t : Transfer). t.old) (p (0 ∷ 1 ∷ 0 ∷ 3 ∷ []) 0 tt tt) tt

pub image_transfer_at_backwards : ¬ ((s : List ℕ) (at : ℕ) → T (in_bytes s) → T (in_usize at) → backwards (transfer_row_at s at) ≡ transfer_row_at s at)
unfolding number_at transfer_row_at
image_transfer_at_backwards p = differ (λ (t : Transfer). t.old) (p (0 ∷ 1 ∷ 0 ∷ 3 ∷ []) 0 tt tt) tt

pub image_put_transfer_nowhere : ¬ ((s : List ℕ) (at : ℕ) (t : Transfer) → T (in_bytes s) → T (in_usize at) → T (in_Transfer t)
    → s ≡ placed s at (transfer_bytes (transfer_of t)))
unfolding views_of row_of transfer_of placed splice bytes_of run zeros cat sequence_bytes pair_bytes transfer_bytes
image_put_transfer_nowhere p = differ (entry 1) (p (zeros 80) 0 transfer tt tt tt) tt

pub image_put_transfer_backwards : ¬ ((s : List ℕ) (at : ℕ) (t : Transfer) → T (in_bytes s) → T (in_usize at) → T (in_Transfer t)
    → placed s at (transfer_bytes (transfer_of (backwards t))) ≡ placed s at (transfer_bytes (transfer_of t)))
unfolding views_of row_of transfer_of placed splice bytes_of run zeros cat sequence_bytes pair_bytes transfer_bytes
image_put_transfer_backwards p = differ (entry 1) (p (zeros 80) 0 transfer tt tt tt) tt

-- a desk in read 1 whose best reply has value 77, and one whose best reply is taken for what it holds
abbrev desk : Desk
desk = record { alive = true; view = 1; phase = Read1; tries = 5; holds = fresh_pair; replied = 1; best = pair; agreed = true }

abbrev best_held : Desk → Desk
best_held d = record { alive = d.alive; view = d.view; phase = d.phase; tries = d.tries; holds = d.best; replied = d.replied; best = d.best; agreed = d.agreed }

pub image_desk_at_the_next : ¬ ((s : List ℕ) (at : ℕ) → T (in_bytes s) → T (in_usize at) → desk_at s (at + relay_generators) ≡ desk_at s at)
unfolding number_at bytes_of run zeros cat pair_at desk_at pair_bytes desk_bytes
image_desk_at_the_next p = differ (λ (d : Desk). d.tries) (p (desk_bytes desk) 0 tt tt) tt

pub image_desk_at_best_as_held : ¬ ((s : List ℕ) (at : ℕ) → T (in_bytes s) → T (in_usize at) → best_held (desk_at s at) ≡ desk_at s at)
unfolding number_at bytes_of run zeros cat pair_at desk_at pair_bytes desk_bytes
image_desk_at_best_as_held p = differ (λ (d : Desk). d.holds.value) (p (desk_bytes desk) 0 tt tt) tt

pub image_put_desk_nowhere : ¬ ((s : List ℕ) (at : ℕ) (d : Desk) → T (in_bytes s) → T (in_usize at) → T (in_Desk d) → s ≡ placed s at (desk_bytes d))
unfolding placed splice bytes_of run zeros cat pair_bytes desk_bytes
image_put_desk_nowhere p = differ (entry 0) (p (zeros 64) 0 desk tt tt tt) tt

pub image_put_desk_best_as_held : ¬ ((s : List ℕ) (at : ℕ) (d : Desk) → T (in_bytes s) → T (in_usize at) → T (in_Desk d)
    → placed s at (desk_bytes (best_held d)) ≡ placed s at (desk_bytes d))
unfolding placed splice bytes_of run zeros cat pair_bytes desk_bytes
image_put_desk_best_as_held p = differ (entry 12) (p (zeros 64) 0 desk tt tt tt) tt

-- a view message of view 3 from relay 0 to relay 1, and one whose sender and receiver are exchanged
abbrev message : Message
message = record { from = 0; to = 1; body = record { kind = 2; first = 3; second = 0; tries = 0; sequence = row_of []; pair = fresh_pair; updates = 0 } }

abbrev returned : Message → Message
returned m = record { from = m.to; to = m.from; body = m.body }

pub image_message_at_the_next : ¬ ((s : List ℕ) (at : ℕ) → T (in_bytes s) → T (in_usize at) → message_row_at s (at + 80) ≡ message_row_at s at)
unfolding message_row_at
image_message_at_the_next p = differ (λ (m : Message). m.body.kind) (p (2 ∷ 0 ∷ 1 ∷ 0 ∷ 3 ∷ []) 0 tt tt) tt

pub image_message_at_sender_for_receiver : ¬ ((s : List ℕ) (at : ℕ) → T (in_bytes s) → T (in_usize at) → returned (message_row_at s at) ≡ message_row_at s at)
unfolding message_row_at
image_message_at_sender_for_receiver p = differ (λ (m : Message). m.to) (p (2 ∷ 0 ∷ 1 ∷ 0 ∷ 3 ∷ []) 0 tt tt) tt

pub image_put_message_nowhere : ¬ ((s : List ℕ) (at : ℕ) (m : Message) → T (in_bytes s) → T (in_usize at) → T (in_Message m)
    → s ≡ placed s at (row_bytes (message_row m)))
unfolding views_of row_of placed splice bytes_of run zeros cat sequence_bytes pair_bytes row_bytes message_row
image_put_message_nowhere p = differ (entry 0) (p (zeros 80) 0 message tt tt tt) tt

pub image_put_message_sender_for_receiver : ¬ ((s : List ℕ) (at : ℕ) (m : Message) → T (in_bytes s) → T (in_usize at) → T (in_Message m)
    → placed s at (row_bytes (message_row (returned m))) ≡ placed s at (row_bytes (message_row m)))
unfolding views_of row_of placed splice bytes_of run zeros cat sequence_bytes pair_bytes row_bytes message_row
image_put_message_sender_for_receiver p = differ (entry 1) (p (zeros 80) 0 message tt tt tt) tt

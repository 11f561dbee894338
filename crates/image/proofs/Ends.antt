-- What is read at two places that read alike, byte by byte, is the same: so at the end and at any place past it. Assumes nothing.
use mathlib.Core.Path.{◌≡◌, refl, sym, ap, ◌∙◌}
use mathlib.Core.List.{List}
use Prim.Native.Nat.{ℕ, zero, suc, ◌+◌, ◌*◌, ◌≤◌, min}
use native.Mathlib.Nat.{add_assoc, add-zero}
use native.Mathlib.Decide.{ℕ_discrete}
use native.Mathlib.Omega.{arith}
use lib.ListN.{length, get_or, get_or-eq_default}
use Rattle.rows.specs.Bytes.{number_at, u16_at}
use Rattle.rows.proofs.Laws.{tab_ext}
use Rattle.layout.specs.Layout.{u16_width, u32_width, sequence_count, sequence_width, pair_desk, pair_value, head_entered, head_active, head_view, head_known}
use Rattle.layout.specs.Layout.{head_pending, head_holds, generator_own, generator_converged, generator_raised, generator_proposals, generator_convergences}
use Rattle.layout.specs.Layout.{transfer_new, transfer_sequence, transfer_senders, transfer_best, transfer_gathered, desk_phase, desk_view, desk_tries, desk_holds}
use Rattle.layout.specs.Layout.{desk_replied, desk_best, desk_agreed, message_from, message_to, message_first, message_second, message_tries, message_sequence}
use Rattle.layout.specs.Layout.{message_pair, message_updates}
use Rattle.layout.specs.Image.{phase_of, pair_at, desk_at}
use Rattle.image.specs.Parts.{head_at, counted_at, sequence_row_at, notes_row_at, generator_row_at, transfer_row_at, message_row_at}

pub record Alike (l : List ℕ) (i j : ℕ) : Type 0 where
  pub byte : (k : ℕ) → get_or l (i + k) 0 ≡ get_or l (j + k) 0

pub alike_end : (l : List ℕ) (at a : ℕ) → a ≡ min at (length l) → Alike l a at
alike_end l at a e = record { byte = λ k. go k (ℕ_discrete a at) }
  where
    go : (k : ℕ) → Dec (a ≡ at) → get_or l (a + k) 0 ≡ get_or l (at + k) 0
    go k (yes p) = rw p
    go k (no q) =
        let end : length l ≤ a = omega arith in
        let past : length l ≤ at = omega arith in
        get_or-eq_default l 0 (omega arith) ∙ sym (get_or-eq_default l 0 (omega arith))

module _ {l : List ℕ} {i j : ℕ} (h : Alike l i j) where
  on : (n : ℕ) → Alike l (i + n) (j + n)
  on n = record { byte = λ k. rw (add_assoc i n k, add_assoc j n k) (h.byte (n + k)) }

  first : get_or l i 0 ≡ get_or l j 0
  first = rw (add-zero i, add-zero j) at (h.byte 0)

  number_alike : (n : ℕ) → number_at n l i ≡ number_at n l j
  unfolding number_at
  number_alike zero = refl
  number_alike (suc n) = rw (number_alike n, h.byte n)

u16_alike : {l : List ℕ} {i j : ℕ} → Alike l i j → (n : ℕ) → u16_at l (i + n) ≡ u16_at l (j + n)
u16_alike h n = number_alike (on h n) 2

module _ {l : List ℕ} {i j : ℕ} (h : Alike l i j) where
  pub sequence_alike : sequence_row_at l i ≡ sequence_row_at l j
  unfolding sequence_row_at
  sequence_alike = rw (tab_ext 15 (counted_at l i) (counted_at l j) (λ k p. rw (h.byte sequence_count, u16_alike h (2 * k))), h.byte sequence_count)

  pub pair_alike : pair_at l i ≡ pair_at l j
  unfolding pair_at
  pair_alike = cc (number_alike h u16_width, h.byte pair_desk, number_alike (on h pair_value) u32_width)

pub notes_alike : {l : List ℕ} {i j : ℕ} → Alike l i j → notes_row_at l i ≡ notes_row_at l j
unfolding notes_row_at
notes_alike {l} {i} {j} h = rw (tab_ext 8 (λ k. sequence_row_at l (i + k * sequence_width)) (λ k. sequence_row_at l (j + k * sequence_width)) (λ k p. sequence_alike (on h (k * sequence_width))))

module _ {l : List ℕ} {i j : ℕ} (h : Alike l i j) where
  pub head_alike : head_at l i ≡ head_at l j
  unfolding head_at
  head_alike =
      cc (first h, h.byte head_entered, h.byte head_active, u16_alike h head_view, u16_alike h head_known, u16_alike h head_pending, pair_alike (on h head_holds))

  pub generator_alike : generator_row_at l i ≡ generator_row_at l j
  unfolding generator_row_at
  generator_alike =
      cc (
        number_alike h 2,
        sequence_alike (on h generator_own),
        sequence_alike (on h generator_converged),
        sequence_alike (on h generator_raised),
        notes_alike (on h generator_proposals),
        notes_alike (on h generator_convergences),
      )

  pub transfer_alike : transfer_row_at l i ≡ transfer_row_at l j
  unfolding transfer_row_at
  transfer_alike =
      cc (
        number_alike h u16_width,
        u16_alike h transfer_new,
        sequence_alike (on h transfer_sequence),
        h.byte transfer_senders,
        pair_alike (on h transfer_best),
        u16_alike h transfer_gathered,
      )

  pub desk_alike : desk_at l i ≡ desk_at l j
  unfolding desk_at
  desk_alike =
      cc (
        first h,
        u16_alike h desk_view,
        u16_alike h desk_tries,
        pair_alike (on h desk_holds),
        h.byte desk_replied,
        pair_alike (on h desk_best),
        h.byte desk_agreed,
        ap phase_of (h.byte desk_phase),
      )

  pub message_alike : message_row_at l i ≡ message_row_at l j
  unfolding message_row_at
  message_alike =
      cc (
        first h,
        h.byte message_from,
        h.byte message_to,
        u16_alike h message_first,
        u16_alike h message_second,
        u16_alike h message_tries,
        sequence_alike (on h message_sequence),
        pair_alike (on h message_pair),
        u16_alike h message_updates,
      )

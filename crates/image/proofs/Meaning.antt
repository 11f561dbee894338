-- What the rows that the code reads mean: what Image reads there. Assumes nothing.
use mathlib.Core.Path.{◌≡◌, sym, ap, ◌∙◌}
use mathlib.Core.List.{List}
use Prim.Native.Nat.{ℕ, ◌+◌, ◌*◌, ◌<◌, min}
use native.Mathlib.Omega.{arith}
use lib.ListN.{length, get_or, take, length-take}
use lib.Seq.{ext_get_or, get_or-take}
use borrow.Author.Tests.{lt-ltb}
use Rattle.rows.specs.Bytes.{tab}
use Rattle.rows.proofs.Laws.{length-tab, get_d_tab}
use Rattle.views.specs.Row.{views_of}
use Rattle.rules.specs.Sets.{view_count}
use Rattle.layout.specs.Layout.{sequence_count, sequence_width, relay_generators}
use Rattle.layout.specs.Image.{sequence_at, generator_at, transfer_at, row_at}
use Rattle.state.specs.declared.Generator.{Generator}
use Rattle.state.specs.declared.Transfer.{Transfer}
use Rattle.state.specs.declared.Message.{Message}
use Rattle.state.specs.Meaning.{notes_of, generator_of, transfer_of}
use Rattle.image.specs.Parts.{message_row, sequence_row_at, notes_row_at, generator_row_at, transfer_row_at, message_row_at}

-- what is taken of two tables that agree so far
taken_alike : (n m : ℕ) (f g : ℕ → ℕ) → ((k : ℕ) → k < m → f k ≡ g k) → take m (tab n f) ≡ take m (tab n g)
taken_alike n m f g h =
    ext_get_or 0 (take m (tab n f)) (take m (tab n g)) (long f ∙ sym (long g))
    (λ k p. let b : k < min m n = omega (arith, long f) in at f k b ∙ h k (omega arith) ∙ sym (at g k b))
  where
    long : (e : ℕ → ℕ) → length (take m (tab n e)) ≡ min m n
    long e = length-take m (tab n e) ∙ ap (min m) (length-tab n e)

    at : (e : ℕ → ℕ) (k : ℕ) → k < min m n → get_or (take m (tab n e)) k 0 ≡ e k
    at e k p = get_or-take m (tab n e) k 0 (omega arith) ∙ get_d_tab n k e 0 (omega arith)

module _ (l : List ℕ) where
  sequence_means : (i : ℕ) → views_of (sequence_row_at l i) ≡ sequence_at l i
  unfolding views_of sequence_row_at sequence_at
  sequence_means i = taken_alike view_count (get_or l (i + sequence_count) 0) _ _ (λ k p. rw (lt-ltb k (get_or l (i + sequence_count) 0) p))

  notes_means : (i : ℕ) → notes_of (notes_row_at l i) ≡ tab 8 (λ k. sequence_at l (i + k * sequence_width))
  unfolding notes_of notes_row_at tab
  notes_means i = simp sequence_means

module _ (l : List ℕ) (i : ℕ) where
  pub generator_read : {g : Generator} → g ≡ generator_row_at l i → generator_of g ≡ generator_at l i
  unfolding generator_of generator_row_at generator_at
  generator_read e =
      rw (e, sequence_means l (i + 2), sequence_means l (i + 33), sequence_means l (i + relay_generators), notes_means l (i + 95), notes_means l (i + 343))

  pub transfer_read : {t : Transfer} → t ≡ transfer_row_at l i → transfer_of t ≡ transfer_at l i
  unfolding transfer_of transfer_row_at transfer_at
  transfer_read e = rw (e, sequence_means l (i + 4))

  pub message-read : {m : Message} → m ≡ message_row_at l i → message_row m ≡ row_at l i
  unfolding message_row message_row_at row_at
  message-read e = rw (e, sequence_means l (i + 9))

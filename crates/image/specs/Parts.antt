-- What the code reads and writes at once and Image has no name for: eight notes, a relay without its tables, a message as the code holds it; and what it
-- reads in its own rows, which have room for fifteen views. Assumes nothing.
use Rattle.std.specs.Prelude.{List, [], ℕ, ◌+◌, ◌*◌, ltb, get_or, if◌then◌else◌}
use Rattle.rows.specs.Bytes.{u16_at, tab, table}
use Rattle.views.specs.declared.Sequence.{Sequence}
use Rattle.rules.specs.Sets.{view_count, relay_count}
use Rattle.layout.specs.Layout.{u16_width, sequence_count, sequence_width, head_entered, head_active, head_view, head_known, head_pending, head_holds, generator_own}
use Rattle.layout.specs.Layout.{generator_converged, generator_raised, generator_proposals, generator_convergences, transfer_new, transfer_sequence}
use Rattle.layout.specs.Layout.{transfer_senders, transfer_best, transfer_gathered, message_from, message_to, message_first, message_second, message_tries}
use Rattle.layout.specs.Layout.{message_sequence, message_pair, message_updates}
use Rattle.layout.specs.Image.{Row, flag_at, sequence_bytes, pair_at}
use Rattle.state.specs.declared.Notes.{Notes}
use Rattle.state.specs.declared.Generator.{Generator}
use Rattle.state.specs.declared.Transfer.{Transfer}
use Rattle.state.specs.declared.Head.{Head}
use Rattle.state.specs.declared.Message.{Message}
use Rattle.state.specs.Meaning.{addressed_row}

unfoldable pub notes_bytes : List (List ℕ) → List ℕ
notes_bytes qs = table sequence_bytes [] relay_count qs

-- what `relay_at` reads before the tables
unfoldable pub head_at : List ℕ → ℕ → Head
head_at b i =
    record {
      alive = flag_at b i;
      entered = flag_at b (i + head_entered);
      active = flag_at b (i + head_active);
      view = u16_at b (i + head_view);
      known = u16_at b (i + head_known);
      pending = u16_at b (i + head_pending);
      holds = pair_at b (i + head_holds);
    }

unfoldable pub message_row : Message → Row
message_row m = addressed_row m.from m.to m.body

-- ---- the rows of the code: what each means is what Image reads there (proofs/Meaning)

-- the k-th of the row's entries; one past its length is not looked at
abbrev pub counted_at : List ℕ → ℕ → ℕ → ℕ
counted_at b i k = if ltb k (get_or b (i + sequence_count) 0) then u16_at b (i + u16_width * k) else 0

-- the views that count, zeros after them, and how many count
unfoldable pub sequence_row_at : List ℕ → ℕ → Sequence
sequence_row_at b i = record { views = tab view_count (counted_at b i); len = get_or b (i + sequence_count) 0 }

unfoldable pub notes_row_at : List ℕ → ℕ → Notes
notes_row_at b i = record { of = tab relay_count (λ k. sequence_row_at b (i + k * sequence_width)) }

unfoldable pub generator_row_at : List ℕ → ℕ → Generator
generator_row_at b i =
    record {
      view = u16_at b i;
      own = sequence_row_at b (i + generator_own);
      converged = sequence_row_at b (i + generator_converged);
      raised = sequence_row_at b (i + generator_raised);
      proposals = notes_row_at b (i + generator_proposals);
      convergences = notes_row_at b (i + generator_convergences);
    }

unfoldable pub transfer_row_at : List ℕ → ℕ → Transfer
transfer_row_at b i =
    record {
      old = u16_at b i;
      new = u16_at b (i + transfer_new);
      sequence = sequence_row_at b (i + transfer_sequence);
      senders = get_or b (i + transfer_senders) 0;
      best = pair_at b (i + transfer_best);
      gathered = u16_at b (i + transfer_gathered);
    }

unfoldable pub message_row_at : List ℕ → ℕ → Message
message_row_at b i =
    record {
      from = get_or b (i + message_from) 0;
      to = get_or b (i + message_to) 0;
      body =
          record {
            kind = get_or b i 0;
            first = u16_at b (i + message_first);
            second = u16_at b (i + message_second);
            tries = u16_at b (i + message_tries);
            sequence = sequence_row_at b (i + message_sequence);
            pair = pair_at b (i + message_pair);
            updates = u16_at b (i + message_updates);
          };
    }

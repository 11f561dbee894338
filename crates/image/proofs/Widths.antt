-- How many bytes each row has, whatever it holds: the widths of the image (layout), and of the parts that the code writes at once. Assumes nothing.
use mathlib.Core.Path.{◌≡◌}
use mathlib.Core.List.{List, []}
use Prim.Native.Nat.{ℕ}
use lib.ListN.{length, get_or}
use Rattle.rows.specs.Bytes.{be16, run}
use Rattle.rows.proofs.Laws.{length_run}
use Rattle.rows.proofs.Numbers.{length-be16}
use Rattle.rows.proofs.Tables.{table-length}
use Rattle.rules.specs.Sets.{view_count}
use Rattle.layout.specs.Layout.{u16_width, sequence_count, sequence_width, notes_width}
use Rattle.layout.specs.Image.{sequence_bytes}
use Rattle.image.specs.Parts.{notes_bytes}
pub use Rattle.layout.proofs.Widths.{length-sequence, length-pair, length_head, length_generator, length_transfer, length-desk, length-row}

pub length_views : (q : List ℕ) → length (run view_count (λ k. be16 (get_or q k 0))) ≡ sequence_count
length_views q = length_run u16_width view_count (λ k. be16 (get_or q k 0)) (λ k. length-be16 (get_or q k 0))

pub length_notes : (qs : List (List ℕ)) → length (notes_bytes qs) ≡ notes_width
unfolding notes_bytes
length_notes qs = table-length sequence_bytes [] sequence_width 8 length-sequence qs

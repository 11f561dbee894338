-- `image::put_generator_fields` meets its contract. Assumes nothing.
use mathlib.Core.Path.{◌∙◌}
use mathlib.Core.List.{append_assoc, append-nil}
use native.Mathlib.Omega.{arith}
use Rattle.rows.specs.Bytes.{cat}
use Rattle.rows.proofs.Laws.{put_first, put_then}
use Rattle.rows.proofs.Numbers.{length-be16}
use Rattle.rows.proofs.Tables.{length-zeros}
use Rattle.layout.specs.Image.{generator_bytes}
use Rattle.state.specs.Meaning.{notes_of, generator_of}
use Rattle.image.specs.Parts.{notes_bytes}
use Rattle.image.proofs.Widths.{length_notes, length-sequence}
use Rattle.image.proofs.put_generator_fields.Goals as goal

pub returns : goal.returns
unfolding generator_bytes generator_of notes_bytes cat
returns c =
    let p1 = put_first _ _ (length-be16 _) c.put_u16.ensures in
    let p2 = put_then _ _ p1 (length-sequence _) (omega (arith, c.requires)) c.put_sequence.ensures in
    let p3 = put_then _ _ p2 (length-sequence _) (omega (arith, c.requires)) c.put_sequence-2.ensures in
    let p4 = put_then _ _ p3 (length-sequence _) (omega (arith, c.requires)) c.put_sequence-3.ensures in
    let p5 = put_then _ _ p4 (length_notes (notes_of c.args.g.proposals)) (omega (arith, c.requires)) c.put_notes.ensures in
    let p6 = put_then _ _ p5 (length_notes (notes_of c.args.g.convergences)) (omega (arith, c.requires)) c.put_notes-2.ensures in
    let p7 = put_then _ _ p6 (length-zeros _) (omega (arith, c.requires)) c.clear.ensures in
    p7.is ∙ simp (append_assoc, append-nil)

-- `image::put_notes` meets its contract: the sequences before i are written. Assumes nothing.
use mathlib.Core.Path.{sym, ◌∙◌}
use Prim.Native.Nat.{◌+◌, ◌*◌, ◌≤◌}
use native.Mathlib.Omega.{arith}
use lib.ListN.{length}
use borrow.Author.Tests.{leb-true, leb-false}
use Rattle.rows.proofs.Laws.{placed_not, wrote_none, wrote_more, wrote-all}
use Rattle.layout.specs.Layout.{sequence_width, notes_width}
use Rattle.state.specs.Meaning.{notes_of}
use Rattle.image.specs.Parts.{notes_bytes}
use Rattle.image.proofs.Parts.{note_at}
use Rattle.image.proofs.Widths.{length-sequence, length_notes}
use Rattle.image.proofs.put_notes.Goals as goal

pub returns-then-not-has_room : goal.returns-then-not-has_room
returns-then-not-has_room c =
    let past = leb-false _ _ (sym c.has_room.ensures ∙ c.if-not-has_room.true) in
    sym (placed_not _ _ _ (omega (arith, length_notes (notes_of c.args.n))))

pub loop-i-init : goal.loop-i-init
loop-i-init c = wrote_none

pub overflow_add-at : goal.overflow_add-at
overflow_add-at c =
    let space : c.args.at + notes_width ≤ length c.args.s.now = leb-true _ _ (sym c.has_room.ensures ∙ c.if-not-has_room.false) in
    omega arith

pub loop-i-preserved : goal.loop-i-preserved
loop-i-preserved c =
    let space : c.args.at + notes_width ≤ length c.args.s.now = leb-true _ _ (sym c.has_room.ensures ∙ c.if-not-has_room.false) in
    wrote_more (λ k. length-sequence _) space _ (c.args.at + c.loop-i.i * sequence_width) c.loop-i.invariant c.loop-i-test.true (omega arith)
    (rw (note_at c.args.n.of c.loop-i.i) at c.put_sequence.ensures)

pub returns : goal.returns
unfolding notes_bytes notes_of
returns c =
    let space : c.args.at + notes_width ≤ length c.args.s.now = leb-true _ _ (sym c.has_room.ensures ∙ c.if-not-has_room.false) in
    wrote-all (λ k. length-sequence _) space c.loop-i.invariant c.loop-i-test.false

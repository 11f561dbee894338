-- `image::put_transfer` meets its contract. Assumes nothing.
use mathlib.Core.Path.{◌≡◌, sym, ap, ◌∙◌}
use mathlib.Core.List.{[], ◌∷◌, ◌++◌, append_assoc, append-nil}
use Prim.Native.Nat.{◌+◌, ◌≤◌}
use native.Mathlib.Omega.{arith}
use lib.ListN.{length}
use borrow.Author.Tests.{leb-true, leb-false}
use Rattle.rows.specs.Bytes.{placed, field_bytes, fields_bytes, cat}
use Rattle.rows.specs.declared.Field.TheVariants.{Byte, U16, U32, Zeros}
use Rattle.rows.proofs.Laws.{placed_not}
use Rattle.layout.specs.Layout.{transfer_width, transfer_rest}
use Rattle.layout.specs.Image.{sequence_bytes, pair_bytes, transfer_bytes}
use Rattle.layout.proofs.Widths.{length_transfer}
use Rattle.state.specs.Meaning.{transfer_of}
use Rattle.views.specs.Row.{views_of}
use Rattle.state.specs.declared.Transfer.{Transfer}
use Rattle.image.proofs.Fields.{around}
use Rattle.image.proofs.put_transfer.Goals as goal

row_is : (t : Transfer)
    → (fields_bytes (U16 t.old ∷ U16 t.new ∷ []) ++ sequence_bytes (views_of t.sequence))
    ++ fields_bytes (Byte t.senders ∷ U16 t.best.stamp.count ∷ Byte t.best.stamp.desk ∷ U32 t.best.value ∷ U16 t.gathered ∷ Zeros transfer_rest ∷ [])
    ≡ transfer_bytes (transfer_of t)
unfolding transfer_bytes transfer_of pair_bytes cat fields_bytes field_bytes
row_is t = simp (append_assoc, append-nil)

pub returns-then-not-has_room : goal.returns-then-not-has_room
returns-then-not-has_room c =
    let past = leb-false _ _ (sym c.has_room.ensures ∙ c.if-not-has_room.true) in
    sym (placed_not _ _ _ (omega (arith, length_transfer (transfer_of c.args.t))))

pub overflow_add-at : goal.overflow_add-at
overflow_add-at c =
    let space : c.args.at + transfer_width ≤ length c.args.s.now = leb-true _ _ (sym c.has_room.ensures ∙ c.if-not-has_room.false) in
    omega arith

pub overflow_add-at-2 : goal.overflow_add-at-2
overflow_add-at-2 c =
    let space : c.args.at + transfer_width ≤ length c.args.s.now = leb-true _ _ (sym c.has_room.ensures ∙ c.if-not-has_room.false) in
    omega arith

pub returns : goal.returns
returns c =
    around _ _ _ _ _ c.put_row.ensures c.put_sequence.ensures c.put_row-2.ensures (leb-true _ _ (sym c.has_room.ensures ∙ c.if-not-has_room.false))
    ∙ ap (placed _ _) (row_is c.args.t)

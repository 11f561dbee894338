-- `image::put_message` meets its contract. Assumes nothing.
use mathlib.Core.Path.{◌≡◌, sym, ap, ◌∙◌}
use mathlib.Core.List.{[], ◌∷◌, ◌++◌, append_assoc, append-nil}
use Prim.Native.Nat.{◌+◌, ◌≤◌}
use native.Mathlib.Omega.{arith}
use lib.ListN.{length}
use borrow.Author.Tests.{leb-true, leb-false}
use Rattle.rows.specs.Bytes.{placed, field_bytes, fields_bytes, cat}
use Rattle.rows.specs.declared.Field.TheVariants.{Byte, U16, U32, Zeros}
use Rattle.rows.proofs.Laws.{placed_not}
use Rattle.layout.specs.Layout.{message_width, message_rest}
use Rattle.layout.specs.Image.{sequence_bytes, pair_bytes, row_bytes}
use Rattle.layout.proofs.Widths.{length-row}
use Rattle.image.specs.Parts.{message_row}
use Rattle.views.specs.Row.{views_of}
use Rattle.state.specs.declared.Message.{Message}
use Rattle.image.proofs.Fields.{around}
use Rattle.image.proofs.put_message.Goals as goal

row_is : (m : Message)
    → (fields_bytes (Byte m.body.kind ∷ Byte m.from ∷ Byte m.to ∷ U16 m.body.first ∷ U16 m.body.second ∷ U16 m.body.tries ∷ [])
    ++ sequence_bytes (views_of m.body.sequence))
    ++ fields_bytes (U16 m.body.pair.stamp.count ∷ Byte m.body.pair.stamp.desk ∷ U32 m.body.pair.value ∷ U16 m.body.updates ∷ Zeros message_rest ∷ [])
    ≡ row_bytes (message_row m)
unfolding row_bytes message_row pair_bytes cat fields_bytes field_bytes
row_is m = simp (append_assoc, append-nil)

pub returns-then-not-has_room : goal.returns-then-not-has_room
returns-then-not-has_room c =
    let past = leb-false _ _ (sym c.has_room.ensures ∙ c.if-not-has_room.true) in
    sym (placed_not _ _ _ (omega (arith, length-row (message_row c.args.m))))

pub overflow_add-at : goal.overflow_add-at
overflow_add-at c =
    let space : c.args.at + message_width ≤ length c.args.s.now = leb-true _ _ (sym c.has_room.ensures ∙ c.if-not-has_room.false) in
    omega arith

pub overflow_add-at-2 : goal.overflow_add-at-2
overflow_add-at-2 c =
    let space : c.args.at + message_width ≤ length c.args.s.now = leb-true _ _ (sym c.has_room.ensures ∙ c.if-not-has_room.false) in
    omega arith

pub returns : goal.returns
returns c =
    around _ _ _ _ _ c.put_row.ensures c.put_sequence.ensures c.put_row-2.ensures (leb-true _ _ (sym c.has_room.ensures ∙ c.if-not-has_room.false))
    ∙ ap (placed _ _) (row_is c.args.m)

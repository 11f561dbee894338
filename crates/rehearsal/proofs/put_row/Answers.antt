-- `rehearsal::put_row` meets its contract. Assumes nothing.
use Rattle.rehearsal.proofs.Playing.{columns-read, lined}
use Rattle.rehearsal.proofs.put_row.Goals as goal

pub returns : goal.returns
returns c =
    lined c.args.rows.now c.args.row c.args.kind c.args.number c.args.at c.args.out.now _ c.put_step-next.result c.byte_at-answer.result _ _ _
    c.byte_at-answer.ensures
    (columns-read c.args.rows.now c.args.row _ _ _ _ _ _ c.byte_at-answer.ensures c.byte_at-event.ensures c.byte_at-who.ensures c.read_u16-count.ensures
    c.byte_at-desk.ensures c.read_u32-last.ensures)
    (c.put_step-next.ensures.position, c.put_step-next.ensures.bytes)
    c.moved.ensures c.moved-2.ensures

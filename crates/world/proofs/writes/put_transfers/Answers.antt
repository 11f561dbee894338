-- `world::writes::put_transfers` meets its contract. Assumes nothing.
use Rattle.std.specs.Prelude.{None}
use mathlib.Core.Path.{sym, ◌∙◌}
use mathlib.Core.List.{map}
use native.Mathlib.Omega.{arith}
use Rattle.views.proofs.Truth.{contrary}
use Rattle.layout.proofs.World.{good_length}
use Rattle.state.specs.Meaning.{transfer_of}
use Rattle.world.proofs.Put.{moved-written, stays_written, moves_written, moves_found}
use Rattle.world.proofs.writes.put_transfers.Goals as goal

pub put_kept-requires : goal.put_kept-requires
put_kept-requires c = omega (arith, good_length c.args.w.now c.requires, c.args.s.is_relay, c.row-at.ensures)

pub returns-then-view-read_u16 : goal.returns-then-view-read_u16
returns-then-view-read_u16 c h =
    c.put_kept.ensures
    ∙ rw c.row-at.ensures
    (moved-written c.args.w.now c.requires c.args.s.number c.args.s.is_relay c.args.part
    (λ e. c.if-view-read_u16.true (e ∙ sym (rw c.row-at.ensures at c.read_u16.ensures)))
    (map transfer_of c.kept_transfers-kept.result) (rw c.row-at.ensures at c.kept_transfers-kept.ensures))

pub returns-in_default : goal.returns-in_default
returns-in_default c h =
    let same = c.if-view-read_u16.false ∙ rw c.row-at.ensures at c.read_u16.ensures in
    stays_written c.args.w.now c.requires c.args.s.number c.args.s.is_relay c.args.part same c.in_default.is

pub returns-in_default-transfer_seat : goal.returns-in_default-transfer_seat
returns-in_default-transfer_seat c h =
    let same = c.if-view-read_u16.false ∙ rw c.row-at.ensures at c.read_u16.ensures in
    let seat = rw c.row-at.ensures at c.in_default-transfer_seat.ensures in
    let none = moves_found c.args.w.now c.requires c.args.s.number c.args.s.is_relay c.args.part same c.in-Some.t c.in-Some.is None seat in
    absurd (contrary h (sym none))

pub returns : goal.returns
returns c h =
    let same = c.if-view-read_u16.false ∙ rw c.row-at.ensures at c.read_u16.ensures in
    c.put_transfer.ensures
    ∙ rw c.row-at.ensures
    (moves_written c.args.w.now c.requires c.args.s.number c.args.s.is_relay c.args.part same c.in-Some.t c.in-Some.is _
    (rw c.row-at.ensures at c.in-Some-transfer_seat.ensures.0) c.in-Some-transfer_seat.ensures.1)

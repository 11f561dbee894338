-- `world::reads::transfer_in` meets its contract. Assumes nothing.
use borrow.Author.Tests.{eq-eqb, ne_eqb}
use Rattle.layout.specs.Image.{transfer_at}
use Rattle.image.proofs.Meaning.{transfer_read}
use Rattle.world.proofs.Good.{transfer_at_seat, nothing, something, none_shown}
use Rattle.world.proofs.reads.transfer_in.Goals as goal

pub returns-in_err-row : goal.returns-in_err-row
returns-in_err-row c v =
    let s = c.args.s in
    let seat = rw c.row-at.ensures at c.in_err-row.ensures.0 in
    rw c.from_residual.ensures (none_shown (transfer_at_seat c.args.w.now c.requires s.number s.is_relay v c.args.o c.args.n 8 seat))

pub returns-then-read_u16-eq0 : goal.returns-then-read_u16-eq0
unfolding transfer_at
returns-then-read_u16-eq0 c v =
    let s = c.args.s in
    let seat = rw c.row-at.ensures at c.in_ok-row.ensures.0 in
    nothing (transfer_at_seat c.args.w.now c.requires s.number s.is_relay v c.args.o c.args.n c.in_ok-row.field-0 seat)
    (λ h. eq-eqb _ _ (rw (c.read_u16.ensures, c.row-at.ensures) at c.if-read_u16-eq0.true))

pub returns : goal.returns
unfolding transfer_at
returns c v =
    let s = c.args.s in
    let seat = rw c.row-at.ensures at c.in_ok-row.ensures.0 in
    rw (transfer_read _ _ (rw c.row-at.ensures at c.transfer_at.ensures))
    (something (transfer_at_seat c.args.w.now c.requires s.number s.is_relay v c.args.o c.args.n c.in_ok-row.field-0 seat) c.in_ok-row.ensures.1
    (ne_eqb _ _ (rw (c.read_u16.ensures, c.row-at.ensures) at c.if-read_u16-eq0.false)))

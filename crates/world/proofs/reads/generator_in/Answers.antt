-- `world::reads::generator_in` meets its contract. Assumes nothing.
use borrow.Author.Tests.{eq-eqb, ne_eqb}
use Rattle.layout.specs.Image.{generator_at}
use Rattle.image.proofs.Meaning.{generator_read}
use Rattle.world.proofs.Good.{generator_at_seat, nothing, something, none_shown}
use Rattle.world.proofs.reads.generator_in.Goals as goal

pub returns-in_err-row : goal.returns-in_err-row
returns-in_err-row c m =
    let s = c.args.s in
    let seat = rw c.row-at.ensures at c.in_err-row.ensures.0 in
    rw c.from_residual.ensures (none_shown (generator_at_seat c.args.w.now c.requires s.number s.is_relay c.args.v m 8 seat))

pub returns-then-read_u16-eq0 : goal.returns-then-read_u16-eq0
unfolding generator_at
returns-then-read_u16-eq0 c m =
    let s = c.args.s in
    let seat = rw c.row-at.ensures at c.in_ok-row.ensures.0 in
    nothing (generator_at_seat c.args.w.now c.requires s.number s.is_relay c.args.v m c.in_ok-row.field-0 seat)
    (λ h. eq-eqb _ _ (rw (c.read_u16.ensures, c.row-at.ensures) at c.if-read_u16-eq0.true))

pub returns : goal.returns
unfolding generator_at
returns c m =
    let s = c.args.s in
    let seat = rw c.row-at.ensures at c.in_ok-row.ensures.0 in
    rw (generator_read _ _ (rw c.row-at.ensures at c.generator_at.ensures))
    (something (generator_at_seat c.args.w.now c.requires s.number s.is_relay c.args.v m c.in_ok-row.field-0 seat) c.in_ok-row.ensures.1
    (ne_eqb _ _ (rw (c.read_u16.ensures, c.row-at.ensures) at c.if-read_u16-eq0.false)))

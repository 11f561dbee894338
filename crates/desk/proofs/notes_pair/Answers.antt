-- `desk::notes_pair` meets its contract: what the one comparison says of the best reply, and of the agreement. Assumes nothing.
use mathlib.Core.Path.{◌≡◌, sym, ◌∙◌}
use borrow.Author.Tests.{eq-eqb, ne_eqb, le-ltb, lt-ltb}
use Rattle.stamps.specs.Stamp.{greatest_of}
use Rattle.stamps.proofs.Order.{greater_bits, same_bits}
use Rattle.rules.specs.Desks.{agrees, notes_ack, notes_pair}
use Rattle.desk.specs.Replies.{reply_noted}
use Rattle.desk.proofs.notes_pair.Goals.{then-is_greater, else-is_greater, then-d-eq0, else-d-eq0+then-d, else-d-eq0+else-d}
use Rattle.desk.proofs.notes_pair.Goals as goal

pub returns-then-from-ge-RELAYS : goal.returns-then-from-ge-RELAYS
unfolding reply_noted
returns-then-from-ge-RELAYS c = rw (le-ltb _ _ c.if-from-ge-RELAYS.true)

pub returns : goal.returns
unfolding reply_noted notes_pair notes_ack greatest_of
returns c =
    let best : c.if-is_greater.result ≡ greatest_of c.args.d.best c.args.p =
    elim c.if-is_greater.branch [
      | then-is_greater w ↦ w.result-is ∙ rw (sym (greater_bits _ _ c.compare-order.ensures) ∙ eq-eqb _ _ w.if-is_greater.true)
      | else-is_greater w ↦ w.result-is ∙ rw (sym (greater_bits _ _ c.compare-order.ensures) ∙ ne_eqb _ _ w.if-is_greater.false)
    ] in
    let agreed : c.if-d-eq0.result ≡ agrees c.args.d c.args.p =
    elim c.if-d-eq0.branch [
      | then-d-eq0 w ↦ rw (w.result-is, eq-eqb _ _ w.if-d-eq0.true)
      | else-d-eq0+then-d w ↦ rw (w.result-is, ne_eqb _ _ w.if-d-eq0.false, w.if-d.true, same_bits _ _ c.compare-order.ensures)
      | else-d-eq0+else-d w ↦ rw (w.result-is, ne_eqb _ _ w.if-d-eq0.false, w.if-d.false)
    ] in
    rw (lt-ltb _ _ c.if-from-ge-RELAYS.false, c.notes_ack.ensures, best, agreed)

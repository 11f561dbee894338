-- `stamps::greatest` meets its contract. Assumes nothing.
use mathlib.Core.Path.{sym, ◌∙◌}
use borrow.Author.Tests.{eq-eqb, ne_eqb}
use Rattle.stamps.specs.Stamp.{greatest_of}
use Rattle.stamps.proofs.Order.{greater_bits}
use Rattle.stamps.proofs.greatest.Goals as goal

pub returns-then-order-eq1 : goal.returns-then-order-eq1
unfolding greatest_of
returns-then-order-eq1 c = rw (sym (greater_bits _ _ c.compare-order.ensures) ∙ eq-eqb _ _ c.if-order-eq1.true)

pub returns-else-order-eq1 : goal.returns-else-order-eq1
unfolding greatest_of
returns-else-order-eq1 c = rw (sym (greater_bits _ _ c.compare-order.ensures) ∙ ne_eqb _ _ c.if-order-eq1.false)

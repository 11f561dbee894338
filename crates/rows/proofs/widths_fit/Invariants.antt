-- `rows::widths_fit` meets its contract. Assumes nothing.
use Rattle.rows.proofs.Numbers.{Ends}
use Rattle.rows.proofs.widths_fit.Given as goal

abbrev pub invariant-loop-width : goal.invariant-loop-width
invariant-loop-width l = Ends l.widths l.at l.end l.width-index

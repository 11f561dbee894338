-- `rows::row_fits` meets its contract. Assumes nothing.
use Rattle.rows.proofs.Row.{Ends}
use Rattle.rows.proofs.row_fits.Given as goal

abbrev pub invariant-loop-field : goal.invariant-loop-field
invariant-loop-field l = Ends l.fields l.at l.end l.field-index

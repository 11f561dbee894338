-- `rehearsal::put_rows` meets its contract. Assumes nothing.
use lib.ListN.{get_or}
use Rattle.rules.specs.State.{start}
use Rattle.sheet.specs.Reading.{steps_from, steps_left}
use Rattle.rehearsal.proofs.Playing.{Lining}
use Rattle.rehearsal.proofs.put_rows.Given as goal

abbrev pub invariant-loop-step : goal.invariant-loop-step
invariant-loop-step l =
    Lining (start (get_or l.sheet 5 0)) (steps_from l.sheet 6) l.rows l.initial.out l.initial.tally.at l.out l.row l.tally.at l.tally.delivered
    l.tally.dropped l.number (steps_left l.step-iterator)

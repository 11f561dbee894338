-- `world::run::columns_of` meets its contract. Assumes nothing.
use Rattle.world.specs.Answer.{report_of}
use Rattle.world.specs.Tracing.{columns_of}
use Rattle.world.proofs.run.columns_of.Goals as goal

pub returns-in-Nothing : goal.returns-in-Nothing
unfolding columns_of report_of
returns-in-Nothing c = rw c.in-Nothing.is

pub returns-in-Opened : goal.returns-in-Opened
unfolding columns_of report_of
returns-in-Opened c = rw c.in-Opened.is

pub returns-in-ReadDone : goal.returns-in-ReadDone
unfolding report_of
returns-in-ReadDone c = rw c.in-ReadDone.is c.ended.ensures

pub returns-in-WriteDone : goal.returns-in-WriteDone
unfolding report_of
returns-in-WriteDone c = rw c.in-WriteDone.is c.ended-in-WriteDone.ensures

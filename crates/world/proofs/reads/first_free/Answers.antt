-- `world::reads::first_free` meets its contract. Assumes nothing.
use borrow.Author.Rules.{rules}
use borrow.Author.Tests.{tests}
use Rattle.world.specs.Commits.{free_row}
use Rattle.world.proofs.Lists.{found_by}
use Rattle.world.proofs.reads.first_free.Goals as goal

pub returns : goal.returns
returns c = found_by _ _ _ (free_row c.args.w.now) _ c.requires.within c.requires.each c.find.ensures.ran (λ x b q k. search (rules, tests))

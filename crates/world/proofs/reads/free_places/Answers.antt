-- `world::reads::free_places` meets its contract. Assumes nothing.
use native.Mathlib.Omega.{arith}
use borrow.Author.Rules.{rules}
use borrow.Author.Tests.{tests}
use Rattle.std.proofs.lemmas.Iterator.{YieldsList-from_range}
use Rattle.std.proofs.lemmas.Iterator.Consumers.{YieldsList-from_filter, count_from_yields_List}
use Rattle.world.specs.Commits.{free_row}
use Rattle.world.proofs.Places.{places_counted}
use Rattle.world.proofs.reads.free_places.Goals as goal

pub returns : goal.returns
returns c =
    places_counted c.args.w.now 256 c.count.result
    (count_from_yields_List c.filter.result c.count.result c.count.ensures.ran
    (YieldsList-from_filter _ (free_row c.args.w.now) (YieldsList-from_range 0 256 256 (cc) (omega arith)) c.filter.ensures.closure
    (λ x r q k. search (rules, tests))))

-- `good::relays::good_relays` meets its contract. Assumes nothing.
use mathlib.Core.Path.{refl}
use borrow.Author.Rules.{rules}
use Rattle.good.specs.Rows.{relay_good}
use Rattle.good.proofs.Chains.{all_below}
use Rattle.good.proofs.relays.good_relays.Goals as goal

pub returns : goal.returns
returns c = all_below 8 (relay_good c.args.w.now) refl c.all.ensures.ran (λ x b q k. search rules)

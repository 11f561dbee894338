-- `good::desks::good_desks` meets its contract. Assumes nothing.
use mathlib.Core.Path.{refl}
use borrow.Author.Rules.{rules}
use Rattle.layout.specs.Layout.{desk_begin}
use Rattle.good.specs.Rows.{desk_good}
use Rattle.good.proofs.Chains.{all_below}
use Rattle.good.proofs.desks.good_desks.Goals as goal

pub returns : goal.returns
returns c = all_below 4 (λ n. desk_good c.args.w.now (desk_begin n)) refl c.all.ensures.ran (λ x b q k. search rules)

-- `good::places::good_places` meets its contract. Assumes nothing.
use mathlib.Core.Path.{refl}
use borrow.Author.Rules.{rules}
use Rattle.layout.specs.Layout.{place_begin}
use Rattle.good.specs.Rows.{place_good}
use Rattle.good.proofs.Chains.{all_below}
use Rattle.good.proofs.places.good_places.Goals as goal

pub returns : goal.returns
returns c = all_below 256 (λ p. place_good c.args.w.now (place_begin p)) refl c.all.ensures.ran (λ x b q k. search rules)

-- `good::tables::other_names` meets its contract. Assumes nothing.
use mathlib.Core.Path.{refl}
use Prim.Native.Nat.{◌+◌, ◌*◌}
use borrow.Author.Rules.{rules}
use Rattle.good.specs.Rows.{differs}
use Rattle.good.proofs.Chains.{all_below}
use Rattle.good.proofs.tables.other_names.Goals as goal

pub returns : goal.returns
unfolding differs
returns g c =
    all_below c.args.i (λ j. g.T.Named.other c.args.w.now (c.args.at + j * g.row.N) (c.args.at + c.args.i * g.row.N)) refl c.all.ensures.ran
    (λ x b q k. search rules)

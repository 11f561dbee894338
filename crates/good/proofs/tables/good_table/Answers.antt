-- `good::tables::good_table` meets its contract: where all is zero from a place on, it is from each later one on. Assumes nothing.
use Prim.Native.Nat.{◌+◌, ◌*◌, ◌-◌}
use borrow.Author.Rules.{rules}
use Rattle.rows.specs.Tests.{all_zero}
use Rattle.rules.specs.Sets.{seat_count}
use Rattle.good.specs.Rows.{place_filled, filled_good}
use Rattle.good.proofs.Chains.{all_until}
use Rattle.good.proofs.Held.{zero_later}
use Rattle.good.proofs.tables.good_table.Goals as goal

pub returns : goal.returns
unfolding filled_good
returns g c =
    all_until seat_count (λ i. all_zero c.args.w.now (c.args.at + i * g.row.N) ((seat_count - i) * g.row.N))
    (place_filled g.T.Named.other g.T.Row.good g.row.N c.args.w.now c.args.s c.args.at)
    (λ i k h p e. zero_later g.row.N c.args.w.now c.args.at i k h e) _ c.take_while.ensures.source
    c.take_while.ensures.closure c.take_while.ensures.done c.all.ensures.ran
    (λ x b q k. search rules) (λ x b q k. search rules)

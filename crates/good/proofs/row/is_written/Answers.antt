-- `good::row::is_written` meets its contract: its own row is then `x`, in bytes. Assumes nothing.
use mathlib.Core.Path.{◌≡◌, ◌∙◌, ap}
use lib.ListN.{length}
use borrow.Author.Rules.{rules}
use Rattle.good.specs.Rows.{held}
use Rattle.good.proofs.Held.{part_same, written}
use Rattle.good.proofs.row.is_written.Goals as goal

pub returns : goal.returns
returns g c =
    let row : c.put.new.row ≡ g.T.Row.bytes c.args.x.now = written _ _ (g.met.T.Row.wide c.args.x.now ∙ search rules) c.put.ensures in
    part_same c.args.w.now c.args.at c.put.new.row (ap length row ∙ g.met.T.Row.wide c.args.x.now) c.requires c.eq.ensures
    ∙ ap (held c.args.w.now c.args.at) row

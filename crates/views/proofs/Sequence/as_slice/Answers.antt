-- `views::Sequence::as_slice` meets its contract. Assumes nothing.
use Rattle.std.proofs.Common.{rules}
use Rattle.views.proofs.Rows.{views_first}
use Rattle.views.proofs.Sequence.as_slice.Goals as goal

pub returns-clause-views : goal.returns-clause-views
returns-clause-views c = views_first c.args.self.now (search rules) c.min.result c.min.ensures

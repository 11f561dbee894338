-- `views::push` meets its contract. Assumes nothing.
use Rattle.std.proofs.Common.{rules}
use Rattle.views.proofs.Rows.{pushed, pushed_full}
use Rattle.views.proofs.push.Goals as goal

pub returns-then-r-lt-VIEWS : goal.returns-then-r-lt-VIEWS
returns-then-r-lt-VIEWS c = pushed c.args.q c.args.v c.requires (search rules) c.if-r-lt-VIEWS.true

pub returns-else-r-lt-VIEWS : goal.returns-else-r-lt-VIEWS
returns-else-r-lt-VIEWS c = pushed_full c.args.q c.args.v c.requires (search rules) c.if-r-lt-VIEWS.false

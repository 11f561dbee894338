-- `views::heard` meets its contract: each way out is a case of the rule. Assumes nothing.
use mathlib.Core.Path.{◌∙◌}
use Rattle.views.specs.Chain.{heard_of}
use Rattle.views.proofs.heard.Goals as goal

pub returns-then-not-lacks : goal.returns-then-not-lacks
unfolding heard_of
returns-then-not-lacks c = c.kept.ensures ∙ rw (← c.lacks.ensures, c.if-not-lacks.true)

pub returns-then-conflict : goal.returns-then-conflict
unfolding heard_of
returns-then-conflict c =
    c.plus.ensures
    ∙ rw (c.join.ensures, c.most.ensures, c.most-then-conflict.ensures)
    (rw (← c.lacks.ensures, c.if-not-lacks.false, ← c.conflict.ensures, c.if-conflict.true))

pub returns-else-conflict : goal.returns-else-conflict
unfolding heard_of
returns-else-conflict c = c.union.ensures ∙ rw (← c.lacks.ensures, c.if-not-lacks.false, ← c.conflict.ensures, c.if-conflict.false)

-- `views::inside` meets its contract: each test gives its part of the definition. Assumes nothing.
use Rattle.views.specs.View.{inside_of}
use Rattle.views.proofs.inside.Goals as goal

pub returns-then-within : goal.returns-then-within
unfolding inside_of
returns-then-within c = rw (← c.within.ensures, c.if-within.true)

pub returns-else-within : goal.returns-else-within
unfolding inside_of
returns-else-within c = rw (← c.within.ensures, c.if-within.false)

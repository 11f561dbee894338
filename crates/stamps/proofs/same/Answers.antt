-- `stamps::same` meets its contract. Assumes nothing.
use Rattle.std.proofs.Common.{◌∙◌}
use Rattle.stamps.proofs.Derived.{same_derived}
use Rattle.stamps.proofs.same.Goals as goal

pub returns : goal.returns
returns c = c.eq.ensures ∙ same_derived c.args.a c.args.b

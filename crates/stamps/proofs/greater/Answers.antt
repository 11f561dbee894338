-- `stamps::greater` meets its contract. Assumes nothing.
use Rattle.std.proofs.Common.{◌∙◌}
use Rattle.stamps.proofs.Derived.{greater_derived}
use Rattle.stamps.proofs.greater.Goals as goal

pub returns : goal.returns
returns c = c.gt.ensures ∙ greater_derived c.args.a c.args.b

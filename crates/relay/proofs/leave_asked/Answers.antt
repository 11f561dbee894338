-- `relay::leave_asked` meets its contract. Assumes nothing.
use mathlib.Core.Path.{sym}
use Rattle.views.proofs.Sets.{member_lt}
use Rattle.relay.proofs.leave_asked.Goals as goal

pub leaves-requires : goal.leaves-requires
leaves-requires c = member_lt c.args.p.head.view c.args.s (sym c.if-not-is_member.ensures)

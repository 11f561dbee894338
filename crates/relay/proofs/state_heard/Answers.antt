-- `relay::state_heard` meets its contract. Assumes nothing.
use mathlib.Core.Path.{sym}
use Rattle.state.specs.Meaning.{part_of}
use Rattle.relay.proofs.Laws.{gathered-pair}
use Rattle.relay.proofs.state_heard.Goals as goal

pub tested-requires : goal.tested-requires
tested-requires c =
    let x = gathered-pair c.gathers.result c.transfer_for.result c.args.o c.args.w (part_of c.args.p).transfers c.transfer_for.ensures _ _ _
    c.gathers.ensures in
    rw (x.0, x.1) (sym c.if-not-shows.ensures)

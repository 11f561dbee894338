-- `relay::takes_install` meets its contract. Assumes nothing.
use Rattle.state.specs.Meaning.{part_of}
use Rattle.relay.proofs.Laws.{kept_pair}
use Rattle.relay.proofs.takes_install.Goals as goal

pub tested-requires : goal.tested-requires
tested-requires c =
    let x = kept_pair c.keeps.result c.transfer_for.result c.args.o c.args.w (part_of c.args.p).transfers c.transfer_for.ensures _ c.keeps.ensures in
    rw (x.0, x.1) c.requires

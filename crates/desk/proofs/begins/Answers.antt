-- `desk::begins` meets its contract. Assumes nothing.
use mathlib.Core.Path.{◌≡◌}
use Prim.Native.Nat.{◌+◌, ◌<◌}
use native.Mathlib.Omega.{arith}
use borrow.Author.Tests.{lt-leb}
use borrow.Author.Rules.{rules}
use Rattle.rules.specs.Desks.{begins, begun}
use Rattle.desk.proofs.Laws.{desk_asks}
use Rattle.desk.proofs.begins.Goals as goal

pub returns : goal.returns
unfolding begins begun
returns c =
    let next : c.in_ok-tries.tries ≡ c.args.d.tries + 1 = search rules in
    let room : c.args.d.tries < 65535 = omega arith in
    rw (c.sends.ensures, c.to_members.ensures, desk_asks, c.begun.ensures, c.asks-body.ensures, next, lt-leb _ _ room)

-- `desk::notes_ack` meets its contract. Assumes nothing.
use mathlib.Core.Path.{◌≡◌}
use Prim.Native.Nat.{◌*◌, ◌^◌, ◌%◌}
use native.Mathlib.Omega.{arith}
use lib.Pow.{shl_exact}
use Rattle.rules.specs.Desks.{notes_ack}
use Rattle.desk.proofs.notes_ack.Goals as goal

pub returns : goal.returns
unfolding notes_ack
returns c =
    let e : 1 * 2 ^ c.args.from % 256 ≡ 2 ^ c.args.from = omega (arith, shl_exact {a = 1} 1 c.args.from 8 (omega arith) (omega (arith, c.requires))) in
    rw e

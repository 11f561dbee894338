-- `rows::read_u32` meets its contract. Assumes nothing.
use native.Mathlib.Omega.{arith}
use Rattle.rows.proofs.Numbers.{u32_halves}
use Rattle.rows.proofs.read_u32.Goals as goal

pub returns : goal.returns
returns c = omega (arith, u32_halves c.args.s.now c.rest_at-rest.result.now c.args.at c.rest_at-rest.ensures)

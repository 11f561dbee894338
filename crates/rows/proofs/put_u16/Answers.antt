-- `rows::put_u16` meets its contract. Assumes nothing.
use mathlib.Core.Path.{ap, ◌∙◌}
use Rattle.rows.specs.Bytes.{placed}
use Rattle.rows.proofs.Numbers.{be16-written}
use Rattle.rows.proofs.put_u16.Goals as goal

pub returns : goal.returns
returns c = c.put_bytes.ensures ∙ ap (placed _ _) (c.to_be_bytes.ensures ∙ be16-written _)

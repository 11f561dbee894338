-- `sheet::put_step` meets its contract. Assumes nothing.
use mathlib.Core.List.{◌∷◌, ◌++◌, append-nil}
use mathlib.Core.Path.{ap, ◌∙◌}
use Rattle.rows.specs.Bytes.{placed, be32, zeros, field_bytes, fields_bytes}
use Rattle.sheet.proofs.put_step.Goals as goal

pub returns : goal.returns
unfolding field_bytes fields_bytes
returns c =
    let k = c.args.step in
    c.put_row.ensures ∙ ap (λ value. placed c.args.buf.now c.args.at (k.kind ∷ k.id ∷ (zeros 2 ++ value))) (append-nil (be32 k.value))

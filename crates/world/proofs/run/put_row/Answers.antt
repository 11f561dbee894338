-- `world::run::put_row` meets its contract. Assumes nothing.
use mathlib.Core.Path.{ap, ◌∙◌}
use mathlib.Core.List.{List, ◌∷◌}
use Prim.Native.Nat.{ℕ}
use borrow.Author.Rules.{rules}
use Rattle.rows.specs.Bytes.{placed}
use Rattle.world.specs.Answer.{columns}
use Rattle.world.specs.Tracing.{columns_of, columns_bytes}
use Rattle.world.proofs.Tracing.{row_fields}
use Rattle.world.proofs.run.put_row.Goals as goal

pub returns : goal.returns
unfolding columns columns_of
returns c =
    let put = placed c.args.rows.now c.args.at in
    let row = row_fields _ _ _ _ _ _ (search rules) (search rules) (search rules) (search rules) in
    c.put_row.ensures ∙ ap put row ∙ ap (λ (x : List ℕ). put (columns_bytes (c.args.a.number ∷ x))) c.columns_of-c.ensures

-- What the code's generators mean: the rules' fresh one, and the notes with the sender's set. Assumes nothing.
use mathlib.Core.Path.{◌≡◌, refl}
use mathlib.Core.List.{[]}
use Prim.Native.Nat.{ℕ}
use lib.ListN.{set}
use Rattle.views.specs.declared.Sequence.{Sequence}
use Rattle.views.specs.Row.{views_of, row_of}
use Rattle.views.proofs.Rows.{held}
use Rattle.rules.specs.Generators.{fresh}
use Rattle.rules.proofs.Lists.{map-set}
use Rattle.state.specs.declared.Notes.{Notes}
use Rattle.state.specs.declared.Generator.{Generator}
use Rattle.state.specs.Meaning.{notes_of, generator_of}
use Rattle.generator.specs.Rows.{fresh_row, noted_row}

pub fresh_means : {g : Generator} (v : ℕ) → g ≡ fresh_row v → generator_of g ≡ fresh v
unfolding fresh_row fresh notes_of generator_of
fresh_means v e = rw (e, held (row_of []) [] refl)

pub noted_means : {r : Notes} (n : Notes) (from : ℕ) (q : Sequence) → r ≡ noted_row n from q → notes_of r ≡ set (notes_of n) from (views_of q)
unfolding noted_row notes_of
noted_means n from q e = rw e (map-set views_of n.of from q)

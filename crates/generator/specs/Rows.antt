-- A generator as the code holds it: one that has heard nothing, and a note put down. Assumes nothing.
use Rattle.std.specs.Prelude.{[], ℕ, set, replicate}
use Rattle.views.specs.declared.Sequence.{Sequence}
use Rattle.views.specs.Row.{row_of}
use Rattle.state.specs.declared.Notes.{Notes}
use Rattle.state.specs.declared.Generator.{Generator}

abbrev pub no_notes : Notes
no_notes = record { of = replicate 8 (row_of []) }

unfoldable pub fresh_row : ℕ → Generator
fresh_row v = record { view = v; own = row_of []; converged = row_of []; raised = row_of []; proposals = no_notes; convergences = no_notes }

-- this row in the place of the sender's; there are eight places
unfoldable pub noted_row : Notes → ℕ → Sequence → Notes
noted_row n from q = record { of = set n.of from q }

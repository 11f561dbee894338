-- `image::put_desk` meets its contract. Assumes nothing.
use mathlib.Core.Path.{◌∙◌}
use mathlib.Core.List.{append_assoc, append-nil}
use Rattle.rows.specs.Bytes.{field_bytes, fields_bytes, cat}
use Rattle.layout.specs.Image.{pair_bytes, desk_bytes}
use Rattle.image.proofs.put_desk.Goals as goal

pub returns : goal.returns
unfolding desk_bytes pair_bytes cat fields_bytes field_bytes
returns c = rw c.phase_number.ensures at c.put_row.ensures ∙ simp (append_assoc, append-nil)

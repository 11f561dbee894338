-- `image::put_head` meets its contract. Assumes nothing.
use mathlib.Core.Path.{◌∙◌}
use mathlib.Core.List.{append_assoc, append-nil}
use Rattle.rows.specs.Bytes.{field_bytes, fields_bytes, cat}
use Rattle.layout.specs.Image.{pair_bytes, head_bytes}
use Rattle.state.specs.Meaning.{relay_of}
use Rattle.image.proofs.put_head.Goals as goal

pub returns : goal.returns
unfolding head_bytes relay_of pair_bytes cat fields_bytes field_bytes
returns c = c.put_row.ensures ∙ simp (append_assoc, append-nil)

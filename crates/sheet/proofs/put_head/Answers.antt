-- `sheet::put_head` meets its contract. Assumes nothing.
use Rattle.rows.specs.Bytes.{bytes_of, field_bytes, fields_bytes}
use Rattle.sheet.proofs.put_head.Goals as goal

pub returns : goal.returns
unfolding bytes_of field_bytes fields_bytes
returns c = c.put_row.ensures

-- `engine::put_length` meets its contract. Assumes nothing.
use mathlib.Core.List.{append-nil}
use Rattle.rows.specs.Bytes.{field_bytes, fields_bytes, be32}
use Rattle.engine.proofs.put_length.Goals as goal

pub returns : goal.returns
unfolding field_bytes fields_bytes
returns c = rw (append-nil (be32 c.args.n)) at c.put_row.ensures

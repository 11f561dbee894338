-- `engine::put_columns` meets its contract. Assumes nothing.
use Rattle.rows.specs.Bytes.{field_bytes, fields_bytes, cat}
use Rattle.world.specs.Tracing.{columns_of}
use Rattle.engine.specs.Told.{told_bytes}
use Rattle.engine.proofs.put_columns.Goals as goal

pub returns : goal.returns
unfolding field_bytes fields_bytes columns_of told_bytes cat
returns c = c.put_row.ensures

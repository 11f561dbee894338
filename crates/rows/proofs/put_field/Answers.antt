-- `rows::put_field` meets its contract: each kind of field is written as its bytes. Assumes nothing.
use mathlib.Core.Path.{◌≡◌, refl, ◌∙◌}
use mathlib.Core.Bool.{Bool, true, false, cond}
use mir.Val.{bool_byte}
use Rattle.rows.specs.Bytes.{field_bytes}
use Rattle.rows.proofs.Numbers.{be16-written, be32-written}
use Rattle.rows.proofs.Tables.{length-zeros}
use Rattle.rows.proofs.put_field.Goals as goal

flag : (b : Bool) → bool_byte b ≡ cond b 1 0
flag true = refl
flag false = refl

pub lay-requires : goal.lay-requires
unfolding field_bytes
lay-requires c = rw c.in-Flag.is at c.requires

pub lay-requires-in-Byte : goal.lay-requires-in-Byte
unfolding field_bytes
lay-requires-in-Byte c = rw c.in-Byte.is at c.requires

pub lay-requires-in-U16 : goal.lay-requires-in-U16
unfolding field_bytes
lay-requires-in-U16 c = rw (c.to_be_bytes.ensures ∙ be16-written c.in-U16.x) (rw c.in-U16.is at c.requires)

pub lay-requires-in-U32 : goal.lay-requires-in-U32
unfolding field_bytes
lay-requires-in-U32 c = rw (c.to_be_bytes-in-U32.ensures ∙ be32-written c.in-U32.x) (rw c.in-U32.is at c.requires)

pub wipe-requires : goal.wipe-requires
unfolding field_bytes
wipe-requires c = rw (c.in-Zeros.is, length-zeros) at c.requires

pub returns-in-Flag : goal.returns-in-Flag
unfolding field_bytes
returns-in-Flag c = rw (c.in-Flag.is, ← flag c.in-Flag.x) c.lay.ensures

pub returns-in-Byte : goal.returns-in-Byte
unfolding field_bytes
returns-in-Byte c = rw c.in-Byte.is c.lay-in-Byte.ensures

pub returns-in-U16 : goal.returns-in-U16
unfolding field_bytes
returns-in-U16 c = rw c.in-U16.is (rw (c.to_be_bytes.ensures ∙ be16-written c.in-U16.x) at c.lay-in-U16.ensures)

pub returns-in-U32 : goal.returns-in-U32
unfolding field_bytes
returns-in-U32 c = rw c.in-U32.is (rw (c.to_be_bytes-in-U32.ensures ∙ be32-written c.in-U32.x) at c.lay-in-U32.ensures)

pub returns-in-Zeros : goal.returns-in-Zeros
unfolding field_bytes
returns-in-Zeros c = rw (c.in-Zeros.is, length-zeros) c.wipe.ensures

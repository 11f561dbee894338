-- Stamps, and the pairs of a stamp and a value: the crate `stamps` under document 01's words. Assumes nothing.
use Rattle.std.specs.Prelude.{Bool, eqb, ltb}
pub use Rattle.stamps.specs.declared.Stamp.{Stamp}
pub use Rattle.stamps.specs.declared.Pair.{Pair}
-- a value, the value 0, and "Fresh record: stamp (0,0), value 0."
pub use Rattle.stamps.specs.Stamp.{Value, no_value, fresh_pair as zero_pair}
-- "ordered by count, then desk"; "of equal stamps the pair already held stays"
unfoldable pub use Rattle.stamps.specs.Stamp.{sign_of as sign, compared_of as compared, greater_of as greater, same_of as same_stamp, greatest_of as greatest}

-- "A value is an unsigned 32-bit number."
abbrev pub is_value : Value → Bool
is_value x = ltb x 4294967296

abbrev pub is_no_value : Value → Bool
is_no_value x = eqb x no_value

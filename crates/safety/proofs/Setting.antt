-- WHAT THE PROOF TAKES AS GIVEN OF A RUN: what no step of it changes. What justifies an entry of the log, quorums included, is said in one setting, which is
-- called C throughout. Assumes nothing.
use Prim.Native.Nat.{ℕ}

pub record Setting : Type 0 where
  -- the view in which the run starts
  pub view : ℕ

-- the setting of a run that starts with the relays of a mask
abbrev pub setting : ℕ → Setting
setting mask = record { view = mask }

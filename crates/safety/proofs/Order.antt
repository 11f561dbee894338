-- THE ORDER of the operations of a log, as a statement: the operations that ended, and the unfinished writes that some read returned, stand in one order in which
-- each read returns the write before it, and which agrees with what had finished before what began. That every sound log has one is in OneOrder.antt.
-- Assumes nothing.
use mathlib.Core.Path.{◌≡◌}
use mathlib.Core.List.{List, [], ◌∷◌, Memᴰ}
use Prim.Native.Nat.{ℕ, ◌≤◌}
use Rattle.rules.specs.Stamps.{Value, no_value}
use Rattle.safety.proofs.Log.{Task, reading, writing, Op, Log, ◌∋◌, settle, finish}
use Rattle.safety.proofs.Operations.{Writes, Reads, Precedes}

-- ---- the statement

abbrev pub Ops : Type 0
Ops = List Op

infix 20 ◌contains◌
abbrev pub ◌contains◌ : Ops → Op → Type 0
r contains o = Memᴰ o r

-- what belongs into the order
pub data Counts (t : Log) (o : Op) : Type 0 where
  ended : t ∋ finish o → Counts t o
  returned : {p : Op} → t ∋ settle o → Writes o → t ∋ finish p → Reads p → p.stamp ≡ o.stamp → Counts t o

-- the stamp of the last write of an order (newest first) and the value it was told to write, or 0 and 0 where there is none
abbrev pub pick : Task → ℕ → ℕ × Value → ℕ × Value
pick reading s b = b
pick (writing y) s b = (s, y)

unfoldable pub latest : Ops → ℕ × Value
latest [] = (0, no_value)
latest (o ∷ r) = pick o.task o.stamp (latest r)

-- o may stand next after the operations r
pub record Next (t : Log) (o : Op) (r : Ops) : Type 0 where
  pub once : r contains o → ⊥
  pub timely : (p : Op) → r contains p → Precedes t o p → ⊥
  pub returns : Reads o → latest r ≡ (o.stamp, o.value)

pub data Lined (t : Log) : Ops → Type 0 where
  lined_nil : Lined t []
  lined_cons : {o : Op} {r : Ops} → Next t o r → Lined t r → Lined t (o ∷ r)

-- an order of the operations of t, newest first
pub record Order (t : Log) (r : Ops) : Type 0 where
  pub all : (o : Op) → Counts t o → r contains o
  pub only : (o : Op) → r contains o → Counts t o
  pub lined : Lined t r

-- besides, stamps never fall along it
pub data Descending : Ops → Type 0 where
  desc_nil : Descending []
  desc_cons : {o : Op} {r : Ops} → ((p : Op) → r contains p → p.stamp ≤ o.stamp) → Descending r → Descending (o ∷ r)

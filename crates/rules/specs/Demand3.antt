-- DEMAND 3, as a type over runs: of any two views that ever opened one holds every update of the other; what ended had begun in a step before, ended once,
-- and with event 2 if it was a read, with event 3 if it was a write; and the operations that ended, with the unfinished writes that some read returned,
-- stand in one order in which each read returns the write before it and each write has the value that it was told, which agrees with what had ended before
-- what began, and along which stamps never fall. Assumes nothing.
use Rattle.std.specs.Prelude.{◌≡◌, ◌⊎◌, Bool, true, false, ℕ, ◌<◌}
use mathlib.Core.List.{List, [], ◌∷◌, Memᴰ}
use Rattle.rules.specs.Sets.{within}
use Rattle.rules.specs.Stamps.{Stamp, Value, Pair, zero_pair, greater}
use Rattle.rules.specs.Steps.{Step}
use Rattle.rules.specs.History.{Task, reading, writing, Operation, operations, unfinished, open_views}

infix 20 ◌∈◌
abbrev pub ◌∈◌ : {A : Type 0} → A → List A → Type 0
x ∈ l = Memᴰ x l

abbrev pub is_read : Task → Bool
is_read reading = true
is_read (writing x) = false

-- "read 1 ends with event 2", "read 2 ends, event 2"; "write 2 ends, event 3"
abbrev pub event_of : Task → ℕ
event_of reading = 2
event_of (writing x) = 3

-- o had ended when p began
abbrev pub Before : Operation → Operation → Type 0
Before o p = (0 < o.ended) × (o.ended < p.begun)

-- what belongs into the order
pub data Belongs (mask : ℕ) (ks : List Step) (o : Operation) : Type 0 where
  ended : o ∈ operations mask ks → Belongs mask ks o
  returned : {r : Operation} → o ∈ unfinished mask ks → r ∈ operations mask ks → is_read r.task ≡ true → r.pair.stamp ≡ o.pair.stamp → Belongs mask ks o

-- the stamp of the last write of an order (newest first) with the value that it was told, or zeros where there is none
abbrev pub written : Task → Stamp → Pair → Pair
written reading s last = last
written (writing x) s last = record { stamp = s; value = x }

unfoldable pub latest : List Operation → Pair
latest [] = zero_pair
latest (o ∷ r) = written o.task o.pair.stamp (latest r)

-- o may stand next after the operations r
pub record Next (o : Operation) (r : List Operation) : Type 0 where
  pub once : o ∈ r → ⊥
  pub timely : (p : Operation) → p ∈ r → Before o p → ⊥
  pub returns : is_read o.task ≡ true → latest r ≡ o.pair
  -- a write ends with the value that it was told
  pub wrote : (x : Value) → o.task ≡ writing x → o.pair.value ≡ x
  pub rises : (p : Operation) → p ∈ r → greater p.pair.stamp o.pair.stamp ≡ false

-- an order, newest first
pub data Ordered : List Operation → Type 0 where
  first : Ordered []
  next : {o : Operation} {r : List Operation} → Next o r → Ordered r → Ordered (o ∷ r)

pub record Demand3 (mask : ℕ) (ks : List Step) : Type 0 where
  pub nested : (u v : ℕ) → u ∈ open_views mask ks → v ∈ open_views mask ks → (within u v ≡ true) ⊎ (within v u ≡ true)
  -- what ended had begun in a step before
  pub lasted : (o : Operation) → o ∈ operations mask ks → (0 < o.begun) × (o.begun < o.ended)
  -- a read ended with event 2 and a write with event 3, so event 2 ended reads only and event 3 writes only
  pub events : (o : Operation) → o ∈ operations mask ks → o.event ≡ event_of o.task
  -- an operation ends once (a step ends at most one): of what ended, two of one desk that began in the same step are one, and none is left unfinished
  pub single : (o p : Operation) → o ∈ operations mask ks → p ∈ operations mask ks → o.desk ≡ p.desk → o.begun ≡ p.begun → o ≡ p
  pub over : (o p : Operation) → o ∈ operations mask ks → p ∈ unfinished mask ks → o.desk ≡ p.desk → o.begun ≡ p.begun → ⊥
  pub order : List Operation
  pub complete : (o : Operation) → Belongs mask ks o → o ∈ order
  pub sound : (o : Operation) → o ∈ order → Belongs mask ks o
  pub ordered : Ordered order

-- for every start and every list of steps
abbrev pub Demand3ForAll : Type 0
Demand3ForAll = (mask : ℕ) → 0 < mask → mask < 256 → (ks : List Step) → Demand3 mask ks

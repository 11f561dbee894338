-- What a run of the protocol leaves behind, view by view, and the facts that its steps keep: the hypotheses of `Chain.antt`.
-- Assumes nothing.
use mathlib.Core.Path.{◌≡◌}
use mathlib.Core.List.{List}
use Prim.Native.Nat.{ℕ}
use Rattle.safety.proofs.Sequences.{◌⊆◌, Sequence, Above, Least, Single, Without, Chain}

pub record History : Type 1 where
  -- the view in which the run starts
  pub start : ℕ
  -- the views that some relay has entered
  pub Entered : ℕ → Type 0
  -- the sequences that were raised in a view, and those that a relay proposed there first
  pub Raised : ℕ → List ℕ → Type 0
  pub Proposed : ℕ → List ℕ → Type 0

module _ (H : History) where
  -- v was opened: the run started there, or {v} was raised
  pub data Opened (v : ℕ) : Type 0 where
    at_start : v ≡ H.start → Opened v
    alone : {o : ℕ} {q : List ℕ} → H.Raised o q → Single v q → Opened v

  -- where a first proposal in v comes from: entering v through a raised sequence, which leaves the rest of it; or a timer in
  -- an opened view (what it proposes is of no concern here)
  pub data Origin (v : ℕ) (p : List ℕ) : Type 0 where
    entry : {o : ℕ} {q : List ℕ} → H.Raised o q → Least v q → Without v q p → Origin v p
    timer : Opened v → Origin v p

  -- how v came to be entered
  pub data Arrival (v : ℕ) : Type 0 where
    start : v ≡ H.start → Arrival v
    through : {o : ℕ} {q : List ℕ} → H.Raised o q → Least v q → Arrival v

  pub record Facts : Type 0 where
    -- what is raised in v is a sequence of views that strictly include v, and v was entered
    pub sequence : {v : ℕ} {q : List ℕ} → H.Raised v q → Sequence q
    pub above : {v : ℕ} {q : List ℕ} → H.Raised v q → Above v q
    pub entered : {v : ℕ} {q : List ℕ} → H.Raised v q → H.Entered v
    -- of two sequences raised in v one contains the other
    pub chain : (v : ℕ) → Chain (H.Raised v)
    -- where proposals come from
    pub origin : {v : ℕ} {p : List ℕ} → H.Proposed v p → Origin v p
    -- if the proposals of v form a chain, what is raised in v contains one of them
    pub agreed : (v : ℕ) → Chain (H.Proposed v) → (q : List ℕ) → H.Raised v q → (p : List ℕ) × H.Proposed v p × (p ⊆ q)
    -- how views are entered
    pub arrival : {v : ℕ} → H.Entered v → Arrival v

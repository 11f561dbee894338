-- The log of all that ever happened, newest first, and what justifies an entry by the entries before it.
-- A view is a number (views/proofs/Sets) and a sequence a list of views (`Sequences.antt`). A stamp (count, desk) is the number 4 count + desk,
-- so that stamps are ordered as numbers (`Numbers.antt`). C is what is given of the run (`Setting.antt`).
-- Assumes nothing.
use mathlib.Core.Path.{◌≡◌}
use mathlib.Core.Logic.{◌⊎◌}
use mathlib.Core.List.{List, [], ◌∷◌, Memᴰ}
use Prim.Native.Nat.{ℕ, ◌+◌, ◌*◌, ◌≤◌, ◌<◌}
use Rattle.views.proofs.Sets.{Inside}
use Rattle.rules.specs.Stamps.{Value, no_value}
pub use Rattle.rules.specs.History.{Task, reading, writing}
use Rattle.safety.proofs.Setting.{Setting}
use Rattle.safety.proofs.Sequences.{◌∈◌, ◌⊆◌, Comparable, Sequence, Above, Least, Single, Without}
use Rattle.safety.proofs.Votes.{Union}
use Rattle.safety.proofs.Quorums.{Most}

-- an operation of a desk, once its stamp and value are settled; its desk and its first try name it
pub record Op : Type 0 where
  pub desk : ℕ
  pub try : ℕ
  pub task : Task
  pub stamp : ℕ
  pub value : Value

-- what a phase asks the relays
pub data Ask : Type 0 where
  get : Ask
  put : (s : ℕ) (y : Value) → Ask

pub data Entry : Type 0 where
  -- the relay k makes the first proposal q of its own for the view v; its own sequence for v becomes q; its converged one does; q is raised
  first : (k v : ℕ) (q : List ℕ) → Entry
  own : (k v : ℕ) (q : List ℕ) → Entry
  conv : (k v : ℕ) (q : List ℕ) → Entry
  raise : (v : ℕ) (q : List ℕ) → Entry
  -- k, whose view is x, hands on the stamp s and the value y from the view o to w
  state : (k x o w s : ℕ) (y : Value) → Entry
  -- k enters w from o by the sequence q, with the stamp s and the value y
  enter : (k o w : ℕ) (q : List ℕ) (s : ℕ) (y : Value) → Entry
  -- the desk d begins an operation with the try t
  begin : (d t : ℕ) (a : Task) → Entry
  -- with the try t it asks the members of v, for its operation that began with the try n
  ask : (d t n v : ℕ) (a : Ask) → Entry
  -- k, in the view v, answers that try; then its stamp is s and its value y
  reply : (k d t v s : ℕ) (y : Value) → Entry
  -- the first phase of an operation came to its quorum; the operation ended
  settle : Op → Entry
  finish : Op → Entry

-- its kind, as a number: entries of different kinds differ, and those that generators make have the least
abbrev pub tag : Entry → ℕ
tag (first k v q) = 0
tag (own k v q) = 1
tag (conv k v q) = 2
tag (raise v q) = 3
tag (state k x o w s y) = 4
tag (enter k o w q s y) = 5
tag (begin d n a) = 6
tag (ask d n m v a) = 7
tag (reply k d n v s y) = 8
tag (settle o) = 9
tag (finish o) = 10

abbrev pub Log : Type 0
Log = List Entry

infix 20 ◌∋◌
abbrev pub ◌∋◌ : Log → Entry → Type 0
l ∋ e = Memᴰ e l

-- ---- what a log shows of a relay k

-- while its view was v, it had the stamp s with the value y
pub data Shown (l : Log) (k v s : ℕ) (y : Value) : Type 0 where
  by_enter : {o : ℕ} {q : List ℕ} → l ∋ enter k o v q s y → Shown l k v s y
  by_reply : {d t : ℕ} → l ∋ reply k d t v s y → Shown l k v s y

-- v may be its view now, and s its stamp: nothing that the log shows of it lies beyond
abbrev pub Current : Log → ℕ → ℕ → ℕ → Type 0
Current l k v s = (u r : ℕ) (y : Value) → Shown l k u r y → Inside u v ⊎ ((u ≡ v) × (r ≤ s))

module _ (C : Setting) where
  -- where its view v, its stamp s and its value y come from
  pub data Has (l : Log) (k v s : ℕ) (y : Value) : Type 0 where
    has_start : v ≡ C.view → s ≡ 0 → y ≡ no_value → Has l k v s y
    has_shown : Shown l k v s y → Has l k v s y

  -- it became active in v
  pub data Active (l : Log) (k v : ℕ) : Type 0 where
    active-start : v ≡ C.view → Active l k v
    active_enter : {o s : ℕ} {y : Value} {q : List ℕ} → l ∋ enter k o v q s y → Single v q → Active l k v

-- ---- what justifies an entry, in the log l before it

-- the merge of a relay's own sequence p with a heard one r. What a clash leads to is of no concern here (but see `Conv`)
pub data Merge (p r q : List ℕ) : Type 0 where
  clash : {u v : ℕ} → u ∈ p → v ∈ r → (Comparable u v → ⊥) → Merge p r q
  joined : Union p r q → Merge p r q

pub data OwnFrom (l : Log) (k v : ℕ) (q : List ℕ) : Type 0 where
  own_first : l ∋ first k v q → OwnFrom l k v q
  own_merge : {j : ℕ} {p r : List ℕ} → (p ≡ []) ⊎ (l ∋ own k v p) → l ∋ own j v r → Merge p r q → OwnFrom l k v q

pub record Own (l : Log) (k v : ℕ) (q : List ℕ) : Type 0 where
  pub sequence : Sequence q
  pub above : Above v q
  pub from : OwnFrom l k v q

-- converged becomes own, and so it only grows
pub record Conv (l : Log) (k v : ℕ) (q : List ℕ) : Type 0 where
  pub own_now : l ∋ own k v q
  pub grown : (p : List ℕ) → l ∋ conv k v p → p ⊆ q

abbrev pub Raise : Setting → Log → ℕ → List ℕ → Type 0
Raise C l v q = Most C v (λ k. l ∋ conv k v q)

-- k handed on from o to w, with a stamp that is at most s
pub record Given (l : Log) (o w s k : ℕ) : Type 0 where
  pub view : ℕ
  pub stamp : ℕ
  pub value : Value
  pub sent : l ∋ state k view o w stamp value
  pub low : stamp ≤ s

-- the greatest of what came, where one begins with 0 and 0
pub data Best (P : ℕ → Value → Type 0) (s : ℕ) (y : Value) : Type 0 where
  best_none : s ≡ 0 → y ≡ no_value → Best P s y
  best_one : P s y → Best P s y

pub record Enter (C : Setting) (l : Log) (o w : ℕ) (q : List ℕ) (s : ℕ) (y : Value) : Type 0 where
  pub raised : l ∋ raise o q
  pub least : Least w q
  pub given : Most C o (Given l o w s)
  pub best : Best (λ r z. (k : ℕ) × ((x : ℕ) × (l ∋ state k x o w r z))) s y

-- a desk's tries grow, and it does one operation at a time
pub record Begin (l : Log) (d t : ℕ) : Type 0 where
  pub small : d < 4
  pub fresh : (n : ℕ) (a : Task) → l ∋ begin d n a → n < t
  pub idle : (n : ℕ) (a : Task) → l ∋ begin d n a → (o : Op) × (l ∋ finish o) × (o.desk ≡ d) × (o.try ≡ n)

pub data Sends (l : Log) (d n : ℕ) : Ask → Type 0 where
  sends-get : Sends l d n get
  sends-put : {o : Op} → l ∋ settle o → o.desk ≡ d → o.try ≡ n → Sends l d n (put o.stamp o.value)

pub record Asks (l : Log) (d t n : ℕ) (a : Ask) : Type 0 where
  pub fresh : (m n v : ℕ) (b : Ask) → l ∋ ask d m n v b → m < t
  pub begun : (b : Task) × (l ∋ begin d n b)
  pub sends : Sends l d n a

-- k answered the try t of the desk d in v, with a stamp that is at most s
pub record Answered (l : Log) (d t v s k : ℕ) : Type 0 where
  pub stamp : ℕ
  pub value : Value
  pub sent : l ∋ reply k d t v stamp value
  pub low : stamp ≤ s

-- what the first phase makes of the answers to its try t in v: a read takes the greatest; a write takes the count above c, where no
-- answer's count is above c
pub data Result (C : Setting) (l : Log) (d t v : ℕ) : Task → ℕ → Value → Type 0 where
  read_result : {s : ℕ} {y : Value} → Most C v (Answered l d t v s) → Best (λ r z. (k : ℕ) × (l ∋ reply k d t v r z)) s y → Result C l d t v reading s y
  write_result : {y : Value} (c : ℕ) → Most C v (Answered l d t v (4 * c + 3)) → Result C l d t v (writing y) (4 * (c + 1) + d) y

pub record Settle (C : Setting) (l : Log) (o : Op) : Type 0 where
  pub begun : l ∋ begin o.desk o.try o.task
  pub once : (p : Op) → l ∋ settle p → p.desk ≡ o.desk → p.try ≡ o.try → ⊥
  pub try : ℕ
  pub view : ℕ
  pub asked : l ∋ ask o.desk try o.try view get
  pub result : Result C l o.desk try view o.task o.stamp o.value

-- the last quorum: a read's replies agreed on the stamp, or all replied to a put of it
pub data Ends (C : Setting) (l : Log) (o : Op) : Type 0 where
  agreed : {t v : ℕ} → Most C v (λ k. (z : Value) × (l ∋ reply k o.desk t v o.stamp z)) → Ends C l o
  put_down : {t v : ℕ} → l ∋ ask o.desk t o.try v (put o.stamp o.value)
      → Most C v (λ k. (r : ℕ) × (z : Value) × (l ∋ reply k o.desk t v r z)) → Ends C l o

pub record Finish (C : Setting) (l : Log) (o : Op) : Type 0 where
  pub settled : l ∋ settle o
  pub once : l ∋ finish o → ⊥
  pub ends : Ends C l o

module _ (C : Setting) where
  -- the relay proposes: by its timer, being active; or on entering v, what is left of the sequence
  pub data First (l : Log) (k v : ℕ) (q : List ℕ) : Type 0 where
    by_timer : Active C l k v → First l k v q
    by_entry : {o s : ℕ} {y : Value} {r : List ℕ} → l ∋ enter k o v r s y → Without v r q → First l k v q

  pub record State (l : Log) (k x o s : ℕ) (y : Value) : Type 0 where
    pub reached : (x ≡ o) ⊎ Inside o x
    pub has : Has C l k x s y
    pub current : Current l k x s

  -- the answer to a get is what the relay has; a put is stored where greater, and answered either way
  pub data Answers (l : Log) (k v s : ℕ) (y : Value) : Ask → Type 0 where
    got : Has C l k v s y → Answers l k v s y get
    kept : {r : ℕ} {z : Value} → Has C l k v s y → r ≤ s → Answers l k v s y (put r z)
    stored : Answers l k v s y (put s y)

  -- only an active relay answers: it opened v, and has not handed on from it
  pub record Reply (l : Log) (k d t v s : ℕ) (y : Value) : Type 0 where
    pub try : ℕ
    pub asked : Ask
    pub to : l ∋ ask d t try v asked
    pub answers : Answers l k v s y asked
    pub active : Active C l k v
    pub going : (o w r : ℕ) (z : Value) → l ∋ state k v o w r z → Inside v w → ⊥
    pub current : Current l k v s

  abbrev pub Justified : Log → Entry → Type 0
  Justified l (first k v q) = First l k v q
  Justified l (own k v q) = Own l k v q
  Justified l (conv k v q) = Conv l k v q
  Justified l (raise v q) = Raise C l v q
  Justified l (state k x o w s y) = State l k x o s y
  Justified l (enter k o w q s y) = Enter C l o w q s y
  Justified l (begin d t a) = Begin l d t
  Justified l (ask d t n v a) = Asks l d t n a
  Justified l (reply k d t v s y) = Reply l k d t v s y
  Justified l (settle o) = Settle C l o
  Justified l (finish o) = Finish C l o

  -- every entry is justified by those before it
  pub data Sound : Log → Type 0 where
    sound_nil : Sound []
    sound_cons : {e : Entry} {l : Log} → Sound l → Justified l e → Sound (e ∷ l)

-- How a log grows by the entries of one step: all of one relay, or all of one desk. What a log shows stays shown. Assumes nothing.
use mathlib.Core.Path.{◌≡◌, sym, ap}
use mathlib.Core.Logic.{◌⊎◌, inl, inr}
use mathlib.Core.List.Memᴰ
use mathlib.Core.List.{List, ◌∷◌}
use Prim.Native.Nat.{ℕ, ◌≤◌, ◌<◌}
use native.Mathlib.Omega.{arith}
use Rattle.safety.proofs.Setting.{Setting}
use Rattle.safety.proofs.Log.{Task, Op, Entry, tag, Log, ◌∋◌, first, own, conv, raise, state, enter, begin, ask, reply, settle, finish, Active, active-start, active_enter}
use Rattle.safety.proofs.Past.{Past, now, past_later}

-- m is l with entries that P allows added
pub data Since (P : Entry → Type 0) (l : Log) : Log → Type 0 where
  stay : Since P l l
  add : {e : Entry} {m : Log} → P e → Since P l m → Since P l (e ∷ m)

module _ {P : Entry → Type 0} where
  pub since_has : {l m : Log} {e : Entry} → Since P l m → l ∋ e → m ∋ e
  since_has stay h = h
  since_has (add p s) h = Memᴰ.tail (since_has s h)

  pub since_join : {l m n : Log} → Since P l m → Since P m n → Since P l n
  since_join s stay = s
  since_join s (add p t) = add p (since_join s t)

  pub since_past : {l m : Log} → Since P l m → Past m l
  since_past stay = now
  since_past (add p s) = past_later (since_past s)

  pub since_map : {Q : Entry → Type 0} {l m : Log} → ((e : Entry) → P e → Q e) → Since P l m → Since Q l m
  since_map f stay = stay
  since_map f (add {e = e} p s) = add (f e p) (since_map f s)

-- one entry more, of any kind
abbrev pub Any : Entry → Type 0
Any e = Unit {0}

pub one_more : {e : Entry} {l : Log} → Since Any l (e ∷ l)
one_more = add tt stay

-- whose an entry is: a quorum raises a sequence, so that entry may come with those of any relay
pub data Doer : Type 0 where
  of_relay : ℕ → Doer
  of_desk : ℕ → Doer
  of_quorum : Doer

abbrev pub doer : Entry → Doer
doer (first k v q) = of_relay k
doer (own k v q) = of_relay k
doer (conv k v q) = of_relay k
doer (raise v q) = of_quorum
doer (state k x o w s y) = of_relay k
doer (enter k o w q s y) = of_relay k
doer (begin d t a) = of_desk d
doer (ask d t n v a) = of_desk d
doer (reply k d t v s y) = of_relay k
doer (settle o) = of_desk o.desk
doer (finish o) = of_desk o.desk

-- the entries of the relay k, and of the desk d
abbrev pub ByRelay : ℕ → Entry → Type 0
ByRelay k e = (doer e ≡ of_relay k) ⊎ (doer e ≡ of_quorum)

abbrev pub ByDesk : ℕ → Entry → Type 0
ByDesk d e = doer e ≡ of_desk d

-- those that show something of the relay k, and those of its generator for the view v
abbrev pub About : ℕ → Entry → Type 0
About k e = (doer e ≡ of_relay k) × (3 < tag e)

abbrev pub Turning : ℕ → ℕ → Entry → Type 0
Turning k v e = ByRelay k e × (tag e ≤ 3) × ((u : ℕ) (q : List ℕ) → conv k u q ≡ e → u ≡ v)

-- those that neither begin nor end an operation
abbrev pub Plain : Entry → Type 0
Plain e = ((d t : ℕ) (a : Task) → begin d t a ≡ e → ⊥) × ((o : Op) → finish o ≡ e → ⊥)

module _ {x : Doer} {k : ℕ} where
  pub relay_only : {j : ℕ} → (x ≡ of_relay k) ⊎ (x ≡ of_quorum) → x ≡ of_relay j → j ≡ k
  relay_only (inl h) a = cc
  relay_only (inr h) a = cc

  pub not_desk : {d : ℕ} → (x ≡ of_relay k) ⊎ (x ≡ of_quorum) → x ≡ of_desk d → ⊥
  not_desk (inl h) a = let z : ◌≡◌ {A = ℕ} 0 1 = cc in omega arith
  not_desk (inr h) a = let z : ◌≡◌ {A = ℕ} 0 1 = cc in omega arith

pub relay_plain : (k : ℕ) (e : Entry) → ByRelay k e → Plain e
relay_plain k e h = (λ d t a c. not_desk h (ap doer (sym c)), λ o c. not_desk h (ap doer (sym c)))

module _ {P : Entry → Type 0} {C : Setting} where
  pub active_since : {l m : Log} {k v : ℕ} → Since P l m → Active C l k v → Active C m k v
  active_since s (active-start e) = active-start e
  active_since s (active_enter h i) = active_enter (since_has s h) i

-- What a transfer keeps of the states that came, and a desk of the answers: a mask of those who sent, and the greatest stamp with its value.
-- `P k r z` says that k sent the stamp r with the value z, by the log.
-- Assumes nothing.
use mathlib.Core.Path.{◌≡◌, refl, sym, subst, ◌∙◌}
use mathlib.Core.List.{List}
use Prim.Native.Nat.{ℕ, ◌+◌, ◌*◌, ◌/◌, ◌^◌, ◌≤◌, ◌<◌}
use native.Mathlib.Omega.{arith}
use lib.Bits.{bit_or}
use mathlib.Core.Bool.{true}
use mathlib.Core.Logic.{⊎_elim}
use borrow.Author.Tests.{eqb-true}
use Rattle.views.specs.View.{bit_of, reaches_of}
use Rattle.views.proofs.Truth.{contrary, either_true}
use Rattle.views.proofs.Digits.{bit_none, bit_of-bit_or, bit_one}
use Rattle.rules.specs.Stamps.{Value, no_value}
use Rattle.safety.proofs.Setting.{Setting}
use Rattle.safety.proofs.Sequences.{Least}
use Rattle.safety.proofs.Quorums.{Most, most-map}
use Rattle.safety.proofs.Log.{Log, ◌∋◌, state, reply, raise, reading, writing, Best, best_none, best_one, Enter, Answered, Result, read_result, write_result}

pub record Sent (P : ℕ → ℕ → Value → Type 0) (s k : ℕ) : Type 0 where
  pub stamp : ℕ
  pub value : Value
  pub sent : P k stamp value
  pub low : stamp ≤ s

pub record Notes (P : ℕ → ℕ → Value → Type 0) (mask s : ℕ) (y : Value) : Type 0 where
  pub each : (k : ℕ) → bit_of mask k ≡ true → Sent P s k
  pub best : Best (λ r z. (k : ℕ) × P k r z) s y

pub notes_none : {P : ℕ → ℕ → Value → Type 0} → Notes P 0 0 no_value
notes_none = record { each = λ k d. absurd (contrary d (bit_none k)); best = best_none refl refl }

-- as the log grows
pub notes_more : {P Q : ℕ → ℕ → Value → Type 0} {m s : ℕ} {y : Value} → ((k r : ℕ) (z : Value) → P k r z → Q k r z) → Notes P m s y → Notes Q m s y
notes_more {P} {Q} {m} {s} {y} f n = record { each = λ k d. up k (n.each k d); best = go n.best }
  where
    up : (k : ℕ) → Sent P s k → Sent Q s k
    up k h = record { stamp = h.stamp; value = h.value; sent = f k h.stamp h.value h.sent; low = h.low }

    go : Best (λ r z. (k : ℕ) × P k r z) s y → Best (λ r z. (k : ℕ) × Q k r z) s y
    go (best_none a b) = best_none a b
    go (best_one h) = best_one (h.0, f h.0 s y h.1)

-- one more comes, from j: a greater stamp is taken, and of equal ones that which was there stays
module _ {P : ℕ → ℕ → Value → Type 0} {m s : ℕ} {y : Value} {j r : ℕ} {z : Value} (n : Notes P m s y) (h : P j r z) where
  each_more : {t : ℕ} → s ≤ t → r ≤ t → (k : ℕ) → bit_of (bit_or m (2 ^ j)) k ≡ true → Sent P t k
  each_more {t} a b k d = ⊎_elim (λ e. old (n.each k e)) (λ e. new (eqb-true k j (sym (bit_one k j) ∙ e))) (either_true (bit_of m k) (bit_of (2 ^ j) k) (sym (bit_of-bit_or k m (2 ^ j)) ∙ d))
    where
      old : Sent P s k → Sent P t k
      old g = record { stamp = g.stamp; value = g.value; sent = g.sent; low = omega (arith, g.low) }

      new : k ≡ j → Sent P t k
      new e = record { stamp = r; value = z; sent = subst (λ (i : ℕ). P i r z) (sym e) h; low = b }

  pub note_greater : s < r → Notes P (bit_or m (2 ^ j)) r z
  note_greater l = record { each = each_more (omega arith) (omega arith); best = best_one (j, h) }

  pub note_other : r ≤ s → Notes P (bit_or m (2 ^ j)) s y
  note_other l = record { each = each_more (omega arith) l; best = n.best }

-- where those who sent are a quorum
pub notes_most : {C : Setting} {P : ℕ → ℕ → Value → Type 0} {v m s : ℕ} {y : Value} → reaches_of v m ≡ true → Notes P m s y → Most C v (Sent P s)
notes_most {m = m} q n = record { voters = m; quorum = q; each = λ k l i d. n.each k d }

-- a transfer from o to w lets a relay enter w, and a desk's first phase comes to its result
abbrev pub States : Log → ℕ → ℕ → ℕ → ℕ → Value → Type 0
States l o w k r z = (x : ℕ) × (l ∋ state k x o w r z)

abbrev pub Replies : Log → ℕ → ℕ → ℕ → ℕ → ℕ → Value → Type 0
Replies l d n u k r z = l ∋ reply k d n u r z

module _ {C : Setting} {l : Log} {m s : ℕ} {y : Value} where
  pub enter_justified : {o w : ℕ} {q : List ℕ} → l ∋ raise o q → Least w q → reaches_of o m ≡ true → Notes (States l o w) m s y → Enter C l o w q s y
  enter_justified h t q n = record {
    raised = h;
    least = t;
    given = most-map (λ k a. record { view = a.sent.0; stamp = a.stamp; value = a.value; sent = a.sent.1; low = a.low }) (notes_most q n);
    best = n.best;
  }

  module _ {d n u : ℕ} (q : reaches_of u m ≡ true) (b : Notes (Replies l d n u) m s y) where
    answered : Most C u (Answered l d n u s)
    answered = most-map (λ k a. record { stamp = a.stamp; value = a.value; sent = a.sent; low = a.low }) (notes_most q b)

    pub read_justified : Result C l d n u reading s y
    read_justified = read_result answered b.best

    -- the count of the greatest stamp is the greatest count
    pub write_justified : {x : Value} → Result C l d n u (writing x) (4 * (s / 4 + 1) + d) x
    write_justified = write_result (s / 4) (most-map (λ k a. record { stamp = a.stamp; value = a.value; sent = a.sent; low = omega (arith, a.low) }) answered)

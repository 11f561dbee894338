-- When operations began and ended: step numbers for the begin and finish entries of a log. `begins d t` is the number of the step in which the desk d
-- began with the try t, and `ends d t` that in which this operation ended, 0 where it has not. Assumes nothing.
use Rattle.std.specs.Prelude.{if◌then◌else◌}
use mathlib.Core.Path.{◌≡◌, refl, sym, subst, ap, ◌∙◌}
use mathlib.Core.Logic.{◌⊎◌, inl, inr, ⊎_elim}
use mathlib.Core.Bool.{◌&&◌}
use mathlib.Core.List.Memᴰ
use mathlib.Core.List.{[], ◌∷◌}
use Prim.Native.Nat.{ℕ, suc, ◌<◌}
use native.Mathlib.Omega.{arith}
use native.Mathlib.Decide.{ℕ_discrete}
use lib.Dec.{eqb}
use borrow.Author.Tests.{eq-eqb, ne_eqb}
use Rattle.safety.proofs.Log.{Task, Op, Entry, tag, Log, ◌∋◌, begin, finish}
use Rattle.safety.proofs.Past.{Past, now, back, here}
use Rattle.safety.proofs.Entries.{older, past-kind}
use Rattle.safety.proofs.Growth.{Since, stay, add, Plain}
use Rattle.safety.proofs.DeskFacts.{Done, done_more}

abbrev pub Times : Type 0
Times = ℕ → ℕ → ℕ

-- one time more
unfoldable pub noted : Times → ℕ → ℕ → ℕ → Times
noted F d t i e u = if eqb e d && eqb u t then i else F e u

module _ (F : Times) (d t i : ℕ) where
  pub noted_here : {e u : ℕ} → e ≡ d → u ≡ t → noted F d t i e u ≡ i
  unfolding noted
  noted_here {e} {u} x y = rw (eq-eqb e d x, eq-eqb u t y)

  pub noted_other : (e u : ℕ) → (e ≡ d → u ≡ t → ⊥) → noted F d t i e u ≡ F e u
  unfolding noted
  noted_other e u n = go (ℕ_discrete e d) (ℕ_discrete u t)
    where
      go : Dec (e ≡ d) → Dec (u ≡ t) → (if eqb e d && eqb u t then i else F e u) ≡ F e u
      go (yes x) (yes y) = absurd (n x y)
      go (yes x) (no y) = rw (eq-eqb e d x, ne_eqb u t y)
      go (no x) y = rw (ne_eqb e d x)

  -- which it is
  pub noted_which : (e u : ℕ) → ((e ≡ d) × (u ≡ t)) ⊎ (noted F d t i e u ≡ F e u)
  noted_which e u = go (ℕ_discrete e d) (ℕ_discrete u t)
    where
      go : Dec (e ≡ d) → Dec (u ≡ t) → ((e ≡ d) × (u ≡ t)) ⊎ (noted F d t i e u ≡ F e u)
      go (yes x) (yes y) = inl (x, y)
      go (yes x) (no y) = inr (noted_other e u (λ a b. y b))
      go (no x) y = inr (noted_other e u (λ a b. x a))

-- the dates of all that happened in the steps before the one numbered i
pub record Dates (l : Log) (i : ℕ) (begins ends : Times) : Type 0 where
  pub began : (d t : ℕ) (a : Task) → l ∋ begin d t a → begins d t < i
  pub ended : (o : Op) → l ∋ finish o → (0 < ends o.desk o.try) × (ends o.desk o.try < i)
  pub really : (d t : ℕ) → 0 < ends d t → Done l d t
  -- what ended in an earlier step stands before the begin
  pub timely : {d t : ℕ} {a : Task} {m : Log} → Past l (begin d t a ∷ m) → (o : Op) → l ∋ finish o → ends o.desk o.try < begins d t → m ∋ finish o
  -- a desk begins one operation in a step
  pub apart : (d t u : ℕ) (a b : Task) → l ∋ begin d t a → l ∋ begin d u b → begins d t ≡ begins d u → t ≡ u

pub dates_none : Dates [] 1 (λ d t. 0) (λ d t. 0)
dates_none = record {
  began = λ d t a m. absurd (Memᴰ.not-nil m);
  ended = λ o m. absurd (Memᴰ.not-nil m);
  really = λ d t h. absurd (omega arith);
  timely = λ p o m. absurd (Memᴰ.not-nil m);
  apart = λ d t u a b m. absurd (Memᴰ.not-nil m);
}

-- the last entry of a past is the newest, or in the past of the rest
past_cases : {l : Log} {e f : Entry} {m : Log} → Past (e ∷ l) (f ∷ m) → ((f ≡ e) × (m ≡ l)) ⊎ Past l (f ∷ m)
past_cases now = inl (refl, refl)
past_cases {l} {e} {f} {m} (back {e = g} p) = go (past_cases p)
  where
    go : ((g ≡ e) × ((f ∷ m) ≡ l)) ⊎ Past l (g ∷ f ∷ m) → ((f ≡ e) × (m ≡ l)) ⊎ Past l (f ∷ m)
    go (inl h) = inr (subst (λ (x : Log). Past l x) (sym h.1) now)
    go (inr q) = inr (back q)

-- ---- an entry that neither begins nor ends an operation

module _ {i : ℕ} {B E : Times} where
  pub dates_plain : {l m : Log} → Since Plain l m → Dates l i B E → Dates m i B E
  dates_plain stay D = D
  dates_plain (add {e = e} {m = m} p s) D = go (dates_plain s D)
    where
      old-begin : {d t : ℕ} {a : Task} → (e ∷ m) ∋ begin d t a → m ∋ begin d t a
      old-begin h = older (p.0 _ _ _) h

      old_finish : {o : Op} → (e ∷ m) ∋ finish o → m ∋ finish o
      old_finish h = older (p.1 _) h

      go : Dates m i B E → Dates (e ∷ m) i B E
      go F = record {
        began = λ d t a h. F.began d t a (old-begin h);
        ended = λ o h. F.ended o (old_finish h);
        really = λ d t h. done_more (F.really d t h);
        timely = λ q o h x. ⊎_elim (λ c. absurd (p.0 _ _ _ c.0)) (λ r. F.timely r o (old_finish h) x) (past_cases q);
        apart = λ d t u a b h k. F.apart d t u a b (old-begin h) (old-begin k);
      }

  -- a step more
  pub dates_on : {l : Log} → Dates l i B E → Dates l (suc i) B E
  dates_on D = record {
    began = λ d t a h. omega (arith, D.began d t a h);
    ended = λ o h. ((D.ended o h).0, omega (arith, (D.ended o h).1));
    really = D.really;
    timely = D.timely;
    apart = D.apart;
  }

  -- ---- the desk n begins with the try s, after all its others
  module _ {l : Log} (D : Dates l i B E) (n s : ℕ) (x : Task) (fresh : (t : ℕ) (a : Task) → l ∋ begin n t a → t < s) where
    pub begun-before : (d t : ℕ) (a : Task) → l ∋ begin d t a → noted B n s i d t ≡ B d t
    begun-before d t a h = noted_other B n s i d t (λ e f. omega (arith, fresh t a (subst (λ (z : ℕ). l ∋ begin z t a) e h)))

    same_begin : {d t : ℕ} {a : Task} → begin d t a ≡ begin n s x → (d ≡ n) × (t ≡ s)
    same_begin c = (cc, cc)

    pub dates_begin : Dates (begin n s x ∷ l) (suc i) (noted B n s i) E
    dates_begin = record {
      began = λ d t a h. ⊎_elim (λ c. omega (arith, noted_here B n s i (same_begin c).0 (same_begin c).1))
          (λ k. omega (arith, begun-before d t a k, D.began d t a k)) (Memᴰ.cases_cons h);
      ended = λ o h. let k = past-kind (omega arith) h in ((D.ended o k).0, omega (arith, (D.ended o k).1));
      really = λ d t h. done_more (D.really d t h);
      timely = λ q o h y. timely q o (past-kind (omega arith) h) y (past_cases q);
      apart = λ d t u a b h k. apart d t u a b (Memᴰ.cases_cons h) (Memᴰ.cases_cons k);
    }
      where
        timely : {d t : ℕ} {a : Task} {m : Log} → Past (begin n s x ∷ l) (begin d t a ∷ m) → (o : Op) → l ∋ finish o
            → E o.desk o.try < noted B n s i d t
            → ((begin d t a ≡ begin n s x) × (m ≡ l)) ⊎ Past l (begin d t a ∷ m) → m ∋ finish o
        timely q o h y (inl c) = rw c.1 h
        timely {d} {t} {a} q o h y (inr r) =
            D.timely r o h (omega (arith, begun-before d t a (here r)))

        apart : (d t u : ℕ) (a b : Task) → (begin d t a ≡ begin n s x) ⊎ (l ∋ begin d t a) → (begin d u b ≡ begin n s x) ⊎ (l ∋ begin d u b)
            → noted B n s i d t ≡ noted B n s i d u → t ≡ u
        apart d t u a b (inl c) (inl f) e = (same_begin c).1 ∙ sym (same_begin f).1
        apart d t u a b (inl c) (inr k) e = absurd (omega (arith, noted_here B n s i (same_begin c).0 (same_begin c).1, begun-before d u b k, D.began d u b k))
        apart d t u a b (inr h) (inl f) e = absurd (omega (arith, noted_here B n s i (same_begin f).0 (same_begin f).1, begun-before d t a h, D.began d t a h))
        apart d t u a b (inr h) (inr k) e = D.apart d t u a b h k (sym (begun-before d t a h) ∙ e ∙ begun-before d u b k)

  -- ---- the operation o ends
  module _ {l : Log} (D : Dates l i B E) (o : Op) (up : 0 < i) where
    pub dates_finish : Dates (finish o ∷ l) (suc i) B (noted E o.desk o.try i)
    dates_finish = record {
      began = λ d t a h. omega (arith, D.began d t a (past-kind (omega arith) h));
      ended = λ p h. ended p (Memᴰ.cases_cons h) (noted_which E o.desk o.try i p.desk p.try);
      really = λ d t h. ⊎_elim (λ c. (o, Memᴰ.head refl, sym c.0, sym c.1)) (λ c. done_more (D.really d t (omega arith))) (noted_which E o.desk o.try i d t);
      timely = λ q p h y. ⊎_elim (λ c. absurd (omega (arith, ap tag c.0)))
          (λ r. timely r p y (Memᴰ.cases_cons h) (noted_which E o.desk o.try i p.desk p.try)) (past_cases q);
      apart = λ d t u a b h k. D.apart d t u a b (past-kind (omega arith) h) (past-kind (omega arith) k);
    }
      where
        same_op : {p : Op} → finish p ≡ finish o → p ≡ o
        same_op c = cc

        ended : (p : Op) → (finish p ≡ finish o) ⊎ (l ∋ finish p)
            → ((p.desk ≡ o.desk) × (p.try ≡ o.try)) ⊎ (noted E o.desk o.try i p.desk p.try ≡ E p.desk p.try)
            → (0 < noted E o.desk o.try i p.desk p.try) × (noted E o.desk o.try i p.desk p.try < suc i)
        ended p h (inl c) = let e = noted_here E o.desk o.try i c.0 c.1 in (omega arith, omega arith)
        ended p (inl c) (inr e) =
            let s = same_op c in
            let f = noted_here E o.desk o.try i (ap (λ (z : Op). z.desk) s) (ap (λ (z : Op). z.try) s) in
            (omega arith, omega arith)
        ended p (inr h) (inr e) = let f = D.ended p h in (omega arith, omega arith)

        timely : {d t : ℕ} {a : Task} {m : Log} → Past l (begin d t a ∷ m) → (p : Op) → noted E o.desk o.try i p.desk p.try < B d t
            → (finish p ≡ finish o) ⊎ (l ∋ finish p)
            → ((p.desk ≡ o.desk) × (p.try ≡ o.try)) ⊎ (noted E o.desk o.try i p.desk p.try ≡ E p.desk p.try) → m ∋ finish p
        timely {d} {t} {a} r p y h (inl c) = absurd (omega (arith, noted_here E o.desk o.try i c.0 c.1, D.began d t a (here r)))
        timely {d} {t} {a} r p y (inl c) (inr e) =
            let s = same_op c in
            absurd (omega (arith, noted_here E o.desk o.try i (ap (λ (z : Op). z.desk) s) (ap (λ (z : Op). z.try) s), D.began d t a (here r)))
        timely r p y (inr h) (inr e) = D.timely r p h (omega arith)

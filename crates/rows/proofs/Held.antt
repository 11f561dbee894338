-- The other way: what is read from a list of bytes is held there. So a list that a decoder reads whole is the image of what it reads.
-- Assumes nothing.
use mathlib.Core.Path.{◌≡◌, refl, sym, ap, ◌∙◌}
use mathlib.Core.Bool.{true}
use mathlib.Core.List.{List, [], ◌∷◌, ◌++◌, append_assoc}
use Prim.Native.Nat.{ℕ, zero, suc, ◌+◌, ◌*◌, ◌≤◌, ◌<◌}
use native.Mathlib.Nat.{add_assoc}
use native.Mathlib.Omega.{arith}
use lib.Dec.{eqb}
use lib.ListN.{length, get_or, take, drop, length-append, take-append-drop}
use lib.Seq.{drop-cons, drop_at, length-take-le}
use borrow.Author.Tests.{eqb-true, eq-eqb}
use Rattle.rows.specs.Bytes.{run, cat, zeros}
use Rattle.rows.specs.Tests.{all_zero}
use Rattle.rows.proofs.Laws.{Holds, holds_self, holds_same, holds-run, holds-byte, length_run}
use Rattle.rows.proofs.All.{all_at, all_every}

pub holds_nil : (l : List ℕ) (o : ℕ) → o ≤ length l → Holds l o []
holds_nil l o h = record { pre = take o l; post = drop o l; long = length-take-le o l h; whole = sym (take-append-drop o l) }

pub holds_one : (l : List ℕ) (o : ℕ) → o < length l → Holds l o (get_or l o 0 ∷ [])
holds_one l o h =
    record {
      pre = take o l;
      post = drop (suc o) l;
      long = length-take-le o l (omega arith);
      whole = sym (take-append-drop o l) ∙ ap (λ (r : List ℕ). take o l ++ r) (drop-cons l o 0 h);
    }

pub holds-append : (l a b : List ℕ) (o n : ℕ) → length a ≡ n → Holds l o a → Holds l (o + n) b → Holds l o (a ++ b)
holds-append l a b o n e p q =
    record {
      pre = p.pre;
      post = q.post;
      long = p.long;
      whole = p.whole ∙ sym (append_assoc p.pre a p.post) ∙ ap (λ (r : List ℕ). (p.pre ++ a) ++ r) same ∙ simp append_assoc;
    }
  where
    lp : length (p.pre ++ a) ≡ o + n
    lp = simp length-append (omega (arith, p.long))

    same : p.post ≡ b ++ q.post
    same =
        sym (drop_at (p.pre ++ a) p.post (o + n) lp)
        ∙ ap (drop (o + n)) (append_assoc p.pre a p.post ∙ sym p.whole ∙ q.whole)
        ∙ drop_at q.pre (b ++ q.post) (o + n) q.long

pub run-held : (w n o : ℕ) (l : List ℕ) (f : ℕ → List ℕ) → ((k : ℕ) → length (f k) ≡ w) → o ≤ length l → ((k : ℕ) → k < n → Holds l (o + k * w) (f k)) → Holds l o (run n f)
unfolding run
run-held w zero o l f lf ho h = holds_nil l o ho
run-held w (suc n) o l f lf ho h =
    holds-append l (run n f) (f n) o (n * w) (length_run w n f lf) (run-held w n o l f lf ho (λ k p. h k (omega arith))) (h n (omega arith))

-- pieces that stand at their places, from o + n on
pub data Stands (l : List ℕ) (o : ℕ) : ℕ → List (List ℕ) → Type 0 where
  none : {n : ℕ} → o + n ≤ length l → Stands l o n []
  more : {n : ℕ} {p : List ℕ} {ps : List (List ℕ)} (w : ℕ) → length p ≡ w → Holds l (o + n) p → Stands l o (n + w) ps → Stands l o n (p ∷ ps)

pub cat-held : {l : List ℕ} {o n : ℕ} {ps : List (List ℕ)} → Stands l o n ps → Holds l (o + n) (cat ps)
unfolding cat
cat-held {l} {o} (none {n = n} h) = holds_nil l (o + n) h
cat-held {l} {o} (more {n = n} {p = p} {ps = ps} w e h r) =
    holds-append l p (cat ps) (o + n) w e h (rw (add_assoc o n w) (cat-held r))

-- a list that holds all of b at its start, and is as long, is b
pub held_all : (l b : List ℕ) → Holds l 0 b → length b ≡ length l → l ≡ b
held_all l b h e = holds_same l l b 0 (sym e) (holds_self l) h

-- ---- zeros: what the test says is held, and the other way

module _ (l : List ℕ) (o n : ℕ) where
  pub zeros-held : o + n ≤ length l → all_zero l o n ≡ true → Holds l o (zeros n)
  unfolding zeros all_zero
  zeros-held h e = run-held 1 n o l (λ k. 0 ∷ []) (λ k. refl) (omega arith) one
    where
      one : (k : ℕ) → k < n → Holds l (o + k * 1) (0 ∷ [])
      one k p =
          let z : get_or l (o + k) 0 ≡ 0 = eqb-true (get_or l (o + k) 0) 0 (all_at n k (λ k. eqb (get_or l (o + k) 0) 0) e p) in
          let same : o + k * 1 ≡ o + k = omega arith in
          rw same (rw z at (holds_one l (o + k) (omega arith)))

  pub zeros_pass : Holds l o (zeros n) → all_zero l o n ≡ true
  unfolding zeros all_zero
  zeros_pass h = all_every n (λ k. eqb (get_or l (o + k) 0) 0) one
    where
      one : (k : ℕ) → k < n → eqb (get_or l (o + k) 0) 0 ≡ true
      one k p =
          let same : o + k * 1 ≡ o + k = omega arith in
          eq-eqb (get_or l (o + k) 0) 0 (holds-byte l (o + k) 0 [] (rw same at (holds-run 1 n k o l (λ k. 0 ∷ []) (λ k. refl) p h)))

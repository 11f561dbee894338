-- Laws of `laid`, and what a line of writes carries along: the bytes laid so far and the position past them. Assumes nothing.
use mathlib.Core.Path.{◌≡◌, refl, sym, ap, ◌∙◌}
use mathlib.Core.Bool.{Bool, true, false}
use mathlib.Core.List.{List, [], ◌∷◌, ◌++◌, append_assoc, append-nil}
use Prim.Native.Nat.{ℕ, suc, ◌+◌, ◌≤◌, ◌<◌}
use native.Mathlib.Nat.{add-zero}
use native.Mathlib.Numerals.{add-one}
use native.Mathlib.Omega.{arith}
use lib.Dec.{leb}
use lib.ListN.{length, get_or, take, drop, set, length-append, length-set}
use lib.Seq.{take_all, drop-nil, drop-cons, set_out}
use borrow.Author.Tests.{leb-true, leb-false}
use Rattle.rows.specs.Bytes.{placed}
use Rattle.rows.proofs.Laws.{set-placed}
use Rattle.record.specs.Lines.{laid, far, past}

-- ---- laid

pub laid-length : (out : List ℕ) (at : ℕ) (b : List ℕ) → length (laid out at b) ≡ length out
unfolding laid
laid-length out at [] = refl
laid-length out at (x ∷ b) = laid-length (set out at x) (suc at) b ∙ length-set out at x

pub laid-append : (out : List ℕ) (at : ℕ) (a b : List ℕ) → laid out at (a ++ b) ≡ laid (laid out at a) (at + length a) b
unfolding laid
laid-append out at [] b = rw (add-zero at)
laid-append out at (x ∷ a) b =
    let e : at + suc (length a) ≡ suc at + length a = omega arith in
    rw e (laid-append (set out at x) (suc at) a b)

-- past the end nothing is written
pub laid-past : (out : List ℕ) (at : ℕ) (b : List ℕ) → length out ≤ at → laid out at b ≡ out
unfolding laid
laid-past out at [] h = refl
laid-past out at (x ∷ b) h = rw (set_out out at x h) (laid-past out (suc at) b (omega arith))

laid_cons : (y : ℕ) (out : List ℕ) (at : ℕ) (b : List ℕ) → laid (y ∷ out) (suc at) b ≡ y ∷ laid out at b
unfolding laid
laid_cons y out at [] = refl
laid_cons y out at (x ∷ b) = laid_cons y (set out at x) (suc at) b

-- from the front: as much of b as fits, and what b does not reach
pub laid_front : (out b : List ℕ) → laid out 0 b ≡ take (length out) b ++ drop (length b) out
unfolding laid
laid_front [] b = laid-past [] 0 b (omega arith) ∙ sym (drop-nil (length b))
laid_front (y ∷ out) [] = refl
laid_front (y ∷ out) (x ∷ b) = laid_cons x out 0 b ∙ ap (λ (l : List ℕ). x ∷ l) (laid_front out b)

-- what fits is there whole
pub laid-whole : (out b : List ℕ) → length b ≤ length out → laid out 0 b ≡ b ++ drop (length b) out
laid-whole out b h = laid_front out b ∙ ap (λ (l : List ℕ). l ++ drop (length b) out) (take_all (length out) b h)

-- one byte is a piece of one byte
pub laid-byte : (out : List ℕ) (at x : ℕ) → placed out at (x ∷ []) ≡ laid out at (x ∷ [])
unfolding laid
laid-byte out at x = sym (set-placed out at x)

-- ---- writes one right after another: l is l₀ with b laid from o on, and p the position past b

pub record Printed (l₀ : List ℕ) (o : ℕ) (b l : List ℕ) (p : ℕ) : Type 0 where
  pub at : p ≡ past o b
  pub is : l ≡ laid l₀ o b

module _ {l₀ : List ℕ} {o : ℕ} {a l : List ℕ} {p : ℕ} (b t : List ℕ) {q : ℕ} where
  pub printed_then : Printed l₀ o a l p → length l₀ ≤ far → (q ≡ past p b) × (t ≡ laid l p b) → Printed l₀ o (a ++ b) t q
  printed_then h small e =
      record { at = simp length-append (omega (arith, h.at, e.0)); is = e.1 ∙ go (leb (o + length a) far) refl }
    where
      go : (t : Bool) → leb (o + length a) far ≡ t → laid l p b ≡ laid l₀ o (a ++ b)
      go true k =
          let here : p ≡ o + length a = omega (arith, h.at, leb-true (o + length a) far k) in
          rw (here, h.is) (sym (laid-append l₀ o a b))
      go false k =
          let late : far < o + length a = leb-false (o + length a) far k in
          let long : length l ≡ length l₀ = ap length h.is ∙ laid-length l₀ o a in
          let beyond = laid-past (laid l₀ o a) (o + length a) b (omega (arith, laid-length l₀ o a)) in
          laid-past l p b (omega (arith, h.at)) ∙ h.is ∙ sym beyond ∙ sym (laid-append l₀ o a b)

-- what a call says, and what one has to say, of the same bytes by two names
pub printed-first : {l₀ : List ℕ} {o : ℕ} {l : List ℕ} {p : ℕ} (b : List ℕ) → (p ≡ past o b) × (l ≡ laid l₀ o b) → Printed l₀ o b l p
printed-first b e = record { at = e.0; is = e.1 }

pub printed_as : {l₀ : List ℕ} {o : ℕ} {a l : List ℕ} {p : ℕ} (b : List ℕ) → a ≡ b → Printed l₀ o a l p → (p ≡ past o b) × (l ≡ laid l₀ o b)
printed_as b e h = rw (← e) (h.at, h.is)

-- ---- a loop: what is left makes up the whole

pub record Printing (whole l₀ : List ℕ) (o : ℕ) (l : List ℕ) (p : ℕ) (rest : List ℕ) : Type 0 where
  pub small : length l₀ ≤ far
  pub long : length l ≡ length l₀
  pub sofar : List ℕ
  pub so : Printed l₀ o sofar l p
  pub whole_is : sofar ++ rest ≡ whole

pub printing_none : {whole l : List ℕ} {o : ℕ} → o ≤ far → length l ≤ far → Printing whole l o l o whole
unfolding laid
printing_none h small = record { small = small; long = refl; sofar = []; so = record { at = omega arith; is = refl }; whole_is = refl }

module _ {whole l₀ : List ℕ} {o : ℕ} {l : List ℕ} {p : ℕ} {rest : List ℕ} (b t next : List ℕ) {q : ℕ} where
  pub printing_more : Printing whole l₀ o l p rest → rest ≡ b ++ next → (q ≡ past p b) × (t ≡ laid l p b) → Printing whole l₀ o t q next
  printing_more h e w =
      record {
        small = h.small;
        long = ap length w.1 ∙ laid-length l p b ∙ h.long;
        sofar = h.sofar ++ b;
        so = printed_then b t h.so h.small w;
        whole_is = append_assoc h.sofar b next ∙ ap (λ (r : List ℕ). h.sofar ++ r) (sym e) ∙ h.whole_is;
      }

pub printing_all : {whole l₀ : List ℕ} {o : ℕ} {l : List ℕ} {p : ℕ} {rest : List ℕ} → Printing whole l₀ o l p rest → rest ≡ [] → (p ≡ past o whole) × (l ≡ laid l₀ o whole)
printing_all h e = printed_as _ (sym (append-nil h.sofar) ∙ ap (λ (r : List ℕ). h.sofar ++ r) (sym e) ∙ h.whole_is) h.so

-- the i-th byte of a word, and what is after it
pub word_next : (word : List ℕ) (i : ℕ) → i < length word → drop i word ≡ (get_or word i 0 ∷ []) ++ drop (i + 1) word
word_next word i h = rw (add-one i) (drop-cons word i 0 h)

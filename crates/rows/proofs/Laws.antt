-- Laws of `splice`, `placed`, `run` and `tab`, over any width, base and row, and what loops and straight lines of writes carry along.
-- Assumes nothing.
use mathlib.Core.Path.{◌≡◌, refl, sym, ap, ◌∙◌}
use mathlib.Core.Logic.{◌≢◌}
use mathlib.Core.Bool.{Bool, true, false, not, cond}
use mathlib.Core.List.{List, [], ◌∷◌, ◌++◌, append_assoc, append-nil}
use Prim.Native.Nat.{ℕ, zero, suc, ◌+◌, ◌*◌, ◌≤◌, ◌<◌}
use native.Mathlib.Nat.{add_assoc, add-zero, mul-le-mul_right}
use native.Mathlib.Numerals.{add-one}
use native.Mathlib.Decide.{ℕ_discrete}
use native.Mathlib.Omega.{arith}
use borrow.Rule.Slice.PartMut.{put_mid}
use lib.Dec.{leb}
use lib.ListN.{get_or-append, length, get_or, take, drop, set, length-append, length-take, length-drop, take-append-drop, length-set}
use lib.Seq.{length-take-le, take_at, drop_at, drop-append-add, take-append-add, drop-append-le, take-append-le, take-take, drop-drop, sets-eq, set_out, get_or_at, ext_get_or, get_or-set_same, get_or-set_other}
use borrow.Author.Tests.{le-leb, lt-leb, leb-true, leb-false, not-false}
use Rattle.std.proofs.lemmas.List.Edits.{paste_all}
use Rattle.std.proofs.lemmas.Slice.{put_mid-paste}
use Rattle.rows.specs.Bytes.{splice, placed, run, tab}

-- ---- splice

splice-length : (l b : List ℕ) (o : ℕ) → o + length b ≤ length l → length (splice l o b) ≡ length l
unfolding splice
splice-length l b o h = simp (length-append, length-take, length-drop) (omega arith)

splice_at : (p q b : List ℕ) (o : ℕ) → length p ≡ o → splice (p ++ q) o b ≡ p ++ (b ++ drop (length b) q)
unfolding splice
splice_at p q b o e = rw (← e, take_at p q (length p) refl, drop-append-add)

-- a piece, and then one right after it
splice_more : (l a b : List ℕ) (o : ℕ) → o ≤ length l → splice (splice l o a) (o + length a) b ≡ splice l o (a ++ b)
unfolding splice
splice_more l a b o h =
    rw (← append_assoc (take o l) a (drop (o + length a) l))
    (splice_at (take o l ++ a) (drop (o + length a) l) b (o + length a) (simp (length-append, length-take) (omega arith))
    ∙ simp (append_assoc, drop-drop, length-append, add_assoc))

-- a piece, and then one right before it
splice-before : (l a b : List ℕ) (o : ℕ) → o + length a ≤ length l → splice (splice l (o + length a) b) o a ≡ splice l o (a ++ b)
unfolding splice
splice-before l a b o h =
    let p = take (o + length a) l in
    let q = b ++ drop (o + length a + length b) l in
    let long : length p ≡ o + length a = length-take-le (o + length a) l h in
    let front : take o (p ++ q) ≡ take o l = take-append-le o p q (omega arith) ∙ take-take o (o + length a) l (omega arith) in
    rw (front, drop_at p q (o + length a) long) (simp (append_assoc, length-append, add_assoc))

-- in the left part, in the right part
pub splice-left : (b c v : List ℕ) (o : ℕ) → o + length v ≤ length b → splice (b ++ c) o v ≡ splice b o v ++ c
unfolding splice
splice-left b c v o h =
    let k : o ≤ length b = omega arith in
    simp (append_assoc, take-append-le o b c k, drop-append-le (o + length v) b c h)

pub splice_right : (a b v : List ℕ) (n o : ℕ) → length a ≡ n → splice (a ++ b) (n + o) v ≡ a ++ splice b o v
unfolding splice
splice_right a b v n o e = rw (← e) (simp (take-append-add, add_assoc, drop-append-add, append_assoc))

splice_nil : (l : List ℕ) (o : ℕ) → splice l o [] ≡ l
unfolding splice
splice_nil l o = rw add-zero (take-append-drop o l)

-- ---- placed

by_room : (P : List ℕ → Type 0) (l b : List ℕ) (o : ℕ) → (o + length b ≤ length l → P (splice l o b)) → (length l < o + length b → P l) → P (placed l o b)
unfolding placed
by_room P l b o fits misses = go (leb (o + length b) (length l)) refl
  where
    go : (t : Bool) → leb (o + length b) (length l) ≡ t → P (cond t (splice l o b) l)
    go true e = fits (leb-true (o + length b) (length l) e)
    go false e = misses (leb-false (o + length b) (length l) e)

pub placed_fits : (l b : List ℕ) (o : ℕ) → o + length b ≤ length l → placed l o b ≡ splice l o b
unfolding placed
placed_fits l b o h = rw (le-leb (o + length b) (length l) h)

pub placed_not : (l b : List ℕ) (o : ℕ) → length l < o + length b → placed l o b ≡ l
unfolding placed
placed_not l b o h = rw (lt-leb (o + length b) (length l) h)

pub placed-length : (l b : List ℕ) (o : ℕ) → length (placed l o b) ≡ length l
placed-length l b o = by_room (λ t. length t ≡ length l) l b o (splice-length l b o) (λ h. refl)

pub placed_nil : (l : List ℕ) (o : ℕ) → placed l o [] ≡ l
placed_nil l o = by_room (λ t. t ≡ l) l [] o (λ h. splice_nil l o) (λ h. refl)

-- two pieces that have room
placed_twice : (l a b : List ℕ) (o p : ℕ) → o + length a ≤ length l → p + length b ≤ length l → placed (placed l o a) p b ≡ splice (splice l o a) p b
placed_twice l a b o p h k = rw (placed_fits l a o h) (placed_fits (splice l o a) b p (rw (splice-length l a o h) k))

-- they are one where they stand side by side, whichever is written first
module _ (l a b : List ℕ) (o : ℕ) (h : o + (length a + length b) ≤ length l) where
  whole : splice l o (a ++ b) ≡ placed l o (a ++ b)
  whole = sym (placed_fits l (a ++ b) o (rw length-append h))

  pub placed_more : placed (placed l o a) (o + length a) b ≡ placed l o (a ++ b)
  placed_more = placed_twice l a b o (o + length a) (omega arith) (omega arith) ∙ splice_more l a b o (omega arith) ∙ whole

  pub placed-before : placed (placed l (o + length a) b) o a ≡ placed l o (a ++ b)
  placed-before = placed_twice l b a (o + length a) o (omega arith) (omega arith) ∙ splice-before l a b o (omega arith) ∙ whole

-- what the code's test of the room says, where `!has_room(..)` is false
pub room : {r : Bool} {m n : ℕ} → r ≡ leb m n → not r ≡ false → m ≤ n
room {r} {m} {n} e t = leb-true m n (sym e ∙ not-false r t)

-- a store is a piece of one byte, in the list and past its end
pub set-placed : (l : List ℕ) (o x : ℕ) → set l o x ≡ placed l o (x ∷ [])
unfolding splice
set-placed l o x =
    by_room (λ t. set l o x ≡ t) l (x ∷ []) o
    (λ h. sets-eq (x ∷ []) l o h ∙ append_assoc (take o l) (x ∷ []) (drop (o + 1) l))
    (λ h. set_out l o x (omega arith))

-- so is what is written over a part of the list
pub placed_part : (l b t : List ℕ) (o k : ℕ) → o + length b ≤ length l → length b ≡ k → t ≡ b → put_mid o k l t ≡ placed l o b
unfolding splice
placed_part l b t o k h e q = put_mid-paste o k l t b (length b) q e refl ∙ paste_all l o b (length b) refl ∙ sym (placed_fits l b o h)

-- ---- run

module _ (w : ℕ) where
  pub length_run : (n : ℕ) (f : ℕ → List ℕ) → ((k : ℕ) → length (f k) ≡ w) → length (run n f) ≡ n * w
  unfolding run
  length_run zero f h = omega arith
  length_run (suc n) f h = simp length-append (omega (arith, length_run n f h, h n))

pub run_ext : (n : ℕ) (f g : ℕ → List ℕ) → ((k : ℕ) → k < n → f k ≡ g k) → run n f ≡ run n g
unfolding run
run_ext zero f g h = refl
run_ext (suc n) f g h = let e = run_ext n f g (λ k p. h k (omega arith)) in let e2 = h n (omega arith) in cc

-- the i-th of n pieces of width w ends inside the run
pub run_inside : (w i n : ℕ) → i < n → i * w + w ≤ n * w
run_inside w i n h =
    let next : i + 1 ≤ n = omega arith in
    let product : (i + 1) * w ≤ n * w = mul-le-mul_right w next in
    omega arith

-- a piece written inside the i-th of n pieces of width w: the i-th is g i, and the others stay
pub run-write : (w n i o : ℕ) (f g : ℕ → List ℕ) (v : List ℕ)
    → ((k : ℕ) → length (f k) ≡ w) → i < n → o + length v ≤ w
    → g i ≡ splice (f i) o v → ((k : ℕ) → k < n → k ≢ i → g k ≡ f k)
    → splice (run n f) (i * w + o) v ≡ run n g
unfolding run
run-write w zero i o f g v lf hi ho e other = absurd (omega arith)
run-write w (suc n) i o f g v lf hi ho e other =
    go (ℕ_discrete i n) (λ q. run-write w n i o f g v lf (omega arith) ho e (λ k h. other k (omega arith)))
  where
    go : Dec (i ≡ n) → ((i ≡ n → ⊥) → splice (run n f) (i * w + o) v ≡ run n g) → splice (run n f ++ f n) (i * w + o) v ≡ run n g ++ g n
    go (yes p) _ =
        let same : run n f ≡ run n g = run_ext n f g (λ k h. sym (other k (omega arith) (λ z. omega arith))) in
        let here : g n ≡ splice (f n) o v = rw p at e in
        splice_right (run n f) (f n) v (i * w) o (length_run w n f lf ∙ ap (λ (k : ℕ). k * w) (sym p)) ∙ cc
    go (no q) rec =
        let inside : i * w + o + length v ≤ length (run n f) =
        rw (length_run w n f lf) (omega (arith, run_inside w i n (omega arith))) in
        splice-left (run n f) (f n) v (i * w + o) inside
        ∙ ap (λ (r : List ℕ). r ++ f n) (rec q)
        ∙ ap (λ (r : List ℕ). run n g ++ r) (sym (other n (omega arith) (λ z. q (sym z))))

-- ---- what a list holds at a place

-- l has the piece b at index o
pub record Holds (l : List ℕ) (o : ℕ) (b : List ℕ) : Type 0 where
  pub pre : List ℕ
  pub post : List ℕ
  pub long : length pre ≡ o
  pub whole : l ≡ pre ++ (b ++ post)

pub holds_self : (l : List ℕ) → Holds l 0 l
holds_self l = record { pre = []; post = []; long = refl; whole = sym (append-nil l) }

pub holds-left : (l a b : List ℕ) (o : ℕ) → Holds l o (a ++ b) → Holds l o a
holds-left l a b o h = record { pre = h.pre; post = b ++ h.post; long = h.long; whole = h.whole ∙ simp append_assoc }

pub holds_right : (l a b : List ℕ) (o n : ℕ) → length a ≡ n → Holds l o (a ++ b) → Holds l (o + n) b
holds_right l a b o n e h =
    record { pre = h.pre ++ a; post = h.post; long = simp length-append (omega (arith, h.long)); whole = h.whole ∙ simp append_assoc }

pub holds-run : (w n i o : ℕ) (l : List ℕ) (f : ℕ → List ℕ) → ((k : ℕ) → length (f k) ≡ w) → i < n → Holds l o (run n f) → Holds l (o + i * w) (f i)
unfolding run
holds-run w zero i o l f lf hi h = absurd (omega arith)
holds-run w (suc n) i o l f lf hi h = go (ℕ_discrete i n) (λ q. holds-run w n i o l f lf (omega arith) (holds-left l (run n f) (f n) o h))
  where
    go : Dec (i ≡ n) → ((i ≡ n → ⊥) → Holds l (o + i * w) (f i)) → Holds l (o + i * w) (f i)
    go (yes p) _ = rw p (holds_right l (run n f) (f n) o (n * w) (length_run w n f lf) h)
    go (no q) rec = rec q

-- one list holds one piece of a length at a place
pub holds_same : (l a b : List ℕ) (o : ℕ) → length a ≡ length b → Holds l o a → Holds l o b → a ≡ b
holds_same l a b o e h k = part a h ∙ ap (λ (n : ℕ). take n (drop o l)) e ∙ sym (part b k)
  where
    part : (c : List ℕ) → Holds l o c → c ≡ take (length c) (drop o l)
    part c h = sym (take_at c h.post (length c) refl) ∙ ap (take (length c)) (sym (drop_at h.pre (c ++ h.post) o h.long) ∙ ap (drop o) (sym h.whole))

pub holds-byte : (l : List ℕ) (o x : ℕ) (r : List ℕ) → Holds l o (x ∷ r) → get_or l o 0 ≡ x
holds-byte l o x r h = rw h.whole (get_or_at h.pre x (r ++ h.post) 0 o h.long)

-- ---- writes one right after another: l is l₀ with the n bytes a over it from o

pub record Put (l₀ : List ℕ) (o n : ℕ) (a l : List ℕ) : Type 0 where
  pub wide : length a ≡ n
  pub long : length l ≡ length l₀
  pub is : l ≡ placed l₀ o a

pub put_first : {l₀ : List ℕ} {o n : ℕ} (a l : List ℕ) → length a ≡ n → l ≡ placed l₀ o a → Put l₀ o n a l
put_first {l₀} {o} {n} a l w e = record { wide = w; long = ap length e ∙ placed-length l₀ a o; is = e }

pub put_then : {l₀ : List ℕ} {o n : ℕ} {a l : List ℕ} {m : ℕ} (b t : List ℕ) → Put l₀ o n a l → length b ≡ m → o + (n + m) ≤ length l₀ → t ≡ placed l (o + n) b
    → Put l₀ o (n + m) (a ++ b) t
put_then {l₀} {o} {n} {a} {l} {m} b t p w h e =
    record {
      wide = simp length-append (omega (arith, p.wide));
      long = ap length e ∙ placed-length l b (o + n) ∙ p.long;
      is = e ∙ rw (← p.wide, p.is) (placed_more l₀ a b o (omega (arith, p.wide)));
    }

-- ---- a loop that writes a run, one piece a turn

pub record Wrote (w n : ℕ) (f : ℕ → List ℕ) (s₀ : List ℕ) (o i : ℕ) (s : List ℕ) : Type 0 where
  pub within : i ≤ n
  pub long : length s ≡ length s₀
  pub is : s ≡ placed s₀ o (run i f)

pub wrote_none : {w n : ℕ} {f : ℕ → List ℕ} {s : List ℕ} {o : ℕ} → Wrote w n f s o 0 s
unfolding run
wrote_none {w} {n} {f} {s} {o} = record { within = omega arith; long = refl; is = sym (placed_nil s o) }

module _ {w n : ℕ} {f : ℕ → List ℕ} {s₀ : List ℕ} {o : ℕ} (lf : (k : ℕ) → length (f k) ≡ w) (room : o + n * w ≤ length s₀) where
  pub wrote_more : {i : ℕ} {s : List ℕ} (t : List ℕ) (p : ℕ) → Wrote w n f s₀ o i s → i < n → p ≡ o + i * w → t ≡ placed s p (f i) → Wrote w n f s₀ o (i + 1) t
  unfolding run
  wrote_more {i} {s} t p h b q e =
      let inside : i * w + w ≤ n * w = run_inside w i n b in
      let lr : length (run i f) ≡ i * w = length_run w i f lf in
      let at1 : p ≡ o + length (run i f) = omega arith in
      record {
        within = omega arith;
        long = ap length e ∙ placed-length s (f i) p ∙ h.long;
        is = e ∙ ap (λ (l : List ℕ). placed l p (f i)) h.is ∙ rw (at1, add-one i) (placed_more s₀ (run i f) (f i) o (omega (arith, lf i)));
      }

  pub wrote-all : {i : ℕ} {s : List ℕ} → Wrote w n f s₀ o i s → n ≤ i → s ≡ placed s₀ o (run n f)
  wrote-all {i} {s} h b = h.is ∙ ap (λ (k : ℕ). placed s₀ o (run k f)) (let z : i ≡ n = omega (arith, h.within) in z)

-- ---- tab

module _ {A : Type 0} where
  pub length-tab : (n : ℕ) (f : ℕ → A) → length (tab n f) ≡ n
  unfolding tab
  length-tab zero f = refl
  length-tab (suc n) f = simp length-append (omega (arith, length-tab n f))

  pub tab_ext : (n : ℕ) (f g : ℕ → A) → ((k : ℕ) → k < n → f k ≡ g k) → tab n f ≡ tab n g
  unfolding tab
  tab_ext zero f g h = refl
  tab_ext (suc n) f g h = let e = tab_ext n f g (λ k p. h k (omega arith)) in let e2 = h n (omega arith) in cc

  pub get_d_tab : (n i : ℕ) (f : ℕ → A) (d : A) → i < n → get_or (tab n f) i d ≡ f i
  unfolding tab
  get_d_tab zero i f d h = absurd (omega arith)
  get_d_tab (suc n) i f d h = go (ℕ_discrete i n) (λ q. get_d_tab n i f d (omega arith))
    where
      go : Dec (i ≡ n) → ((i ≡ n → ⊥) → get_or (tab n f) i d ≡ f i) → get_or (tab n f ++ (f n ∷ [])) i d ≡ f i
      go (yes p) _ = get_or_at (tab n f) (f n) [] d i (length-tab n f ∙ sym p) ∙ sym (ap f p)
      go (no q) rec = get_or-append (tab n f) (f n ∷ []) d i (omega (arith, length-tab n f)) ∙ rec q

  -- a list is the tab of its own elements
  pub tab_get_d : (l : List A) (n : ℕ) (d : A) → length l ≡ n → tab n (λ k. get_or l k d) ≡ l
  tab_get_d l n d e =
      ext_get_or d (tab n (λ k. get_or l k d)) l (length-tab n (λ k. get_or l k d) ∙ sym e)
      (λ i h. get_d_tab n i (λ k. get_or l k d) d (omega (arith, length-tab n (λ k. get_or l k d))))

  -- ---- a list that a loop fills from the front

  pub record Filled (n : ℕ) (d : A) (f : ℕ → A) (i : ℕ) (l : List A) : Type 0 where
    pub within : i ≤ n
    pub long : length l ≡ n
    pub each : (k : ℕ) → k < i → get_or l k d ≡ f k

  pub fill_none : {n : ℕ} {d : A} {f : ℕ → A} {l : List A} → length l ≡ n → Filled n d f 0 l
  fill_none e = record { within = omega arith; long = e; each = λ k h. absurd (omega arith) }

  pub fill_more : {n : ℕ} {d : A} {f : ℕ → A} {i : ℕ} {l : List A} {x : A} → Filled n d f i l → i < n → x ≡ f i → Filled n d f (i + 1) (set l i x)
  fill_more {n} {d} {f} {i} {l} {x} h b e =
      record { within = omega arith; long = length-set l i x ∙ h.long; each = λ k p. go k p (ℕ_discrete k i) }
    where
      go : (k : ℕ) → k < i + 1 → Dec (k ≡ i) → get_or (set l i x) k d ≡ f k
      go k p (yes q) = rw q (get_or-set_same l i x d (omega (arith, h.long)) ∙ e)
      go k p (no q) = get_or-set_other l i k x d q ∙ h.each k (omega arith)

  pub fill_all : {n : ℕ} {d : A} {f : ℕ → A} {i : ℕ} {l : List A} → Filled n d f i l → n ≤ i → l ≡ tab n f
  fill_all {n} {d} {f} {i} {l} h b =
      ext_get_or d l (tab n f) (h.long ∙ sym (length-tab n f))
      (λ k p. h.each k (omega (arith, h.long, h.within)) ∙ sym (get_d_tab n k f d (omega (arith, h.long))))

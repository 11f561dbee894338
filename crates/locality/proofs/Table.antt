-- A table: a list that is searched by a key, and in which an element is put back at its key or at the end. What is found in, and put back into, the part
-- that shows one key is what is found in, and put back into, the whole. The generators of a relay are a table, and its transfers. Assumes nothing.
use Rattle.std.specs.Prelude.{if◌then◌else◌}
use mathlib.Core.Path.{◌≡◌, refl, sym, ap, ◌∙◌}
use mathlib.Core.Logic.{⊎_elim}
use mathlib.Core.Bool.{Bool, true, false, and-eq-true_iff}
use mathlib.Core.List.{List, [], ◌∷◌}
use Prim.Native.Nat.{ℕ}
use lib.Dec.{eqb}
use borrow.Author.Tests.{eqb-true, eq-eqb}
use Rattle.views.proofs.Sets.{inside_self}
use Rattle.views.proofs.Truth.{decided, contrary, never_true}
use Rattle.rules.specs.Sets.{inside, those, all}
use Rattle.rules.specs.State.{Generator, Transfer}
use Rattle.rules.specs.Generators.{generator_for, put_generator}
use Rattle.rules.specs.Relays.{is_for, transfer_for, put_transfer}
use Rattle.rules.specs.WellFormed.{other_view, other_move}
use Rattle.rules.proofs.Hold.{all_none, all_parts, all_more}
use Rattle.rules.proofs.Transfers.{for_pair}
use Rattle.locality.specs.Narrow.{Move, move, put_back}

pub record Table (A K : Type 0) : Type 0 where
  pub is : K → A → Bool
  pub key : A → K
  pub find : K → List A → A
  pub put : A → List A → List A
  pub other : A → A → Bool
  pub keyed : (k : K) (x : A) → is k x ≡ true → key x ≡ k
  pub self : (x : A) → is (key x) x ≡ true
  pub clash : (k : K) (x y : A) → is k x ≡ true → is k y ≡ true → other x y ≡ false
  pub find_more : (k : K) (x : A) (xs : List A) → find k (x ∷ xs) ≡ if is k x then x else find k xs
  pub put-none : (y : A) → put y [] ≡ y ∷ []
  pub put_more : (y x : A) (xs : List A) → put y (x ∷ xs) ≡ if is (key y) x then y ∷ xs else x ∷ put y xs

-- ---- generators, by their views

module _ (v : ℕ) where
  pub find_view : (g : Generator) (gs : List Generator) → generator_for v (g ∷ gs) ≡ if eqb g.view v then g else generator_for v gs
  unfolding generator_for
  find_view g gs = refl

module _ (g : Generator) where
  pub add_view : put_generator g [] ≡ g ∷ []
  unfolding put_generator
  add_view = refl

  pub put_view : (h : Generator) (hs : List Generator) → put_generator g (h ∷ hs) ≡ if eqb h.view g.view then g ∷ hs else h ∷ put_generator g hs
  unfolding put_generator
  put_view h hs = refl

pub other_view_lem : (v : ℕ) (g h : Generator) → eqb g.view v ≡ true → eqb h.view v ≡ true → other_view g h ≡ false
other_view_lem v g h p q =
    let e : g.view ≡ h.view = eqb-true _ _ p ∙ sym (eqb-true _ _ q) in
    rw (eq-eqb g.view h.view e)

abbrev pub by_view : Table Generator ℕ
by_view =
    record {
      is = λ v g. eqb g.view v;
      key = λ g. g.view;
      find = generator_for;
      put = put_generator;
      other = other_view;
      keyed = λ v g e. eqb-true g.view v e;
      self = λ g. eq-eqb g.view g.view refl;
      clash = other_view_lem;
      find_more = find_view;
      put-none = add_view;
      put_more = put_view;
    }

-- ---- transfers, by their old and new views

module _ (m : Move) where
  pub find_move : (t : Transfer) (ts : List Transfer) → transfer_for m.old m.new (t ∷ ts) ≡ if is_for m.old m.new t then t else transfer_for m.old m.new ts
  unfolding transfer_for
  find_move t ts = refl

module _ (t : Transfer) where
  pub add_move : put_transfer t [] ≡ t ∷ []
  unfolding put_transfer
  add_move = refl

  pub put-move : (u : Transfer) (us : List Transfer) → put_transfer t (u ∷ us) ≡ if is_for t.old t.new u then t ∷ us else u ∷ put_transfer t us
  unfolding put_transfer
  put-move u us = refl

pub other_move_lem : (m : Move) (t u : Transfer) → is_for m.old m.new t ≡ true → is_for m.old m.new u ≡ true → other_move t u ≡ false
other_move_lem m t u p q =
    let a = for_pair m.old m.new t p in
    let b = for_pair m.old m.new u q in
    rw (eq-eqb t.old u.old (a.0 ∙ sym b.0), eq-eqb t.new u.new (a.1 ∙ sym b.1))

pub moved_by : (m : Move) (t : Transfer) → is_for m.old m.new t ≡ true → move t.old t.new ≡ m
moved_by m t e = let k = for_pair m.old m.new t e in rw (k.0, k.1)

-- at an entry into the view of t, all transfers of its key are freed
pub freed-move : (m : Move) (t : Transfer) → move t.old t.new ≡ m → (u : Transfer) → is_for m.old m.new u ≡ true → inside t.new u.new ≡ false
freed-move m t e u k =
    let same : u.new ≡ t.new = (for_pair m.old m.new u k).1 ∙ ap (λ (x : Move). x.new) (sym e) in
    rw same (inside_self t.new)

abbrev pub by_move : Table Transfer Move
by_move =
    record {
      is = λ m. is_for m.old m.new;
      key = λ t. move t.old t.new;
      find = λ m. transfer_for m.old m.new;
      put = put_transfer;
      other = other_move;
      keyed = moved_by;
      self = λ t. (and-eq-true_iff _ _).1 (eq-eqb t.old t.old refl, eq-eqb t.new t.new refl);
      clash = other_move_lem;
      find_more = find_move;
      put-none = add_move;
      put_more = put-move;
    }

-- ---- laws of every table. First: the part of a list that passes a test, by its first element

module _ {A : Type 0} (f : A → Bool) (x : A) (xs : List A) where
  pub those_with : f x ≡ true → those f (x ∷ xs) ≡ x ∷ those f xs
  unfolding those
  those_with e = rw e

  pub those_without : f x ≡ false → those f (x ∷ xs) ≡ those f xs
  unfolding those
  those_without e = rw e

-- where all pass one test that bars the other
pub those-none : {A : Type 0} (f g : A → Bool) → ((x : A) → f x ≡ true → g x ≡ false) → (xs : List A) → all f xs ≡ true → those g xs ≡ []
those-none f g n [] a = unfold those in refl
those-none f g n (x ∷ xs) a = let h = all_parts f x xs a in rw (those_without g x xs (n x h.0)) (those-none f g n xs h.1)

module _ {A K : Type 0} (T : Table A K) (k : K) where
  -- the part that shows k
  abbrev pub part : List A → List A
  part xs = those (T.is k) xs

  -- y, which has the key k, is put first, or later
  module _ (y : A) (e : T.key y ≡ k) (x : A) (xs : List A) where
    pub put_first : T.is k x ≡ true → T.put y (x ∷ xs) ≡ y ∷ xs
    put_first p = rw (T.put_more y x xs, e, p)

    pub put_later : T.is k x ≡ false → T.put y (x ∷ xs) ≡ x ∷ T.put y xs
    put_later p = rw (T.put_more y x xs, e, p)

  -- by whether the first element is shown
  module _ (P : List A → Type 0) (x : A) (xs : List A) where
    by_first : (T.is k x ≡ true → P (x ∷ part xs)) → (T.is k x ≡ false → P (part xs)) → P (part (x ∷ xs))
    by_first f g = ⊎_elim (λ e. rw (those_with (T.is k) x xs e) (f e)) (λ e. rw (those_without (T.is k) x xs e) (g e)) (decided (T.is k x))

  -- all of it has that key; past one that has it, where all differ, none is shown
  pub part_keyed : (xs : List A) → all (T.is k) (part xs) ≡ true
  part_keyed [] = unfold those in all_none (T.is k)
  part_keyed (x ∷ xs) = by_first (λ l. all (T.is k) l ≡ true) x xs (λ e. all_more (T.is k) x (part xs) e (part_keyed xs)) (λ e. part_keyed xs)

  pub part_alone : (x : A) (xs : List A) → T.is k x ≡ true → all (T.other x) xs ≡ true → part xs ≡ []
  part_alone x xs p a = those-none (T.other x) (T.is k) (λ y o. never_true (T.is k y) (λ e. contrary o (T.clash k x y p e))) xs a

  -- ---- found in the part

  pub find_part : (xs : List A) → T.find k (part xs) ≡ T.find k xs
  find_part [] = unfold those in refl
  find_part (x ∷ xs) =
      by_first (λ l. T.find k l ≡ T.find k (x ∷ xs)) x xs
      (λ e. rw (T.find_more k x (part xs), T.find_more k x xs, e))
      (λ e. rw (T.find_more k x xs, e) (find_part xs))

  -- ---- put into the part, and back

  pub put_keyed : (y : A) → T.key y ≡ k → (l : List A) → all (T.is k) l ≡ true → all (T.is k) (T.put y l) ≡ true
  put_keyed y e [] a = rw (T.put-none y) (all_more (T.is k) y [] (rw e at (T.self y)) a)
  put_keyed y e (x ∷ l) a =
      let h = all_parts (T.is k) x l a in
      rw (put_first y e x l h.0) (all_more (T.is k) y l (rw e at (T.self y)) h.1)

  back_first : (y : A) → T.key y ≡ k → (l xs : List A) → all (T.is k) l ≡ true → put_back T.put (T.put y l) xs ≡ T.put y xs
  back_first y e [] xs a = rw (T.put-none y)
  back_first y e (x ∷ l) xs a = rw (put_first y e x l (all_parts (T.is k) x l a).0)

  -- put into the part and back: put into the whole
  pub put_back_lem : (y : A) → T.key y ≡ k → (xs : List A) → put_back T.put (T.put y (part xs)) xs ≡ T.put y xs
  put_back_lem y e xs = back_first y e (part xs) xs (part_keyed xs)

  back_later : (l : List A) (x : A) (xs : List A) → all (T.is k) l ≡ true → T.is k x ≡ false → put_back T.put l (x ∷ xs) ≡ x ∷ put_back T.put l xs
  back_later [] x xs a n = refl
  back_later (y ∷ l) x xs a n =
      let e : T.key y ≡ k = T.keyed k y (all_parts (T.is k) y l a).0 in
      put_later y e x xs n

  -- the part itself put back: nothing changes
  pub part_back : (xs : List A) → put_back T.put (part xs) xs ≡ xs
  part_back [] = unfold those in refl
  part_back (x ∷ xs) =
      by_first (λ l. put_back T.put l (x ∷ xs) ≡ x ∷ xs) x xs
      (λ e. rw (T.put_more x x xs, T.self x))
      (λ e. rw (back_later (part xs) x xs (part_keyed xs) e, part_back xs))

  -- ---- what a test drops may be changed before it

  module _ (f : A → Bool) (n : (x : A) → T.is k x ≡ true → f x ≡ false) where
    pub put-dropped : (y : A) → T.key y ≡ k → (xs : List A) → those f (T.put y xs) ≡ those f xs
    put-dropped y e [] = rw (T.put-none y, those_without f y [] (n y (rw e at (T.self y))))
    put-dropped y e (x ∷ xs) =
        ⊎_elim (λ p. rw (put_first y e x xs p, those_without f y xs (n y (rw e at (T.self y))), those_without f x xs (n x p)))
        (λ p. rw (put_later y e x xs p) (same_first x xs (T.put y xs) (put-dropped y e xs))) (decided (T.is k x))
      where
        same_first : (x : A) (xs ys : List A) → those f ys ≡ those f xs → those f (x ∷ ys) ≡ those f (x ∷ xs)
        same_first x xs ys q = unfold those in (rw q)

-- The rules' words for sequences and stamps, and the log's: a sequence that is kept for a view (`above_of`, sorted, with `has_of`) is one of
-- `Sequences.antt` (`◌∈◌`); a stamp is its number 4 count + desk. Assumes nothing.
use mathlib.Core.Path.{◌≡◌, refl, sym, ap, ◌∙◌}
use mathlib.Core.Logic.{◌⊎◌, inl, inr, ⊎_elim}
use mathlib.Core.Bool.{true, false, and-eq-true_iff}
use mathlib.Core.List.Memᴰ
use mathlib.Core.List.{List, [], ◌∷◌}
use Prim.Native.Nat.{ℕ, ◌<◌}
use native.Mathlib.Omega.{arith}
use lib.Dec.{eqb}
use lib.ListN.{length}
use lib.Bits.{bit_or}
use borrow.Author.Tests.{eqb-true, eq-eqb}
use Rattle.views.specs.View.{clash_of, inside_of}
use Rattle.views.specs.Chain.{some, has_of, lacks_of, conflict_of, least_of, most_of, union_of, heard_of, beyond_of}
use Rattle.views.proofs.Truth.{contrary, either_true, true_left, cases}
use Rattle.views.proofs.Sets.{Within, within_cases, Inside, inside_fact, inside_test, apart_test}
use Rattle.views.proofs.Among.{has_first, has_rest, some_fact, lacks_fact, lacks_some, some-plus, some_union, lacks_union_left, lacks_union_right, has_beyond}
use Rattle.views.proofs.Nested.{Above as Rising, above_has, above_nested, least_has, least_within, beyond_above}
use Rattle.views.proofs.Merge.{above_heard}
use Rattle.rules.specs.Sets.{none}
use Rattle.safety.proofs.Sequences.{◌∈◌, Comparable, same, inner, outer, Sequence, Above, Least, Single, Without}
use Rattle.safety.proofs.Votes.{Union}
use Rattle.safety.proofs.Log.{Merge, clash, joined}

-- ---- membership

pub has_in : (q : List ℕ) (v : ℕ) → has_of q v ≡ true → v ∈ q
unfolding some
has_in [] v e = absurd (contrary e refl)
has_in (w ∷ q) v e = ⊎_elim (λ p. Memᴰ.head (eqb-true v w p)) (λ p. Memᴰ.tail (has_in q v p)) (either_true (eqb v w) (has_of q v) e)

pub in_has : {v : ℕ} {q : List ℕ} → v ∈ q → has_of q v ≡ true
unfolding some
in_has {v = v} (Memᴰ.head {x = w} {xs = q} e) = true_left (has_of q v) (eq-eqb v w e)
in_has {v = v} (Memᴰ.tail {x = w} {xs = q} m) = has_rest v w q (in_has m)

comparable : {x y : ℕ} → Within x y ⊎ Within y x → Comparable x y
comparable {x} {y} (inl h) = ⊎_elim (λ e. same e) (λ i. inner i) (within_cases h)
comparable {x} {y} (inr h) = ⊎_elim (λ e. same (sym e)) (λ i. outer i) (within_cases h)

-- ---- a sequence that is kept for v, and is not empty

pub record Kept (v : ℕ) (q : List ℕ) : Type 0 where
  pub rising : Rising v q
  pub view : ℕ
  pub has : has_of q view ≡ true

-- it is a list of some length, and no empty one
pub nil_lacks : {q : List ℕ} (x : ℕ) → has_of q x ≡ true → q ≡ [] → ⊥
unfolding some
nil_lacks x h e = contrary h (ap (λ (l : List ℕ). has_of l x) e)

pub kept_full : {v : ℕ} {q : List ℕ} → Kept v q → q ≡ [] → ⊥
kept_full k e = nil_lacks k.view k.has e

long : (q : List ℕ) (x : ℕ) → has_of q x ≡ true → 0 < length q
unfolding some
long [] x h = absurd (contrary h refl)
long (w ∷ q) x h = omega arith

pub full-none : {q : List ℕ} → (q ≡ [] → ⊥) → none q ≡ false
full-none {q = []} h = absurd (h refl)
full-none {q = w ∷ q} h = refl

pub none_nil : (q : List ℕ) → none q ≡ true → q ≡ []
none_nil [] e = refl
none_nil (w ∷ q) e = absurd (contrary e refl)

pub full-kept : {v : ℕ} {q : List ℕ} → Rising v q → none q ≡ false → Kept v q
full-kept {q = []} r e = absurd (contrary refl e)
full-kept {q = w ∷ q} r e = record { rising = r; view = w; has = has_first w q }

module _ {v : ℕ} {q : List ℕ} (k : Kept v q) where
  pub kept-sequence : Sequence q
  kept-sequence = record {
    first = k.view;
    has = has_in q k.view k.has;
    nested = λ x y m n. comparable (above_nested k.rising x y (in_has m) (in_has n));
  }

  pub kept_above : Above v q
  kept_above w m = above_has k.rising w (in_has m)

  least_in : least_of q ∈ q
  least_in = has_in q (least_of q) (least_has q (long q k.view k.has))

  -- its innermost view w, and what is beyond that
  module _ {w : ℕ} (e : least_of q ≡ w) where
    from_least : (x : ℕ) → x ∈ q → (w ≡ x) ⊎ Inside w x
    from_least x m = within_cases (rw e at (least_within k.rising x (in_has m)))

    pub kept_least : Least w q
    kept_least = record { has = rw e at least_in; least = from_least }

    beyond_from : (x : ℕ) → x ∈ beyond_of w q → Inside w x × (x ∈ q)
    beyond_from x m =
        let h = (and-eq-true_iff (inside_of w x) (has_of q x)).0 (sym (has_beyond w x q) ∙ in_has m) in
        (inside_fact w x h.0, has_in q x h.1)

    beyond_to : (x : ℕ) → x ∈ q → Inside w x → x ∈ beyond_of w q
    beyond_to x m i = has_in (beyond_of w q) x (has_beyond w x q ∙ (and-eq-true_iff (inside_of w x) (has_of q x)).1 (inside_test i, in_has m))

    pub beyond_without : Without w q (beyond_of w q)
    beyond_without = record {
      from = λ x m. (beyond_from x m).1;
      gone = λ x m. (beyond_from x m).0.other;
      kept = λ x m n. ⊎_elim (λ d. absurd (n d)) (λ i. beyond_to x m i) (from_least x m);
    }

    pub beyond_single : none (beyond_of w q) ≡ true → Single w q
    beyond_single z = record {
      has = rw e at least_in;
      only = λ x m. ⊎_elim (λ d. d) (λ i. absurd (nil_lacks x (in_has (beyond_to x m i)) (none_nil _ z))) (from_least x m);
    }

  pub beyond_kept : (w : ℕ) → none (beyond_of w q) ≡ false → Kept w (beyond_of w q)
  beyond_kept w e = full-kept (beyond_above w k.rising) e

-- ---- what a relay's own sequence becomes by one that it hears, where that has a view more

module _ {v : ℕ} (own c q : List ℕ) (o : Rising v own) (s : Rising v c) (r : Rising v q) (n : lacks_of c own ≡ false) (e : lacks_of q own ≡ true) where
  heard_some : (x : ℕ) × (has_of (heard_of own c q) x ≡ true)
  unfolding heard_of
  heard_some =
      let more = lacks_some q own e in
      let top : ℕ = bit_or (most_of own) (most_of q) in
      rw e (cases (λ (l : List ℕ). (x : ℕ) × (has_of l x ≡ true)) (conflict_of q own)
      (λ f. (top, some-plus (eqb top) top c ∙ true_left (has_of c top) (eq-eqb top top refl)))
      (λ f. (more.view, lacks_fact q (union_of q own) (lacks_union_left q own) more.view more.has)))

  pub heard_kept : Kept v (heard_of own c q)
  heard_kept = record { rising = above_heard o s r n; view = heard_some.0; has = heard_some.1 }

  clashing : conflict_of q own ≡ true → {p : List ℕ} → Merge own q p
  clashing f =
      let one = some_fact (λ v. some (clash_of v) own) q f in
      let two = some_fact (clash_of one.view) own one.passes in
      clash (has_in own two.view two.has) (has_in q one.view one.has) (λ x. contrary two.passes (apart_test (nested x)))
    where
      nested : {x y : ℕ} → Comparable x y → Within y x ⊎ Within x y
      nested {x} {y} (same d) = inr (record { meets = rw d (lib.Bits.and_self y) })
      nested (inner i) = inr i.within
      nested (outer i) = inl i.within

  united : Union own q (union_of q own)
  united = record {
    left = λ x m. has_in (union_of q own) x (lacks_fact own (union_of q own) (lacks_union_right q own) x (in_has m));
    right = λ x m. has_in (union_of q own) x (lacks_fact q (union_of q own) (lacks_union_left q own) x (in_has m));
    from = λ x m. ⊎_elim (λ h. inr (has_in q x h)) (λ h. inl (has_in own x h)) (either_true (has_of q x) (has_of own x) (sym (some_union (eqb x) q own) ∙ in_has m));
  }

  pub heard_merge : Merge own q (heard_of own c q)
  unfolding heard_of
  heard_merge = rw e (cases (Merge own q) (conflict_of q own) (λ f. clashing f) (λ f. joined united))

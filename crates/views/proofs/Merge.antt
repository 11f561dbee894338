-- The Proposal rule keeps a sequence: one view more, the union of two and what was heard are again sequences kept for v, short enough for a row,
-- and converged stays contained in own. Assumes nothing.
use mathlib.Core.Path.{◌≡◌, ◌∙◌}
use mathlib.Core.Logic.{◌≢◌, inl, inr}
use mathlib.Core.Bool.{true, false}
use mathlib.Core.List.{List}
use Prim.Native.Nat.{ℕ, ◌≤◌, ◌<◌}
use native.Mathlib.Omega.{arith}
use lib.Dec.{eqb, ltb}
use lib.Bits.{bit_or, or_lt}
use lib.ListN.{length}
use borrow.Author.Tests.{eqb-false, ltb-true, ltb-false}
use Rattle.views.specs.View.{clash_of}
use Rattle.views.specs.Chain.{some, has_of, lacks_of, conflict_of, most_of, plus_of, union_of, heard_of, above_of}
use Rattle.views.proofs.Truth.{neither_true, cases}
use Rattle.views.proofs.Sets.{Within, within_refl, within_trans, within_or_left, Inside, inside_within, within_inside, apart_test, apart_sym, apart_inside}
use Rattle.views.proofs.Among.{none_test, lacks_fact, lacks_trans, lacks_plus, lacks_union_right, some_fact, some_union}
use Rattle.views.proofs.Nested.{Above, above_none, above_more, above_fact, above_has, above_fits, most-within, most_small}

-- a view that clashes with none goes in at its place
pub above_plus : {v w : ℕ} {l : List ℕ} → Inside v w → w < 65536 → Above v l → some (clash_of w) l ≡ false → Above v (plus_of w l)
unfolding some plus_of
above_plus i h above_none n = above_more i h above_none
above_plus {v} {w} i h (above_more {w = x} {l = l} j k a) n =
    let near = neither_true (clash_of w x) (some (clash_of w) l) n in
    cases (Above v) (ltb w x) (λ e. above_more i h (above_more (apart_inside w x near.0 (ltb-true w x e)) k a))
    (λ e. cases (Above v) (eqb w x) (λ _. above_more j k a)
    (λ f. above_more j k (above_plus (apart_inside x w (apart_sym w x near.0) (omega (arith, ltb-false w x e, eqb-false w x f))) h a near.1)))

-- with a bound u of a's own, since the rest of a is kept for a's first view and b is not
above_join : {v u : ℕ} {a b : List ℕ} → Within v u → Above u a → Above v b → conflict_of a b ≡ false → Above v (union_of a b)
unfolding some union_of
above_join k above_none hb n = hb
above_join {b = b} k (above_more {w = w} {l = a} i h t) hb n =
    let j = within_inside k i in
    let apart = neither_true (some (clash_of w) b) (conflict_of a b) n in
    let own : some (clash_of w) a ≡ false = none_test (clash_of w) a (λ x e. apart_test (inl (above_has t x e).within)) in
    above_plus j h (above_join j.within t hb apart.1) (some_union (clash_of w) a b ∙ rw own apart.0)

pub above_union : {v : ℕ} {a b : List ℕ} → Above v a → Above v b → conflict_of a b ≡ false → Above v (union_of a b)
above_union {v} ha hb n = above_join (within_refl v) ha hb n

-- ---- converged plus the union of the outermost views

above_top : (v : ℕ) (own converged q : List ℕ) → Above v own → Above v converged → Above v q → lacks_of converged own ≡ false → conflict_of q own ≡ true
    → Above v (plus_of (bit_or (most_of own) (most_of q)) converged)
above_top v own converged q ho hc hq n c =
    let w : ℕ = bit_or (most_of own) (most_of q) in
    let all : (x : ℕ) → has_of own x ≡ true → Within x w = λ x e. within_trans (most-within ho x e) (within_or_left (most_of own) (most_of q)) in
    let one = some_fact (clash_of _) own (some_fact (λ u. some (clash_of u) own) q c).passes in
    above_plus (inside_within (above_has ho one.view one.has) (all one.view one.has))
    (or_lt 16 (most_of own) (most_of q) (most_small ho) (most_small hq)) hc
    (none_test (clash_of w) converged (λ x e. apart_test (inr (all x (lacks_fact converged own n x e)))))

-- ---- the rule

pub above_heard : {v : ℕ} {own converged q : List ℕ} → Above v own → Above v converged → Above v q → lacks_of converged own ≡ false
    → Above v (heard_of own converged q)
unfolding heard_of
above_heard {v} {own} {converged} {q} ho hc hq n =
    cases (Above v) (lacks_of q own)
    (λ _. cases (Above v) (conflict_of q own) (λ e. above_top v own converged q ho hc hq n e) (λ e. above_union hq ho e)) (λ _. ho)

pub heard_fits : (v : ℕ) (own converged q : List ℕ) → v < 65536 → v ≢ 0 → above_of v own ≡ true → above_of v converged ≡ true → above_of v q ≡ true
    → lacks_of converged own ≡ false → length (heard_of own converged q) ≤ 15
heard_fits v own converged q h z ho hc hq n =
    above_fits h z (above_heard (above_fact v own ho) (above_fact v converged hc) (above_fact v q hq) n)

pub heard_contains : (own converged q : List ℕ) → lacks_of converged own ≡ false → lacks_of converged (heard_of own converged q) ≡ false
unfolding heard_of
heard_contains own converged q n =
    let P : List ℕ → Type 0 = λ l. lacks_of converged l ≡ false in
    cases P (lacks_of q own)
    (λ _. cases P (conflict_of q own) (λ _. lacks_plus (bit_or (most_of own) (most_of q)) converged)
    (λ _. lacks_trans converged own (union_of q own) n (lacks_union_right q own))) (λ _. n)

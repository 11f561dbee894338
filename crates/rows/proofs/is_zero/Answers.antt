-- `rows::is_zero` meets its contract: those past the end are zero. Assumes nothing.
use mathlib.Core.Path.{◌≡◌, refl, sym, ap, ◌∙◌}
use mathlib.Core.Bool.{◌&&◌, and-true}
use mathlib.Core.Logic.{◌⊎◌, inl, inr}
use mathlib.Core.List.{List}
use Prim.Native.Nat.{ℕ, zero, suc, ◌+◌, ◌≤◌, ◌<◌, min}
use native.Mathlib.Numerals.{add-one}
use native.Mathlib.Omega.{arith}
use lib.Dec.{eqb}
use lib.ListN.{length, get_or, take, drop, length-drop, get_or-eq_default}
use Rattle.std.specs.List.{list_all}
use Rattle.std.proofs.lemmas.Bool.{cases_lt}
use Rattle.std.proofs.lemmas.List.{take_all, take_min, get_or-drop}
use Rattle.std.proofs.lemmas.List.Folds.{list_all_more}
use Rattle.rows.specs.Tests.{all, all_zero}
use Rattle.rows.proofs.is_zero.Goals as goal

part : (l : List ℕ) (o n : ℕ) → list_all (λ x. eqb x 0) (take n (drop o l)) ≡ all_zero l o n
unfolding all all_zero
part l o zero = refl
part l o (suc n) = go (cases_lt n (length (drop o l))) (part l o n)
  where
    go : (n < length (drop o l)) ⊎ (length (drop o l) ≤ n) → list_all (λ x. eqb x 0) (take n (drop o l)) ≡ all n (λ k. eqb (get_or l (o + k) 0) 0)
        → list_all (λ x. eqb x 0) (take (suc n) (drop o l)) ≡ (all n (λ k. eqb (get_or l (o + k) 0) 0) && eqb (get_or l (o + n) 0) 0)
    go (inl h) before = rw (← add-one n, list_all_more (λ x. eqb x 0) (drop o l) n 0 h, before, get_or-drop o l n 0)
    go (inr h) before =
        let past : get_or l (o + n) 0 ≡ 0 = get_or-eq_default l 0 (omega (arith, length-drop o l)) in
        rw (past, ← before, take_all n (drop o l) h, take_all (suc n) (drop o l) (omega arith)) (sym (and-true _))

window : (l rest : List ℕ) (o n k : ℕ) → rest ≡ drop o l → k ≡ min n (length rest) → take k rest ≡ take n (drop o l)
window l rest o n k e f = rw (f, e) (take_min n (drop o l))

pub returns : goal.returns
returns c = c.only_zeros.ensures ∙ ap (list_all _) (window c.args.s.now _ c.args.at _ _ c.rest_at-rest.ensures c.min.ensures) ∙ part _ _ _

-- `rows::only_zeros` meets its contract: eight bytes are one number, which is zero exactly where each of them is. Assumes nothing.
use mathlib.Core.Path.{◌≡◌, refl, sym, ◌∙◌}
use mathlib.Core.Bool.{Bool, true, false, ◌&&◌, and_assoc, and-eq-true_iff}
use mathlib.Core.List.{List, [], ◌∷◌}
use Prim.Native.Nat.{ℕ, zero, suc, ◌*◌, ◌/◌, ◌≤◌}
use native.Mathlib.Omega.{arith}
use mir.Syntax.{w64}
use lib.Dec.{eqb}
use lib.ListN.{length, drop}
use borrow.Author.Tests.{eq-eqb, eqb-true}
use Rattle.std.specs.Int.{from_le_bytes}
use Rattle.std.specs.List.{list_all}
use Rattle.std.specs.Simd.{first_chunks}
use Rattle.std.proofs.Common.{rules, tests}
use Rattle.std.proofs.lemmas.Iterator.{YieldsList-from_slice}
use Rattle.std.proofs.lemmas.Iterator.Search.{all_from_yields_List}
use Rattle.rows.proofs.only_zeros.Goals as goal

abbrev is_nil : ℕ → Bool
is_nil x = eqb x 0

abbrev all_nil : List ℕ → Bool
all_nil e = eqb (from_le_bytes w64 e) 0

same : (p q : Bool) → (p ≡ true → q ≡ true) → (q ≡ true → p ≡ true) → p ≡ q
same true q f g = sym (f refl)
same false false f g = refl
same false true f g = g refl

module _ (a b c d e f g h : ℕ) where
  abbrev bytes : List ℕ
  bytes = a ∷ b ∷ c ∷ d ∷ e ∷ f ∷ g ∷ h ∷ []

  eight : all_nil bytes ≡ list_all is_nil bytes
  eight = same (all_nil bytes) (list_all is_nil bytes) each joined
    where
      each : all_nil bytes ≡ true → list_all is_nil bytes ≡ true
      each t =
          let z : from_le_bytes w64 bytes ≡ 0 = eqb-true (from_le_bytes w64 bytes) 0 t in
          rw (
            eq-eqb a 0 (omega arith),
            eq-eqb b 0 (omega arith),
            eq-eqb c 0 (omega arith),
            eq-eqb d 0 (omega arith),
            eq-eqb e 0 (omega arith),
            eq-eqb f 0 (omega arith),
            eq-eqb g 0 (omega arith),
            eq-eqb h 0 (omega arith),
          )

      joined : list_all is_nil bytes ≡ true → all_nil bytes ≡ true
      joined t =
          let r₁ = (and-eq-true_iff (is_nil a) (list_all is_nil (b ∷ c ∷ d ∷ e ∷ f ∷ g ∷ h ∷ []))).0 t in
          let r₂ = (and-eq-true_iff (is_nil b) (list_all is_nil (c ∷ d ∷ e ∷ f ∷ g ∷ h ∷ []))).0 r₁.1 in
          let r₃ = (and-eq-true_iff (is_nil c) (list_all is_nil (d ∷ e ∷ f ∷ g ∷ h ∷ []))).0 r₂.1 in
          let r₄ = (and-eq-true_iff (is_nil d) (list_all is_nil (e ∷ f ∷ g ∷ h ∷ []))).0 r₃.1 in
          let r₅ = (and-eq-true_iff (is_nil e) (list_all is_nil (f ∷ g ∷ h ∷ []))).0 r₄.1 in
          let r₆ = (and-eq-true_iff (is_nil f) (list_all is_nil (g ∷ h ∷ []))).0 r₅.1 in
          let r₇ = (and-eq-true_iff (is_nil g) (list_all is_nil (h ∷ []))).0 r₆.1 in
          let r₈ = (and-eq-true_iff (is_nil h) true).0 r₇.1 in
          eq-eqb (from_le_bytes w64 bytes) 0
          (omega (
            arith,
            eqb-true a 0 r₁.0,
            eqb-true b 0 r₂.0,
            eqb-true c 0 r₃.0,
            eqb-true d 0 r₄.0,
            eqb-true e 0 r₅.0,
            eqb-true f 0 r₆.0,
            eqb-true g 0 r₇.0,
            eqb-true h 0 r₈.0,
          ))

chunks : (k : ℕ) (xs : List ℕ) → k * 8 ≤ length xs → list_all is_nil xs ≡ (list_all all_nil (first_chunks 8 k xs) && list_all is_nil (drop (k * 8) xs))
chunks zero xs h = refl
chunks (suc k) (a ∷ b ∷ c ∷ d ∷ e ∷ f ∷ g ∷ h ∷ xs) p =
    let next : suc k * 8 ≡ suc (suc (suc (suc (suc (suc (suc (suc (k * 8)))))))) = omega arith in
    rw (next, eight a b c d e f g h, chunks k xs (omega arith)) (simp and_assoc)
chunks (suc k) [] p = absurd (omega arith)
chunks (suc k) (a ∷ []) p = absurd (omega arith)
chunks (suc k) (a ∷ b ∷ []) p = absurd (omega arith)
chunks (suc k) (a ∷ b ∷ c ∷ []) p = absurd (omega arith)
chunks (suc k) (a ∷ b ∷ c ∷ d ∷ []) p = absurd (omega arith)
chunks (suc k) (a ∷ b ∷ c ∷ d ∷ e ∷ []) p = absurd (omega arith)
chunks (suc k) (a ∷ b ∷ c ∷ d ∷ e ∷ f ∷ []) p = absurd (omega arith)
chunks (suc k) (a ∷ b ∷ c ∷ d ∷ e ∷ f ∷ g ∷ []) p = absurd (omega arith)

whole : (xs : List ℕ) (eights : List (List ℕ)) (rest : List ℕ) → eights ≡ first_chunks 8 (length xs / 8) xs → rest ≡ drop (length xs / 8 * 8) xs
    → list_all is_nil xs ≡ (list_all all_nil eights && list_all is_nil rest)
whole xs eights rest e r = rw (e, r) (chunks (length xs / 8) xs (omega arith))

passes : {p q : Bool} → p ≡ true → (p && q) ≡ q
passes e = rw e

fails : {p : Bool} (q : Bool) → p ≡ false → (p && q) ≡ false
fails q e = rw e

pub returns-then-all : goal.returns-then-all
returns-then-all c =
    let first = all_from_yields_List all_nil _ _ _ c.all.ensures.ran (YieldsList-from_slice _ c.iter.ensures.rest) (λ x b q k. search (rules, tests)) in
    let rest =
    all_from_yields_List is_nil _ _ _ c.all-then-all.ensures.ran (YieldsList-from_slice _ c.iter-then-all.ensures.rest)
    (λ x b q k. search (rules, tests)) in
    rest ∙ sym (whole _ _ _ c.as_chunks.ensures.front c.as_chunks.ensures.back ∙ passes (sym first ∙ c.if-all.true))

pub returns-else-all : goal.returns-else-all
returns-else-all c =
    let first = all_from_yields_List all_nil _ _ _ c.all.ensures.ran (YieldsList-from_slice _ c.iter.ensures.rest) (λ x b q k. search (rules, tests)) in
    c.if-all.false ∙ sym (whole _ _ _ c.as_chunks.ensures.front c.as_chunks.ensures.back ∙ fails _ (sym first ∙ c.if-all.false))

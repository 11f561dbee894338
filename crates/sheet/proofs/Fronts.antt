-- What is read in the front of some bytes is read in the whole: a step's zero bytes, its value, and a step; in any form. Assumes nothing.
use mathlib.Core.Path.{◌≡◌, refl, sym, ap, ◌∙◌}
use mathlib.Core.Bool.{◌&&◌}
use mathlib.Core.List.{List}
use Prim.Native.Nat.{ℕ, zero, suc, ◌+◌, ◌-◌, ◌*◌, ◌≤◌}
use native.Mathlib.Omega.{arith}
use lib.Dec.{eqb}
use lib.ListN.{length, take, drop, length-drop}
use lib.Seq.{take-length}
use Rattle.std.specs.List.{list_all}
use Rattle.std.specs.Simd.{first_chunks}
use Rattle.std.proofs.lemmas.List.{get_or-take}
use Rattle.rows.specs.Bytes.{number_at}
use Rattle.rows.specs.Tests.{all, all_zero}
use Rattle.rules.specs.Sheets.{Form, zeros_at, step_width, step_in, all_zeros_in, value_at}

module _ (b : List ℕ) (w o : ℕ) where
  front_zero : (n : ℕ) → o + n ≤ w → all_zero (take w b) o n ≡ all_zero b o n
  unfolding all_zero all
  front_zero zero h = refl
  front_zero (suc n) h = λ i. front_zero n (omega arith) i && eqb (get_or-take w b (o + n) 0 (omega arith) i) 0

  front_number : (n : ℕ) → o + n ≤ w → number_at n (take w b) o ≡ number_at n b o
  unfolding number_at
  front_number zero h = refl
  front_number (suc n) h = λ i. front_number n (omega arith) i * 256 + get_or-take w b (o + n) 0 (omega arith) i

-- all that stands past a position
pub past_lem : (b : List ℕ) (at : ℕ) → take (length b - at) (drop at b) ≡ drop at b
past_lem b at = ap (λ (n : ℕ). take n (drop at b)) (sym (length-drop at b)) ∙ take-length (drop at b)

-- the step that stands in as many bytes as a step has
pub front_step : (f : Form) (b : List ℕ) → step_in f (take (step_width f) b) ≡ step_in f b
front_step f b =
    let w : ℕ = step_width f in
    λ i. record {
      kind = get_or-take w b 0 0 (omega arith) i;
      id = get_or-take w b 1 0 (omega arith) i;
      value = front_number b w (value_at f) f.value_bytes (omega arith) i;
    }

-- the zero bytes of each step, by the parts that the bytes of n steps are cut into
pub blank_lem : (f : Form) (n : ℕ) (b : List ℕ)
    → list_all (λ step. all_zero step zeros_at f.zero_bytes) (first_chunks (step_width f) n b) ≡ all_zeros_in f n b
unfolding all_zeros_in
blank_lem f zero b = refl
blank_lem f (suc n) b = λ i. front_zero b (step_width f) zeros_at f.zero_bytes (omega arith) i && blank_lem f n (drop (step_width f) b) i

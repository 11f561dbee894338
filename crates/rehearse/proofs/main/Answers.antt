-- `rehearse::main` meets its contract. The first bytes of its buffer, as many as the answer says, are the record of the sheet that it read
-- (`handed`); that just these are written is read in the source. Assumes nothing.
use mathlib.Core.Path.{◌≡◌, sym, ap, ◌∙◌}
use mathlib.Core.List.{List, ◌++◌}
use Prim.Native.Nat.{ℕ, ◌≤◌}
use native.Mathlib.Omega.{arith}
use lib.ListN.{length, take, drop, replicate, length-take, length-replicate, length-append}
use lib.Seq.{take-append_seam}
use Rattle.rules.specs.Runs.{rehearsed}
use Rattle.rules.proofs.Longest.{longest-is}
use Rattle.rehearsal.specs.declared.Rehearsed.{Rehearsed}
use Rattle.rehearsal.specs.Playing.{rehearse_answer, record_left}
use Rattle.rehearsal.proofs.Playing.{whole_record}
use Rattle.rehearse.proofs.main.Goals as goal

-- the first bytes of the buffer that is left, as many as are told, are the record
module _ (b w out : List ℕ) (r : Rehearsed) (l : List ℕ) (answer : r ≡ rehearse_answer b w out) (printed : l ≡ record_left b w out)
    (long : length w ≡ 65536) (wide : length out ≡ 240033) where
  whole : (r.length ≡ length (rehearsed b)) × (l ≡ rehearsed b ++ drop (length (rehearsed b)) out)
  whole =
      let h = whole_record b w out long (omega (arith, wide, longest-is 8000)) in
      (ap (λ (x : Rehearsed). x.length) answer ∙ h.0, printed ∙ h.1)

  handed : take r.length l ≡ rehearsed b
  handed = rw (whole.0, whole.1) (take-append_seam (rehearsed b) (drop (length (rehearsed b)) out))

  fits : r.length ≤ length l
  fits = omega (arith, whole.0, ap length whole.1, length-append (rehearsed b) (drop (length (rehearsed b)) out))

counts : (n : ℕ) (l : List ℕ) → n ≤ length l → n ≡ length (take n l)
counts n l h = omega (arith, length-take n l)

-- a long repeat is not counted by computing
zeros : (n : ℕ) → n ≡ length {A = ℕ} (replicate n 0)
zeros n = sym (length-replicate n 0)

pub slice_bounds-out-end : goal.slice_bounds-out-end
slice_bounds-out-end c =
    let r = c.rehearse-done in
    fits _ _ _ r.result r.new.out r.ensures.answer r.ensures.printed (sym (zeros 65536)) (sym (zeros 240033))

pub slice_bounds-write_all-end-2 : goal.slice_bounds-write_all-end-2
slice_bounds-write_all-end-2 c =
    let r = c.rehearse-done in
    counts r.result.length r.new.out (fits _ _ _ r.result r.new.out r.ensures.answer r.ensures.printed (sym (zeros 65536)) (sym (zeros 240033)))

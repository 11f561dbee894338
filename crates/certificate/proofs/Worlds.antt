-- Good worlds to try a program on: the image of a start, and what steps make of it. No byte of an image is computed: a good world is read back from its
-- image, and different worlds have different images. Assumes nothing.
use mathlib.Core.Path.{◌≡◌, sym, ap, ◌∙◌}
use mathlib.Core.Bool.{true, false}
use mathlib.Core.List.{List}
use Prim.Native.Nat.{ℕ}
use native.Mathlib.Omega.{arith}
use lib.Dec.{T}
use lib.ListN.{length, get_or, set, length-set}
use lib.Seq.{get_or-set_same}
use Rattle.rows.specs.Bytes.{run, zeros}
use Rattle.rows.proofs.Laws.{holds_self, holds-byte}
use Rattle.rows.proofs.Fields.{cat-holds}
use Rattle.rules.specs.State.{World, start}
use Rattle.rules.specs.WellFormed.{well_formed}
use Rattle.rules.specs.declared.Step.{Step}
use Rattle.rules.specs.Steps.{no_report, stepped}
use Rattle.layout.specs.Layout.{world_zeros, world_width}
use Rattle.layout.specs.Image.{image, world_at, good_bytes}
use Rattle.layout.specs.Lent.{left, lent_step, lent_start}
use Rattle.rules.proofs.Starts.{start_good}
use Rattle.layout.proofs.Widths.{world_widths_lem, length-image}
use Rattle.layout.proofs.World.{world_back, image_good, good_image}
use Rattle.views.proofs.Truth.{never_true}
use Rattle.certificate.proofs.Typed.{in_bytes}
use Rattle.certificate.proofs.ImageTyped.{image_bytes, changed_bytes}

-- the starts of relay 0 alone and of relay 1 alone
abbrev pub one : List ℕ
one = image (start 1)

abbrev pub two : List ℕ
two = image (start 2)

pub one_formed : well_formed (start 1) ≡ true
one_formed = start_good 1 (omega arith) (omega arith)

pub two_formed : well_formed (start 2) ≡ true
two_formed = start_good 2 (omega arith) (omega arith)

pub one_good : good_bytes one ≡ true
one_good = image_good (start 1) one_formed

pub one_bytes : T (in_bytes one)
one_bytes = image_bytes (start 1) one_formed

pub two_bytes : T (in_bytes two)
two_bytes = image_bytes (start 2) two_formed

-- WRITE 0 77; DELIVER 0
abbrev pub write : Step
write = record { kind = 5; id = 0; value = 77 }

abbrev pub deliver : Step
deliver = record { kind = 6; id = 0; value = 0 }

-- a step of a good world is the outcome of the rules
pub step_of : (W : World) → well_formed W ≡ true → (k : Step) → lent_step (image W) k ≡ left (image W) (stepped W k)
unfolding lent_step
step_of W g k = rw (image_good W g, world_back W g)

-- a start in a buffer of the right length
pub start_of_lem : (w : List ℕ) → length w ≡ world_width → lent_start w 1 ≡ record { answer = 0; report = no_report; buffer = one }
unfolding lent_start
start_of_lem w e = rw e

-- "the rest is zero": a start with one byte of the unused room set is not good, though its length is right
abbrev pub soiled : List ℕ
soiled = set one world_zeros 1

pub soiled_long : length soiled ≡ world_width
soiled_long = length-set one world_zeros 1 ∙ length-image (start 1)

pub soiled_bytes : T (in_bytes soiled)
soiled_bytes = changed_bytes (start 1) one_formed world_zeros 1 (omega arith)

room_zero : (W : World) → get_or (image W) world_zeros 0 ≡ 0
unfolding image zeros run
room_zero W = holds-byte (image W) world_zeros 0 _ (cat-holds (world_widths_lem W) (image W) 3 0 (omega arith) (holds_self (image W)))

pub soiled_bad : good_bytes soiled ≡ false
soiled_bad = never_true (good_bytes soiled) (λ good.
    let zero : get_or soiled world_zeros 0 ≡ 0 = ap (λ (b : List ℕ). get_or b world_zeros 0) (sym (good_image soiled good)) ∙ room_zero (world_at soiled) in
    let set-one : get_or soiled world_zeros 0 ≡ 1 = get_or-set_same one world_zeros 1 0 (omega (arith, length-image (start 1))) in
    omega (arith, zero, set-one))

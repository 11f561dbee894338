-- "All but 0 [..] change nothing": what is not done leaves every byte of what was lent. Assumes nothing.
use Rattle.std.specs.Prelude.{if◌then◌else◌}
use mathlib.Core.Path.{◌≡◌, refl}
use mathlib.Core.List.{List, ◌++◌}
use Prim.Native.Nat.{ℕ}
use lib.Dec.{eqb, leb, ltb}
use lib.ListN.{length, drop}
use borrow.Author.Tests.{ne_eqb}
use Rattle.views.proofs.Truth.{cases}
use Rattle.rows.specs.Bytes.{be32}
use Rattle.layout.specs.Layout.{world_width}
use Rattle.layout.specs.Image.{world_at, good_bytes}
use Rattle.rules.specs.Steps.{Outcome, refusal, done, stepped}
use Rattle.layout.specs.Lent.{Lent, left, lent_start, lent_step}
use Rattle.rules.specs.Sheets.{Written, wrote, number}
use Rattle.rules.specs.Sheets as sheets
use Rattle.sheet.specs.Writing.{buffer_of}
use Rattle.world.specs.Tracing.{Ruling, bad_world, bad_sheet, no_room, runs, world_by}
use Rattle.rehearsal.specs.Playing.{decided, answer_by, laid_by, rehearse_answer, world_left, record_left}
use Rattle.engine.specs.Told.{number_told, columns_wide, Stepped, telling, told_step, length_wide, Rehearsal, told_rehearsal}

-- where the answer is not 0, the buffer is b
Unmoved : List ℕ → Lent → Type 0
Unmoved b l = (l.answer ≡ 0 → ⊥) → l.buffer ≡ b

outcome_unmoved : (b : List ℕ) (o : Outcome) → Unmoved b (left b o)
unfolding Unmoved
outcome_unmoved b (refusal x) z = refl
outcome_unmoved b (done w e sent delivered dropped) z = absurd (z refl)

step_unmoved : (w : List ℕ) (kind id value : ℕ) → Unmoved w (lent_step w (record { kind = kind; id = id; value = value }))
unfolding lent_step Unmoved
step_unmoved w kind id value =
    cases (Unmoved w) (good_bytes w) (λ _. outcome_unmoved w (stepped (world_at w) (record { kind = kind; id = id; value = value }))) (λ _ z. refl)

pub start_kept : (w : List ℕ) (mask : ℕ) → ((lent_start w mask).answer ≡ 0 → ⊥) → (lent_start w mask).buffer ≡ w
unfolding lent_start Unmoved
start_kept w mask =
    cases (Unmoved w) (eqb (length w) world_width)
    (λ _. cases (Unmoved w) (eqb mask 0) (λ _ z. refl) (λ _. cases (Unmoved w) (leb 256 mask) (λ _ z. refl) (λ _ z. absurd (z refl)))) (λ _ z. refl)

Kept : List ℕ → List ℕ → Stepped → Type 0
Kept w told x = (x.answer ≡ 0 → ⊥) → (x.buffer ≡ w) × (x.told ≡ told)

telling-kept : (w told : List ℕ) (l : Lent) → Unmoved w l → Kept w told (telling told l)
unfolding Unmoved Kept
telling-kept w told l u z = (u z, rw (ne_eqb l.answer 0 z))

pub step_kept : (w told : List ℕ) (kind id value : ℕ)
    → ((told_step w kind id value told).answer ≡ 0 → ⊥) → ((told_step w kind id value told).buffer ≡ w) × ((told_step w kind id value told).told ≡ told)
unfolding told_step Kept
step_kept w told kind id value =
    cases (Kept w told) (ltb (length told) columns_wide) (λ _ z. (refl, refl)) (λ _. telling-kept w told _ (step_unmoved w kind id value))

pub write_kept : (buf : List ℕ) (r : Written) → (number r ≡ 0 → ⊥) → buffer_of buf r ≡ buf
write_kept buf sheets.bad_sheet z = refl
write_kept buf sheets.no_room z = refl
write_kept buf (wrote l) z = absurd (z refl)

-- a rehearsal, that x is ruled of: the world and told stay, and the record's buffer too, where the sheet is not bad
Whole : List ℕ → List ℕ → List ℕ → Rehearsal → Type 0
Whole world out told r = (r.answer ≡ 0 → ⊥) → (r.last ≡ world) × ((r.told ≡ told) × ((r.answer ≡ sheets.number sheets.bad_sheet → ⊥) → r.printed ≡ out))

ruling-kept : (world out told : List ℕ) (x : Ruling)
    → Whole world out told (record {
      answer = number_told (answer_by out x).refused;
      last = world_by world x;
      printed = laid_by out x;
      told = if eqb (number_told (answer_by out x).refused) 0 then be32 (answer_by out x).length ++ drop length_wide told else told;
    })
unfolding Whole answer_by laid_by
ruling-kept world out told bad_world z = (refl, (refl, λ _. refl))
ruling-kept world out told bad_sheet z = (refl, (refl, λ nine. absurd (nine refl)))
ruling-kept world out told no_room z = (refl, (refl, λ _. refl))
ruling-kept world out told (runs mask ks) z = absurd (z refl)

pub rehearse-kept : (sheet world out told : List ℕ) → let r = told_rehearsal sheet world out told in
    (r.answer ≡ 0 → ⊥) → (r.last ≡ world) × ((r.told ≡ told) × ((r.answer ≡ sheets.number sheets.bad_sheet → ⊥) → r.printed ≡ out))
unfolding told_rehearsal rehearse_answer world_left record_left Whole
rehearse-kept sheet world out told =
    cases (Whole world out told) (ltb (length told) length_wide) (λ _ z. (refl, (refl, λ _. refl))) (λ _. ruling-kept world out told (decided sheet world out))

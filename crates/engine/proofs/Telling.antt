-- What the exported functions leave in told, and that what refuses leaves every byte. Assumes nothing.
use Rattle.std.specs.Prelude.{if◌then◌else◌, Result, Ok, Err}
use Rattle.std.specs.Result.{result_err}
use mathlib.Core.Path.{◌≡◌, refl, sym, ◌∙◌}
use mathlib.Core.Bool.{Bool, true, false}
use mathlib.Core.List.{List, ◌++◌}
use Prim.Native.Nat.{ℕ, ◌≤◌, ◌<◌}
use lib.ListN.{length, drop}
use borrow.Author.Tests.{lt-ltb, le-ltb, eq-eqb, ne_eqb}
use Rattle.rows.specs.Bytes.{placed, bytes_of, be32, cat}
use Rattle.rows.proofs.Numbers.{length-bytes_of}
use Rattle.layout.specs.Lent.{Lent, lent_step}
use Rattle.rules.specs.declared.Refusal.{Refusal}
use Rattle.rules.specs.declared.Refusal.TheVariants.{BadSheet}
use Rattle.rules.specs.Sheets.{is_bad_sheet, mask_in, steps_of}
use Rattle.sheet.specs.declared.Sheet.{Sheet}
use Rattle.sheet.specs.Reading.{check_of}
use Rattle.rules.specs.Runs.{fields}
use Rattle.world.specs.Answer.{report_of, lent_of}
use Rattle.world.specs.declared.Answer.{Answer}
use Rattle.world.proofs.Tracing.{front}
use Rattle.rehearsal.specs.declared.Rehearsed.{Rehearsed}
use Rattle.rehearsal.specs.Playing.{rehearse_answer, world_left, record_left}
use Rattle.engine.specs.Told.{number_told, sheet_number, told_of, told_bytes, Stepped, telling, told_step, Rehearsal, told_rehearsal}

told_long : (c : List ℕ) → length (told_bytes c) ≡ 9
unfolding told_bytes cat bytes_of
told_long c = refl

-- ---- a step: a is the answer, b the world's buffer and t told after it

number_of : (a : Answer) (b : List ℕ) → (lent_of a b).answer ≡ a.number
unfolding lent_of
number_of a b = refl

told_of_lem : (a : Answer) (b : List ℕ) → fields (report_of a.report).event (report_of a.report).who ≡ told_of (lent_of a b)
unfolding lent_of told_of
told_of_lem a b = refl

buffer_of_lem : (a : Answer) (b : List ℕ) → b ≡ (lent_of a b).buffer
unfolding lent_of
buffer_of_lem a b = refl

module _ (w : List ℕ) (kind id value : ℕ) (told : List ℕ) where
  abbrev after : Stepped
  after = told_step w kind id value told

  abbrev lent : Lent
  lent = lent_step w (record { kind = kind; id = id; value = value })

  pub short : length told < 9 → (8 ≡ after.answer) × ((w ≡ after.buffer) × (told ≡ after.told))
  unfolding told_step
  short h = let e = lt-ltb (length told) 9 h in (rw e, (rw e, rw e))

  module _ (room : 9 ≤ length told) (a : Answer) (b : List ℕ) (e : lent_of a b ≡ lent) where
    tells : after ≡ telling told (lent_of a b)
    unfolding told_step
    tells = rw (le-ltb (length told) 9 room, e)

    pub refused : (a.number ≡ 0 → ⊥) → (a.number ≡ after.answer) × ((b ≡ after.buffer) × (told ≡ after.told))
    refused z =
        let not-0 : (lent_of a b).answer ≡ 0 → ⊥ = λ e. z (sym (number_of a b) ∙ e) in
        (rw tells (sym (number_of a b)), (rw tells (buffer_of_lem a b), rw (tells, ne_eqb (lent_of a b).answer 0 not-0)))

    pub accepted : a.number ≡ 0 → (c t : List ℕ) → c ≡ fields (report_of a.report).event (report_of a.report).who → t ≡ placed told 0 (told_bytes c)
        → (a.number ≡ after.answer) × ((b ≡ after.buffer) × (t ≡ after.told))
    accepted z c t f g =
        let laid : t ≡ told_bytes (told_of (lent_of a b)) ++ drop 9 told = rw (f ∙ told_of_lem a b) at (g ∙ front 9 told (told_bytes c) (told_long c) room) in
        let done : (lent_of a b).answer ≡ 0 = number_of a b ∙ z in
        (rw tells (sym (number_of a b)), (rw tells (buffer_of_lem a b), rw (tells, eq-eqb (lent_of a b).answer 0 done) laid))

-- ---- a sheet's check

pub check_number : (b : List ℕ) → number_told (result_err (check_of b)) ≡ sheet_number b
unfolding check_of
check_number b = go (is_bad_sheet b)
  where
    found : Bool → Result Sheet Refusal
    found t = if t then Err BadSheet else Ok (record { mask = mask_in b; steps = steps_of b })

    go : (t : Bool) → number_told (result_err (found t)) ≡ (if t then 9 else 0)
    go true = refl
    go false = refl

-- ---- a rehearsal: r is its answer, w the world's buffer, o the record's and t told after it

module _ (sheet world out told : List ℕ) where
  abbrev rehearsal : Rehearsal
  rehearsal = told_rehearsal sheet world out told

  pub short_length : length told < 4 → (8 ≡ rehearsal.answer) × ((world ≡ rehearsal.last) × ((out ≡ rehearsal.printed) × (told ≡ rehearsal.told)))
  unfolding told_rehearsal
  short_length h = let e = lt-ltb (length told) 4 h in (rw e, (rw e, (rw e, rw e)))

  module _
      (room : 4 ≤ length told)
      (r : Rehearsed) (w o : List ℕ)
      (e : r ≡ rehearse_answer sheet world out)
      (last : w ≡ world_left sheet world out)
      (printed : o ≡ record_left sheet world out)
    where
      pub turned_away : (number_told r.refused ≡ 0 → ⊥)
          → (number_told r.refused ≡ rehearsal.answer) × ((w ≡ rehearsal.last) × ((o ≡ rehearsal.printed) × (told ≡ rehearsal.told)))
      unfolding told_rehearsal
      turned_away z =
          let long = le-ltb (length told) 4 room in
          (rw (long, ← e), (rw long last, (rw long printed, rw (long, ← e, ne_eqb (number_told r.refused) 0 z))))

      pub rehearsed : number_told r.refused ≡ 0 → (t : List ℕ) → t ≡ placed told 0 (be32 r.length)
          → (number_told r.refused ≡ rehearsal.answer) × ((w ≡ rehearsal.last) × ((o ≡ rehearsal.printed) × (t ≡ rehearsal.told)))
      unfolding told_rehearsal
      rehearsed z t g =
          let long = le-ltb (length told) 4 room in
          let laid : t ≡ be32 r.length ++ drop 4 told = g ∙ front 4 told (be32 r.length) (length-bytes_of 4 r.length) room in
          (rw (long, ← e), (rw long last, (rw long printed, rw (long, ← e, eq-eqb (number_told r.refused) 0 z) laid)))

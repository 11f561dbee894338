-- DEMANDS 1 and 2 (specs/Demand1, specs/Demand2), proved of every program that keeps the promises of the sources: `demand1`, `demand2`. (Demand 3 is
-- `Safety.safety`, in crates/safety.) Assumes nothing.
use Rattle.std.specs.Prelude.{if◌then◌else◌, ◌||◌, Option, None, Some, Result, Ok, Err}
use mathlib.Core.Path.{◌≡◌, refl, sym, ap, subst, ◌∙◌}
use mathlib.Core.Bool.{Bool, true, false, not}
use mathlib.Core.List.{List, [], ◌∷◌, ◌++◌, map}
use Prim.Native.Nat.{ℕ, zero, suc, ◌-◌, ◌≤◌, ◌<◌}
use native.Mathlib.Nat.{div-le_self}
use native.Mathlib.Omega.{arith}
use lib.Dec.{eqb, leb, ltb, lit≤}
use lib.ListN.{length, take, drop}
use borrow.Author.Tests.{ltb-true, ltb-false, eq-eqb, ne_eqb, lt-leb, le-ltb}
use Rattle.rules.specs.Messages.{bad_step, number}
use Rattle.rules.specs.Messages as refusals
use Rattle.rules.specs.State.{World, start}
use Rattle.rules.specs.declared.Refusal.{Refusal}
use Rattle.rules.specs.declared.Refusal.TheVariants.{BadSheet}
use Rattle.rules.specs.declared.Step.{Step}
use Rattle.rules.specs.Steps.{Outcome, refusal, done, no_report, after, report, stepped}
use Rattle.rules.specs.Table.{first_of, table}
use Rattle.rules.specs.WellFormed.{well_formed}
use Rattle.layout.specs.Layout.{world_width}
use Rattle.layout.specs.Image.{image, world_at, good_bytes}
use Rattle.layout.specs.Lent.{Lent, kept, left, lent_step, lent_start}
use Rattle.rules.specs.Sheets.{Written, wrote, written, Sheet, sheet, bad, version1, form_of, mask_in, form_in, is_bad_sheet, steps_of}
use Rattle.rules.specs.Sheets.{list_by, sheet_in, sheet_bytes, sheet_width, step_width}
use Rattle.rules.specs.Sheets as sheets
use Rattle.rules.specs.Runs.{outcomes, last_world, answer, printed, longest}
use Rattle.rules.proofs.Refusals.{number_range, every_answer}
use Rattle.rules.proofs.Order.{first_applies}
use Rattle.rules.proofs.Starts.{start_good}
use Rattle.layout.proofs.World.{good_formed, good_image}
use Rattle.sheet.specs.declared.Sheet as checked
use Rattle.sheet.specs.Reading.{check_of, front_of, steps_from}
use Rattle.sheet.specs.Writing.{listed, kinds_of, ids_of, values_of, unequal, ruled, ruled_size, size_in, buffer_of, number_of, size_of}
use Rattle.rules.proofs.Sheets.{version1-known, size}
use Rattle.sheet.proofs.Walk.{accepted, count, front, taken_step, taken_end}
use Rattle.sheet.proofs.Writing as writing
use Rattle.sheet.proofs.Slices.{sliced, listed_back, ruled_list}
use Rattle.sheet.proofs.Back.{same_bytes, again, back, smalls}
use Rattle.world.specs.declared.Answer.{Answer}
use Rattle.rehearsal.specs.declared.Rehearsed.{Rehearsed}
use Rattle.world.specs.Answer.{lent_of, columns, report_of}
use Rattle.world.specs.Tracing.{Ruling, bad_world, bad_sheet, no_room, runs, room_for, number_by, refused_by, world_by}
use Rattle.engine.specs.Told.{number_told}
use Rattle.rehearsal.specs.Playing.{decided, record_by, answer_by, laid_by, rehearse_answer, world_left, record_left}
use Rattle.certificate.specs.Code.{Code, Promised}
use Rattle.certificate.specs.Demand1.{Rows, BAD_SHEET, step_rows, start_rows, check_rows, write_rows, rehearse_rows, Numbered, refused_record, Demand1ForAll}
use Rattle.certificate.specs.Demand1.{check_number, rehearsed_number}
use Rattle.certificate.specs.Demand2.{ran_by, told_by, before, read_from, read_by, Below, Demand2ForAll}
use Rattle.certificate.specs.Demand2.{outcome_line}
use Rattle.certificate.proofs.Demand2.{Program, ran, told, each_step}

-- what demand 1 says of what is left of a world's buffer
record Said (w : List ℕ) (rows : Rows) (l : Lent) : Type 0 where
  first : l.answer ≡ first_of rows
  known : l.answer ≤ 9
  refused : 0 < l.answer → (l.buffer ≡ w) × (l.report ≡ no_report)

-- ---- a step on any bytes

module _ (w : List ℕ) where
  left_answer : (o : Outcome) → (left w o).answer ≡ answer o
  left_answer (refusal x) = refl
  left_answer (done next e a b c) = refl

  left_kept : (o : Outcome) → 0 < (left w o).answer → ((left w o).buffer ≡ w) × ((left w o).report ≡ no_report)
  left_kept (refusal x) h = (refl, refl)
  left_kept (done next e a b c) h = absurd (omega arith)

  left_done : (v : World) (o : Outcome) → (left w o).answer ≡ 0 → ((left w o).buffer ≡ image (after v o)) × ((left w o).report ≡ report o)
  left_done v (refusal x) h = absurd (omega (arith, (number_range x).0, h))
  left_done v (done next e a b c) h = (refl, refl)

  module _ (k : Step) where
    abbrev o : Outcome
    o = stepped (world_at w) k

    -- of good bytes, and of any others
    abbrev step_left : Bool → Lent
    step_left b = if b then left w o else kept refusals.bad_world w

    step_said : Said w (step_rows w k) (lent_step w k)
    unfolding lent_step
    step_said = go (good_bytes w) refl
      where
        go : (b : Bool) → good_bytes w ≡ b → Said w ((not b, number refusals.bad_world) ∷ table (world_at w) k) (step_left b)
        go true e =
            record {
              first = left_answer o ∙ first_applies (world_at w) (good_formed w e) k;
              known = omega (arith, left_answer o, every_answer (world_at w) k);
              refused = λ h. left_kept o h;
            }
        go false e = record { first = refl; known = lit≤ tt; refused = λ h. (refl, refl) }

    step_accepted : (lent_step w k).answer ≡ 0 → (good_bytes w ≡ true) × ((lent_step w k).buffer ≡ image (after (world_at w) o)) × ((lent_step w k).report ≡ report o)
    unfolding lent_step
    step_accepted = go (good_bytes w) refl
      where
        go : (b : Bool) → good_bytes w ≡ b → (step_left b).answer ≡ 0
            → (good_bytes w ≡ true) × ((step_left b).buffer ≡ image (after (world_at w) o)) × ((step_left b).report ≡ report o)
        go true e h = let d = left_done (world_at w) o h in (e, d.0, d.1)
        go false e h = absurd (omega (arith, h))

-- ---- a start in any buffer

module _ (w : List ℕ) (mask : ℕ) where
  abbrev begun : Lent
  begun = record { answer = 0; report = no_report; buffer = image (start mask) }

  -- by its length, and by the mask: 0, above 255
  abbrev start_left : Bool → Bool → Bool → Lent
  start_left long none big = if long then (if none then kept bad_step w else if big then kept bad_step w else begun) else kept refusals.bad_world w

  start_said : Said w (start_rows w mask) (lent_start w mask)
  unfolding lent_start
  start_said = go (eqb (length w) world_width) (eqb mask 0) (leb 256 mask)
    where
      go : (a b c : Bool) → Said w ((not a, number refusals.bad_world) ∷ (b || c, number bad_step) ∷ []) (start_left a b c)
      go true true c = record { first = refl; known = lit≤ tt; refused = λ h. (refl, refl) }
      go true false true = record { first = refl; known = lit≤ tt; refused = λ h. (refl, refl) }
      go true false false = record { first = refl; known = lit≤ tt; refused = λ h. absurd (omega arith) }
      go false b c = record { first = refl; known = lit≤ tt; refused = λ h. (refl, refl) }

  start_accepted : length w ≡ world_width → 0 < mask → mask < 256 → lent_start w mask ≡ begun
  unfolding lent_start
  start_accepted long some small = rw (eq-eqb (length w) world_width long, ne_eqb mask 0 (λ z. omega arith), lt-leb 256 mask small)

-- ---- sheets: checked, read step by step, written

module _ (b : List ℕ) where
  abbrev checked_by : Bool → Result checked.Sheet Refusal
  checked_by x = if x then Err BadSheet else Ok (record { mask = mask_in b; steps = steps_of b })

  check_numbered : Numbered (check_number (check_of b)) (check_rows b)
  unfolding check_of
  check_numbered = go (is_bad_sheet b)
    where
      go : (x : Bool) → Numbered (check_number (checked_by x)) ((x, BAD_SHEET) ∷ [])
      go true = record { known = lit≤ tt; first = refl }
      go false = record { known = lit≤ tt; first = refl }

  check_refused : 0 < check_number (check_of b) → check_of b ≡ Err BadSheet
  unfolding check_of
  check_refused = go (is_bad_sheet b)
    where
      go : (x : Bool) → 0 < check_number (checked_by x) → checked_by x ≡ Err BadSheet
      go true h = refl
      go false h = absurd (omega arith)

  -- what a check says of an accepted sheet
  check_accepted : (s : checked.Sheet) → check_of b ≡ Ok s → (s.mask ≡ mask_in b) × (s.steps ≡ steps_of b)
      × (sheet_in b ≡ sheet (mask_in b) (steps_from b (front_of b)))
  unfolding check_of sheet_in steps_from
  check_accepted s = go (is_bad_sheet b)
    where
      go : (x : Bool) → checked_by x ≡ Ok s → (s.mask ≡ mask_in b) × (s.steps ≡ steps_of b)
          × ((if x then bad else sheet (mask_in b) (list_by (form_in b) b)) ≡ sheet (mask_in b) (list_by (form_in b) b))
      go true e = let z : ◌≡◌ {A = ℕ} 0 1 = cc in absurd (omega arith)
      go false e =
          let same : ◌≡◌ {A = checked.Sheet} (record { mask = mask_in b; steps = steps_of b }) s = cc in
          (sym (ap (λ (x : checked.Sheet). x.mask) same), sym (ap (λ (x : checked.Sheet). x.steps) same), refl)

sheet_bad : (b : List ℕ) → sheet_in b ≡ bad → is_bad_sheet b ≡ true
unfolding sheet_in
sheet_bad b e = go (is_bad_sheet b) e
  where
    go : (x : Bool) → (if x then bad else sheet (mask_in b) (list_by (form_in b) b)) ≡ bad → x ≡ true
    go true f = refl
    go false f = let z : ◌≡◌ {A = ℕ} 0 1 = cc in absurd (omega arith)

module _ (buf : List ℕ) (mask : ℕ) (kinds ids values : List ℕ) where
  write_numbered : Numbered (sheets.number (ruled buf mask kinds ids values)) (write_rows buf mask kinds ids values)
  write_numbered =
      go (unequal kinds ids values || eqb mask 0 || ltb version1.most_steps (length kinds)) (ltb (length buf) (sheet_width version1 (length kinds))) refl refl
    where
      go : (x y : Bool) → unequal kinds ids values || eqb mask 0 || ltb version1.most_steps (length kinds) ≡ x
          → ltb (length buf) (sheet_width version1 (length kinds)) ≡ y
          → Numbered (sheets.number (ruled buf mask kinds ids values)) ((x, BAD_SHEET) ∷ (y, number refusals.no_room) ∷ [])
      go true y e f = rw (writing.bad buf mask kinds ids values e) (record { known = lit≤ tt; first = refl })
      go false true e f = rw (writing.roomless buf mask kinds ids values e (omega (arith, ltb-true (length buf) (sheet_width version1 (length kinds)) f)))
          (record { known = lit≤ tt; first = refl })
      go false false e f = rw (← (writing.done buf mask kinds ids values e (omega (arith, ltb-false (length buf) (sheet_width version1 (length kinds)) f))).0)
          (record { known = lit≤ tt; first = refl })

  ruling-kept : (n : ℕ) (x : Written) → 0 < sheets.number x → (buffer_of buf x ≡ buf) × (size_in n x ≡ 0)
  ruling-kept n sheets.bad_sheet h = (refl, refl)
  ruling-kept n sheets.no_room h = (refl, refl)
  ruling-kept n (wrote l) h = absurd (omega arith)

  write_kept : 0 < sheets.number (ruled buf mask kinds ids values)
      → (buffer_of buf (ruled buf mask kinds ids values) ≡ buf) × (ruled_size buf mask kinds ids values ≡ 0)
  unfolding ruled_size
  write_kept h = ruling-kept _ (ruled buf mask kinds ids values) h

  -- how many bytes a sheet that is written has
  wrote_size : (l : List ℕ) → ruled buf mask kinds ids values ≡ wrote l
      → ruled_size buf mask kinds ids values ≡ length (sheet_bytes version1 mask (listed kinds ids values))
  unfolding ruled_size
  wrote_size l e = rw e

-- ---- a sheet that is run

-- what a ruling leaves
module _ (w out : List ℕ) where
  ruling_known : (x : Ruling) → number_by x ≤ 9
  ruling_known bad_world = lit≤ tt
  ruling_known bad_sheet = lit≤ tt
  ruling_known no_room = lit≤ tt
  ruling_known (runs mask ks) = lit≤ tt

  ruling_number : (x : Ruling) → number_told (refused_by x) ≡ number_by x
  ruling_number bad_world = refl
  ruling_number bad_sheet = refl
  ruling_number no_room = refl
  ruling_number (runs mask ks) = refl

  ruling_world : (x : Ruling) → 0 < number_by x → world_by w x ≡ w
  ruling_world bad_world h = refl
  ruling_world bad_sheet h = refl
  ruling_world no_room h = refl
  ruling_world (runs mask ks) h = absurd (omega arith)

  ruling_record : (x : Ruling) → 0 < number_by x → record_by (length out) x ≡ refused_record (number_by x) out
  ruling_record bad_world h = refl
  ruling_record bad_sheet h = refl
  ruling_record no_room h = refl
  ruling_record (runs mask ks) h = absurd (omega arith)

module _ (b w out : List ℕ) where
  -- by the world's length, the sheet, and the room
  abbrev decided_by : Bool → Sheet → Ruling
  decided_by long s = if long then room_for longest (length out) s else bad_world

  rehearse_first : number_by (decided b w out) ≡ first_of (rehearse_rows b w out)
  unfolding decided
  rehearse_first = go (eqb (length w) world_width) (sheet_in b) refl
    where
      room : (mask : ℕ) (ks : List Step) (n : ℕ) → n ≡ length ks
          → number_by (room_for longest (length out) (sheet mask ks)) ≡ first_of ((ltb (length out) (longest n), number refusals.no_room) ∷ [])
      room mask ks n e = rw e (pick (ltb (length out) (longest (length ks))))
        where
          pick : (x : Bool) → number_by (if x then no_room else runs mask ks) ≡ first_of ((x, number refusals.no_room) ∷ [])
          pick true = refl
          pick false = refl

      go : (x : Bool) (s : Sheet) → sheet_in b ≡ s
          → number_by (decided_by x s) ≡ first_of
          ((not x, number refusals.bad_world) ∷ (is_bad_sheet b, BAD_SHEET) ∷ (ltb (length out) (longest (steps_of b)), number refusals.no_room) ∷ [])
      go true bad e = rw (sheet_bad b e)
      go true (sheet mask ks) e = let a = accepted b mask ks e in rw a.good (room mask ks (steps_of b) (count b mask ks a))
      go false s e = refl

  -- where there is room, this sheet is run
  rehearse_runs : (mask : ℕ) (ks : List Step) → sheet_in b ≡ sheet mask ks → length w ≡ world_width → longest (length ks) ≤ length out → decided b w out ≡ runs mask ks
  unfolding decided
  rehearse_runs mask ks e long room = rw (eq-eqb (length w) world_width long, e, le-ltb (length out) (longest (length ks)) room)

-- ---- what a program answers and leaves is what was promised

module _ (a : Answer) (b : List ℕ) (l : Lent) (e : lent_of a b ≡ l) where
  says_number : a.number ≡ l.answer
  unfolding lent_of
  says_number = ap (λ (x : Lent). x.answer) e

  says_buffer : b ≡ l.buffer
  unfolding lent_of
  says_buffer = ap (λ (x : Lent). x.buffer) e

  says_report : report_of a.report ≡ l.report
  unfolding lent_of
  says_report = ap (λ (x : Lent). x.report) e

  module _ (w : List ℕ) (rows : Rows) (s : Said w rows l) where
    numbered : Numbered a.number rows
    numbered = record { known = omega (arith, says_number, s.known); first = says_number ∙ s.first }

    unmoved : 0 < a.number → (b ≡ w) × (report_of a.report ≡ no_report)
    unmoved h = let k = s.refused (omega (arith, says_number)) in (says_buffer ∙ k.0, says_report ∙ k.1)

module _ (c : Code) (p : Promised c) where
  -- ---- a run

  calls : Program
  calls = record { answers = λ n w k. c.step w k; leaves = λ n w k. c.step_world w k }

  ran_same : (n : ℕ) (w : List ℕ) (ks : List Step) → ran calls n w ks ≡ ran_by c w ks
  unfolding ran ran_by calls
  ran_same n w [] = refl
  ran_same n w (k ∷ ks) = ran_same (suc n) (c.step_world w k) ks

  told_same : (n : ℕ) (w : List ℕ) (ks : List Step) → told calls n w ks ≡ told_by c w ks
  unfolding told told_by calls
  told_same n w [] = refl
  told_same n w (k ∷ ks) = ap (λ (l : List (List ℕ)). columns (c.step w k) ∷ l) (told_same (suc n) (c.step_world w k) ks)

  abbrev Follows : List ℕ → World → List Step → Type 0
  Follows w W ks = (ran_by c w ks ≡ image (last_world W ks)) × (told_by c w ks ≡ map outcome_line (outcomes W ks))

  run_of : (W : World) → well_formed W ≡ true → (ks : List Step) → Follows (image W) W ks
  unfolding calls
  run_of W good ks =
      let e = each_step calls (λ n w k. p.step_kept w k) 0 W good ks in
      (sym (ran_same 0 (image W) ks) ∙ e.0, sym (told_same 0 (image W) ks) ∙ e.1)

  run_good : (w : List ℕ) → good_bytes w ≡ true → (ks : List Step) → Follows w (world_at w) ks
  run_good w good ks = subst (λ (x : List ℕ). Follows x (world_at w) ks) (good_image w good) (run_of (world_at w) (good_formed w good) ks)

  module _ (w : List ℕ) (mask : ℕ) (long : length w ≡ world_width) (some : 0 < mask) (small : mask < 256) where
    started : ((c.start w mask).number ≡ 0) × (report_of (c.start w mask).report ≡ no_report) × (c.start_world w mask ≡ image (start mask))
    started =
        let e = p.start_kept w mask ∙ start_accepted w mask long some small in
        (says_number _ _ _ e, says_report _ _ _ e, says_buffer _ _ _ e)

    run_started : (ks : List Step) → Follows (c.start_world w mask) (start mask) ks
    run_started ks = subst (λ (x : List ℕ). Follows x (start mask) ks) (sym started.2) (run_of (start mask) (start_good mask some small) ks)

  taken : (w : List ℕ) (k : Step) → (c.step w k).number ≡ 0
      → (good_bytes w ≡ true) × (c.step_world w k ≡ image (after (world_at w) (stepped (world_at w) k)))
      × (report_of (c.step w k).report ≡ report (stepped (world_at w) k))
  taken w k h =
      let e = p.step_kept w k in
      let a = step_accepted w k (sym (says_number _ _ _ e) ∙ h) in
      (a.0, says_buffer _ _ _ e ∙ a.1, says_report _ _ _ e ∙ a.2)

  -- ---- a rehearsal

  module _ (b world out : List ℕ) where
    abbrev says : ℕ
    says = rehearsed_number (c.rehearse b world out)

    rehearse_number : says ≡ number_by (decided b world out)
    unfolding rehearse_answer answer_by
    rehearse_number = ap rehearsed_number (p.rehearse_answer_lem b world out) ∙ ruling_number world out (decided b world out)

    rehearse_numbered : Numbered says (rehearse_rows b world out)
    rehearse_numbered = rw rehearse_number (record { known = ruling_known world out (decided b world out); first = rehearse_first b world out })

    module _ (h : 0 < says) where
      refused : 0 < number_by (decided b world out)
      refused = omega (arith, rehearse_number)

      rehearse_world_kept : c.rehearse_world b world out ≡ world
      unfolding world_left
      rehearse_world_kept = p.rehearse_last b world out ∙ ruling_world world out (decided b world out) refused

      rehearse_out_kept : let l = refused_record says out in
          (c.rehearse_out b world out ≡ l ++ drop (length l) out) × ((c.rehearse b world out).length ≡ length l)
      unfolding record_left laid_by rehearse_answer answer_by
      rehearse_out_kept =
          let l : record_by (length out) (decided b world out) ≡ refused_record says out =
          rw rehearse_number (ruling_record world out (decided b world out) refused)
          in (
            p.rehearse_printed b world out ∙ ap (λ (x : List ℕ). x ++ drop (length x) out) l,
            ap (λ (r : Rehearsed). r.length) (p.rehearse_answer_lem b world out) ∙ ap length l,
          )

    rehearsed : (mask : ℕ) (ks : List Step) → sheet_in b ≡ sheet mask ks → length world ≡ world_width → longest (length ks) ≤ length out
        → ((c.rehearse b world out).refused ≡ None)
        × ((c.rehearse b world out).length ≡ length (printed mask ks))
        × (c.rehearse_world b world out ≡ image (last_world (start mask) ks))
        × (c.rehearse_out b world out ≡ printed mask ks ++ drop (length (printed mask ks)) out)
    unfolding rehearse_answer answer_by world_left record_left laid_by
    rehearsed mask ks e long room =
        let is = rehearse_runs b world out mask ks e long room in
        let answer = p.rehearse_answer_lem b world out ∙ ap (answer_by out) is in (
          ap (λ (r : Rehearsed). r.refused) answer,
          ap (λ (r : Rehearsed). r.length) answer,
          p.rehearse_last b world out ∙ ap (world_by world) is,
          p.rehearse_printed b world out ∙ ap (laid_by out) is,
        )

  -- ---- a sheet

  none_left : (l : List Step) → length l ≤ 0 → [] ≡ l
  none_left [] h = refl
  none_left (k ∷ l) h = absurd (omega arith)

  read_all : (n : ℕ) (b : List ℕ) (at : ℕ) → length (steps_from b at) ≤ n → read_from c n b at ≡ steps_from b at
  unfolding read_from
  read_all zero b at h = none_left (steps_from b at) h
  read_all (suc n) b at h = go (c.read_at b at) refl (read_all n b)
    where
      go : (t : Option (Step × ℕ)) → c.read_at b at ≡ t → ((past : ℕ) → length (steps_from b past) ≤ n → read_from c n b past ≡ steps_from b past)
          → before t (read_from c n b) ≡ steps_from b at
      go (Some (k, past)) e more =
          let s = taken_step b at (c.read_at b at) (p.read_at_kept b at) k past e in
          ap (λ (l : List Step). k ∷ l) (more past (omega (arith, ap length s))) ∙ sym s
      go None e more = sym (taken_end b at (c.read_at b at) (p.read_at_kept b at) e)

  read_sheet : (b : List ℕ) (mask : ℕ) (ks : List Step) → sheet_in b ≡ sheet mask ks → read_by c b ≡ ks
  read_sheet b mask ks e =
      let a = accepted b mask ks e in
      let all = front b mask ks a in
      let fewer = div-le_self (length b - front_of b) (step_width (form_in b)) in
      read_all (length b) b (front_of b) (omega (arith, ap length all, count b mask ks a, fewer)) ∙ all

  sheet_read : (b : List ℕ) (s : checked.Sheet) → c.check b ≡ Ok s → (sheet_in b ≡ sheet s.mask (read_by c b)) × (s.steps ≡ length (read_by c b))
  sheet_read b s h =
      let a = check_accepted b s (sym (p.check_kept b) ∙ h) in
      let ks : List Step = steps_from b (front_of b) in
      let ks-is : read_by c b ≡ ks = read_sheet b (mask_in b) ks a.2 in
      let many : steps_of b ≡ length ks = count b (mask_in b) ks (accepted b (mask_in b) ks a.2) in
      (rw (a.0, ks-is) a.2, a.1 ∙ many ∙ ap length (sym ks-is))

  sheet_again : (b buf : List ℕ) (s : checked.Sheet) → Below 256 b → c.check b ≡ Ok s → length b ≤ length buf
      → let ks = read_by c b in let r = c.write buf s.mask (kinds_of ks) (ids_of ks) (values_of ks) in
      (number_of r ≡ 0) × (size_of r ≡ length b) × (c.write_buf buf s.mask (kinds_of ks) (ids_of ks) (values_of ks) ≡ b ++ drop (length b) buf)
  unfolding form_of
  sheet_again b buf s each h fits =
      let mask : ℕ = s.mask in
      let ks : List Step = read_by c b in
      let is : sheet_in b ≡ sheet mask ks = (sheet_read b s h).0 in
      let wrote_is : ruled buf mask (kinds_of ks) (ids_of ks) (values_of ks) ≡ wrote (b ++ drop (length b) buf) =
      ruled_list buf mask ks ∙ again b buf mask ks each is fits
      in
      let size : ruled_size buf mask (kinds_of ks) (ids_of ks) (values_of ks) ≡ length b =
      wrote_size buf mask (kinds_of ks) (ids_of ks) (values_of ks) _ wrote_is ∙ ap (λ (l : List Step). length (sheet_bytes version1 mask l)) (listed_back ks)
      ∙ ap length (same_bytes b buf mask ks each is)
      in
      let said = p.write_answer buf mask (kinds_of ks) (ids_of ks) (values_of ks) in
      (said.0 ∙ ap sheets.number wrote_is, said.1 ∙ size, p.write_left buf mask (kinds_of ks) (ids_of ks) (values_of ks) ∙ ap (buffer_of buf) wrote_is)

  module _ (buf : List ℕ) (mask : ℕ) (kinds ids values : List ℕ) (some : 0 < mask) (same : length ids ≡ length kinds) (alike : length values ≡ length kinds)
      (few : length kinds ≤ version1.most_steps) (hk : Below 256 kinds) (hi : Below 256 ids) (hv : Below 4294967296 values)
      (room : sheet_width version1 (length kinds) ≤ length buf) where
    abbrev steps : List Step
    steps = listed kinds ids values

    long : length steps ≡ length kinds
    long = (sliced kinds ids values same alike).long

    ruled_is : ruled buf mask kinds ids values ≡ written version1 buf mask steps
    ruled_is =
        let s = sliced kinds ids values same alike in
        ap (λ (l : List ℕ). ruled buf mask l ids values) (sym s.kinds_are)
        ∙ ap (λ (l : List ℕ). ruled buf mask (kinds_of steps) l values) (sym s.ids_are)
        ∙ ap (λ (l : List ℕ). ruled buf mask (kinds_of steps) (ids_of steps) l) (sym s.values_are)
        ∙ ruled_list buf mask steps

    wrote_is : written version1 buf mask steps ≡ wrote (sheet_bytes version1 mask steps ++ drop (length (sheet_bytes version1 mask steps)) buf)
    wrote_is = writing.ruling version1 buf mask steps (λ z. omega arith) (omega (arith, long)) (omega (arith, long))

    abbrev sent : List ℕ
    sent = take (sheet_width version1 (length kinds)) (c.write_buf buf mask kinds ids values)

    sent_is : sheet_in sent ≡ sheet mask steps
    sent_is =
        let left : c.write_buf buf mask kinds ids values ≡ buffer_of buf (written version1 buf mask steps) =
        p.write_left buf mask kinds ids values ∙ ap (buffer_of buf) ruled_is
        in
        ap (λ (l : List ℕ). sheet_in (take (sheet_width version1 (length kinds)) l)) left
        ∙ ap (λ (n : ℕ). sheet_in (take (sheet_width version1 n) (buffer_of buf (written version1 buf mask steps)))) (sym long)
        ∙ back version1 version1-known buf mask steps some (omega (arith, long)) (smalls version1 kinds ids values hk hi hv) (omega (arith, long))

    check_is : c.check sent ≡ Ok (record { mask = mask; steps = length kinds })
    unfolding check_of
    check_is =
        let a = accepted sent mask steps sent_is in
        let n : steps_of sent ≡ length kinds = count sent mask steps a ∙ long in
        p.check_kept sent ∙ rw a.good (λ i. Ok (record { mask = a.masked i; steps = n i }))

    sheet_back : (number_of (c.write buf mask kinds ids values) ≡ 0) × (size_of (c.write buf mask kinds ids values) ≡ sheet_width version1 (length kinds))
        × (c.check sent ≡ Ok (record { mask = mask; steps = length kinds }))
        × (kinds_of (read_by c sent) ≡ kinds) × (ids_of (read_by c sent) ≡ ids) × (values_of (read_by c sent) ≡ values)
    sheet_back =
        let s = sliced kinds ids values same alike in
        let read : read_by c sent ≡ steps = read_sheet sent mask steps sent_is in
        let said = p.write_answer buf mask kinds ids values in
        let size : ruled_size buf mask kinds ids values ≡ sheet_width version1 (length kinds) =
        wrote_size buf mask kinds ids values _ (ruled_is ∙ wrote_is) ∙ size version1 mask steps ∙ ap (λ (n : ℕ). sheet_width version1 n) long
        in (
          said.0 ∙ ap sheets.number (ruled_is ∙ wrote_is),
          said.1 ∙ size,
          check_is,
          ap kinds_of read ∙ s.kinds_are,
          ap ids_of read ∙ s.ids_are,
          ap values_of read ∙ s.values_are,
        )

-- ---- the theorems

pub demand1 : Demand1ForAll
demand1 c p =
    record {
      step = λ w k. numbered _ _ _ (p.step_kept w k) w (step_rows w k) (step_said w k);
      start = λ w mask. numbered _ _ _ (p.start_kept w mask) w (start_rows w mask) (start_said w mask);
      check = λ b. rw (p.check_kept b) (check_numbered b);
      write = λ buf mask kinds ids values. rw (p.write_answer buf mask kinds ids values).0 (write_numbered buf mask kinds ids values);
      rehearse = rehearse_numbered c p;
      step_kept = λ w k. unmoved _ _ _ (p.step_kept w k) w (step_rows w k) (step_said w k);
      start_kept = λ w mask. unmoved _ _ _ (p.start_kept w mask) w (start_rows w mask) (start_said w mask);
      check_kept = λ b. rw (p.check_kept b) (check_refused b);
      write_kept = λ buf mask kinds ids values h.
          let said = p.write_answer buf mask kinds ids values in
          let k = write_kept buf mask kinds ids values (omega (arith, said.0)) in
          (p.write_left buf mask kinds ids values ∙ k.0, said.1 ∙ k.1);
      world_kept = rehearse_world_kept c p;
      out_kept = rehearse_out_kept c p;
    }

pub demand2 : Demand2ForAll
demand2 c p =
    record {
      started = started c p;
      accepted = taken c p;
      run = run_good c p;
      run_started = run_started c p;
      rehearsed = rehearsed c p;
      sheet_read = sheet_read c p;
      sheet_again = sheet_again c p;
      sheet_back = λ buf mask kinds ids values some small same alike few hk hi hv room. sheet_back c p buf mask kinds ids values some same alike few hk hi hv room;
    }

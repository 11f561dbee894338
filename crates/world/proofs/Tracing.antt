-- A run, step by step: what the rows and the world are after each of its steps, and at its end. Assumes nothing.
use Rattle.std.specs.Prelude.{if◌then◌else◌, Result, Ok, Err}
use mathlib.Core.Path.{◌≡◌, refl, sym, ap, ◌∙◌}
use mathlib.Core.Bool.{Bool, true, false}
use mathlib.Core.List.{List, [], ◌∷◌, ◌++◌, append_assoc, append-nil}
use Prim.Native.Nat.{ℕ, zero, suc, ◌+◌, ◌%◌, ◌≤◌, ◌<◌}
use native.Mathlib.Nat.{add-zero, zero-add, add_assoc}
use native.Mathlib.Omega.{arith}
use mir.Syntax.{w8}
use mir.Val.{Fits}
use lib.Dec.{ltb}
use lib.ListN.{length, get_or, take, drop, length-append}
use borrow.Author.Tests.{eq-eqb, ne_eqb, lt-leb, lt-ltb, le-ltb}
use Rattle.rows.specs.Bytes.{splice, placed, bytes_of, field_bytes, fields_bytes, cat}
use Rattle.rows.proofs.Laws.{placed_fits, placed_nil, Holds, holds-left, holds_right, holds-byte, Put, put_first, put_then}
use Rattle.rows.specs.declared.Field.TheVariants.{Byte, U16, U32}
use Rattle.rows.proofs.Numbers.{byte-number, holds_u16, holds_u32}
use Rattle.rules.specs.Messages.{Event, nothing, opened, read_done, write_done}
use Rattle.rules.specs.State.{World, start}
use Rattle.rules.specs.declared.Refusal.{Refusal}
use Rattle.rules.specs.declared.Refusal.TheVariants.{BadWorld, NoRoom, BadSheet}
use Rattle.rules.specs.declared.Step.{Step}
use Rattle.rules.specs.Sending.{waiting_in}
use Rattle.rules.specs.Steps.{Outcome, refusal, done, after, report, stepped}
use Rattle.rules.specs.WellFormed.{well_formed}
use Rattle.rules.specs.Sheets.{Sheet, bad, sheet, sheet_in, is_bad_sheet, mask_in, steps_in, steps_of, form_in}
use Rattle.rules.specs.Runs.{outcomes, last_world, answer, fields}
use Rattle.rules.proofs.Sends.{EventWell}
use Rattle.rules.proofs.Counts.{places-all}
use Rattle.rules.proofs.Starts.{start_good}
use Rattle.rules.proofs.Refusals.{every_answer}
use Rattle.rules.proofs.Kept.{step_keeps, step_tells}
use Rattle.layout.specs.Layout.{world_width}
use Rattle.layout.specs.Image.{image, world_at, good_bytes}
use Rattle.layout.specs.Lent.{Lent, left, lent_step, lent_start}
use Rattle.layout.proofs.Fits.{pair_fits}
use Rattle.layout.proofs.World.{world_fits, world_back, image_good, good_formed, good_image, good_length}
use Rattle.sheet.specs.declared.Sheet as checked
use Rattle.sheet.specs.Reading.{check_of, read_of, steps_from}
use Rattle.sheet.proofs.Walk.{check_reads, accepted, count, sound, front as read-front}
use Rattle.world.specs.declared.Answer.{Answer}
use Rattle.world.specs.declared.Report.{Report}
use Rattle.world.specs.Answer.{report_of, lent_of, answer_of, done_of, columns}
use Rattle.world.specs.Commits.{free_rows}
use Rattle.world.specs.Tracing.{waiting_rows, trace_row_width, columns_bytes, columns_at, trace_row, trace_rows, Stepped, Ruling, bad_world, bad_sheet, no_room, runs}
use Rattle.world.specs.Tracing.{room_for, ruling, refused_by, refused_or, world_by, traces_wide, traced, steps_by}
use Rattle.world.specs.Tracing.{trace_by, trace_answer, trace_world, trace_left}
use Rattle.world.proofs.Places.{free_rows_lem}

-- ---- what waits

pub waiting_rows_lem : (W : World) (w : List ℕ) → well_formed W ≡ true → w ≡ image W → waiting_rows w ≡ waiting_in W.places
waiting_rows_lem W w formed e =
    let many = (world_fits W formed).shaped.places in
    omega (arith, ap (λ (l : List ℕ). free_rows l 256) e, free_rows_lem W many, places-all W.places, many)

-- ---- rows

pub row_long : (o : Outcome) → length (trace_row o) ≡ trace_row_width
unfolding trace_row bytes_of cat
row_long o = refl

pub rows_long : (W : World) (ks : List Step) → length (trace_rows (outcomes W ks)) ≡ traces_wide (length ks)
unfolding trace_rows outcomes
rows_long W [] = refl
rows_long W (k ∷ ks) = simp length-append (omega (arith, row_long (stepped W k), rows_long (after W (stepped W k)) ks))

-- a row is its columns, read back: the i-th of pieces stands where those before it end
piece_at : (ps : List (List ℕ)) (l : List ℕ) (o i : ℕ) → i < length ps → Holds l o (cat ps) → Holds l (o + length (cat (take i ps))) (get_or ps i [])
unfolding cat
piece_at [] l o i h k = absurd (omega arith)
piece_at (p ∷ ps) l o zero h k = rw (add-zero o) (holds-left l p (cat ps) o k)
piece_at (p ∷ ps) l o (suc i) h k =
    rw (length-append p (cat (take i ps)), ← add_assoc o (length p) (length (cat (take i ps))))
    (piece_at ps l (o + length p) i (omega arith) (holds_right l p (cat ps) o (length p) refl k))

byte_at : (l : List ℕ) (o x : ℕ) → x < 256 → Holds l o (bytes_of 1 x) → get_or l o 0 ≡ x
unfolding bytes_of
byte_at l o x small h = let e : x % 256 ≡ x = omega arith in holds-byte l o (x % 256) [] h ∙ e

-- a row of numbers that fit, as the code lays it
pub row_fields : (a e w c d x : ℕ) → Fits w8 a → Fits w8 e → Fits w8 w → Fits w8 d
    → fields_bytes (Byte a ∷ Byte e ∷ Byte w ∷ U16 c ∷ Byte d ∷ U32 x ∷ []) ≡ columns_bytes (a ∷ e ∷ w ∷ c ∷ d ∷ x ∷ [])
unfolding fields_bytes field_bytes cat
row_fields a e w c d x fa fe fw fd = rw (byte-number fa, byte-number fe, byte-number fw, byte-number fd)

-- each column is in the range of its width
pub record ColumnsFit (xs : List ℕ) : Type 0 where
  pub answer : get_or xs 0 0 < 256
  pub event : get_or xs 1 0 < 256
  pub who : get_or xs 2 0 < 256
  pub count : get_or xs 3 0 < 65536
  pub desk : get_or xs 4 0 < 256
  pub last : get_or xs 5 0 < 4294967296

columns_back : (l : List ℕ) (o : ℕ) (xs : List ℕ) → ColumnsFit xs → Holds l o (columns_bytes xs)
    → columns_at l o ≡ get_or xs 0 0 ∷ get_or xs 1 0 ∷ get_or xs 2 0 ∷ get_or xs 3 0 ∷ get_or xs 4 0 ∷ get_or xs 5 0 ∷ []
unfolding columns_at bytes_of cat
columns_back l o xs f h =
    let pieces : List (List ℕ) =
    bytes_of 1 (get_or xs 0 0) ∷ bytes_of 1 (get_or xs 1 0) ∷ bytes_of 1 (get_or xs 2 0) ∷ bytes_of 2 (get_or xs 3 0) ∷ bytes_of 1 (get_or xs 4 0)
    ∷ bytes_of 4 (get_or xs 5 0)
    ∷ [] in
    let at : (i : ℕ) → i < 6 → Holds l _ _ = λ i k. piece_at pieces l o i k h in
    rw (
      byte_at l (o + 0) (get_or xs 0 0) f.answer (at 0 (omega arith)),
      byte_at l (o + 1) (get_or xs 1 0) f.event (at 1 (omega arith)),
      byte_at l (o + 2) (get_or xs 2 0) f.who (at 2 (omega arith)),
      holds_u16 l (o + 3) (get_or xs 3 0) f.count (at 3 (omega arith)),
      byte_at l (o + 5) (get_or xs 4 0) f.desk (at 4 (omega arith)),
      holds_u32 l (o + 6) (get_or xs 5 0) f.last (at 5 (omega arith)),
    )

event_fits : (a : ℕ) (e : Event) (who : ℕ) → a < 256 → EventWell e → who < 8 → ColumnsFit (a ∷ fields e who)
event_fits a nothing who s t l =
    record { answer = s; event = omega arith; who = omega arith; count = omega arith; desk = omega arith; last = omega arith }
event_fits a (opened v) who s t l =
    record { answer = s; event = omega arith; who = omega arith; count = omega arith; desk = omega arith; last = omega (arith, t) }
event_fits a (read_done p) who s t l =
    let f = pair_fits p t in record { answer = s; event = omega arith; who = omega arith; count = f.count; desk = f.desk; last = f.value }
event_fits a (write_done p) who s t l =
    let f = pair_fits p t in record { answer = s; event = omega arith; who = omega arith; count = f.count; desk = f.desk; last = f.value }

six : (a : ℕ) (e : Event) (who : ℕ) → let xs = a ∷ fields e who in
    get_or xs 0 0 ∷ get_or xs 1 0 ∷ get_or xs 2 0 ∷ get_or xs 3 0 ∷ get_or xs 4 0 ∷ get_or xs 5 0 ∷ [] ≡ xs
six a nothing who = refl
six a (opened v) who = refl
six a (read_done p) who = refl
six a (write_done p) who = refl

pub row_back : (l : List ℕ) (o : ℕ) (W : World) (k : Step) → well_formed W ≡ true → Holds l o (trace_row (stepped W k)) → let x = stepped W k in
    columns_at l o ≡ answer x ∷ fields (report x).event (report x).who
unfolding trace_row
row_back l o W k formed h =
    let x : Outcome = stepped W k in
    let t = step_tells W k formed in
    columns_back l o (answer x ∷ fields (report x).event (report x).who)
    (event_fits (answer x) (report x).event (report x).who (omega (arith, every_answer W k)) t.event t.who) h
    ∙ six (answer x) (report x).event (report x).who

-- ---- one step's answer and buffer

pub record Answered (a : Answer) (o : Outcome) (W : World) (w : List ℕ) : Type 0 where
  pub number : a.number ≡ answer o
  pub report : report_of a.report ≡ report o
  pub world : w ≡ image (after W o)

module _ (b : List ℕ) (good : good_bytes b ≡ true) (a : Answer) (w : List ℕ) where
  outcome_answered : (o : Outcome) → lent_of a w ≡ left b o → Answered a o (world_at b) w
  unfolding lent_of
  outcome_answered (refusal x) e =
      record {
        number = ap (λ (l : Lent). l.answer) e;
        report = ap (λ (l : Lent). l.report) e;
        world = ap (λ (l : Lent). l.buffer) e ∙ sym (good_image b good);
      }
  outcome_answered (done v r s d x) e =
      record { number = ap (λ (l : Lent). l.answer) e; report = ap (λ (l : Lent). l.report) e; world = ap (λ (l : Lent). l.buffer) e }

  pub step_answered : (k : Step) → lent_of a w ≡ lent_step b k → Answered a (stepped (world_at b) k) (world_at b) w
  unfolding lent_step
  step_answered k e = outcome_answered (stepped (world_at b) k) (rw good at e)

start_answered : (b : List ℕ) (mask : ℕ) (a : Answer) (w : List ℕ) → length b ≡ world_width → (mask ≡ 0 → ⊥) → mask < 256 → lent_of a w ≡ lent_start b mask
    → w ≡ image (start mask)
unfolding lent_start lent_of
start_answered b mask a w long some small e = ap (λ (l : Lent). l.buffer) (rw (long, ne_eqb mask 0 some, lt-leb 256 mask small) at e)

-- a step's answer says what was done, or the refusal
pub done_answered : (r : Result Report Refusal) (b : List ℕ) → lent_of (answer_of r) b ≡ done_of r b
unfolding lent_of answer_of done_of report_of
done_answered (Ok x) b = refl
done_answered (Err x) b = refl

pub turned : (W : World) (k : Step) (at : ℕ) (l : List ℕ) (a : Answer) (w rows : List ℕ) → Answered a (stepped W k) W w
    → rows ≡ placed l at (columns_bytes (columns a)) → Stepped W k at l w rows
unfolding columns trace_row
turned W k at l a w rows h e = record { world = h.world; row = rw (h.number, h.report) at e }

-- ---- the steps of a sheet b that is not bad

module _ (b : List ℕ) (good : is_bad_sheet b ≡ false) where
  pub shown_few : length (steps_from b 6) ≤ 8000
  unfolding steps_from
  shown_few = omega (arith, (sound b good).few, count b (get_or b 5 0) (steps_from b 6) (record { good = good; masked = refl; steps = refl }))

-- ---- before a step, of the steps ks of W: rest are those still to be taken; w and rows are the buffers, and at the position past the rows

pub record Tracing (W : World) (ks : List Step) (l w rows : List ℕ) (at : ℕ) (rest : List Step) : Type 0 where
  pub good : good_bytes w ≡ true
  pub room : at + traces_wide (length rest) ≤ length l
  pub sofar : List ℕ
  pub so : Put l 0 at sofar rows
  pub whole : sofar ++ trace_rows (outcomes (world_at w) rest) ≡ trace_rows (outcomes W ks)
  pub last : last_world (world_at w) rest ≡ last_world W ks

pub tracing_none : {ks : List Step} {l w : List ℕ} → good_bytes w ≡ true → traces_wide (length ks) ≤ length l → Tracing (world_at w) ks l w l 0 ks
tracing_none {ks} {l} {w} good room =
    record { good = good; room = omega arith; sofar = []; so = put_first [] l refl (sym (placed_nil l 0)); whole = refl; last = refl }

-- one more step
module _ (W : World) (k : Step) (ks : List Step) where
  pub next_rows : trace_rows (outcomes W (k ∷ ks)) ≡ trace_row (stepped W k) ++ trace_rows (outcomes (after W (stepped W k)) ks)
  unfolding trace_rows outcomes
  next_rows = refl

  next_last : last_world W (k ∷ ks) ≡ last_world (after W (stepped W k)) ks
  unfolding last_world
  next_last = refl

module _ {W : World} {ks : List Step} {l w rows : List ℕ} {at : ℕ} {rest : List Step} (h : Tracing W ks l w rows at rest) where
  pub tracing_more : (k : Step) (later : List Step) (w' rows' : List ℕ) → rest ≡ k ∷ later → Stepped (world_at w) k at rows w' rows'
      → Tracing W ks l w' rows' (at + trace_row_width) later
  tracing_more k later w' rows' e t =
      let here : World = world_at w in
      let o : Outcome = stepped here k in
      let next : World = after here o in
      let formed : well_formed next ≡ true = step_keeps here k (good_formed w h.good) in
      let now : world_at w' ≡ next = ap world_at t.world ∙ world_back next formed in
      record {
        good = rw t.world (image_good next formed);
        room = omega (arith, h.room, ap length e);
        sofar = h.sofar ++ trace_row o;
        so = put_then (trace_row o) rows' h.so (row_long o) (omega (arith, h.room, ap length e)) (rw (zero-add at) t.row);
        whole = rw now
            (append_assoc h.sofar (trace_row o) (trace_rows (outcomes next later))
            ∙ ap (λ (x : List ℕ). h.sofar ++ x) (sym (next_rows here k later) ∙ ap (λ (a : List Step). trace_rows (outcomes here a)) (sym e)) ∙ h.whole);
        last = rw now (sym (next_last here k later) ∙ ap (last_world here) (sym e) ∙ h.last);
      }

  pub tracing_all : rest ≡ [] → (w ≡ image (last_world W ks)) × (rows ≡ placed l 0 (trace_rows (outcomes W ks)))
  unfolding trace_rows outcomes last_world
  tracing_all none =
      let end = ap (λ (a : List Step). last_world (world_at w) a) none in
      let all = ap (λ (a : List Step). h.sofar ++ trace_rows (outcomes (world_at w) a)) none in (
        sym (good_image w h.good) ∙ ap image (sym end ∙ h.last),
        h.so.is ∙ ap (placed l 0) (sym (append-nil h.sofar) ∙ sym all ∙ h.whole),
      )

-- ---- an accepted sheet, started

module _ (b : List ℕ) (mask : ℕ) (good : is_bad_sheet b ≡ false) (m : mask ≡ get_or b 5 0) (small : mask < 256) where
  pub some : mask ≡ 0 → ⊥
  some z = (sound b good).some (sym m ∙ z)

  pub begins : well_formed (start mask) ≡ true
  begins = start_good mask (omega (arith, some)) small

  pub started : (w v : List ℕ) (a : Answer) → length w ≡ world_width → lent_of a v ≡ lent_start w mask
      → (good_bytes v ≡ true) × ((world_at v ≡ start mask) × (length v ≡ world_width))
  started w v a long e =
      let is : v ≡ image (start mask) = start_answered w mask a v long some small e in
      let fine : good_bytes v ≡ true = rw is (image_good (start mask) begins) in
      (fine, (ap world_at is ∙ world_back (start mask) begins, good_length v fine))

-- ---- what the check of a sheet says

pub found_bad : (b : List ℕ) (x : Refusal) → check_of b ≡ Err x → (sheet_in b ≡ bad) × (x ≡ BadSheet)
unfolding check_of read_of
found_bad b x e = go (is_bad_sheet b) refl
  where
    go : (t : Bool) → is_bad_sheet b ≡ t → (sheet_in b ≡ bad) × (x ≡ BadSheet)
    go true f =
        let is : Err x ≡ Err BadSheet = sym e ∙ rw f in
        (sym (check_reads b) ∙ ap (λ (r : Result checked.Sheet Refusal). read_of r b) e, cc)
    go false f =
        let is : ◌≡◌ {A = Result checked.Sheet Refusal} (Ok (record { mask = mask_in b; steps = steps_of b })) (Err x) = sym (rw f) ∙ e in
        let z : ◌≡◌ {A = ℕ} 0 1 = cc in
        absurd (omega arith)

module _ (b : List ℕ) (s : checked.Sheet) (e : check_of b ≡ Ok s) where
  found_good : sheet_in b ≡ sheet s.mask (steps_from b 6)
  unfolding read_of
  found_good =
      let ks : List Step = steps_in (form_in b) s.steps (drop 6 b) in
      let read : sheet_in b ≡ sheet s.mask ks = sym (check_reads b) ∙ ap (λ (r : Result checked.Sheet Refusal). read_of r b) e in
      read ∙ ap (sheet s.mask) (sym (read-front b s.mask ks (accepted b s.mask ks read)))

  pub found_facts : (is_bad_sheet b ≡ false) × (s.mask ≡ get_or b 5 0)
  found_facts =
      let a = accepted b s.mask (steps_from b 6) found_good in
      (a.good, sym a.masked)

  pub steps_long : length (steps_from b 6) ≡ s.steps
  unfolding check_of
  steps_long =
      let a = accepted b s.mask (steps_from b 6) found_good in
      let is : ◌≡◌ {A = Result checked.Sheet Refusal} (Ok (record { mask = mask_in b; steps = steps_of b })) (Ok s) = rw a.good at e in
      let steps : record { mask = mask_in b; steps = steps_of b } ≡ s = cc in
      sym (count b s.mask (steps_from b 6) a) ∙ ap (λ (x : checked.Sheet). x.steps) steps

  pub few_found : s.steps ≤ 8000
  few_found = omega (arith, steps_long, shown_few b found_facts.0)

-- ---- what is ruled, by what n steps may need

module _ (needed : ℕ → ℕ) (b w out : List ℕ) where
  pub ruling_misfit : (length w ≡ world_width → ⊥) → ruling needed b w out ≡ bad_world
  ruling_misfit h = rw (ne_eqb (length w) world_width h)

  module _ (long : length w ≡ world_width) where
    ruling_by : (x : Sheet) → sheet_in b ≡ x → ruling needed b w out ≡ room_for needed (length out) x
    ruling_by x f = rw (eq-eqb (length w) world_width long, f)

    pub ruling-bad : (x : Refusal) → check_of b ≡ Err x → ruling needed b w out ≡ bad_sheet
    ruling-bad x e = ruling_by bad (found_bad b x e).0

    module _ (s : checked.Sheet) (e : check_of b ≡ Ok s) where
      abbrev ks : List Step
      ks = steps_from b 6

      ruling_good : (x : Bool) → ltb (length out) (needed s.steps) ≡ x → ruling needed b w out ≡ (if x then no_room else runs s.mask ks)
      ruling_good x f =
          ruling_by (sheet s.mask ks) (found_good b s e)
          ∙ ap (λ (y : Bool). if y then no_room else runs s.mask ks) (ap (λ (n : ℕ). ltb (length out) (needed n)) (steps_long b s e) ∙ f)

      pub ruling-full : length out < needed s.steps → ruling needed b w out ≡ no_room
      ruling-full l = ruling_good true (lt-ltb (length out) (needed s.steps) l)

      pub ruling-runs : needed s.steps ≤ length out → ruling needed b w out ≡ runs s.mask ks
      ruling-runs l = ruling_good false (le-ltb (length out) (needed s.steps) l)

-- ---- at the front of a buffer

pub front : (n : ℕ) (l b : List ℕ) → length b ≡ n → n ≤ length l → placed l 0 b ≡ b ++ drop n l
unfolding splice
front n l b e h = placed_fits l b 0 (omega (arith, e)) ∙ rw (e, zero-add)

-- ---- what is answered and left

module _ (b w l : List ℕ) where
  pub record Left (r : Result ℕ Refusal) (w' rows' : List ℕ) : Type 0 where
    pub answer : r ≡ trace_answer b w l
    pub last : w' ≡ trace_world b w l
    pub rows : rows' ≡ trace_left b w l

  -- what comes of the ruling comes of the call
  left_by : (x : Ruling) → ruling traces_wide b w l ≡ x → (w' rows' : List ℕ) → w' ≡ world_by w x → rows' ≡ trace_by x ++ drop (length (trace_by x)) l
      → Left (refused_or (steps_by x) (refused_by x)) w' rows'
  unfolding trace_answer trace_world trace_left traced
  left_by x e w' rows' f g = record { answer = rw e; last = rw e f; rows = rw e g }

  pub misfit : (length w ≡ world_width → ⊥) → Left (Err BadWorld) w l
  misfit h = left_by bad_world (ruling_misfit traces_wide b w l h) w l refl refl

  module _ (long : length w ≡ world_width) where
    pub left-bad : (x : Refusal) → check_of b ≡ Err x → Left (Err x) w l
    left-bad x e = rw (found_bad b x e).1 (left_by bad_sheet (ruling-bad traces_wide b w l long x e) w l refl refl)

    module _ (s : checked.Sheet) (e : check_of b ≡ Ok s) where
      pub left-full : length l < traces_wide s.steps → Left (Err NoRoom) w l
      left-full h = left_by no_room (ruling-full traces_wide b w l long s e h) w l refl refl

      pub left_good : traces_wide s.steps ≤ length l → (v w' rows' : List ℕ) → world_at v ≡ start s.mask
          → w' ≡ image (last_world (world_at v) (steps_from b 6)) → rows' ≡ placed l 0 (trace_rows (outcomes (world_at v) (steps_from b 6)))
          → Left (Ok s.steps) w' rows'
      left_good h v w' rows' is last laid =
          let ks : List Step = steps_from b 6 in
          let all : List ℕ = trace_rows (outcomes (start s.mask) ks) in
          let many : length all ≡ traces_wide s.steps = rows_long (start s.mask) ks ∙ ap traces_wide (steps_long b s e) in
          let put : placed l 0 all ≡ all ++ drop (length all) l = front (length all) l all refl (omega (arith, many, h)) in
          rw (steps_long b s e) at
          (left_by (runs s.mask ks) (ruling-runs traces_wide b w l long s e h) w' rows' (rw is at last) (rw is at laid ∙ put))

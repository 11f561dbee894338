-- A record, line by line: what the lines and the counts are after each of a trace's rows, and at the end. Assumes nothing.
use Rattle.std.specs.Prelude.{if◌then◌else◌, None, Some, Ok, Err}
use mathlib.Core.Path.{◌≡◌, refl, sym, ap, ◌∙◌}
use mathlib.Core.Bool.{Bool, true, false, ◌&&◌}
use mathlib.Core.List.{List, [], ◌∷◌, ◌++◌, append_assoc}
use Prim.Native.Nat.{ℕ, suc, ◌+◌, ◌*◌, ◌≤◌, ◌<◌}
use native.Mathlib.Numerals.{add-one}
use native.Mathlib.Omega.{arith}
use lib.Dec.{eqb, ltb}
use lib.ListN.{length, get_or, drop, length-append}
use borrow.Author.Tests.{eq-eqb, lt-ltb, le-ltb}
use Rattle.rows.specs.Bytes.{u16_at, u32_at}
use Rattle.rows.proofs.Laws.{Holds, holds-left, holds_right}
use Rattle.views.proofs.Truth.{cases}
use Rattle.rules.specs.State.{World, start}
use Rattle.rules.specs.declared.Refusal.{Refusal}
use Rattle.rules.specs.declared.Refusal.TheVariants.{BadWorld, NoRoom, BadSheet}
use Rattle.rules.specs.declared.Step.{Step}
use Rattle.rules.specs.Sending.{waiting_in}
use Rattle.rules.specs.Steps.{Outcome, after, stepped}
use Rattle.rules.specs.WellFormed.{well_formed}
use Rattle.rules.specs.Sheets.{Sheet, bad, sheet, sheet_in, is_bad_sheet, mask_in, steps_of}
use Rattle.rules.specs.Runs.{outcomes, last_world, sum, delivered_by, dropped_by, answer, digits, line, step_line, step_lines, longest, printed, start_of, end_of}
use Rattle.rules.specs.Runs.{bad_of, rehearsal, rehearsed}
use Rattle.rules.proofs.Counts.{run_few, sent-is-sum}
use Rattle.rules.proofs.Kept.{step_keeps, always_good}
use Rattle.rules.proofs.Longest.{longest-is, printed-longest}
use Rattle.layout.specs.Layout.{world_width}
use Rattle.layout.specs.Image.{image}
use Rattle.sheet.specs.declared.Sheet as checked
use Rattle.sheet.specs.Reading.{check_of, steps_from}
use Rattle.sheet.proofs.Walk.{accepted, count, sound}
use Rattle.record.specs.Lines.{laid, past, far}
use Rattle.record.proofs.Laying.{laid-whole, printed-first, printed_then, printed_as, Printing, printing_none, printing_more, printing_all}
use Rattle.record.proofs.Whole.{printed-is}
use Rattle.world.specs.Tracing.{trace_row_width, columns_at, trace_row, trace_rows, Ruling, bad_world, bad_sheet, no_room, runs, room_for, ruling, world_by, traces_wide}
use Rattle.world.specs.Tracing.{traced, trace_world, trace_left}
use Rattle.world.proofs.Tracing.{row_long, rows_long, row_back, next_rows, shown_few, some, found_facts, few_found, steps_long}
use Rattle.world.proofs.Tracing.{ruling_misfit, ruling-bad, ruling-full, ruling-runs}
use Rattle.rehearsal.specs.declared.Tally.{Tally}
use Rattle.rehearsal.specs.declared.Rehearsed.{Rehearsed}
use Rattle.rehearsal.specs.Playing.{moved, Lined, Begins, AllLined, decided, record_by, answer_by, laid_by, rehearse_answer, world_left, record_left}
use Rattle.rehearsal.proofs.Moves.{step_moves}

-- ---- one row

-- the step of this number, with the outcome o: l is the record before it, written from `at` on, and out after it
record StepLined (o : Outcome) (number at : ℕ) (l out : List ℕ) (r : Tally) : Type 0 where
  line : (r.at ≡ past at (step_line number o)) × (out ≡ laid l at (step_line number o))
  delivered : r.delivered ≡ delivered_by o
  dropped : r.dropped ≡ dropped_by o

-- what a step moves is no more than one message
at_most_one : (b : Bool) → (if b then 1 else 0) ≤ 1
at_most_one true = omega arith
at_most_one false = omega arith

pub little : {rows : List ℕ} {row kind number at : ℕ} {l out : List ℕ} {r : Tally} → Lined rows row kind number at l out r
    → (r.delivered ≤ 1) × (r.dropped ≤ 1)
little {rows} {row} {kind} t =
    let done : Bool = eqb (get_or rows (row + 0) 0) 0 in
    (rw t.delivered (at_most_one (done && eqb kind 6)), rw t.dropped (at_most_one (done && eqb kind 7)))

-- a line, of the columns that were read
pub columns-read : (rows : List ℕ) (row a e w c d x : ℕ) → a ≡ get_or rows (row + 0) 0 → e ≡ get_or rows (row + 1) 0 → w ≡ get_or rows (row + 2) 0
    → c ≡ u16_at rows (row + 3) → d ≡ get_or rows (row + 5) 0 → x ≡ u32_at rows (row + 6) → a ∷ e ∷ w ∷ c ∷ d ∷ x ∷ [] ≡ columns_at rows row
unfolding columns_at
columns-read rows row a e w c d x f g h i j k = rw (f, g, h, i, j, k)

pub lined : (rows : List ℕ) (row kind number at : ℕ) (l out : List ℕ) (p a d x : ℕ) (xs : List ℕ) → a ≡ get_or rows (row + 0) 0 → xs ≡ columns_at rows row
    → (p ≡ past at (line (number ∷ xs))) × (out ≡ laid l at (line (number ∷ xs))) → d ≡ moved a kind 6 → x ≡ moved a kind 7
    → Lined rows row kind number at l out (record { at = p; delivered = d; dropped = x })
lined rows row kind number at l out p a d x xs f e put g h = record { line = rw e at put; delivered = rw f at g; dropped = rw f at h }

first_column : (rows : List ℕ) (row : ℕ) → get_or (columns_at rows row) 0 0 ≡ get_or rows (row + 0) 0
unfolding columns_at
first_column rows row = refl

step_lined : (rows : List ℕ) (row : ℕ) (W : World) (k : Step) (number at : ℕ) (l out : List ℕ) (r : Tally) → well_formed W ≡ true
    → Holds rows row (trace_row (stepped W k)) → Lined rows row k.kind number at l out r → StepLined (stepped W k) number at l out r
step_lined rows row W k number at l out r formed h t =
    let m = step_moves W k in
    let back = row_back rows row W k formed h in
    let first : get_or rows (row + 0) 0 ≡ answer (stepped W k) = sym (first_column rows row) ∙ ap (λ (x : List ℕ). get_or x 0 0) back in
    record {
      line = rw back at t.line;
      delivered = rw first at t.delivered ∙ sym m.delivered;
      dropped = rw first at t.dropped ∙ sym m.dropped;
    }

-- ---- before the line of this number, of the steps ks of W: rest are those whose lines are still to be laid, and here is the world before them; their rows
-- stand in rows from row on; out is the record's buffer, p the position past the lines, and d and x the counts

pub record Lining (W : World) (ks : List Step) (rows l : List ℕ) (o : ℕ) (out : List ℕ) (row p d x number : ℕ) (rest : List Step) : Type 0 where
  pub here : World
  pub formed : well_formed here ≡ true
  pub held : Holds rows row (trace_rows (outcomes here rest))
  pub taken : number + length rest ≡ 1 + length ks
  pub lines : Printing (step_lines 1 (outcomes W ks)) l o out p (step_lines number (outcomes here rest))
  pub delivered : d + sum delivered_by (outcomes here rest) ≡ sum delivered_by (outcomes W ks)
  pub dropped : x + sum dropped_by (outcomes here rest) ≡ sum dropped_by (outcomes W ks)

pub lining_none : {W : World} {ks : List Step} {rows l : List ℕ} {o : ℕ} → well_formed W ≡ true → Begins rows (trace_rows (outcomes W ks)) → o ≤ far
    → length l ≤ far → Lining W ks rows l o l 0 o 0 0 1 ks
lining_none {W} formed h near small =
    record {
      here = W;
      formed = formed;
      held = record { pre = []; post = h.rest; long = refl; whole = h.whole };
      taken = refl;
      lines = printing_none near small;
      delivered = omega arith;
      dropped = omega arith;
    }

-- one more step
module _ (W : World) (k : Step) (ks : List Step) where
  next-lines : (number : ℕ) → step_lines number (outcomes W (k ∷ ks)) ≡ step_line number (stepped W k) ++ step_lines (suc number) (outcomes (after W (stepped W k)) ks)
  unfolding step_lines outcomes
  next-lines number = refl

  next-sum : (f : Outcome → ℕ) → sum f (outcomes W (k ∷ ks)) ≡ f (stepped W k) + sum f (outcomes (after W (stepped W k)) ks)
  unfolding sum outcomes
  next-sum f = refl

holds_long : (l b : List ℕ) (o : ℕ) → Holds l o b → o + length b ≤ length l
holds_long l b o h = rw h.whole (simp length-append (omega (arith, h.long)))

module _ {W : World} {ks : List Step} {rows l : List ℕ} {o : ℕ} {out : List ℕ} {row p d x number : ℕ} {rest : List Step}
    (h : Lining W ks rows l o out row p d x number rest) where
  pub few : (d ≤ length ks) × (x ≤ length ks)
  few = (omega (arith, h.delivered, run_few W ks), omega (arith, h.dropped, run_few W ks))

  module _ (k : Step) (later : List Step) (e : rest ≡ k ∷ later) where
    pub lining_room : row + trace_row_width ≤ length rows
    lining_room = omega (arith, holds_long rows (trace_rows (outcomes h.here rest)) row h.held, rows_long h.here rest, ap length e)

    pub lining_more : (out' : List ℕ) (r : Tally) → Lined rows row k.kind number p out out' r
        → Lining W ks rows l o out' (row + trace_row_width) r.at (d + r.delivered) (x + r.dropped) (number + 1) later
    lining_more out' r t =
        let here : World = h.here in
        let now : Outcome = stepped here k in
        let next : World = after here now in
        let held : Holds rows row (trace_row now ++ trace_rows (outcomes next later)) =
        rw (ap (λ (a : List Step). trace_rows (outcomes here a)) e ∙ next_rows here k later) at h.held in
        let s : StepLined now number p out out' r = step_lined rows row here k number p out out' r h.formed (holds-left rows (trace_row now) _ row held) t in
        rw (add-one number)
        (record {
          here = next;
          formed = step_keeps here k h.formed;
          held = holds_right rows (trace_row now) (trace_rows (outcomes next later)) row trace_row_width (row_long now) held;
          taken = omega (arith, h.taken, ap length e);
          lines = printing_more (step_line number now) out' (step_lines (suc number) (outcomes next later)) h.lines
              (ap (λ (a : List Step). step_lines number (outcomes here a)) e ∙ next-lines here k later number) s.line;
          delivered = omega (arith, s.delivered, next-sum here k later delivered_by, ap (λ (a : List Step). sum delivered_by (outcomes here a)) e, h.delivered);
          dropped = omega (arith, s.dropped, next-sum here k later dropped_by, ap (λ (a : List Step). sum dropped_by (outcomes here a)) e, h.dropped);
        })

  pub lining_all : rest ≡ [] → AllLined W ks o l out (record { at = p; delivered = d; dropped = x })
  unfolding step_lines outcomes sum
  lining_all none =
      record {
        lines = printing_all h.lines (ap (λ (a : List Step). step_lines number (outcomes h.here a)) none);
        delivered = omega (arith, h.delivered, ap (λ (a : List Step). sum delivered_by (outcomes h.here a)) none);
        dropped = omega (arith, h.dropped, ap (λ (a : List Step). sum dropped_by (outcomes h.here a)) none);
      }

-- ---- the end

-- the whole record, of its start, its lines and its end
module _ (mask : ℕ) (ks : List Step) where
  abbrev os : List Outcome
  os = outcomes (start mask) ks

  abbrev waits : ℕ
  waits = waiting_in (last_world (start mask) ks).places

  pub whole_is : start_of mask ++ (step_lines 1 os ++ end_of (sum delivered_by os + sum dropped_by os + waits) (sum delivered_by os) (sum dropped_by os) waits)
      ≡ printed mask ks
  whole_is = rw (← sent-is-sum mask ks) (printed-is mask ks)

-- ---- an accepted sheet: its trace, and its record

module _ (b : List ℕ) (mask : ℕ) (good : is_bad_sheet b ≡ false) (m : mask ≡ get_or b 5 0) where
  abbrev found : checked.Sheet
  found = record { mask = mask_in b; steps = steps_of b }

  accepts : check_of b ≡ Ok found
  unfolding check_of
  accepts = rw good

  pub trace_runs : (w rows w' rows' : List ℕ) → length w ≡ world_width → 80000 ≤ length rows → (w' ≡ trace_world b w rows) × (rows' ≡ trace_left b w rows)
      → (w' ≡ image (last_world (start mask) (steps_from b 6))) × Begins rows' (trace_rows (outcomes (start mask) (steps_from b 6)))
  unfolding trace_world trace_left traced
  trace_runs w rows w' rows' long wide h =
      let same : found.mask ≡ mask = sym m in
      let room : traces_wide found.steps ≤ length rows = omega (arith, few_found b found accepts, wide) in
      let is : ruling traces_wide b w rows ≡ runs mask (steps_from b 6) =
      ruling-runs traces_wide b w rows long found accepts room ∙ ap (λ (n : ℕ). runs n (steps_from b 6)) same in
      (rw is at h.0, record { rest = _; whole = rw is at h.1 })

  module _ (small : mask < 256) where
    pub played : (l w out₁ out₂ out₃ : List ℕ) (at r : ℕ) (t : Tally) → length l ≤ far → w ≡ image (last_world (start mask) (steps_from b 6))
        → (at ≡ past 0 (start_of mask)) × (out₁ ≡ laid l 0 (start_of mask))
        → AllLined (start mask) (steps_from b 6) at out₁ out₂ t
        → ((W : World) → well_formed W ≡ true → w ≡ image W
        → r ≡ past t.at (end_of (t.delivered + t.dropped + waiting_in W.places) t.delivered t.dropped (waiting_in W.places)))
        → ((W : World) → well_formed W ≡ true → w ≡ image W
        → out₃ ≡ laid out₂ t.at (end_of (t.delivered + t.dropped + waiting_in W.places) t.delivered t.dropped (waiting_in W.places)))
        → (r ≡ past 0 (printed mask (steps_from b 6))) × (out₃ ≡ laid l 0 (printed mask (steps_from b 6)))
    played l w out₁ out₂ out₃ at r t near is begun ran ends ended =
        let ks : List Step = steps_from b 6 in
        let os : List Outcome = outcomes (start mask) ks in
        let last : World = last_world (start mask) ks in
        let formed : well_formed last ≡ true = always_good mask (omega (arith, some b mask good m small)) small ks in
        let end : List ℕ = end_of (t.delivered + t.dropped + waiting_in last.places) t.delivered t.dropped (waiting_in last.places) in
        let all = printed_then end out₃ (printed_then (step_lines 1 os) out₂ (printed-first (start_of mask) begun) near ran.lines) near
        (ends last formed is, ended last formed is) in
        let same : end
        ≡ end_of (sum delivered_by os + sum dropped_by os + waiting_in last.places) (sum delivered_by os) (sum dropped_by os) (waiting_in last.places) =
        rw (ran.delivered, ran.dropped) in
        let whole : (start_of mask ++ step_lines 1 os) ++ end ≡ printed mask ks =
        append_assoc (start_of mask) (step_lines 1 os) end ∙ ap (λ (a : List ℕ). start_of mask ++ (step_lines 1 os ++ a)) same ∙ whole_is mask ks in
        printed_as (printed mask ks) whole all

-- ---- what is answered and left

bad_long : length bad_of ≡ 6
unfolding line digits
bad_long = refl

-- `bad 9` is there whole, or not at all
module _ (out : List ℕ) where
  abbrev Bad : ℕ → List ℕ → Type 0
  Bad n out' = (record { refused = Some BadSheet; length = n } ≡ answer_by out bad_sheet) × (out' ≡ laid_by out bad_sheet)

  pub bad_short : length out < 6 → Bad 0 out
  unfolding answer_by laid_by
  bad_short h = let e = lt-ltb (length out) (length bad_of) (rw bad_long h) in (rw e, rw e)

  pub bad-laid : 6 ≤ length out → (n : ℕ) (out' : List ℕ) → n ≡ past 0 bad_of → out' ≡ laid out 0 bad_of → Bad n out'
  unfolding answer_by laid_by
  bad-laid h n out' position bytes =
      let e = le-ltb (length out) (length bad_of) (rw bad_long h) in
      let exact : n ≡ length bad_of = omega (arith, position, bad_long) in
      (rw (e, exact), rw e (bytes ∙ laid-whole out bad_of (rw bad_long h)))

module _ (b w out : List ℕ) where
  pub record Left (r : Rehearsed) (w' out' : List ℕ) : Type 0 where
    pub answer : r ≡ rehearse_answer b w out
    pub last : w' ≡ world_left b w out
    pub printed : out' ≡ record_left b w out

  -- what comes of the ruling comes of the call
  left_by : (x : Ruling) → ruling longest b w out ≡ x → (r : Rehearsed) (w' out' : List ℕ) → r ≡ answer_by out x → w' ≡ world_by w x → out' ≡ laid_by out x
      → Left r w' out'
  unfolding rehearse_answer world_left record_left decided
  left_by x e r w' out' f g h = record { answer = rw e f; last = rw e g; printed = rw e h }

  run_answered : (mask : ℕ) (ks : List Step) (n : ℕ) → n ≡ length (printed mask ks) → record { refused = None; length = n } ≡ answer_by out (runs mask ks)
  unfolding answer_by
  run_answered mask ks n e = rw e

  run-laid : (mask : ℕ) (ks : List Step) (out' : List ℕ) → out' ≡ printed mask ks ++ drop (length (printed mask ks)) out → out' ≡ laid_by out (runs mask ks)
  unfolding laid_by
  run-laid mask ks out' e = e

  pub misfit : (length w ≡ world_width → ⊥) → Left (record { refused = Some BadWorld; length = 0 }) w out
  misfit h = left_by bad_world (ruling_misfit longest b w out h) _ _ _ (unfold answer_by in refl) refl (unfold laid_by in refl)

  module _ (long : length w ≡ world_width) where
    pub left-bad : (x : Refusal) → check_of b ≡ Err x → (r : Rehearsed) (out' : List ℕ) → r ≡ answer_by out bad_sheet → out' ≡ laid_by out bad_sheet
        → Left r w out'
    left-bad x e r out' answer bytes = left_by bad_sheet (ruling-bad longest b w out long x e) r w out' answer refl bytes

    module _ (s : checked.Sheet) (e : check_of b ≡ Ok s) where
      abbrev ks : List Step
      ks = steps_from b 6

      pub left-full : length out < 33 + 30 * s.steps → Left (record { refused = Some NoRoom; length = 0 }) w out
      left-full l =
          left_by no_room (ruling-full longest b w out long s e (rw (longest-is s.steps) l)) _ _ _
          (unfold answer_by in refl) refl (unfold laid_by in refl)

      pub left_good : 33 + 30 * s.steps ≤ length out → s.mask < 256 → (w' out' : List ℕ) (n : ℕ)
          → n ≡ past 0 (printed s.mask ks) → out' ≡ laid out 0 (printed s.mask ks) → w' ≡ image (last_world (start s.mask) ks)
          → Left (record { refused = None; length = n }) w' out'
      left_good l small w' out' n position bytes last =
          let f = found_facts b s e in
          let most = shown_few b f.0 in
          let fits = printed-longest s.mask (omega (arith, some b s.mask f.0 f.1 small)) small ks most in
          let exact : n ≡ length (printed s.mask ks) = omega (arith, position, fits, longest-is (length ks), most) in
          let front = laid-whole out (printed s.mask ks) (omega (arith, fits, longest-is (length ks), steps_long b s e, l)) in
          left_by (runs s.mask ks) (ruling-runs longest b w out long s e (rw (longest-is s.steps) l)) _ w' out'
          (run_answered s.mask ks n exact) last (run-laid s.mask ks out' (bytes ∙ front))

-- ---- a buffer that takes the longest record of 8,000 steps takes the record of every sheet, whole

module _ (b w out : List ℕ) (long : length w ≡ world_width) (wide : longest 8000 ≤ length out) where
  abbrev Whole : Sheet → Type 0
  Whole x =
      ((answer_by out (room_for longest (length out) x)).length ≡ length (rehearsal x))
      × (laid_by out (room_for longest (length out) x) ≡ rehearsal x ++ drop (length (rehearsal x)) out)

  whole-sheet : (x : Sheet) → sheet_in b ≡ x → Whole x
  unfolding answer_by laid_by
  whole-sheet bad e = let room = le-ltb (length out) (length bad_of) (omega (arith, wide, bad_long, longest-is 8000)) in (rw room, rw room)
  whole-sheet (sheet mask ks) e =
      let a = accepted b mask ks e in
      let few : length ks ≤ 8000 = omega (arith, count b mask ks a, (sound b a.good).few) in
      let room = le-ltb (length out) (longest (length ks)) (omega (arith, wide, longest-is (length ks), longest-is 8000, few)) in
      (rw room, rw room)

  pub whole_record : ((rehearse_answer b w out).length ≡ length (rehearsed b)) × (record_left b w out ≡ rehearsed b ++ drop (length (rehearsed b)) out)
  unfolding rehearse_answer record_left decided rehearsed
  whole_record = rw (eq-eqb (length w) 65536 long) (whole-sheet (sheet_in b) refl)

-- ---- of a sheet of bytes, whatever comes of it, the length that is answered is at most that of the longest record

pub answer_long : (b w out : List ℕ) → get_or b 5 0 < 256 → (rehearse_answer b w out).length ≤ longest 8000
unfolding rehearse_answer answer_by decided
answer_long b w out byte = cases Short (eqb (length w) 65536) (λ _. of_sheet (sheet_in b) refl) (λ _. omega arith)
  where
    Short : Ruling → Type 0
    Short x = length (record_by (length out) x) ≤ longest 8000

    of_sheet : (x : Sheet) → sheet_in b ≡ x → Short (room_for longest (length out) x)
    of_sheet bad e = cases (λ (l : List ℕ). length l ≤ longest 8000) (ltb (length out) (length bad_of)) (λ _. omega arith)
        (λ _. omega (arith, bad_long, longest-is 8000))
    of_sheet (sheet mask ks) e =
        let a = accepted b mask ks e in
        let few : length ks ≤ 8000 = omega (arith, count b mask ks a, (sound b a.good).few) in
        let some : 0 < mask = omega (arith, (sound b a.good).some, a.masked) in
        let fits = printed-longest mask some (omega (arith, a.masked)) ks few in
        cases Short (ltb (length out) (longest (length ks))) (λ _. omega arith) (λ _. omega (arith, fits, longest-is (length ks), longest-is 8000))

-- Wrong programs that the promises rule out: good, world, rehearsal and engine. Assumes nothing.
use Rattle.std.specs.Prelude.{if◌then◌else◌, None, Result, Ok, Err}
use mathlib.Core.Path.{◌≡◌, refl, sym, ap, ◌∙◌}
use mathlib.Core.Bool.{Bool, true, false, not, ◌&&◌}
use mathlib.Core.List.{List, [], ◌∷◌, ◌++◌}
use Prim.Native.Nat.{ℕ}
use lib.Dec.{T, eqb, leb, ltb}
use lib.ListN.{length, get_or, drop, replicate}
use Rattle.rows.specs.Bytes.{number_at, splice, placed, bytes_of, be32, run, cat, zeros}
use Rattle.rows.specs.Tests.{all, all_zero}
use Rattle.rules.specs.Sets.{those}
use Rattle.rules.specs.State.{World, no_relay, start}
use Rattle.rules.specs.Sending.{waiting_in}
use Rattle.rules.specs.WellFormed.{well_formed}
use Rattle.rules.specs.declared.Refusal.{Refusal}
use Rattle.rules.specs.declared.Refusal.TheVariants.{BadWorld}
use Rattle.rules.specs.declared.Step.{Step}
use Rattle.rules.specs.Steps.{after, stepped}
use Rattle.layout.specs.Layout.{world_width}
use Rattle.layout.specs.Image.{image, good_bytes}
use Rattle.layout.specs.Lent.{Lent, left, lent_start, lent_step}
use Rattle.rules.specs.Sheets as sheets
use Rattle.rules.specs.Sheets.{form_of, mask_in, form_in, steps_of, steps_in, all_zeros_in, is_bad_sheet, list_by, sheet_in}
use Rattle.rules.specs.Runs.{outcomes, sent_by, delivered_by, dropped_by, sum, answer, fields, digits, line, step_lines, last_world, longest}
use Rattle.rules.specs.Runs.{rehearsed, start_of, end_of, bad_of}
use Rattle.rules.specs.Examples.{recorded}
use Rattle.rules.proofs.Kept.{step_keeps, run-keeps}
use Rattle.layout.proofs.Widths.{length-image}
use Rattle.layout.proofs.World.{image_injective}
use Rattle.sheet.specs.Writing as writing
use Rattle.sheet.specs.Writing.{listed, buffer_of}
use Rattle.record.specs.Lines.{laid}
use Rattle.world.specs.Answer.{report_of, lent_of, answer_of}
use Rattle.world.specs.Tracing.{waiting_rows, trace_row, trace_rows, Ruling, room_for, refused_by, refused_or, world_by, traces_wide, traced, steps_by}
use Rattle.world.specs.Tracing.{trace_by, trace_answer, trace_world, trace_left}
use Rattle.rehearsal.specs.Playing.{decided, answer_by, laid_by, rehearse_answer, world_left, record_left}
use Rattle.world.specs.declared.Answer.{Answer}
use Rattle.world.specs.declared.Report.TheVariants.{Nothing, WriteDone}
use Rattle.world.specs.declared.Report.{Report}
use Rattle.world.proofs.Tracing.{waiting_rows_lem}
use Rattle.rehearsal.specs.declared.Rehearsed.{Rehearsed}
use Rattle.engine.specs.Told.{number_told, good_number, sheet_number, told_bytes, told_of, Stepped, telling, told_step, told_rehearsal}
use Rattle.certificate.specs.Demand1.{rehearsed_number}
use Rattle.certificate.proofs.RuledOutSheets.{headed}
use Rattle.certificate.proofs.Differ.{differ, itself, truth, entry}
use Rattle.certificate.proofs.Typed.{anything, in_result, in_Report, in_bytes, in_u32, in_u32s, in_u8, in_Answer, in_Step}
use Rattle.certificate.proofs.ImageTyped.{image_bytes}
use Rattle.certificate.proofs.Worlds.{one, two, one_formed, two_formed, one_good, write, deliver, step_of, start_of_lem, soiled, soiled_long, soiled_bad, one_bytes, soiled_bytes, two_bytes}

-- ---- good

pub good_is_good_refused_always : ¬ ((w : List ℕ) → T (in_bytes w) → false ≡ good_bytes w)
good_is_good_refused_always p = differ truth (p one one_bytes ∙ one_good) tt

pub good_is_good_by_length_only : ¬ ((w : List ℕ) → T (in_bytes w) → eqb (length w) world_width ≡ good_bytes w)
good_is_good_by_length_only p = differ truth (sym (ap (λ n. eqb n 65536) soiled_long) ∙ p soiled soiled_bytes ∙ soiled_bad) tt

-- ---- world

abbrev replies : ℕ → Answer
replies n = record { number = n; report = Nothing }

abbrev number : Lent → ℕ
number l = l.answer

-- a step that sends, and a start over another one, change the buffer
abbrev waits : World → ℕ
waits w = waiting_in w.places

pub write_moves : ¬ (one ≡ image (after (start 1) (stepped (start 1) write)))
unfolding recorded
write_moves e = differ waits (image_injective (start 1) (after (start 1) (stepped (start 1) write)) one_formed (step_keeps (start 1) write one_formed) e) tt

starts_differ : ¬ (two ≡ one)
unfolding recorded
starts_differ e = differ (λ (w : World). (get_or w.relays 0 no_relay).view) (image_injective (start 2) (start 1) two_formed one_formed e) tt

buffer_of_lem : {l m : Lent} → l ≡ m → l.buffer ≡ m.buffer
buffer_of_lem e = ap (λ (l : Lent). l.buffer) e

pub world_step_refused_always : ¬ ((w : List ℕ) (k : Step) → T (in_bytes w) → T (in_Step k) → lent_of (replies 1) w ≡ lent_step w k)
unfolding recorded lent_of
world_step_refused_always p = differ number (p one write one_bytes tt ∙ step_of (start 1) one_formed write) tt

pub world_step_nothing_changed : ¬ ((w : List ℕ) (k : Step) → T (in_bytes w) → T (in_Step k) → lent_of (replies 0) w ≡ lent_step w k)
unfolding recorded lent_of
world_step_nothing_changed p = write_moves (buffer_of_lem (p one write one_bytes tt ∙ step_of (start 1) one_formed write))

-- the world in which the next delivery ends a write
abbrev ending : World
ending = last_world (start 1) (write ∷ deliver ∷ deliver ∷ deliver ∷ [])

ending_formed : well_formed ending ≡ true
ending_formed = run-keeps (start 1) (write ∷ deliver ∷ deliver ∷ deliver ∷ []) one_formed

pub world_step_without_its_report : ¬ ((w : List ℕ) (k : Step) → T (in_bytes w) → T (in_Step k)
    → lent_of (record { number = (lent_step w k).answer; report = Nothing }) (lent_step w k).buffer ≡ lent_step w k)
unfolding recorded lent_of report_of told_of
world_step_without_its_report p = differ (λ (l : Lent). entry 0 (told_of l)) (p (image ending) deliver (image_bytes ending ending_formed) tt ∙ step_of ending ending_formed deliver) tt

pub world_start_in_any_buffer : ¬ ((w : List ℕ) (mask : ℕ) → T (in_bytes w) → T (in_u8 mask) → lent_of (replies 0) (image (start mask)) ≡ lent_start w mask)
unfolding lent_of lent_start
world_start_in_any_buffer p = differ number (p [] 1 tt tt) tt

pub world_start_nothing_changed : ¬ ((w : List ℕ) (mask : ℕ) → T (in_bytes w) → T (in_u8 mask) → lent_of (replies 0) w ≡ lent_start w mask)
unfolding lent_of
world_start_nothing_changed p = starts_differ (buffer_of_lem (p two 1 two_bytes tt ∙ start_of_lem two (length-image (start 2))))

-- what was done, or a refusal, as an answer
pub world_answer_from_done_always : ¬ ((done : Result Report Refusal) → T (in_result in_Report anything done)
    → record { number = 0; report = Nothing } ≡ answer_of done)
unfolding answer_of
world_answer_from_done_always p = differ (λ (a : Answer). a.number) (p (Err BadWorld) tt) tt

pub world_answer_from_refused_always : ¬ ((done : Result Report Refusal) → T (in_result in_Report anything done)
    → record { number = 1; report = Nothing } ≡ answer_of done)
unfolding answer_of
world_answer_from_refused_always p = differ (λ (a : Answer). a.number) (p (Ok Nothing) tt) tt

-- a write of desk 2 has ended
abbrev wrote : Answer
wrote = record { number = 0; report = WriteDone 2 (record { stamp = record { count = 1; desk = 2 }; value = 77 }) }

pub world_columns_of_zeros : ¬ ((a : Answer) → T (in_Answer a) → 0 ∷ 0 ∷ 0 ∷ 0 ∷ 0 ∷ [] ≡ fields (report_of a.report).event (report_of a.report).who)
unfolding report_of
world_columns_of_zeros p = differ (entry 0) (p wrote tt) tt

pub world_columns_of_desk_0_always : ¬ ((a : Answer) → T (in_Answer a)
    → fields (report_of a.report).event 0 ≡ fields (report_of a.report).event (report_of a.report).who)
unfolding report_of
world_columns_of_desk_0_always p = differ (entry 1) (p wrote tt) tt

-- one place of `sent` holds a message, and none of `one`
abbrev sent : World
sent = after (start 1) (stepped (start 1) write)

sent_formed : well_formed sent ≡ true
sent_formed = step_keeps (start 1) write one_formed

pub world_waiting_none_always : ¬ ((w : List ℕ) → T (in_bytes w) → 0 ≡ waiting_rows w)
unfolding recorded
world_waiting_none_always p = differ itself (p (image sent) (image_bytes sent sent_formed) ∙ waiting_rows_lem sent (image sent) sent_formed refl) tt

pub world_waiting_all_always : ¬ ((w : List ℕ) → T (in_bytes w) → 256 ≡ waiting_rows w)
unfolding recorded
world_waiting_all_always p = differ itself (p one one_bytes ∙ waiting_rows_lem (start 1) one one_formed refl) tt

-- a sheet with mask 1 and no step
abbrev pub blank : List ℕ
blank = headed (1 ∷ [])

-- the sheet of one step, WRITE 0 77
abbrev pub written : List ℕ
written = headed (1 ∷ 5 ∷ 0 ∷ 0 ∷ 0 ∷ 0 ∷ 0 ∷ 0 ∷ 77 ∷ [])

-- the sheet of one step that is refused, DELIVER 0
abbrev refused : List ℕ
refused = headed (1 ∷ 6 ∷ 0 ∷ 0 ∷ 0 ∷ 0 ∷ 0 ∷ 0 ∷ 0 ∷ [])

-- room for a row
abbrev row : List ℕ
row = replicate 10 7

-- a test of the world's length, where it is right
long_right : {A : Type 0} (world : List ℕ) → length world ≡ world_width → (a b : A) → (if eqb (length world) world_width && true then a else b) ≡ a
long_right world e a b = rw e

abbrev one_long : length one ≡ world_width
one_long = length-image (start 1)

abbrev two_long : length two ≡ world_width
two_long = length-image (start 2)

pub world_trace_answer_done_always : ¬ ((sheet world rows : List ℕ) → T (in_bytes sheet) → T (in_bytes world) → T (in_bytes rows)
    → Ok (steps_of sheet) ≡ trace_answer sheet world rows)
unfolding trace_answer traced
world_trace_answer_done_always p = differ writing.number_of (p blank [] row tt tt tt) tt

abbrev answer_after : Ruling → Result ℕ Refusal
answer_after x = refused_or (steps_by x) (refused_by x)

abbrev laid_after : List ℕ → List ℕ → List ℕ
laid_after rows l = l ++ drop (length l) rows

-- with a world of the right length
module _ (world : List ℕ) (e : length world ≡ world_width) (sheet rows : List ℕ) where
  traced_there : traced sheet world rows ≡ room_for traces_wide (length rows) (sheet_in sheet)
  unfolding traced
  traced_there = rw e

  trace_answered_there : trace_answer sheet world rows ≡ answer_after (room_for traces_wide (length rows) (sheet_in sheet))
  unfolding trace_answer
  trace_answered_there = ap answer_after traced_there

  trace_world_there : trace_world sheet world rows ≡ world_by world (room_for traces_wide (length rows) (sheet_in sheet))
  unfolding trace_world
  trace_world_there = ap (world_by world) traced_there

  trace_laid_there : trace_left sheet world rows ≡ laid_after rows (trace_by (room_for traces_wide (length rows) (sheet_in sheet)))
  unfolding trace_left
  trace_laid_there = ap (λ (x : Ruling). laid_after rows (trace_by x)) traced_there

pub world_trace_answer_done_without_room : ¬ ((sheet world rows : List ℕ) → T (in_bytes sheet) → T (in_bytes world) → T (in_bytes rows)
    → (if eqb (length world) world_width && not (is_bad_sheet sheet) then Ok (steps_of sheet) else trace_answer sheet world rows)
    ≡ trace_answer sheet world rows)
unfolding sheet_in steps_in all_zeros_in all_zero all form_of number_at
world_trace_answer_done_without_room p =
    differ writing.number_of (sym (long_right one one_long _ _) ∙ p written one [] tt one_bytes tt ∙ trace_answered_there one one_long written []) tt

pub world_trace_last_as_it_was : ¬ ((sheet world rows : List ℕ) → T (in_bytes sheet) → T (in_bytes world) → T (in_bytes rows)
    → world ≡ trace_world sheet world rows)
unfolding sheet_in steps_in all_zeros_in last_world all_zero all form_of number_at
world_trace_last_as_it_was p = starts_differ (p blank two row tt two_bytes tt ∙ trace_world_there two two_long blank row)

pub world_trace_rows_nothing : ¬ ((sheet world rows : List ℕ) → T (in_bytes sheet) → T (in_bytes world) → T (in_bytes rows)
    → rows ≡ trace_left sheet world rows)
unfolding sheet_in steps_in all_zeros_in recorded trace_rows trace_row cat bytes_of number_at all_zero all form_of
world_trace_rows_nothing p = differ (entry 0) (p written one row tt one_bytes tt ∙ trace_laid_there one one_long written row) tt

-- a row for each accepted step only
abbrev accepted_rows : ℕ → List Step → List ℕ
accepted_rows mask ks = trace_rows (those (λ o. eqb (answer o) 0) (outcomes (start mask) ks))

pub world_trace_rows_of_accepted_steps_only : ¬ ((sheet world rows : List ℕ) → T (in_bytes sheet) → T (in_bytes world) → T (in_bytes rows)
    → (if eqb (length world) world_width && not (is_bad_sheet sheet) then laid_after rows (accepted_rows (mask_in sheet) (list_by (form_in sheet) sheet))
    else trace_left sheet world rows)
    ≡ trace_left sheet world rows)
unfolding sheet_in steps_in all_zeros_in recorded trace_rows trace_row cat bytes_of number_at those all_zero all form_of
world_trace_rows_of_accepted_steps_only p =
    differ (entry 0) (sym (long_right one one_long _ _) ∙ p refused one row tt one_bytes tt ∙ trace_laid_there one one_long refused row) tt

-- ---- rehearsal

-- a page that the record of no step fills, one with room for the record of a step, and one of a byte
abbrev page : List ℕ
page = replicate 20 7

abbrev wide : List ℕ
wide = replicate 70 7

abbrev narrow : List ℕ
narrow = 7 ∷ []

pub rehearsal_rehearse_answer_done_always : ¬ ((sheet world out : List ℕ) → T (in_bytes sheet) → T (in_bytes world) → T (in_bytes out)
    → record { refused = None; length = length (rehearsed sheet) } ≡ rehearse_answer sheet world out)
unfolding rehearse_answer decided answer_by
rehearsal_rehearse_answer_done_always p = differ rehearsed_number (p blank [] page tt tt tt) tt

-- with a world of the right length
module _ (world : List ℕ) (e : length world ≡ world_width) (sheet out : List ℕ) where
  ruled_there : decided sheet world out ≡ room_for longest (length out) (sheet_in sheet)
  unfolding decided
  ruled_there = rw e

  answered_there : rehearse_answer sheet world out ≡ answer_by out (room_for longest (length out) (sheet_in sheet))
  unfolding rehearse_answer
  answered_there = ap (answer_by out) ruled_there

  left_there : world_left sheet world out ≡ world_by world (room_for longest (length out) (sheet_in sheet))
  unfolding world_left
  left_there = ap (world_by world) ruled_there

  printed_there : record_left sheet world out ≡ laid_by out (room_for longest (length out) (sheet_in sheet))
  unfolding record_left
  printed_there = ap (laid_by out) ruled_there

pub rehearsal_rehearse_answer_done_without_room : ¬ ((sheet world out : List ℕ) → T (in_bytes sheet) → T (in_bytes world) → T (in_bytes out)
    → (if eqb (length world) world_width && ltb (length out) (length (rehearsed sheet)) then record { refused = None; length = length (rehearsed sheet) }
    else rehearse_answer sheet world out)
    ≡ rehearse_answer sheet world out)
unfolding answer_by longest sheet_in steps_in all_zeros_in recorded rehearsed all_zero all form_of number_at
rehearsal_rehearse_answer_done_without_room p =
    differ rehearsed_number (sym (long_right one one_long _ _) ∙ p blank one [] tt one_bytes tt ∙ answered_there one one_long blank []) tt

-- a record that would just fit, in a buffer that the longest of as many steps does not fit into
pub rehearsal_rehearse_answer_room_by_the_record : ¬ ((sheet world out : List ℕ) → T (in_bytes sheet) → T (in_bytes world) → T (in_bytes out)
    → (if eqb (length world) world_width && leb (length (rehearsed sheet)) (length out) then record { refused = None; length = length (rehearsed sheet) }
    else rehearse_answer sheet world out)
    ≡ rehearse_answer sheet world out)
unfolding answer_by longest sheet_in steps_in all_zeros_in recorded rehearsed all_zero all form_of number_at
rehearsal_rehearse_answer_room_by_the_record p =
    differ rehearsed_number (sym (long_right one one_long _ _) ∙ p blank one page tt one_bytes tt ∙ answered_there one one_long blank page) tt

pub rehearsal_rehearse_answer_bad_sheet_done : ¬ ((sheet world out : List ℕ) → T (in_bytes sheet) → T (in_bytes world) → T (in_bytes out)
    → (if eqb (length world) world_width && is_bad_sheet sheet then record { refused = None; length = length bad_of }
    else rehearse_answer sheet world out)
    ≡ rehearse_answer sheet world out)
unfolding answer_by sheet_in line digits
rehearsal_rehearse_answer_bad_sheet_done p =
    differ rehearsed_number (sym (long_right one one_long _ _) ∙ p [] one page tt one_bytes tt ∙ answered_there one one_long [] page) tt

pub rehearsal_rehearse_last_as_it_was : ¬ ((sheet world out : List ℕ) → T (in_bytes sheet) → T (in_bytes world) → T (in_bytes out)
    → world ≡ world_left sheet world out)
unfolding longest line digits sheet_in steps_in all_zeros_in last_world all_zero all form_of number_at
rehearsal_rehearse_last_as_it_was p = starts_differ (p blank two wide tt two_bytes tt ∙ left_there two two_long blank wide)

-- the steps are run though the record has no room
pub rehearsal_rehearse_last_run_without_room : ¬ ((sheet world out : List ℕ) → T (in_bytes sheet) → T (in_bytes world) → T (in_bytes out)
    → (if eqb (length world) world_width && not (is_bad_sheet sheet) then image (last_world (start (mask_in sheet)) (list_by (form_in sheet) sheet)) else world_left sheet world out) ≡ world_left sheet world out)
unfolding longest line digits sheet_in steps_in all_zeros_in last_world all_zero all form_of number_at
rehearsal_rehearse_last_run_without_room p =
    starts_differ (sym (sym (long_right two two_long _ _) ∙ p blank two narrow tt two_bytes tt ∙ left_there two two_long blank narrow))

pub rehearsal_rehearse_printed_nothing : ¬ ((sheet world out : List ℕ) → T (in_bytes sheet) → T (in_bytes world) → T (in_bytes out)
    → (if is_bad_sheet sheet then record_left sheet world out else out) ≡ record_left sheet world out)
unfolding laid_by longest sheet_in steps_in all_zeros_in recorded all_zero all form_of number_at
rehearsal_rehearse_printed_nothing p = differ (entry 0) (p blank one wide tt one_bytes tt ∙ printed_there one one_long blank wide) tt

pub rehearsal_rehearse_printed_bad_always : ¬ ((sheet world out : List ℕ) → T (in_bytes sheet) → T (in_bytes world) → T (in_bytes out)
    → laid out 0 bad_of ≡ record_left sheet world out)
unfolding laid laid_by longest sheet_in steps_in all_zeros_in recorded all_zero all form_of number_at
rehearsal_rehearse_printed_bad_always p = differ (entry 0) (p blank one wide tt one_bytes tt ∙ printed_there one one_long blank wide) tt

pub rehearsal_rehearse_printed_bad_in_part : ¬ ((sheet world out : List ℕ) → T (in_bytes sheet) → T (in_bytes world) → T (in_bytes out)
    → (if eqb (length world) world_width && is_bad_sheet sheet then laid out 0 bad_of else record_left sheet world out) ≡ record_left sheet world out)
unfolding laid laid_by sheet_in line digits
rehearsal_rehearse_printed_bad_in_part p =
    differ (entry 0) (sym (long_right one one_long _ _) ∙ p [] one narrow tt one_bytes tt ∙ printed_there one one_long [] narrow) tt

-- as much of a record as fits
pub rehearsal_rehearse_printed_cut_short : ¬ ((sheet world out : List ℕ) → T (in_bytes sheet) → T (in_bytes world) → T (in_bytes out)
    → (if eqb (length world) world_width && not (is_bad_sheet sheet) then laid out 0 (rehearsed sheet) else record_left sheet world out) ≡ record_left sheet world out)
unfolding laid laid_by longest sheet_in steps_in all_zeros_in recorded rehearsed all_zero all form_of number_at
rehearsal_rehearse_printed_cut_short p =
    differ (entry 0) (sym (long_right one one_long _ _) ∙ p blank one narrow tt one_bytes tt ∙ printed_there one one_long blank narrow) tt

-- the record of these steps, with these totals in its last line
abbrev pub with_totals : ℕ → List Step → ℕ → ℕ → ℕ → ℕ → List ℕ
with_totals mask ks sent delivered dropped waiting = start_of mask ++ (step_lines 1 (outcomes (start mask) ks) ++ end_of sent delivered dropped waiting)

-- lines numbered from 0
abbrev numbered : ℕ → List Step → List ℕ
numbered mask ks =
    let os = outcomes (start mask) ks in
    start_of mask ++ (step_lines 0 os ++ end_of (sum sent_by os) (sum delivered_by os) (sum dropped_by os) (waiting_in (last_world (start mask) ks).places))

pub rehearsal_rehearse_printed_numbers_from_0 : ¬ ((sheet world out : List ℕ) → T (in_bytes sheet) → T (in_bytes world) → T (in_bytes out)
    → (if eqb (length world) world_width && not (is_bad_sheet sheet) then laid out 0 (numbered (mask_in sheet) (list_by (form_in sheet) sheet)) else record_left sheet world out) ≡ record_left sheet world out)
unfolding laid laid_by longest sheet_in steps_in all_zeros_in recorded number_at all_zero all form_of
rehearsal_rehearse_printed_numbers_from_0 p =
    differ (entry 8) (sym (long_right one one_long _ _) ∙ p written one wide tt one_bytes tt ∙ printed_there one one_long written wide) tt

pub rehearsal_rehearse_printed_invented_totals : ¬ ((sheet world out : List ℕ) → T (in_bytes sheet) → T (in_bytes world) → T (in_bytes out)
    → (if eqb (length world) world_width && not (is_bad_sheet sheet) then laid out 0 (with_totals (mask_in sheet) (list_by (form_in sheet) sheet) 0 0 0 0) else record_left sheet world out) ≡ record_left sheet world out)
unfolding laid laid_by longest sheet_in steps_in all_zeros_in recorded number_at all_zero all form_of
rehearsal_rehearse_printed_invented_totals p =
    differ (entry 26) (sym (long_right one one_long _ _) ∙ p written one wide tt one_bytes tt ∙ printed_there one one_long written wide) tt

-- ---- engine

pub engine_world_good_always : ¬ ((w : List ℕ) → T (in_bytes w) → 0 ≡ good_number w)
engine_world_good_always p = differ itself (p soiled soiled_bytes ∙ ap (λ (b : Bool). if b then 0 else 1) soiled_bad) tt

pub engine_world_good_1_for_a_good_one : ¬ ((w : List ℕ) → T (in_bytes w) → (if good_bytes w then 1 else 0) ≡ good_number w)
engine_world_good_1_for_a_good_one p =
    differ itself (sym (ap (λ (b : Bool). if b then 1 else 0) one_good) ∙ p one one_bytes ∙ ap (λ (b : Bool). if b then 0 else 1) one_good) tt

pub engine_world_good_by_length_only : ¬ ((w : List ℕ) → T (in_bytes w) → (if eqb (length w) world_width then 0 else 1) ≡ good_number w)
engine_world_good_by_length_only p =
    differ itself (sym (ap (λ (n : ℕ). if eqb n 65536 then 0 else 1) soiled_long) ∙ p soiled soiled_bytes ∙ ap (λ (b : Bool). if b then 0 else 1) soiled_bad) tt

pub engine_world_start_answer_done_always : ¬ ((w : List ℕ) (mask : ℕ) → T (in_bytes w) → T (in_u8 mask) → 0 ≡ (lent_start w mask).answer)
unfolding lent_start
engine_world_start_answer_done_always p = differ itself (p [] 1 tt tt) tt

mask_0_there : (lent_start one 0).answer ≡ 2
unfolding lent_start
mask_0_there = rw (length-image (start 1))

pub engine_world_start_answer_mask_0_accepted : ¬ ((w : List ℕ) (mask : ℕ) → T (in_bytes w) → T (in_u8 mask)
    → (if eqb (length w) world_width && eqb mask 0 then 0 else (lent_start w mask).answer) ≡ (lent_start w mask).answer)
engine_world_start_answer_mask_0_accepted p = differ itself (sym (long_right one one_long _ _) ∙ p one 0 one_bytes tt ∙ mask_0_there) tt

pub engine_world_start_buffer_as_it_was : ¬ ((w : List ℕ) (mask : ℕ) → T (in_bytes w) → T (in_u8 mask) → w ≡ (lent_start w mask).buffer)
engine_world_start_buffer_as_it_was p = starts_differ (p two 1 two_bytes tt ∙ buffer_of_lem (start_of_lem two (length-image (start 2))))

-- nine bytes for what a step tells, and what is told there of a step of a good world
abbrev nine : List ℕ
nine = replicate 9 7

stepped_there : (W : World) → well_formed W ≡ true → (kind id value : ℕ)
    → told_step (image W) kind id value nine ≡ telling nine (left (image W) (stepped W (record { kind = kind; id = id; value = value })))
unfolding told_step
stepped_there W g kind id value = ap (telling nine) (step_of W g (record { kind = kind; id = id; value = value }))

answered : {x y : Stepped} → x ≡ y → x.answer ≡ y.answer
answered e = ap (λ (x : Stepped). x.answer) e

told_of_lem : {x y : Stepped} → x ≡ y → x.told ≡ y.told
told_of_lem e = ap (λ (x : Stepped). x.told) e

-- told that is too short
kept_there : (w : List ℕ) (kind id value : ℕ) → told_step w kind id value [] ≡ record { answer = 8; buffer = w; told = [] }
unfolding told_step
kept_there w kind id value = refl

pub engine_world_step_answer_refused_always : ¬ ((w : List ℕ) (kind id value : ℕ) (told : List ℕ) → T (in_bytes w) → T (in_u8 kind) → T (in_u8 id) → T (in_u32 value) → T (in_bytes told)
    → 1 ≡ (told_step w kind id value told).answer)
unfolding recorded
engine_world_step_answer_refused_always p = differ itself (p one 5 0 77 nine one_bytes tt tt tt tt ∙ answered (stepped_there (start 1) one_formed 5 0 77)) tt

-- the write is done, though nothing can be told
pub engine_world_step_answer_done_untold : ¬ ((w : List ℕ) (kind id value : ℕ) (told : List ℕ) → T (in_bytes w) → T (in_u8 kind) → T (in_u8 id) → T (in_u32 value) → T (in_bytes told)
    → (lent_step w (record { kind = kind; id = id; value = value })).answer ≡ (told_step w kind id value told).answer)
unfolding recorded
engine_world_step_answer_done_untold p =
    differ itself (sym (ap number (step_of (start 1) one_formed write)) ∙ p one 5 0 77 [] one_bytes tt tt tt tt ∙ answered (kept_there one 5 0 77)) tt

pub engine_world_step_buffer_as_it_was : ¬ ((w : List ℕ) (kind id value : ℕ) (told : List ℕ) → T (in_bytes w) → T (in_u8 kind) → T (in_u8 id) → T (in_u32 value) → T (in_bytes told)
    → w ≡ (told_step w kind id value told).buffer)
unfolding recorded
engine_world_step_buffer_as_it_was p = write_moves (p one 5 0 77 nine one_bytes tt tt tt tt ∙ ap (λ (x : Stepped). x.buffer) (stepped_there (start 1) one_formed 5 0 77))

-- an event is lost
pub engine_world_step_buffer_moved_untold : ¬ ((w : List ℕ) (kind id value : ℕ) (told : List ℕ) → T (in_bytes w) → T (in_u8 kind) → T (in_u8 id) → T (in_u32 value) → T (in_bytes told)
    → (lent_step w (record { kind = kind; id = id; value = value })).buffer ≡ (told_step w kind id value told).buffer)
unfolding recorded
engine_world_step_buffer_moved_untold p =
    write_moves (sym (ap (λ (x : Stepped). x.buffer) (kept_there one 5 0 77)) ∙ sym (p one 5 0 77 [] one_bytes tt tt tt tt) ∙ buffer_of_lem (step_of (start 1) one_formed write))

pub engine_world_step_columns_as_they_were : ¬ ((w : List ℕ) (kind id value : ℕ) (told : List ℕ) → T (in_bytes w) → T (in_u8 kind) → T (in_u8 id) → T (in_u32 value) → T (in_bytes told)
    → told ≡ (told_step w kind id value told).told)
unfolding recorded told_of cat bytes_of told_bytes
engine_world_step_columns_as_they_were p = differ (entry 0) (p one 5 0 77 nine one_bytes tt tt tt tt ∙ told_of_lem (stepped_there (start 1) one_formed 5 0 77)) tt

pub engine_world_step_columns_zeros_always : ¬ ((w : List ℕ) (kind id value : ℕ) (told : List ℕ) → T (in_bytes w) → T (in_u8 kind) → T (in_u8 id) → T (in_u32 value) → T (in_bytes told)
    → placed told 0 (zeros 9) ≡ (told_step w kind id value told).told)
unfolding recorded told_of cat bytes_of run zeros told_bytes placed splice
engine_world_step_columns_zeros_always p = differ (entry 0) (p (image ending) 6 0 0 nine (image_bytes ending ending_formed) tt tt tt tt ∙ told_of_lem (stepped_there ending ending_formed 6 0 0)) tt

-- nothing is there to deliver: EMPTY
pub engine_world_step_columns_told_by_a_refusal : ¬ ((w : List ℕ) (kind id value : ℕ) (told : List ℕ) → T (in_bytes w) → T (in_u8 kind) → T (in_u8 id) → T (in_u32 value) → T (in_bytes told)
    → placed told 0 (told_bytes (told_of (lent_step w (record { kind = kind; id = id; value = value })))) ≡ (told_step w kind id value told).told)
unfolding recorded told_of cat bytes_of told_bytes placed splice
engine_world_step_columns_told_by_a_refusal p =
    differ (entry 0)
    (sym (ap (λ (l : Lent). placed nine 0 (told_bytes (told_of l))) (step_of (start 1) one_formed deliver))
    ∙ p one 6 0 0 nine one_bytes tt tt tt tt
    ∙ told_of_lem (stepped_there (start 1) one_formed 6 0 0))
    tt

pub engine_sheet_check_never_bad : ¬ ((sheet : List ℕ) → T (in_bytes sheet) → 0 ≡ sheet_number sheet)
unfolding all_zeros_in all_zero all form_of number_at
engine_sheet_check_never_bad p = differ itself (p [] tt) tt

pub engine_sheet_check_bad_always : ¬ ((sheet : List ℕ) → T (in_bytes sheet) → 9 ≡ sheet_number sheet)
unfolding all_zeros_in all_zero all form_of number_at
engine_sheet_check_bad_always p = differ itself (p blank tt) tt

pub engine_sheet_check_1_for_a_bad_one : ¬ ((sheet : List ℕ) → T (in_bytes sheet) → (if is_bad_sheet sheet then 1 else 0) ≡ sheet_number sheet)
unfolding all_zeros_in all_zero all form_of number_at
engine_sheet_check_1_for_a_bad_one p = differ itself (p [] tt) tt

-- a kind and an id without a value, in a buffer with room
pub engine_sheet_write_answer_done_always : ¬ ((buf : List ℕ) (mask : ℕ) (kinds ids values : List ℕ) → T (in_bytes buf) → T (in_u8 mask) → T (in_bytes kinds) → T (in_bytes ids) → T (in_u32s values)
    → 0 ≡ sheets.number (writing.ruled buf mask kinds ids values))
unfolding writing.ruled
engine_sheet_write_answer_done_always p = differ itself (p page 1 (5 ∷ []) (0 ∷ []) [] tt tt tt tt tt) tt

pub engine_sheet_write_answer_of_the_shortest : ¬ ((buf : List ℕ) (mask : ℕ) (kinds ids values : List ℕ) → T (in_bytes buf) → T (in_u8 mask) → T (in_bytes kinds) → T (in_bytes ids) → T (in_u32s values)
    → sheets.number (sheets.written sheets.version1 buf mask (listed kinds ids values)) ≡ sheets.number (writing.ruled buf mask kinds ids values))
unfolding writing.ruled listed sheets.written sheets.sheet_bytes sheets.steps_bytes bytes_of
engine_sheet_write_answer_of_the_shortest p = differ itself (p page 1 (5 ∷ []) (0 ∷ []) [] tt tt tt tt tt) tt

pub engine_sheet_write_left_as_it_was : ¬ ((buf : List ℕ) (mask : ℕ) (kinds ids values : List ℕ) → T (in_bytes buf) → T (in_u8 mask) → T (in_bytes kinds) → T (in_bytes ids) → T (in_u32s values)
    → buf ≡ buffer_of buf (writing.ruled buf mask kinds ids values))
unfolding writing.ruled listed sheets.written sheets.sheet_bytes sheets.steps_bytes bytes_of
engine_sheet_write_left_as_it_was p = differ (entry 0) (p page 1 [] [] [] tt tt tt tt tt) tt

-- told too short for the length, and a world of no length: BAD WORLD
pub engine_sheet_rehearse_answer_done_always : ¬ ((sheet world out told : List ℕ) → T (in_bytes sheet) → T (in_bytes world) → T (in_bytes out) → T (in_bytes told)
    → 0 ≡ (told_rehearsal sheet world out told).answer)
unfolding told_rehearsal
engine_sheet_rehearse_answer_done_always p = differ itself (p blank one page [] tt one_bytes tt tt) tt

pub engine_sheet_rehearse_answer_before_told : ¬ ((sheet world out told : List ℕ) → T (in_bytes sheet) → T (in_bytes world) → T (in_bytes out) → T (in_bytes told)
    → number_told (rehearse_answer sheet world out).refused ≡ (told_rehearsal sheet world out told).answer)
unfolding rehearse_answer decided answer_by told_rehearsal
engine_sheet_rehearse_answer_before_told p = differ itself (p blank [] page [] tt tt tt tt) tt

pub engine_sheet_rehearse_last_run_untold : ¬ ((sheet world out told : List ℕ) → T (in_bytes sheet) → T (in_bytes world) → T (in_bytes out) → T (in_bytes told)
    → world_left sheet world out ≡ (told_rehearsal sheet world out told).last)
unfolding told_rehearsal longest line digits sheet_in steps_in all_zeros_in last_world all_zero all form_of number_at
engine_sheet_rehearse_last_run_untold p = starts_differ (sym (p blank two wide [] tt two_bytes tt tt) ∙ left_there two two_long blank wide)

pub engine_sheet_rehearse_printed_nothing : ¬ ((sheet world out told : List ℕ) → T (in_bytes sheet) → T (in_bytes world) → T (in_bytes out) → T (in_bytes told)
    → out ≡ (told_rehearsal sheet world out told).printed)
unfolding told_rehearsal laid_by longest sheet_in steps_in all_zeros_in recorded all_zero all form_of number_at
engine_sheet_rehearse_printed_nothing p = differ (entry 0) (p blank one wide (replicate 4 7) tt one_bytes tt tt ∙ printed_there one one_long blank wide) tt

pub engine_sheet_rehearse_length_told_by_a_refusal : ¬ ((sheet world out told : List ℕ) → T (in_bytes sheet) → T (in_bytes world) → T (in_bytes out) → T (in_bytes told)
    → placed told 0 (be32 (rehearse_answer sheet world out).length) ≡ (told_rehearsal sheet world out told).told)
unfolding rehearse_answer decided answer_by told_rehearsal bytes_of placed splice
engine_sheet_rehearse_length_told_by_a_refusal p = differ (entry 0) (p blank [] page (replicate 4 7) tt tt tt tt) tt

-- told after an answer
abbrev told_after : Rehearsed → List ℕ
told_after r = if eqb (rehearsed_number r) 0 then be32 r.length ++ [] else replicate 4 7

pub engine_sheet_rehearse_length_not_told : ¬ ((sheet world out told : List ℕ) → T (in_bytes sheet) → T (in_bytes world) → T (in_bytes out) → T (in_bytes told)
    → told ≡ (told_rehearsal sheet world out told).told)
unfolding told_rehearsal answer_by longest sheet_in steps_in all_zeros_in recorded rehearsed bytes_of all_zero all form_of number_at
engine_sheet_rehearse_length_not_told p = differ (entry 0) (p blank one wide (replicate 4 7) tt one_bytes tt tt ∙ ap told_after (answered_there one one_long blank wide)) tt

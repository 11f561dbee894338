-- Wrong programs that the promises rule out: sheet and record. Assumes nothing.
use Rattle.std.specs.Prelude.{if◌then◌else◌, Option, None, Some, Result, Ok, Err}
use Rattle.std.specs.Iterator.{YieldsFirst}
use Rattle.std.specs.Option.{option_map}
use mathlib.Core.Path.{◌≡◌}
use mathlib.Core.Bool.{not, ◌&&◌}
use mathlib.Core.List.{List, [], ◌∷◌, ◌++◌}
use Prim.Native.Nat.{ℕ, ◌+◌, ◌-◌, ◌*◌, ◌/◌, ◌%◌}
use lib.Dec.{T, eqb, leb, ltb}
use lib.ListN.{length, get_or, set, take, drop, replicate}
use denote.Ref.{Bor}
use Rattle.rows.specs.Bytes.{number_at, bytes_of, run, zeros}
use Rattle.rows.specs.Tests.{all, all_zero}
use Rattle.rules.specs.Sheets.{version1, form_of, value_at, step_width, step_in, all_zeros_in, steps_bytes, mark, mask_at, mask_in, header_width}
use Rattle.rules.specs.Sheets.{steps_of, is_bad_sheet, sheet_bytes, number, written}
use Rattle.rules.specs.Runs.{digits, decimal, line, start_word, bad_word, start_of, end_of, bad_of}
use Rattle.sheet.specs.Reading.{check_of, front_of, step_at, after_of, taken_at, steps_left}
use Rattle.sheet.specs.Writing.{listed, ruled, ruled_size, buffer_of, number_of, size_of}
use Rattle.sheet.specs.declared.Sheet.{Sheet}
use Rattle.sheet.specs.contracts.SheetPartialEq.TheImpl.{ghosts as sheet_partial_eq}
use Rattle.sheet.specs.declared.reader.Reader.{Reader}
use Rattle.rules.specs.declared.Refusal.{Refusal}
use Rattle.rules.specs.declared.Refusal.TheVariants.{NoRoom, BadSheet}
use Rattle.rules.specs.declared.Step.{Step}
use Rattle.record.specs.Lines.{laid, past, step_of}
use Rattle.certificate.proofs.Differ.{differ, itself, truth, entry}
use Rattle.certificate.proofs.Typed.{in_bytes, in_u16, in_u32, in_u32s, in_u8, in_usize, in_Reader, in_Sheet}

-- ---- sheet

-- the mark and version 0x0001, before the rest of a sheet
abbrev pub headed : List ℕ → List ℕ
headed rest = mark ++ (0 ∷ 1 ∷ rest)

abbrev is_bad : Result Sheet Refusal → ℕ
is_bad (Ok s) = 0
is_bad (Err x) = 1

-- a sheet that would be good with mask 1
pub sheet_check_mask_0_accepted : ¬ ((b : List ℕ) → T (in_bytes b)
    → (if eqb (mask_in b) 0 && not (is_bad_sheet (set b mask_at 1)) then Ok (record { mask = 0; steps = steps_of b }) else check_of b) ≡ check_of b)
unfolding all_zeros_in all_zero all form_of number_at check_of
sheet_check_mask_0_accepted p = differ is_bad (p (headed (0 ∷ [])) tt) tt

pub sheet_check_refused_always : ¬ ((b : List ℕ) → T (in_bytes b) → Err BadSheet ≡ check_of b)
unfolding all_zeros_in all_zero all form_of number_at check_of
sheet_check_refused_always p = differ is_bad (p (headed (1 ∷ [])) tt) tt

pub sheet_sheet_eq_by_mask : ¬ ((self other : Sheet) → T (in_Sheet self) → T (in_Sheet other) → eqb self.mask other.mask ≡ sheet_partial_eq.eq self other)
sheet_sheet_eq_by_mask p = differ truth (p (record { mask = 1; steps = 2 }) (record { mask = 1; steps = 3 }) tt tt) tt

pub sheet_sheet_eq_by_steps : ¬ ((self other : Sheet) → T (in_Sheet self) → T (in_Sheet other) → eqb self.steps other.steps ≡ sheet_partial_eq.eq self other)
sheet_sheet_eq_by_steps p = differ truth (p (record { mask = 1; steps = 2 }) (record { mask = 2; steps = 2 }) tt tt) tt

abbrev found : Option Step → ℕ
found None = 0
found (Some k) = 1 + k.value

-- two steps, WRITE 0 1 and WRITE 0 2
abbrev steps : List ℕ
steps = 5 ∷ 0 ∷ 0 ∷ 0 ∷ 0 ∷ 0 ∷ 0 ∷ 1 ∷ 5 ∷ 0 ∷ 0 ∷ 0 ∷ 0 ∷ 0 ∷ 0 ∷ 2 ∷ []

pub sheet_step_at_the_front_always : ¬ ((b : List ℕ) (at : ℕ) → T (in_bytes b) → T (in_usize at) → step_at b 0 ≡ step_at b at)
unfolding step_at number_at form_of
sheet_step_at_the_front_always p = differ found (p steps 8 tt tt) tt

-- four bytes, low byte first
abbrev low_first : List ℕ → ℕ → ℕ
low_first b at = ((get_or b (at + 3) 0 * 256 + get_or b (at + 2) 0) * 256 + get_or b (at + 1) 0) * 256 + get_or b at 0

pub sheet_step_at_low_byte_first : ¬ ((b : List ℕ) (at : ℕ) → T (in_bytes b) → T (in_usize at)
    → (if leb (at + step_width version1) (length b) then
    Some (record { kind = get_or b at 0; id = get_or b (at + 1) 0; value = low_first b (at + value_at version1) })
    else None)
    ≡ step_at b at)
unfolding step_at number_at form_of
sheet_step_at_low_byte_first p = differ found (p steps 0 tt tt) tt

pub sheet_step_at_past_the_end : ¬ ((b : List ℕ) (at : ℕ) → T (in_bytes b) → T (in_usize at) → Some (step_in version1 (drop at b)) ≡ step_at b at)
unfolding step_at number_at form_of
sheet_step_at_past_the_end p = differ found (p steps 16 tt tt) tt

pub sheet_after_stays : ¬ ((b : List ℕ) (at : ℕ) → T (in_bytes b) → T (in_usize at) → at ≡ after_of b at)
unfolding after_of form_of
sheet_after_stays p = differ itself (p steps 0 tt tt) tt

pub sheet_after_past_the_end : ¬ ((b : List ℕ) (at : ℕ) → T (in_bytes b) → T (in_usize at) → at + step_width version1 ≡ after_of b at)
unfolding after_of form_of
sheet_after_past_the_end p = differ itself (p steps 16 tt tt) tt

-- programs that answer as for the list, which is as long as the shortest of the three
abbrev sizes : ℕ → List ℕ → List ℕ → List ℕ → ℕ
sizes mask kinds ids values = length (sheet_bytes version1 mask (listed kinds ids values))

abbrev shortest : List ℕ → ℕ → List ℕ → List ℕ → List ℕ → Result ℕ Refusal
shortest buf mask kinds ids values =
    if eqb mask 0 then Err BadSheet
    else if ltb (length buf) (sizes mask kinds ids values) then Err NoRoom
    else Ok (sizes mask kinds ids values)

-- NO ROOM first
abbrev room_first : List ℕ → ℕ → List ℕ → List ℕ → List ℕ → Result ℕ Refusal
room_first buf mask kinds ids values = if ltb (length buf) (sizes mask kinds ids values) then Err NoRoom else shortest buf mask kinds ids values

pub sheet_write_answer_done_always : ¬ ((buf : List ℕ) (mask : ℕ) (kinds ids values : List ℕ) → T (in_bytes buf) → T (in_u8 mask) → T (in_bytes kinds) → T (in_bytes ids) → T (in_u32s values)
    → (number_of (Ok (sizes mask kinds ids values)) ≡ number (ruled buf mask kinds ids values))
    × (size_of (Ok (sizes mask kinds ids values)) ≡ ruled_size buf mask kinds ids values))
unfolding steps_bytes sheet_bytes written listed ruled bytes_of
sheet_write_answer_done_always p = differ itself (p [] 1 [] [] [] tt tt tt tt tt).0 tt

pub sheet_write_answer_no_room_before_bad_sheet : ¬ ((buf : List ℕ) (mask : ℕ) (kinds ids values : List ℕ) → T (in_bytes buf) → T (in_u8 mask) → T (in_bytes kinds) → T (in_bytes ids) → T (in_u32s values)
    → (number_of (room_first buf mask kinds ids values) ≡ number (ruled buf mask kinds ids values)) × (size_of (room_first buf mask kinds ids values) ≡ ruled_size buf mask kinds ids values))
unfolding steps_bytes sheet_bytes written listed ruled bytes_of
sheet_write_answer_no_room_before_bad_sheet p = differ itself (p [] 0 [] [] [] tt tt tt tt tt).0 tt

-- a kind and an id without a value
pub sheet_write_answer_the_shortest_counts : ¬ ((buf : List ℕ) (mask : ℕ) (kinds ids values : List ℕ) → T (in_bytes buf) → T (in_u8 mask) → T (in_bytes kinds) → T (in_bytes ids) → T (in_u32s values)
    → (number_of (shortest buf mask kinds ids values) ≡ number (ruled buf mask kinds ids values)) × (size_of (shortest buf mask kinds ids values) ≡ ruled_size buf mask kinds ids values))
unfolding steps_bytes sheet_bytes written listed ruled bytes_of
sheet_write_answer_the_shortest_counts p = differ itself (p (replicate 7 9) 1 (5 ∷ []) (0 ∷ []) [] tt tt tt tt tt).0 tt

pub sheet_write_answer_size_of_the_buffer : ¬ ((buf : List ℕ) (mask : ℕ) (kinds ids values : List ℕ) → T (in_bytes buf) → T (in_u8 mask) → T (in_bytes kinds) → T (in_bytes ids) → T (in_u32s values)
    → (number_of (if ltb (length buf) (header_width version1) then Err NoRoom else Ok (length buf)) ≡ number (ruled buf mask kinds ids values))
    × (size_of (if ltb (length buf) (header_width version1) then Err NoRoom else Ok (length buf)) ≡ ruled_size buf mask kinds ids values))
unfolding steps_bytes sheet_bytes written listed ruled ruled_size bytes_of
sheet_write_answer_size_of_the_buffer p = differ itself (p (replicate 7 9) 1 [] [] [] tt tt tt tt tt).1 tt

pub sheet_write_left_as_it_was : ¬ ((buf : List ℕ) (mask : ℕ) (kinds ids values : List ℕ) → T (in_bytes buf) → T (in_u8 mask) → T (in_bytes kinds) → T (in_bytes ids) → T (in_u32s values)
    → buf ≡ buffer_of buf (ruled buf mask kinds ids values))
unfolding steps_bytes sheet_bytes written listed ruled bytes_of
sheet_write_left_as_it_was p = differ (entry 0) (p (replicate 7 9) 1 [] [] [] tt tt tt tt tt) tt

pub sheet_write_left_cleared_past_the_sheet : ¬ ((buf : List ℕ) (mask : ℕ) (kinds ids values : List ℕ) → T (in_bytes buf) → T (in_u8 mask) → T (in_bytes kinds) → T (in_bytes ids) → T (in_u32s values)
    → laid (zeros (length buf)) 0 (sheet_bytes version1 mask (listed kinds ids values)) ≡ buffer_of buf (ruled buf mask kinds ids values))
unfolding run zeros laid steps_bytes sheet_bytes written listed ruled bytes_of
sheet_write_left_cleared_past_the_sheet p = differ (entry 6) (p (replicate 7 9) 1 [] [] [] tt tt tt tt tt) tt

pub sheet_write_left_the_shortest_written : ¬ ((buf : List ℕ) (mask : ℕ) (kinds ids values : List ℕ) → T (in_bytes buf) → T (in_u8 mask) → T (in_bytes kinds) → T (in_bytes ids) → T (in_u32s values)
    → buffer_of buf (written version1 buf mask (listed kinds ids values)) ≡ buffer_of buf (ruled buf mask kinds ids values))
unfolding steps_bytes sheet_bytes written listed ruled bytes_of
sheet_write_left_the_shortest_written p = differ (entry 0) (p (replicate 7 9) 1 (5 ∷ []) (0 ∷ []) [] tt tt tt tt tt) tt

-- a reader over bytes that stand somewhere, and the sheet of the two steps with mask 1
abbrev reader : Bor (List ℕ) → ℕ → Reader
reader bytes at = record { sheet = bytes; at = at }

abbrev lent : Bor (List ℕ)
lent = record { ref_ptr = (0, 0); now = headed (1 ∷ steps) }

pub sheet_new_before_the_mark : ¬ ((sheet : Bor (List ℕ)) → T (in_bytes sheet.now)
    → ((reader sheet 0).sheet ≡ sheet) × ((reader sheet 0).at ≡ front_of sheet.now))
sheet_new_before_the_mark p = differ itself (p lent tt).1 tt

pub sheet_new_past_the_first_step : ¬ ((sheet : Bor (List ℕ)) → T (in_bytes sheet.now)
    → ((reader sheet 14).sheet ≡ sheet) × ((reader sheet 14).at ≡ front_of sheet.now))
sheet_new_past_the_first_step p = differ itself (p lent tt).1 tt

-- of a reader, the step that is given, and the reader past it
pub sheet_reader_next_the_first_again : ¬ ((self : Reader) → T (in_Reader self)
    → (step_at self.sheet.now (front_of self.sheet.now) ≡ step_at self.sheet.now self.at)
    × (((reader self.sheet (after_of self.sheet.now self.at)).sheet ≡ self.sheet)
    × ((reader self.sheet (after_of self.sheet.now self.at)).at ≡ after_of self.sheet.now self.at))
    × YieldsFirst steps_left self (step_at self.sheet.now (front_of self.sheet.now)) (reader self.sheet (after_of self.sheet.now self.at)))
unfolding step_at number_at form_of
sheet_reader_next_the_first_again p = differ found (p (reader lent 14) tt).0 tt

pub sheet_reader_next_the_one_after : ¬ ((self : Reader) → T (in_Reader self)
    → (step_at self.sheet.now (self.at + step_width version1) ≡ step_at self.sheet.now self.at)
    × (((reader self.sheet (after_of self.sheet.now self.at)).sheet ≡ self.sheet)
    × ((reader self.sheet (after_of self.sheet.now self.at)).at ≡ after_of self.sheet.now self.at))
    × YieldsFirst steps_left self (step_at self.sheet.now (self.at + step_width version1)) (reader self.sheet (after_of self.sheet.now self.at)))
unfolding step_at number_at form_of
sheet_reader_next_the_one_after p = differ found (p (reader lent 6) tt).0 tt

pub sheet_reader_next_not_moved : ¬ ((self : Reader) → T (in_Reader self)
    → (step_at self.sheet.now self.at ≡ step_at self.sheet.now self.at)
    × ((self.sheet ≡ self.sheet) × (self.at ≡ after_of self.sheet.now self.at))
    × YieldsFirst steps_left self (step_at self.sheet.now self.at) self)
unfolding after_of form_of
sheet_reader_next_not_moved p = differ itself (p (reader lent 6) tt).1.1 tt

pub sheet_reader_next_moved_past_the_end : ¬ ((self : Reader) → T (in_Reader self)
    → (step_at self.sheet.now self.at ≡ step_at self.sheet.now self.at)
    × (((reader self.sheet (self.at + step_width version1)).sheet ≡ self.sheet)
    × ((reader self.sheet (self.at + step_width version1)).at ≡ after_of self.sheet.now self.at))
    × YieldsFirst steps_left self (step_at self.sheet.now self.at) (reader self.sheet (self.at + step_width version1)))
unfolding after_of form_of
sheet_reader_next_moved_past_the_end p = differ itself (p (reader lent 22) tt).1.1 tt

-- of what is read at a position: the step's value, and the position past it
abbrev value_read : Option (Step × ℕ) → ℕ
value_read None = 0
value_read (Some (k, past)) = 1 + k.value

abbrev past_read : Option (Step × ℕ) → ℕ
past_read None = 0
past_read (Some (k, past)) = past

pub sheet_read_at_the_front_always : ¬ ((sheet : List ℕ) (at : ℕ) → T (in_bytes sheet) → T (in_usize at) → taken_at sheet 0 ≡ taken_at sheet at)
unfolding taken_at number_at form_of
sheet_read_at_the_front_always p = differ value_read (p steps 8 tt tt) tt

pub sheet_read_at_without_moving : ¬ ((sheet : List ℕ) (at : ℕ) → T (in_bytes sheet) → T (in_usize at)
    → option_map (λ (k : Step). (k, at)) (step_at sheet at) ≡ taken_at sheet at)
unfolding step_at taken_at form_of
sheet_read_at_without_moving p = differ past_read (p steps 0 tt tt) tt

-- ---- record; a buffer of 20 bytes

abbrev page : List ℕ
page = replicate 20 0

pub record_put_position_stays : ¬ ((out : List ℕ) (at x : ℕ) → T (in_bytes out) → T (in_usize at) → T (in_u8 x) → at ≡ past at (x ∷ []))
record_put_position_stays p = differ itself (p [] 0 7 tt tt tt) tt

pub record_put_bytes_one_too_far : ¬ ((out : List ℕ) (at x : ℕ) → T (in_bytes out) → T (in_usize at) → T (in_u8 x)
    → laid out (at + 1) (x ∷ []) ≡ laid out at (x ∷ []))
unfolding laid
record_put_bytes_one_too_far p = differ (entry 0) (p page 0 7 tt tt tt) tt

pub record_put_number_position_of_one_digit : ¬ ((out : List ℕ) (at n : ℕ) → T (in_bytes out) → T (in_usize at) → T (in_u32 n) → at + 1 ≡ past at (decimal n))
unfolding digits
record_put_number_position_of_one_digit p = differ itself (p [] 0 12 tt tt tt) tt

pub record_put_number_bytes_last_digit_first : ¬ ((out : List ℕ) (at n : ℕ) → T (in_bytes out) → T (in_usize at) → T (in_u32 n)
    → laid out at ((48 + n % 10) ∷ (if ltb n 10 then [] else decimal (n / 10))) ≡ laid out at (decimal n))
unfolding laid digits
record_put_number_bytes_last_digit_first p = differ (entry 0) (p page 0 12 tt tt tt) tt

pub record_put_number_bytes_leading_zero : ¬ ((out : List ℕ) (at n : ℕ) → T (in_bytes out) → T (in_usize at) → T (in_u32 n)
    → laid out at (48 ∷ decimal n) ≡ laid out at (decimal n))
unfolding laid digits
record_put_number_bytes_leading_zero p = differ (entry 0) (p page 0 7 tt tt tt) tt

pub record_put_line_position_of_one_number : ¬ ((out : List ℕ) (at : ℕ) (numbers : List ℕ) → T (in_bytes out) → T (in_usize at) → T (in_u32s numbers)
    → past at (line (get_or numbers 0 0 ∷ [])) ≡ past at (line numbers))
unfolding digits line
record_put_line_position_of_one_number p = differ itself (p [] 0 (7 ∷ 8 ∷ []) tt tt tt) tt

pub record_put_line_bytes_without_newline : ¬ ((out : List ℕ) (at : ℕ) (numbers : List ℕ) → T (in_bytes out) → T (in_usize at) → T (in_u32s numbers)
    → laid out at (take (length (line numbers) - 1) (line numbers)) ≡ laid out at (line numbers))
unfolding laid digits line
record_put_line_bytes_without_newline p = differ (entry 1) (p page 0 (7 ∷ []) tt tt tt) tt

pub record_put_line_bytes_first_number_only : ¬ ((out : List ℕ) (at : ℕ) (numbers : List ℕ) → T (in_bytes out) → T (in_usize at) → T (in_u32s numbers)
    → laid out at (line (get_or numbers 0 0 ∷ [])) ≡ laid out at (line numbers))
unfolding laid digits line
record_put_line_bytes_first_number_only p = differ (entry 2) (p page 0 (7 ∷ 8 ∷ []) tt tt tt) tt

pub record_put_word_position_stays : ¬ ((out : List ℕ) (at : ℕ) (word : List ℕ) → T (in_bytes out) → T (in_usize at) → T (in_bytes word) → at ≡ past at word)
record_put_word_position_stays p = differ itself (p [] 0 (97 ∷ []) tt tt tt) tt

pub record_put_word_bytes_with_newline : ¬ ((out : List ℕ) (at : ℕ) (word : List ℕ) → T (in_bytes out) → T (in_usize at) → T (in_bytes word)
    → laid out at (word ++ (10 ∷ [])) ≡ laid out at word)
unfolding laid
record_put_word_bytes_with_newline p = differ (entry 1) (p page 0 (97 ∷ []) tt tt tt) tt

pub record_put_start_bytes_without_the_mask : ¬ ((out : List ℕ) (mask : ℕ) → T (in_bytes out) → T (in_u8 mask)
    → laid out 0 (start_word ++ line []) ≡ laid out 0 (start_of mask))
unfolding laid digits line
record_put_start_bytes_without_the_mask p = differ (entry 6) (p page 7 tt tt) tt

pub record_put_start_position_of_one_digit : ¬ ((out : List ℕ) (mask : ℕ) → T (in_bytes out) → T (in_u8 mask) → 8 ≡ past 0 (start_of mask))
unfolding digits line
record_put_start_position_of_one_digit p = differ itself (p [] 255 tt tt) tt

pub record_put_step_position_of_single_digits : ¬ ((out : List ℕ) (at number answer event who count desk last : ℕ) → T (in_bytes out) → T (in_usize at) → T (in_u32 number) → T (in_u8 answer) → T (in_u8 event) → T (in_u8 who) → T (in_u16 count) → T (in_u8 desk) → T (in_u32 last)
    → past at (step_of 0 0 0 0 0 0 0) ≡ past at (step_of number answer event who count desk last))
unfolding digits line
record_put_step_position_of_single_digits p = differ itself (p [] 0 10 0 0 0 0 0 0 tt tt tt tt tt tt tt tt tt) tt

pub record_put_step_bytes_numbered_from_0 : ¬ ((out : List ℕ) (at number answer event who count desk last : ℕ) → T (in_bytes out) → T (in_usize at) → T (in_u32 number) → T (in_u8 answer) → T (in_u8 event) → T (in_u8 who) → T (in_u16 count) → T (in_u8 desk) → T (in_u32 last)
    → laid out at (step_of (number - 1) answer event who count desk last) ≡ laid out at (step_of number answer event who count desk last))
unfolding laid digits line
record_put_step_bytes_numbered_from_0 p = differ (entry 0) (p page 0 1 0 0 0 0 0 0 tt tt tt tt tt tt tt tt tt) tt

pub record_put_step_bytes_event_for_answer : ¬ ((out : List ℕ) (at number answer event who count desk last : ℕ) → T (in_bytes out) → T (in_usize at) → T (in_u32 number) → T (in_u8 answer) → T (in_u8 event) → T (in_u8 who) → T (in_u16 count) → T (in_u8 desk) → T (in_u32 last)
    → laid out at (step_of number event answer who count desk last) ≡ laid out at (step_of number answer event who count desk last))
unfolding laid digits line
record_put_step_bytes_event_for_answer p = differ (entry 2) (p page 0 5 0 3 0 1 0 77 tt tt tt tt tt tt tt tt tt) tt

pub record_put_end_position_of_single_digits : ¬ ((out : List ℕ) (at sent delivered dropped waiting : ℕ) → T (in_bytes out) → T (in_usize at) → T (in_u32 sent) → T (in_u32 delivered) → T (in_u32 dropped) → T (in_u32 waiting)
    → past at (end_of 0 0 0 0) ≡ past at (end_of sent delivered dropped waiting))
unfolding digits line
record_put_end_position_of_single_digits p = differ itself (p [] 0 10 10 0 0 tt tt tt tt tt tt) tt

pub record_put_end_bytes_invented : ¬ ((out : List ℕ) (at sent delivered dropped waiting : ℕ) → T (in_bytes out) → T (in_usize at) → T (in_u32 sent) → T (in_u32 delivered) → T (in_u32 dropped) → T (in_u32 waiting)
    → laid out at (end_of 0 0 0 0) ≡ laid out at (end_of sent delivered dropped waiting))
unfolding laid digits line
record_put_end_bytes_invented p = differ (entry 4) (p page 0 6 6 0 0 tt tt tt tt tt tt) tt

pub record_put_end_bytes_dropped_for_delivered : ¬ ((out : List ℕ) (at sent delivered dropped waiting : ℕ) → T (in_bytes out) → T (in_usize at) → T (in_u32 sent) → T (in_u32 delivered) → T (in_u32 dropped) → T (in_u32 waiting)
    → laid out at (end_of sent dropped delivered waiting) ≡ laid out at (end_of sent delivered dropped waiting))
unfolding laid digits line
record_put_end_bytes_dropped_for_delivered p = differ (entry 6) (p page 0 6 6 0 0 tt tt tt tt tt tt) tt

pub record_put_bad_position_before_the_newline : ¬ ((out : List ℕ) → T (in_bytes out) → 5 ≡ past 0 bad_of)
unfolding digits line
record_put_bad_position_before_the_newline p = differ itself (p [] tt) tt

pub record_put_bad_bytes_of_another_number : ¬ ((out : List ℕ) → T (in_bytes out) → laid out 0 (bad_word ++ line (8 ∷ [])) ≡ laid out 0 bad_of)
unfolding laid digits line
record_put_bad_bytes_of_another_number p = differ (entry 4) (p page tt) tt

pub record_put_bad_bytes_none : ¬ ((out : List ℕ) → T (in_bytes out) → out ≡ laid out 0 bad_of)
unfolding laid digits line
record_put_bad_bytes_none p = differ (entry 0) (p page tt) tt

-- Wrong programs that the promises rule out, two or more for every public function: views, stamps, rows and rules. Each line says that the promise, with a
-- wrong program in the place of the result, does not hold for every input; its name says what the program does; its proof names an input at which the two
-- differ, one that the function's parameters can have, and the difference is computed. Assumes nothing.
use Rattle.std.specs.Prelude.{if◌then◌else◌, Option, None, Some, Result, Ok, Err}
use Rattle.std.specs.Ordering.{ordering_then, nat_cmp}
use Rattle.std.specs.declared.cmp.Ordering.{Ordering}
use Rattle.std.specs.declared.cmp.Ordering.TheVariants.{Less, Equal, Greater}
use mathlib.Core.Path.{◌≡◌}
use mathlib.Core.Bool.{true, false, not, ◌&&◌, cond}
use mathlib.Core.List.{List, [], ◌∷◌, ◌++◌}
use Prim.Native.Nat.{ℕ, ◌+◌, ◌-◌, ◌*◌, ◌/◌, ◌%◌, ◌≤◌, min, max}
use lib.Bits.{bit_and, bit_or}
use lib.Count.{ones, ones_in}
use lib.Dec.{T, eqb, leb, ltb}
use lib.IntN.{ℤ, pos, negsuc}
use lib.ListN.{length, get_or, take, drop, replicate}
use Rattle.views.specs.Choice.{those}
use Rattle.views.specs.View.{bit_of, members_of, member_of, quorum_of, reaches_of, within_of, inside_of, clash_of}
use Rattle.views.specs.Chain.{some, has_of, lacks_of, conflict_of, same_of, least_of, most_of, plus_of, union_of, heard_of, beyond_of, above_of}
use Rattle.views.specs.Row.{views_of, row_of}
use Rattle.views.specs.declared.Sequence.{Sequence}
use Rattle.stamps.specs.Stamp.{sign_of, compared_of, greater_of, greatest_of, fresh_pair}
use Rattle.stamps.specs.Stamp as stamps
use Rattle.stamps.specs.declared.Stamp.{Stamp}
use Rattle.stamps.specs.declared.Pair.{Pair}
use Rattle.stamps.specs.contracts.StampPartialEq.TheImpl.{ghosts as stamp_partial_eq}
use Rattle.stamps.specs.contracts.StampPartialOrd.TheImpl.{ghosts as stamp_partial_ord}
use Rattle.stamps.specs.contracts.StampOrd.TheImpl.{ghosts as stamp_ord}
use Rattle.stamps.specs.contracts.StampDefault.TheImpl.{ghosts as stamp_default}
use Rattle.stamps.specs.contracts.PairPartialEq.TheImpl.{ghosts as pair_partial_eq}
use Rattle.stamps.specs.contracts.PairDefault.TheImpl.{ghosts as pair_default}
use Rattle.rows.specs.Bytes.{splice, placed, bytes_of, fields_of, field_bytes, fields_bytes, number_at, be16, u16_at, u32_at, run, zeros}
use Rattle.rows.specs.Tests.{all, all_zero}
use Rattle.rows.specs.declared.Field.{Field}
use Rattle.rows.specs.declared.Field.TheVariants.{Byte}
use Rattle.rules.specs.Coded.{number_of, kind_number, kind_told}
use Rattle.rules.specs.declared.Refusal.{Refusal}
use Rattle.rules.specs.declared.Refusal.TheVariants.{BadWorld, BadStep, BadSheet}
use Rattle.rules.specs.declared.StepKind.{StepKind}
use Rattle.rules.specs.declared.StepKind.TheVariants.{Join, Crash}
use Rattle.rules.specs.Desks.{cleared, begun, ended}
use Rattle.layout.specs.Image.{phase_number}
use Rattle.rules.specs.declared.Desk.{Desk}
use Rattle.rules.specs.declared.Phase.{Phase}
use Rattle.rules.specs.declared.Phase.TheVariants.{Idle, Read1}
use Rattle.rules.specs.declared.Step.{Step}
use Rattle.rules.specs.contracts.RefusalPartialEq.TheImpl.{ghosts as refusal_partial_eq}
use Rattle.rules.specs.contracts.StepKindPartialEq.TheImpl.{ghosts as step_kind_partial_eq}
use Rattle.rules.specs.contracts.PhasePartialEq.TheImpl.{ghosts as phase_partial_eq}
use Rattle.rules.specs.contracts.StepPartialEq.TheImpl.{ghosts as step_partial_eq}
use Rattle.certificate.proofs.Differ.{differ, itself, truth, entry}
use Rattle.certificate.proofs.Typed.{in_bytes, in_u16, in_u32s, in_u8, in_usize, slice, in_Desk, in_Field, in_Pair, in_Sequence, in_Stamp, in_Step}

-- ---- views

pub views_members_who_left_too : ¬ ((v : ℕ) → T (in_u16 v) → v % 256 ≡ members_of v)
views_members_who_left_too p = differ itself (p 257 tt) tt

pub views_members_who_left : ¬ ((v : ℕ) → T (in_u16 v) → v / 256 ≡ members_of v)
views_members_who_left p = differ itself (p 1 tt) tt

pub views_is_member_who_left_too : ¬ ((v s : ℕ) → T (in_u16 v) → T (in_u8 s) → bit_of v s ≡ member_of v s)
unfolding member_of
views_is_member_who_left_too p = differ truth (p 257 0 tt tt) tt

pub views_is_member_counted_from_one : ¬ ((v s : ℕ) → T (in_u16 v) → T (in_u8 s) → bit_of (members_of v) (s - 1) ≡ member_of v s)
unfolding member_of
views_is_member_counted_from_one p = differ truth (p 1 1 tt tt) tt

pub views_quorum_half : ¬ ((v : ℕ) → T (in_u16 v) → ones (members_of v) / 2 ≡ quorum_of v)
unfolding ones ones_in
views_quorum_half p = differ itself (p 1 tt) tt

pub views_quorum_half_rounded_up : ¬ ((v : ℕ) → T (in_u16 v) → (ones (members_of v) + 1) / 2 ≡ quorum_of v)
unfolding ones ones_in
views_quorum_half_rounded_up p = differ itself (p 3 tt) tt

pub views_reaches_by_half : ¬ ((v who : ℕ) → T (in_u16 v) → T (in_u8 who) → leb (ones (members_of v) / 2) (ones (bit_and who (members_of v))) ≡ reaches_of v who)
unfolding ones ones_in reaches_of
views_reaches_by_half p = differ truth (p 3 1 tt tt) tt

pub views_reaches_by_others_too : ¬ ((v who : ℕ) → T (in_u16 v) → T (in_u8 who) → leb (quorum_of v) (ones who) ≡ reaches_of v who)
unfolding ones ones_in reaches_of
views_reaches_by_others_too p = differ truth (p 3 12 tt tt) tt

pub views_within_by_size : ¬ ((a b : ℕ) → T (in_u16 a) → T (in_u16 b) → leb a b ≡ within_of a b)
views_within_by_size p = differ truth (p 1 2 tt tt) tt

pub views_within_the_other_way : ¬ ((a b : ℕ) → T (in_u16 a) → T (in_u16 b) → within_of b a ≡ within_of a b)
views_within_the_other_way p = differ truth (p 1 3 tt tt) tt

pub views_inside_itself : ¬ ((a b : ℕ) → T (in_u16 a) → T (in_u16 b) → within_of a b ≡ inside_of a b)
unfolding inside_of
views_inside_itself p = differ truth (p 1 1 tt tt) tt

pub views_inside_by_size : ¬ ((a b : ℕ) → T (in_u16 a) → T (in_u16 b) → ltb a b ≡ inside_of a b)
unfolding inside_of
views_inside_by_size p = differ truth (p 1 2 tt tt) tt

-- "Treating equal views as a conflict"
pub views_clash_of_equals : ¬ ((a b : ℕ) → T (in_u16 a) → T (in_u16 b) → not (inside_of a b) && not (inside_of b a) ≡ clash_of a b)
unfolding inside_of clash_of
views_clash_of_equals p = differ truth (p 1 1 tt tt) tt

pub views_clash_wherever_they_differ : ¬ ((a b : ℕ) → T (in_u16 a) → T (in_u16 b) → not (eqb a b) ≡ clash_of a b)
unfolding inside_of clash_of
views_clash_wherever_they_differ p = differ truth (p 1 3 tt tt) tt

pub views_join_added : ¬ ((a b : ℕ) → T (in_u16 a) → T (in_u16 b) → a + b ≡ bit_or a b)
views_join_added p = differ itself (p 1 1 tt tt) tt

pub views_join_what_both_have : ¬ ((a b : ℕ) → T (in_u16 a) → T (in_u16 b) → bit_and a b ≡ bit_or a b)
views_join_what_both_have p = differ itself (p 1 2 tt tt) tt

-- of a row: how many views it says it has, and an entry, used or not
abbrev len : Sequence → ℕ
len q = q.len

abbrev at : ℕ → Sequence → ℕ
at i q = get_or q.views i 0

-- a row with nothing in it whose unused entries are not zero; one with too great a length
abbrev unclean : Sequence
unclean = record { views = replicate 15 7; len = 0 }

abbrev overlong : Sequence
overlong = record { views = replicate 15 7; len = 16 }

pub views_empty_unclean : ¬ (unclean ≡ row_of [])
unfolding row_of
views_empty_unclean p = differ (at 0) p tt

pub views_empty_with_view_0 : ¬ (row_of (0 ∷ []) ≡ row_of [])
unfolding row_of
views_empty_with_view_0 p = differ len p tt

pub views_count_past_fifteen : ¬ ((q : Sequence) → T (in_Sequence q) → (q.len ≡ length (views_of q)) × (q.len ≤ 15))
unfolding views_of
views_count_past_fifteen p = differ itself (p overlong tt).0 tt

pub views_count_of_the_room : ¬ ((q : Sequence) → T (in_Sequence q) → (15 ≡ length (views_of q)) × (15 ≤ 15))
unfolding views_of
views_count_of_the_room p = differ itself (p unclean tt).0 tt

pub views_view_at_past_the_length : ¬ ((q : Sequence) (i : ℕ) → T (in_Sequence q) → T (in_usize i) → get_or q.views i 0 ≡ get_or (views_of q) i 0)
unfolding views_of
views_view_at_past_the_length p = differ itself (p unclean 0 tt tt) tt

pub views_view_at_the_next : ¬ ((q : Sequence) (i : ℕ) → T (in_Sequence q) → T (in_usize i) → get_or (views_of q) (i + 1) 0 ≡ get_or (views_of q) i 0)
unfolding views_of row_of
views_view_at_the_next p = differ itself (p (row_of (3 ∷ 7 ∷ [])) 0 tt tt) tt

pub views_kept_as_it_is : ¬ ((q : Sequence) → T (in_Sequence q) → q ≡ row_of (views_of q))
unfolding views_of row_of
views_kept_as_it_is p = differ (at 0) (p unclean tt) tt

pub views_kept_emptied : ¬ ((q : Sequence) → T (in_Sequence q) → row_of [] ≡ row_of (views_of q))
unfolding views_of row_of
views_kept_emptied p = differ len (p (row_of (3 ∷ [])) tt) tt

pub views_has_first_only : ¬ ((q : Sequence) (v : ℕ) → T (in_Sequence q) → T (in_u16 v) → eqb (least_of (views_of q)) v ≡ has_of (views_of q) v)
unfolding views_of row_of some
views_has_first_only p = differ truth (p (row_of (3 ∷ 7 ∷ [])) 7 tt tt) tt

pub views_has_unused_entries : ¬ ((q : Sequence) (v : ℕ) → T (in_Sequence q) → T (in_u16 v) → has_of q.views v ≡ has_of (views_of q) v)
unfolding views_of row_of some
views_has_unused_entries p = differ truth (p unclean 7 tt tt) tt

pub views_lacks_the_other_way : ¬ ((q own : Sequence) → T (in_Sequence q) → T (in_Sequence own)
    → lacks_of (views_of own) (views_of q) ≡ lacks_of (views_of q) (views_of own))
unfolding views_of row_of some
views_lacks_the_other_way p = differ truth (p (row_of (3 ∷ [])) (row_of (3 ∷ 7 ∷ [])) tt tt) tt

pub views_lacks_by_length : ¬ ((q own : Sequence) → T (in_Sequence q) → T (in_Sequence own)
    → ltb (length (views_of own)) (length (views_of q)) ≡ lacks_of (views_of q) (views_of own))
unfolding views_of row_of some
views_lacks_by_length p = differ truth (p (row_of (5 ∷ [])) (row_of (3 ∷ [])) tt tt) tt

pub views_conflict_of_equals : ¬ ((q own : Sequence) → T (in_Sequence q) → T (in_Sequence own)
    → some (λ v. some (λ w. not (inside_of v w) && not (inside_of w v)) (views_of own)) (views_of q) ≡ conflict_of (views_of q) (views_of own))
unfolding views_of row_of some inside_of clash_of
views_conflict_of_equals p = differ truth (p (row_of (3 ∷ [])) (row_of (3 ∷ [])) tt tt) tt

pub views_conflict_wherever_new : ¬ ((q own : Sequence) → T (in_Sequence q) → T (in_Sequence own)
    → lacks_of (views_of q) (views_of own) ≡ conflict_of (views_of q) (views_of own))
unfolding views_of row_of some inside_of clash_of
views_conflict_wherever_new p = differ truth (p (row_of (7 ∷ [])) (row_of (3 ∷ [])) tt tt) tt

pub views_same_by_length : ¬ ((a b : Sequence) → T (in_Sequence a) → T (in_Sequence b)
    → eqb (length (views_of a)) (length (views_of b)) ≡ same_of (views_of a) (views_of b))
unfolding views_of row_of same_of
views_same_by_length p = differ truth (p (row_of (3 ∷ [])) (row_of (5 ∷ [])) tt tt) tt

pub views_same_by_the_most : ¬ ((a b : Sequence) → T (in_Sequence a) → T (in_Sequence b)
    → eqb (most_of (views_of a)) (most_of (views_of b)) ≡ same_of (views_of a) (views_of b))
unfolding views_of row_of same_of
views_same_by_the_most p = differ truth (p (row_of (7 ∷ [])) (row_of (3 ∷ 7 ∷ [])) tt tt) tt

pub views_least_the_most : ¬ ((q : Sequence) → T (in_Sequence q) → most_of (views_of q) ≡ least_of (views_of q))
unfolding views_of row_of
views_least_the_most p = differ itself (p (row_of (3 ∷ 7 ∷ [])) tt) tt

pub views_least_of_none : ¬ ((q : Sequence) → T (in_Sequence q) → get_or q.views 0 0 ≡ least_of (views_of q))
unfolding views_of
views_least_of_none p = differ itself (p unclean tt) tt

pub views_most_the_least : ¬ ((q : Sequence) → T (in_Sequence q) → least_of (views_of q) ≡ most_of (views_of q))
unfolding views_of row_of
views_most_the_least p = differ itself (p (row_of (3 ∷ 7 ∷ [])) tt) tt

pub views_most_last_entry : ¬ ((q : Sequence) → T (in_Sequence q) → get_or q.views 14 0 ≡ most_of (views_of q))
unfolding views_of row_of
views_most_last_entry p = differ itself (p (row_of (3 ∷ [])) tt) tt

pub views_single_twice : ¬ ((v : ℕ) → T (in_u16 v) → row_of (v ∷ v ∷ []) ≡ row_of (v ∷ []))
unfolding row_of
views_single_twice p = differ len (p 3 tt) tt

pub views_single_members_only : ¬ ((v : ℕ) → T (in_u16 v) → row_of (members_of v ∷ []) ≡ row_of (v ∷ []))
unfolding row_of
views_single_members_only p = differ (at 0) (p 257 tt) tt

pub views_plus_at_the_end : ¬ ((v : ℕ) (q : Sequence) → T (in_u16 v) → T (in_Sequence q) → row_of (views_of q ++ (v ∷ [])) ≡ row_of (plus_of v (views_of q)))
unfolding views_of row_of plus_of
views_plus_at_the_end p = differ (at 0) (p 3 (row_of (7 ∷ [])) tt tt) tt

pub views_plus_again : ¬ ((v : ℕ) (q : Sequence) → T (in_u16 v) → T (in_Sequence q) → row_of (v ∷ views_of q) ≡ row_of (plus_of v (views_of q)))
unfolding views_of row_of plus_of
views_plus_again p = differ len (p 3 (row_of (3 ∷ [])) tt tt) tt

pub views_union_with_repeats : ¬ ((a b : Sequence) → T (in_Sequence a) → T (in_Sequence b)
    → row_of (views_of a ++ views_of b) ≡ row_of (union_of (views_of a) (views_of b)))
unfolding views_of row_of plus_of union_of
views_union_with_repeats p = differ len (p (row_of (3 ∷ [])) (row_of (3 ∷ [])) tt tt) tt

pub views_union_of_the_mosts : ¬ ((a b : Sequence) → T (in_Sequence a) → T (in_Sequence b)
    → row_of (bit_or (most_of (views_of a)) (most_of (views_of b)) ∷ []) ≡ row_of (union_of (views_of a) (views_of b)))
unfolding views_of row_of plus_of union_of
views_union_of_the_mosts p = differ len (p (row_of (3 ∷ [])) (row_of (7 ∷ [])) tt tt) tt

pub views_heard_always_the_union : ¬ ((own converged q : Sequence) → T (in_Sequence own) → T (in_Sequence converged) → T (in_Sequence q)
    → row_of (union_of (views_of q) (views_of own)) ≡ row_of (heard_of (views_of own) (views_of converged) (views_of q)))
unfolding views_of row_of some inside_of clash_of plus_of union_of heard_of
views_heard_always_the_union p = differ len (p (row_of (3 ∷ [])) (row_of []) (row_of (5 ∷ [])) tt tt tt) tt

pub views_heard_without_converged : ¬ ((own converged q : Sequence) → T (in_Sequence own) → T (in_Sequence converged) → T (in_Sequence q)
    → row_of (heard_of (views_of own) [] (views_of q)) ≡ row_of (heard_of (views_of own) (views_of converged) (views_of q)))
unfolding views_of row_of some inside_of clash_of plus_of union_of heard_of
views_heard_without_converged p = differ len (p (row_of (3 ∷ [])) (row_of (3 ∷ [])) (row_of (5 ∷ [])) tt tt tt) tt

-- "Treating [..] a grown sequence as a repeat"
pub views_heard_grown_as_a_repeat : ¬ ((own converged q : Sequence) → T (in_Sequence own) → T (in_Sequence converged) → T (in_Sequence q)
    → (if has_of (views_of q) (least_of (views_of own)) then own else row_of (heard_of (views_of own) (views_of converged) (views_of q))) ≡ row_of (heard_of (views_of own) (views_of converged) (views_of q)))
unfolding views_of row_of some inside_of clash_of plus_of union_of heard_of
views_heard_grown_as_a_repeat p = differ len (p (row_of (3 ∷ [])) (row_of []) (row_of (3 ∷ 7 ∷ [])) tt tt tt) tt

pub views_beyond_itself_too : ¬ ((w : ℕ) (q : Sequence) → T (in_u16 w) → T (in_Sequence q)
    → row_of (those (within_of w) (views_of q)) ≡ row_of (beyond_of w (views_of q)))
unfolding views_of row_of those inside_of
views_beyond_itself_too p = differ len (p 3 (row_of (3 ∷ 7 ∷ [])) tt tt) tt

pub views_beyond_all_but_the_first : ¬ ((w : ℕ) (q : Sequence) → T (in_u16 w) → T (in_Sequence q) → row_of (drop 1 (views_of q)) ≡ row_of (beyond_of w (views_of q)))
unfolding views_of row_of those inside_of
views_beyond_all_but_the_first p = differ len (p 3 (row_of (7 ∷ [])) tt tt) tt

pub views_above_not_nested : ¬ ((v : ℕ) (q : Sequence) → T (in_u16 v) → T (in_Sequence q)
    → not (some (λ w. not (inside_of v w)) (views_of q)) ≡ above_of v (views_of q))
unfolding views_of row_of some inside_of above_of
views_above_not_nested p = differ truth (p 1 (row_of (3 ∷ 5 ∷ [])) tt tt) tt

pub views_above_never_empty : ¬ ((v : ℕ) (q : Sequence) → T (in_u16 v) → T (in_Sequence q) → inside_of v (least_of (views_of q)) ≡ above_of v (views_of q))
unfolding views_of row_of inside_of above_of
views_above_never_empty p = differ truth (p 1 (row_of []) tt tt) tt

-- ---- stamps

abbrev stamp : ℕ → ℕ → Stamp
stamp count desk = record { count = count; desk = desk }

abbrev pair : ℕ → ℕ → ℕ → Pair
pair count desk value = record { stamp = stamp count desk; value = value }

abbrev signed : ℤ → ℕ
signed (pos n) = n
signed (negsuc n) = n + 2

-- "Comparing counts without desks."
pub stamps_compare_counts_only : ¬ ((a b : Stamp) → T (in_Stamp a) → T (in_Stamp b) → sign_of a.count b.count (pos 0) ≡ compared_of a b)
unfolding sign_of compared_of
stamps_compare_counts_only p = differ signed (p (stamp 2 1) (stamp 2 0) tt tt) tt

pub stamps_compare_desks_first : ¬ ((a b : Stamp) → T (in_Stamp a) → T (in_Stamp b)
    → sign_of a.desk b.desk (sign_of a.count b.count (pos 0)) ≡ compared_of a b)
unfolding sign_of compared_of
stamps_compare_desks_first p = differ signed (p (stamp 3 0) (stamp 2 3) tt tt) tt

pub stamps_greater_or_equal : ¬ ((a b : Stamp) → T (in_Stamp a) → T (in_Stamp b) → not (greater_of b a) ≡ greater_of a b)
unfolding sign_of compared_of greater_of
stamps_greater_or_equal p = differ truth (p (stamp 2 1) (stamp 2 1) tt tt) tt

pub stamps_greater_by_count : ¬ ((a b : Stamp) → T (in_Stamp a) → T (in_Stamp b) → ltb b.count a.count ≡ greater_of a b)
unfolding sign_of compared_of greater_of
stamps_greater_by_count p = differ truth (p (stamp 2 1) (stamp 2 0) tt tt) tt

pub stamps_same_count : ¬ ((a b : Stamp) → T (in_Stamp a) → T (in_Stamp b) → eqb a.count b.count ≡ stamps.same_of a b)
unfolding sign_of compared_of stamps.same_of
stamps_same_count p = differ truth (p (stamp 2 1) (stamp 2 0) tt tt) tt

pub stamps_same_desk : ¬ ((a b : Stamp) → T (in_Stamp a) → T (in_Stamp b) → eqb a.desk b.desk ≡ stamps.same_of a b)
unfolding sign_of compared_of stamps.same_of
stamps_same_desk p = differ truth (p (stamp 2 1) (stamp 3 1) tt tt) tt

abbrev value : Pair → ℕ
value p = p.value

pub stamps_greatest_new_of_equals : ¬ ((held new : Pair) → T (in_Pair held) → T (in_Pair new)
    → cond (greater_of held.stamp new.stamp) held new ≡ greatest_of held new)
unfolding sign_of compared_of greater_of greatest_of
stamps_greatest_new_of_equals p = differ value (p (pair 2 1 7) (pair 2 1 8) tt tt) tt

pub stamps_greatest_always_the_new : ¬ ((held new : Pair) → T (in_Pair held) → T (in_Pair new) → new ≡ greatest_of held new)
unfolding sign_of compared_of greater_of greatest_of
stamps_greatest_always_the_new p = differ value (p (pair 2 1 7) (pair 1 1 8) tt tt) tt

pub stamps_fresh_from_count_1 : ¬ (pair 1 0 0 ≡ fresh_pair)
stamps_fresh_from_count_1 p = differ (λ (x : Pair). x.stamp.count) p tt

pub stamps_fresh_with_a_value : ¬ (pair 0 0 1 ≡ fresh_pair)
stamps_fresh_with_a_value p = differ value p tt

pub stamps_stamp_eq_by_count : ¬ ((self other : Stamp) → T (in_Stamp self) → T (in_Stamp other)
    → eqb self.count other.count ≡ stamp_partial_eq.eq self other)
stamps_stamp_eq_by_count p = differ truth (p (stamp 2 1) (stamp 2 0) tt tt) tt

pub stamps_stamp_eq_by_desk : ¬ ((self other : Stamp) → T (in_Stamp self) → T (in_Stamp other)
    → eqb self.desk other.desk ≡ stamp_partial_eq.eq self other)
stamps_stamp_eq_by_desk p = differ truth (p (stamp 2 1) (stamp 3 1) tt tt) tt

-- an answer of an order, from one; 0 where there is none
abbrev ordered : Ordering → ℕ
ordered Less = 1
ordered Equal = 2
ordered Greater = 3

abbrev compared : Option Ordering → ℕ
compared None = 0
compared (Some o) = ordered o

pub stamps_stamp_partial_cmp_by_count : ¬ ((self other : Stamp) → T (in_Stamp self) → T (in_Stamp other)
    → Some (nat_cmp self.count other.count) ≡ stamp_partial_ord.partial_cmp self other)
stamps_stamp_partial_cmp_by_count p = differ compared (p (stamp 2 1) (stamp 2 0) tt tt) tt

pub stamps_stamp_partial_cmp_equals_apart : ¬ ((self other : Stamp) → T (in_Stamp self) → T (in_Stamp other)
    → (if stamp_partial_eq.eq self other then None else Some (stamp_ord.cmp self other)) ≡ stamp_partial_ord.partial_cmp self other)
stamps_stamp_partial_cmp_equals_apart p = differ compared (p (stamp 2 1) (stamp 2 1) tt tt) tt

pub stamps_stamp_cmp_counts_only : ¬ ((self other : Stamp) → T (in_Stamp self) → T (in_Stamp other)
    → nat_cmp self.count other.count ≡ stamp_ord.cmp self other)
stamps_stamp_cmp_counts_only p = differ ordered (p (stamp 2 1) (stamp 2 0) tt tt) tt

pub stamps_stamp_cmp_desks_first : ¬ ((self other : Stamp) → T (in_Stamp self) → T (in_Stamp other)
    → ordering_then (nat_cmp self.desk other.desk) (nat_cmp self.count other.count) ≡ stamp_ord.cmp self other)
stamps_stamp_cmp_desks_first p = differ ordered (p (stamp 3 0) (stamp 2 3) tt tt) tt

pub stamps_stamp_default_from_count_1 : ¬ (stamp_default.is_default (stamp 1 0))
stamps_stamp_default_from_count_1 p = differ itself p.0 tt

pub stamps_stamp_default_of_the_last_desk : ¬ (stamp_default.is_default (stamp 0 3))
stamps_stamp_default_of_the_last_desk p = differ itself p.1 tt

pub stamps_pair_eq_by_stamp : ¬ ((self other : Pair) → T (in_Pair self) → T (in_Pair other)
    → stamp_partial_eq.eq self.stamp other.stamp ≡ pair_partial_eq.eq self other)
stamps_pair_eq_by_stamp p = differ truth (p (pair 2 1 7) (pair 2 1 8) tt tt) tt

pub stamps_pair_eq_by_value : ¬ ((self other : Pair) → T (in_Pair self) → T (in_Pair other)
    → eqb self.value other.value ≡ pair_partial_eq.eq self other)
stamps_pair_eq_by_value p = differ truth (p (pair 2 1 7) (pair 1 1 7) tt tt) tt

pub stamps_pair_default_from_count_1 : ¬ (pair_default.is_default (pair 1 0 0))
stamps_pair_default_from_count_1 p = differ itself p.0.0 tt

pub stamps_pair_default_with_a_value : ¬ (pair_default.is_default (pair 0 0 1))
stamps_pair_default_with_a_value p = differ itself p.1 tt

-- ---- rows

pub rows_has_room_one_byte_spare : ¬ ((len at n : ℕ) → T (in_usize len) → T (in_usize at) → T (in_usize n) → ltb (at + n) len ≡ leb (at + n) len)
rows_has_room_one_byte_spare p = differ truth (p 2 0 2 tt tt tt) tt

pub rows_has_room_by_a_sum_that_wraps : ¬ ((len at n : ℕ) → T (in_usize len) → T (in_usize at) → T (in_usize n)
    → leb ((at + n) % 18446744073709551616) len ≡ leb (at + n) len)
rows_has_room_by_a_sum_that_wraps p = differ truth (p 1 18446744073709551615 1 tt tt tt) tt

pub rows_smaller_the_greater : ¬ ((a b : ℕ) → T (in_usize a) → T (in_usize b) → max a b ≡ min a b)
rows_smaller_the_greater p = differ itself (p 1 2 tt tt) tt

pub rows_smaller_the_first_always : ¬ ((a b : ℕ) → T (in_usize a) → T (in_usize b) → a ≡ min a b)
rows_smaller_the_first_always p = differ itself (p 2 1 tt tt) tt

pub rows_byte_at_the_next : ¬ ((s : List ℕ) (at : ℕ) → T (in_bytes s) → T (in_usize at) → get_or s (at + 1) 0 ≡ get_or s at 0)
rows_byte_at_the_next p = differ itself (p (1 ∷ 2 ∷ []) 0 tt tt) tt

pub rows_byte_at_the_last_past_the_end : ¬ ((s : List ℕ) (at : ℕ) → T (in_bytes s) → T (in_usize at) → get_or s (min at (length s - 1)) 0 ≡ get_or s at 0)
rows_byte_at_the_last_past_the_end p = differ itself (p (7 ∷ []) 5 tt tt) tt

pub rows_put_byte_nowhere : ¬ ((s : List ℕ) (at x : ℕ) → T (in_bytes s) → T (in_usize at) → T (in_u8 x) → s ≡ placed s at (x ∷ []))
unfolding placed splice
rows_put_byte_nowhere p = differ (entry 0) (p (0 ∷ []) 0 7 tt tt tt) tt

pub rows_put_byte_at_the_next : ¬ ((s : List ℕ) (at x : ℕ) → T (in_bytes s) → T (in_usize at) → T (in_u8 x) → placed s (at + 1) (x ∷ []) ≡ placed s at (x ∷ []))
unfolding placed splice
rows_put_byte_at_the_next p = differ (entry 0) (p (0 ∷ 0 ∷ []) 0 7 tt tt tt) tt

pub rows_put_u16_low_byte_first : ¬ ((s : List ℕ) (at x : ℕ) → T (in_bytes s) → T (in_usize at) → T (in_u16 x)
    → placed s at (x % 256 ∷ x / 256 ∷ []) ≡ placed s at (be16 x))
unfolding placed splice bytes_of
rows_put_u16_low_byte_first p = differ (entry 0) (p (0 ∷ 0 ∷ []) 0 1 tt tt tt) tt

pub rows_put_u16_what_fits : ¬ ((s : List ℕ) (at x : ℕ) → T (in_bytes s) → T (in_usize at) → T (in_u16 x)
    → (if leb (at + 2) (length s) then placed s at (be16 x) else placed s at (x / 256 ∷ [])) ≡ placed s at (be16 x))
unfolding placed splice bytes_of
rows_put_u16_what_fits p = differ (entry 0) (p (0 ∷ []) 0 256 tt tt tt) tt

pub rows_clear_one_too_few : ¬ ((s : List ℕ) (at n : ℕ) → T (in_bytes s) → T (in_usize at) → T (in_usize n)
    → placed s at (zeros (n - 1)) ≡ placed s at (zeros n))
unfolding placed splice run zeros
rows_clear_one_too_few p = differ (entry 1) (p (7 ∷ 7 ∷ []) 0 2 tt tt tt) tt

pub rows_clear_to_the_end : ¬ ((s : List ℕ) (at n : ℕ) → T (in_bytes s) → T (in_usize at) → T (in_usize n)
    → placed s at (zeros (length s - at)) ≡ placed s at (zeros n))
unfolding placed splice run zeros
rows_clear_to_the_end p = differ (entry 1) (p (7 ∷ 7 ∷ []) 0 1 tt tt tt) tt

pub rows_put_row_all_but_the_first : ¬ ((s : List ℕ) (at : ℕ) (fields : List Field) → T (in_bytes s) → T (in_usize at) → T (slice in_Field fields)
    → placed s at (fields_bytes (drop 1 fields)) ≡ placed s at (fields_bytes fields))
unfolding placed splice field_bytes fields_bytes
rows_put_row_all_but_the_first p = differ (entry 0) (p (0 ∷ []) 0 (Byte 7 ∷ []) tt tt tt) tt

pub rows_put_row_the_first_alone : ¬ ((s : List ℕ) (at : ℕ) (fields : List Field) → T (in_bytes s) → T (in_usize at) → T (slice in_Field fields)
    → placed s at (fields_bytes (take 1 fields)) ≡ placed s at (fields_bytes fields))
unfolding placed splice field_bytes fields_bytes
rows_put_row_the_first_alone p = differ (entry 1) (p (0 ∷ 0 ∷ []) 0 (Byte 7 ∷ Byte 8 ∷ []) tt tt tt) tt

pub rows_put_fields_the_next_number : ¬ ((s : List ℕ) (at : ℕ) (widths xs : List ℕ) → T (in_bytes s) → T (in_usize at) → T (in_bytes widths) → T (in_u32s xs)
    → placed s at (fields_of widths (drop 1 xs)) ≡ placed s at (fields_of widths xs))
unfolding placed splice bytes_of fields_of
rows_put_fields_the_next_number p = differ (entry 0) (p (0 ∷ []) 0 (1 ∷ []) (7 ∷ []) tt tt tt tt) tt

pub rows_put_fields_the_first_alone : ¬ ((s : List ℕ) (at : ℕ) (widths xs : List ℕ) → T (in_bytes s) → T (in_usize at) → T (in_bytes widths) → T (in_u32s xs)
    → placed s at (fields_of (take 1 widths) xs) ≡ placed s at (fields_of widths xs))
unfolding placed splice bytes_of fields_of
rows_put_fields_the_first_alone p = differ (entry 1) (p (0 ∷ 0 ∷ []) 0 (1 ∷ 1 ∷ []) (7 ∷ 8 ∷ []) tt tt tt tt) tt

pub rows_read_u16_low_byte_first : ¬ ((s : List ℕ) (at : ℕ) → T (in_bytes s) → T (in_usize at) → get_or s (at + 1) 0 * 256 + get_or s at 0 ≡ u16_at s at)
unfolding number_at
rows_read_u16_low_byte_first p = differ itself (p (1 ∷ 2 ∷ []) 0 tt tt) tt

pub rows_read_u16_at_the_next : ¬ ((s : List ℕ) (at : ℕ) → T (in_bytes s) → T (in_usize at) → u16_at s (at + 1) ≡ u16_at s at)
unfolding number_at
rows_read_u16_at_the_next p = differ itself (p (0 ∷ 1 ∷ 2 ∷ []) 0 tt tt) tt

pub rows_read_u32_high_half : ¬ ((s : List ℕ) (at : ℕ) → T (in_bytes s) → T (in_usize at) → u16_at s at ≡ u32_at s at)
unfolding number_at
rows_read_u32_high_half p = differ itself (p (0 ∷ 1 ∷ 0 ∷ 0 ∷ []) 0 tt tt) tt

pub rows_read_u32_halves_exchanged : ¬ ((s : List ℕ) (at : ℕ) → T (in_bytes s) → T (in_usize at) → u16_at s (at + 2) * 65536 + u16_at s at ≡ u32_at s at)
unfolding number_at
rows_read_u32_halves_exchanged p = differ itself (p (0 ∷ 1 ∷ 0 ∷ 0 ∷ []) 0 tt tt) tt

pub rows_is_zero_first_only : ¬ ((s : List ℕ) (at n : ℕ) → T (in_bytes s) → T (in_usize at) → T (in_usize n) → eqb (get_or s at 0) 0 ≡ all_zero s at n)
unfolding all all_zero
rows_is_zero_first_only p = differ truth (p (0 ∷ 1 ∷ []) 0 2 tt tt tt) tt

pub rows_is_zero_one_too_many : ¬ ((s : List ℕ) (at n : ℕ) → T (in_bytes s) → T (in_usize at) → T (in_usize n) → all_zero s at (n + 1) ≡ all_zero s at n)
unfolding all all_zero
rows_is_zero_one_too_many p = differ truth (p (0 ∷ 1 ∷ []) 0 1 tt tt tt) tt

-- ---- rules

pub rules_number_of_no_table : ¬ ((self : Refusal) → 1 ≡ number_of self)
rules_number_of_no_table p = differ itself (p BadSheet) tt

pub rules_number_counted_from_zero : ¬ ((self : Refusal) → number_of self - 1 ≡ number_of self)
rules_number_counted_from_zero p = differ itself (p BadWorld) tt

-- the number of a kind, and 0 of a refusal
abbrev kind_as : Result StepKind Refusal → ℕ
kind_as (Ok k) = kind_number k
kind_as (Err x) = 0

pub rules_step_kind_try_from_refused_always : ¬ ((number : ℕ) → T (in_u8 number) → Err BadStep ≡ kind_told number)
unfolding kind_told
rules_step_kind_try_from_refused_always p = differ kind_as (p 1 tt) tt

pub rules_step_kind_try_from_a_crash_of_any_other : ¬ ((number : ℕ) → T (in_u8 number)
    → (if eqb number 0 then Ok Crash else kind_told number) ≡ kind_told number)
unfolding kind_told
rules_step_kind_try_from_a_crash_of_any_other p = differ kind_as (p 0 tt) tt

pub rules_refusal_eq_always : ¬ ((self other : Refusal) → true ≡ refusal_partial_eq.eq self other)
rules_refusal_eq_always p = differ truth (p BadWorld BadStep) tt

pub rules_refusal_eq_of_no_greater_number : ¬ ((self other : Refusal) → leb (number_of self) (number_of other) ≡ refusal_partial_eq.eq self other)
rules_refusal_eq_of_no_greater_number p = differ truth (p BadWorld BadStep) tt

pub rules_step_kind_eq_never : ¬ ((self other : StepKind) → false ≡ step_kind_partial_eq.eq self other)
rules_step_kind_eq_never p = differ truth (p Crash Crash) tt

pub rules_step_kind_eq_of_no_greater_number : ¬ ((self other : StepKind) → leb (kind_number self) (kind_number other) ≡ step_kind_partial_eq.eq self other)
rules_step_kind_eq_of_no_greater_number p = differ truth (p Join Crash) tt

pub rules_step_eq_by_kind_and_id : ¬ ((self other : Step) → T (in_Step self) → T (in_Step other)
    → eqb self.kind other.kind && eqb self.id other.id ≡ step_partial_eq.eq self other)
rules_step_eq_by_kind_and_id p = differ truth (p (record { kind = 5; id = 0; value = 1 }) (record { kind = 5; id = 0; value = 2 }) tt tt) tt

pub rules_step_eq_by_kind_and_value : ¬ ((self other : Step) → T (in_Step self) → T (in_Step other)
    → eqb self.kind other.kind && eqb self.value other.value ≡ step_partial_eq.eq self other)
rules_step_eq_by_kind_and_value p = differ truth (p (record { kind = 1; id = 0; value = 0 }) (record { kind = 1; id = 1; value = 0 }) tt tt) tt

pub rules_phase_eq_always : ¬ ((self other : Phase) → true ≡ phase_partial_eq.eq self other)
rules_phase_eq_always p = differ truth (p Idle Read1) tt

pub rules_phase_eq_never : ¬ ((self other : Phase) → false ≡ phase_partial_eq.eq self other)
rules_phase_eq_never p = differ truth (p Idle Idle) tt

-- a desk in read 1 of try 5, to which relay 0 has replied
abbrev reading : Desk
reading = record { alive = true; view = 3; phase = Read1; tries = 5; holds = fresh_pair; replied = 1; best = fresh_pair; agreed = true }

pub rules_begun_keeps_the_replies : ¬ ((self : Desk) (phase : Phase) (view : ℕ) (holds : Pair) → T (in_Desk self) → T (in_u16 view) → T (in_Pair holds)
    → record { alive = self.alive; view = view; phase = phase; tries = self.tries + 1; holds = holds; replied = self.replied; best = self.best; agreed = self.agreed } ≡ begun self phase view holds)
unfolding begun
rules_begun_keeps_the_replies p = differ (λ (d : Desk). d.replied) (p reading Read1 3 fresh_pair tt tt tt) tt

pub rules_begun_keeps_the_try : ¬ ((self : Desk) (phase : Phase) (view : ℕ) (holds : Pair) → T (in_Desk self) → T (in_u16 view) → T (in_Pair holds)
    → cleared self phase view holds self.tries ≡ begun self phase view holds)
unfolding begun
rules_begun_keeps_the_try p = differ (λ (d : Desk). d.tries) (p reading Read1 3 fresh_pair tt tt tt) tt

pub rules_ended_keeps_the_phase : ¬ ((self : Desk) → T (in_Desk self) → cleared self self.phase self.view fresh_pair self.tries ≡ ended self)
rules_ended_keeps_the_phase p = differ (λ (d : Desk). phase_number d.phase) (p reading tt) tt

pub rules_ended_forgets_the_try : ¬ ((self : Desk) → T (in_Desk self) → cleared self Idle self.view fresh_pair 0 ≡ ended self)
rules_ended_forgets_the_try p = differ (λ (d : Desk). d.tries) (p reading tt) tt

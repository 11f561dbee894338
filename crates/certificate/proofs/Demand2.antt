-- DEMAND 2, what it rules out: "refusing everything, one constant reply, no work at all, and real work on the first step with show afterwards (the rules bind
-- each step). Invented totals are ruled out by the tie to the steps taken." Each is refuted from the promise alone. Assumes nothing.
use mathlib.Core.Path.{◌≡◌, refl, sym, ap, ◌∙◌}
use mathlib.Core.Bool.{true}
use mathlib.Core.List.{List, [], ◌∷◌, ◌++◌, map, append_assoc}
use Prim.Native.Nat.{ℕ, suc, ◌+◌, ◌≤◌, ◌<◌}
use native.Mathlib.Omega.{arith}
use lib.Dec.{lit<, lit≤}
use lib.ListN.{length, get_or, drop, replicate, length-replicate}
use lib.Seq.{drop-append_seam}
use borrow.Author.Tests.{le-ltb}
use Rattle.rows.specs.Bytes.{number_at}
use Rattle.rules.specs.State.{free, World, start}
use Rattle.rules.specs.Sending.{waiting_in}
use Rattle.rules.specs.WellFormed.{well_formed}
use Rattle.rules.specs.declared.Step.{Step}
use Rattle.rules.specs.Steps.{Outcome, refusal, done, after, stepped}
use Rattle.layout.specs.Layout.{world_width}
use Rattle.layout.specs.Image.{place_row, image, good_bytes}
use Rattle.layout.specs.Lent.{Lent, left, lent_step}
use Rattle.rows.specs.Tests.{all, all_zero}
use Rattle.rules.specs.Sheets.{form_of, steps_in, all_zeros_in, sheet, sheet_in, version1}
use Rattle.rules.specs.Runs.{longest, outcomes, last_world, sent_by, delivered_by, dropped_by, sum, answer, fields, step_lines, printed, start_of, end_of}
use Rattle.rules.specs.Examples.{recorded}
use Rattle.rules.proofs.Kept.{good_facts, step_keeps, always_good}
use Rattle.rules.proofs.Starts.{start_good}
use Rattle.rules.proofs.Counts.{places-all, run_few, sent-is-sum}
use Rattle.layout.proofs.Widths.{length-image}
use Rattle.layout.proofs.World.{world_back, image_good, image_injective}
use Rattle.record.specs.Lines.{laid}
use Rattle.record.proofs.Laying.{laid-whole}
use Rattle.record.proofs.Whole.{printed-is}
use Rattle.world.specs.Answer.{lent_of, columns}
use Rattle.world.specs.declared.Answer.{Answer}
use Rattle.rehearsal.specs.Playing.{decided, laid_by, record_left}
use Rattle.certificate.specs.Code.{Code}
use Rattle.certificate.specs.Demand2.{ran_by, told_by, outcome_line, Demand2}
use Rattle.certificate.proofs.Differ.{differ, entry}
use Rattle.certificate.proofs.EndLine.{Small, end_read}
use Rattle.certificate.proofs.Worlds.{one, one_formed, one_good, write, deliver, step_of}
use Rattle.certificate.proofs.RuledOutWorld.{write_moves, blank, with_totals, written}

-- A program for steps. It may know how often it was called before: at its call n, from 0, it answers the step k of a buffer w, and leaves that buffer with
-- other bytes. (`world::step` remembers nothing; here it is not assumed.)
pub record Program : Type 0 where
  pub answers : ℕ → List ℕ → Step → Answer
  pub leaves : ℕ → List ℕ → Step → List ℕ

-- The promise of `world::step`, kept at the call n; and at each call.
abbrev pub PromisedAt : Program → ℕ → Type 0
PromisedAt f n = (w : List ℕ) (k : Step) → lent_of (f.answers n w k) (f.leaves n w k) ≡ lent_step w k

abbrev pub Promised : Program → Type 0
Promised f = (n : ℕ) → PromisedAt f n

abbrev number : Lent → ℕ
number l = l.answer

abbrev buffer : Lent → List ℕ
buffer l = l.buffer

-- ---- one call

module _ (f : Program) (n : ℕ) (promised : PromisedAt f n) where
  -- from a start, WRITE 0 77 is done, and DELIVER 0 finds an empty place
  done_here : (f.answers n one write).number ≡ 0
  unfolding recorded lent_of
  done_here = ap number (promised one write ∙ step_of (start 1) one_formed write)

  empty_here : (f.answers n one deliver).number ≡ 3
  unfolding recorded lent_of
  empty_here = ap number (promised one deliver ∙ step_of (start 1) one_formed deliver)

  -- it does not refuse every step of every good world
  pub call_accepts : ¬ ((w : List ℕ) (k : Step) → good_bytes w ≡ true → 0 < (f.answers n w k).number)
  call_accepts p = omega (arith, p one write one_good, done_here)

  -- it has not one answer for them
  pub call_varies : (a : Answer) → ¬ ((w : List ℕ) (k : Step) → good_bytes w ≡ true → f.answers n w k ≡ a)
  call_varies a p =
      let same : (f.answers n one write).number ≡ (f.answers n one deliver).number = ap (λ (x : Answer). x.number) (p one write one_good ∙ sym (p one deliver one_good)) in
      omega (arith, same, done_here, empty_here)

  -- it does not leave every good world as it was
  pub call_works : ¬ ((w : List ℕ) (k : Step) → good_bytes w ≡ true → f.leaves n w k ≡ w)
  unfolding recorded lent_of
  call_works p = write_moves (sym (p one write one_good) ∙ ap buffer (promised one write ∙ step_of (start 1) one_formed write))

-- ---- the four wrong programs, of which it is enough that they are wrong on good worlds

-- "refusing everything"
pub refusing_everything : (f : Program) → Promised f → ¬ ((n : ℕ) (w : List ℕ) (k : Step) → good_bytes w ≡ true → 0 < (f.answers n w k).number)
refusing_everything f promised p = call_accepts f 0 (promised 0) (p 0)

-- "one constant reply"
pub one_constant_reply : (f : Program) → Promised f → (a : Answer) → ¬ ((n : ℕ) (w : List ℕ) (k : Step) → good_bytes w ≡ true → f.answers n w k ≡ a)
one_constant_reply f promised a p = call_varies f 0 (promised 0) a (p 0)

-- "no work at all"
pub no_work_at_all : (f : Program) → Promised f → ¬ ((n : ℕ) (w : List ℕ) (k : Step) → good_bytes w ≡ true → f.leaves n w k ≡ w)
no_work_at_all f promised p = call_works f 0 (promised 0) (p 0)

-- "real work on the first step with show afterwards": whatever it does at the first call, and in worlds that are a start, afterwards it refuses, or has one
-- reply, or does no work. (A program that remembers nothing may still know a start when it is shown one.)
abbrev pub Fresh : List ℕ → Type 0
Fresh w = (mask : ℕ) × (0 < mask) × (mask < 256) × (w ≡ image (start mask))

-- a world that is no start: one step after the start of relay 0, with the Get of desk 0 in place 0
abbrev used : World
used = after (start 1) (stepped (start 1) write)

used_formed : well_formed used ≡ true
used_formed = step_keeps (start 1) write one_formed

used_good : good_bytes (image used) ≡ true
used_good = image_good used used_formed

abbrev first : World → ℕ
first w = (place_row (get_or w.places 0 free)).kind

used_not_fresh : Fresh (image used) → ⊥
unfolding recorded start
used_not_fresh h =
    let z : ◌≡◌ {A = ℕ} 7 0 = ap first (image_injective used (start h.0) used_formed (start_good h.0 h.1 h.2) h.3) in
    omega arith

-- DELIVER 1
abbrev next : Step
next = record { kind = 6; id = 1; value = 0 }

module _ (f : Program) (promised : Promised f) where
  used_done : (f.answers 1 (image used) deliver).number ≡ 0
  unfolding recorded lent_of
  used_done = ap number (promised 1 (image used) deliver ∙ step_of used used_formed deliver)

  used_empty : (f.answers 1 (image used) next).number ≡ 3
  unfolding recorded lent_of
  used_empty = ap number (promised 1 (image used) next ∙ step_of used used_formed next)

  pub show_by_refusing : ¬ ((n : ℕ) (w : List ℕ) (k : Step) → good_bytes w ≡ true → ¬ Fresh w → 0 < (f.answers (suc n) w k).number)
  show_by_refusing p = omega (arith, p 0 (image used) deliver used_good used_not_fresh, used_done)

  pub show_by_one_reply : (a : Answer) → ¬ ((n : ℕ) (w : List ℕ) (k : Step) → good_bytes w ≡ true → ¬ Fresh w → f.answers (suc n) w k ≡ a)
  show_by_one_reply a p =
      let same = ap (λ (x : Answer). x.number) (p 0 (image used) deliver used_good used_not_fresh ∙ sym (p 0 (image used) next used_good used_not_fresh)) in
      omega (arith, same, used_done, used_empty)

-- ---- "the rules bind each step": a run

-- the buffer after these steps, each put to what the one before left; and of each answer what a line of the record says of it. The first call is the call n
unfoldable pub ran : Program → ℕ → List ℕ → List Step → List ℕ
ran f n w [] = w
ran f n w (k ∷ ks) = ran f (suc n) (f.leaves n w k) ks

unfoldable pub told : Program → ℕ → List ℕ → List Step → List (List ℕ)
told f n w [] = []
told f n w (k ∷ ks) = columns (f.answers n w k) ∷ told f (suc n) (f.leaves n w k) ks

abbrev saying : Lent → List ℕ
saying l = l.answer ∷ fields l.report.event l.report.who

module _ (W : World) where
  left_buffer : (o : Outcome) → (left (image W) o).buffer ≡ image (after W o)
  left_buffer (refusal x) = refl
  left_buffer (done later e a b c) = refl

  left_saying : (o : Outcome) → saying (left (image W) o) ≡ outcome_line o
  left_saying (refusal x) = refl
  left_saying (done later e a b c) = refl

module _ (f : Program) (n : ℕ) (promised : PromisedAt f n) (W : World) (good : well_formed W ≡ true) (k : Step) where
  leaves-is : f.leaves n (image W) k ≡ image (after W (stepped W k))
  unfolding lent_of
  leaves-is = ap buffer (promised (image W) k ∙ step_of W good k) ∙ left_buffer W (stepped W k)

  answers_is : columns (f.answers n (image W) k) ≡ outcome_line (stepped W k)
  unfolding lent_of columns
  answers_is = ap saying (promised (image W) k ∙ step_of W good k) ∙ left_saying W (stepped W k)

-- after any steps from any good world the buffer is the image of the rules' last world, and each answer is that of the rules
pub each_step : (f : Program) → Promised f → (n : ℕ) (W : World) → well_formed W ≡ true → (ks : List Step)
    → (ran f n (image W) ks ≡ image (last_world W ks)) × (told f n (image W) ks ≡ map outcome_line (outcomes W ks))
unfolding ran told last_world outcomes
each_step f promised n W good [] = (refl, refl)
each_step f promised n W good (k ∷ ks) =
    let next = leaves-is f n (promised n) W good k in
    let rest = each_step f promised (suc n) (after W (stepped W k)) (step_keeps W k good) ks in
    (rw next rest.0, rw (next, answers_is f n (promised n) W good k, rest.1))

-- DELIVER 0 of the Get changes that world: what stands in place 0 is the answer
delivered_moves : image used ≡ image (after used (stepped used deliver)) → ⊥
unfolding recorded
delivered_moves e = differ first (image_injective used (after used (stepped used deliver)) used_formed (step_keeps used deliver used_formed) e) tt

pub show_without_work : (f : Program) → Promised f → ¬ ((n : ℕ) (w : List ℕ) (k : Step) → good_bytes w ≡ true → ¬ Fresh w → f.leaves (suc n) w k ≡ w)
show_without_work f promised p = delivered_moves (sym (p 0 (image used) deliver used_good used_not_fresh) ∙ leaves-is f 1 (promised 1) used used_formed deliver)

-- so real work at the first call and none afterwards shows in a run of two steps: WRITE 0 77, DELIVER 0
pub show_in_a_run : (f : Program) → PromisedAt f 0 → ((n : ℕ) (w : List ℕ) (k : Step) → good_bytes w ≡ true → ¬ Fresh w → f.leaves (suc n) w k ≡ w)
    → ¬ (ran f 0 one (write ∷ deliver ∷ []) ≡ image (last_world (start 1) (write ∷ deliver ∷ [])))
unfolding ran last_world
show_in_a_run f promised idle e =
    let is = leaves-is f 0 promised (start 1) one_formed write in
    let good : good_bytes (f.leaves 0 one write) ≡ true = rw is used_good in
    let other : ¬ Fresh (f.leaves 0 one write) = rw is used_not_fresh in
    delivered_moves (sym (idle 0 (f.leaves 0 one write) deliver good other ∙ is) ∙ e)

-- ---- the same of every program that meets demand 2 as it is stated (specs/Demand2)

module _ (c : Code) (d : Demand2 c) where
  -- its answer and its buffer after one step of a good world
  answers_as : (W : World) → well_formed W ≡ true → (k : Step) → (c.step (image W) k).number ≡ answer (stepped W k)
  unfolding told_by outcomes columns
  answers_as W good k =
      rw (world_back W good) at (ap (λ (l : List (List ℕ)). get_or (get_or l 0 []) 0 0) (d.run (image W) (image_good W good) (k ∷ [])).1)

  leaves_as : (W : World) → well_formed W ≡ true → (k : Step) → c.step_world (image W) k ≡ image (after W (stepped W k))
  unfolding ran_by last_world
  leaves_as W good k = rw (world_back W good) at (d.run (image W) (image_good W good) (k ∷ [])).0

  one_done : (c.step one write).number ≡ 0
  unfolding recorded
  one_done = answers_as (start 1) one_formed write

  one_empty : (c.step one deliver).number ≡ 3
  unfolding recorded
  one_empty = answers_as (start 1) one_formed deliver

  pub demand2_refusing_everything : ¬ ((w : List ℕ) (k : Step) → good_bytes w ≡ true → 0 < (c.step w k).number)
  demand2_refusing_everything p = omega (arith, p one write one_good, one_done)

  pub demand2_one_constant_reply : (a : Answer) → ¬ ((w : List ℕ) (k : Step) → good_bytes w ≡ true → c.step w k ≡ a)
  demand2_one_constant_reply a p =
      let same : (c.step one write).number ≡ (c.step one deliver).number =
      ap (λ (x : Answer). x.number) (p one write one_good ∙ sym (p one deliver one_good))
      in
      omega (arith, same, one_done, one_empty)

  pub demand2_no_work_at_all : ¬ ((w : List ℕ) (k : Step) → good_bytes w ≡ true → c.step_world w k ≡ w)
  demand2_no_work_at_all p = write_moves (sym (p one write one_good) ∙ leaves_as (start 1) one_formed write)

  -- work in worlds that are a start, and show in all others: refusing, one reply, no work
  used_does : (c.step (image used) deliver).number ≡ 0
  unfolding recorded
  used_does = answers_as used used_formed deliver

  used_finds : (c.step (image used) next).number ≡ 3
  unfolding recorded
  used_finds = answers_as used used_formed next

  pub demand2_show_by_refusing : ¬ ((w : List ℕ) (k : Step) → good_bytes w ≡ true → ¬ Fresh w → 0 < (c.step w k).number)
  demand2_show_by_refusing p = omega (arith, p (image used) deliver used_good used_not_fresh, used_does)

  pub demand2_show_by_one_reply : (a : Answer) → ¬ ((w : List ℕ) (k : Step) → good_bytes w ≡ true → ¬ Fresh w → c.step w k ≡ a)
  demand2_show_by_one_reply a p =
      let same : (c.step (image used) deliver).number ≡ (c.step (image used) next).number =
      ap (λ (x : Answer). x.number) (p (image used) deliver used_good used_not_fresh ∙ sym (p (image used) next used_good used_not_fresh))
      in
      omega (arith, same, used_does, used_finds)

  pub demand2_show_afterwards : ¬ ((w : List ℕ) (k : Step) → good_bytes w ≡ true → ¬ Fresh w → c.step_world w k ≡ w)
  demand2_show_afterwards p = delivered_moves (sym (p (image used) deliver used_good used_not_fresh) ∙ leaves_as used used_formed deliver)

-- ---- "Invented totals are ruled out by the tie to the steps taken."

-- what `rehearsal::rehearse` promises to leave in a buffer with room is the record, and the bytes past it as they were
pub record_promised : (b world out : List ℕ) (mask : ℕ) (ks : List Step) → length world ≡ world_width → sheet_in b ≡ sheet mask ks → longest (length ks) ≤ length out
    → record_left b world out ≡ printed mask ks ++ drop (length (printed mask ks)) out
unfolding record_left decided laid_by
record_promised b world out mask ks long e fits = rw (long, e, le-ltb (length out) (longest (length ks)) fits)

-- the totals of the promised record are sums over the steps taken, and what waits in the last world
pub totals : (mask : ℕ) (ks : List Step) → let os = outcomes (start mask) ks in let waiting = waiting_in (last_world (start mask) ks).places in
    printed mask ks ≡ with_totals mask ks (sum delivered_by os + sum dropped_by os + waiting) (sum delivered_by os) (sum dropped_by os) waiting
totals mask ks =
    let os = outcomes (start mask) ks in
    sym (printed-is mask ks)
    ∙ ap (λ (sent : ℕ). with_totals mask ks sent (sum delivered_by os) (sum dropped_by os) (waiting_in (last_world (start mask) ks).places)) (sent-is-sum mask ks)

after_all : (a b c : List ℕ) → a ++ b ≡ a ++ c → b ≡ c
after_all a b c e = sym (drop-append_seam a b) ∙ ap (drop (length a)) e ∙ drop-append_seam a c

in_order : (a b c t : List ℕ) → (a ++ (b ++ c)) ++ t ≡ a ++ (b ++ (c ++ t))
in_order a b c t = append_assoc a (b ++ c) t ∙ ap (λ (l : List ℕ). a ++ l) (append_assoc b c t)

module _ (mask : ℕ) (ks : List Step) (some : 0 < mask) (byte : mask < 256) (few : length ks ≤ version1.most_steps) where
  abbrev os : List Outcome
  os = outcomes (start mask) ks

  abbrev waits : ℕ
  waits = waiting_in (last_world (start mask) ks).places

  abbrev counted : List ℕ
  counted = end_of (sum sent_by os) (sum delivered_by os) (sum dropped_by os) waits

  counted_small : Small (sum sent_by os) (sum delivered_by os) (sum dropped_by os) waits
  counted_small =
      let w : waits ≤ 256 = omega (arith, places-all (last_world (start mask) ks).places, (good_facts (last_world (start mask) ks) (always_good mask some byte ks)).many) in
      let moves = run_few (start mask) ks in
      record { first = omega (arith, sent-is-sum mask ks, moves, w); second = omega (arith, moves); third = omega (arith, moves); fourth = omega (arith, w) }

  -- a record of these steps that is the promised one has the counted totals, whatever bytes stand after it
  pub totals_tied : (sent delivered dropped waiting : ℕ) (t u : List ℕ) → Small sent delivered dropped waiting
      → with_totals mask ks sent delivered dropped waiting ++ t ≡ printed mask ks ++ u
      → (sent ≡ sum sent_by os) × (delivered ≡ sum delivered_by os) × (dropped ≡ sum dropped_by os) × (waiting ≡ waits)
  totals_tied sent delivered dropped waiting t u small e =
      let lines : List ℕ = step_lines 1 os in
      let invented : List ℕ = end_of sent delivered dropped waiting in
      let same : start_of mask ++ (lines ++ (invented ++ t)) ≡ start_of mask ++ (lines ++ (counted ++ u)) =
      sym (in_order (start_of mask) lines invented t) ∙ e ∙ ap (λ (l : List ℕ). l ++ u) (sym (printed-is mask ks)) ∙ in_order (start_of mask) lines counted u
      in
      end_read sent delivered dropped waiting (sum sent_by os) (sum delivered_by os) (sum dropped_by os) waits t u small counted_small
      (after_all lines (invented ++ t) (counted ++ u) (after_all (start_of mask) (lines ++ (invented ++ t)) (lines ++ (counted ++ u)) same))

  -- the same of what `rehearsal::rehearse` promises to leave in a buffer with room
  pub rehearse_tied : (b world out : List ℕ) → length world ≡ world_width → sheet_in b ≡ sheet mask ks → longest (length ks) ≤ length out
      → (sent delivered dropped waiting : ℕ) (t : List ℕ) → Small sent delivered dropped waiting
      → with_totals mask ks sent delivered dropped waiting ++ t ≡ record_left b world out
      → (sent ≡ sum sent_by os) × (delivered ≡ sum delivered_by os) × (dropped ≡ sum dropped_by os) × (waiting ≡ waits)
  rehearse_tied b world out long e fits sent delivered dropped waiting t small same =
      totals_tied sent delivered dropped waiting t (drop (length (printed mask ks)) out) small (same ∙ record_promised b world out mask ks long e fits)

  -- and of what a program leaves that meets demand 2 as it is stated
  pub demand2_totals_tied : (c : Code) → Demand2 c → (b world out : List ℕ) → sheet_in b ≡ sheet mask ks → length world ≡ world_width → longest (length ks) ≤ length out
      → (sent delivered dropped waiting : ℕ) (t : List ℕ) → Small sent delivered dropped waiting
      → with_totals mask ks sent delivered dropped waiting ++ t ≡ c.rehearse_out b world out
      → (sent ≡ sum sent_by os) × (delivered ≡ sum delivered_by os) × (dropped ≡ sum dropped_by os) × (waiting ≡ waits)
  demand2_totals_tied c d b world out e long room sent delivered dropped waiting t small same =
      totals_tied sent delivered dropped waiting t (drop (length (printed mask ks)) out) small (same ∙ (d.rehearsed b world out mask ks e long room).3)

-- no four numbers are the totals of every run: not of a run without a step and of one with a WRITE
pub invented_totals : (sent delivered dropped waiting : ℕ)
    → ¬ ((mask : ℕ) (ks : List Step) → 0 < mask → mask < 256 → length ks ≤ version1.most_steps
    → with_totals mask ks sent delivered dropped waiting ≡ printed mask ks)
unfolding recorded
invented_totals sent delivered dropped waiting p =
    let none : end_of sent delivered dropped waiting ≡ end_of 0 0 0 0 = ap (drop 8) (p 1 [] (lit< tt) (lit< tt) (lit≤ tt)) in
    let some : end_of sent delivered dropped waiting ≡ end_of 1 0 0 1 = ap (drop 22) (p 1 (write ∷ []) (lit< tt) (lit< tt) (lit≤ tt)) in
    differ (entry 4) (sym none ∙ some) tt

-- the same of `rehearsal::rehearse`: a program that lays the record of every sheet with these four totals does not keep its promise, though it may do as it likes
-- with a world of another length and without room
module _ (sent delivered dropped waiting : ℕ) (small : Small sent delivered dropped waiting) where
  laid_counted : (b : List ℕ) (ks : List Step) → sheet_in b ≡ sheet 1 ks → length ks ≤ version1.most_steps
      → ((out : List ℕ) → longest (length ks) ≤ length out → laid out 0 (with_totals 1 ks sent delivered dropped waiting) ≡ record_left b one out)
      → sent ≡ sum sent_by (outcomes (start 1) ks)
  laid_counted b ks is few p =
      let made : List ℕ = with_totals 1 ks sent delivered dropped waiting in
      let out : List ℕ = replicate (length made + longest (length ks)) 0 in
      let long : length out ≡ length made + longest (length ks) = length-replicate (length made + longest (length ks)) 0 in
      let room : longest (length ks) ≤ length out = omega (arith, long) in
      let whole : laid out 0 made ≡ made ++ drop (length made) out = laid-whole out made (omega (arith, long)) in
      (rehearse_tied 1 ks (omega arith) (omega arith) few b one out (length-image (start 1)) is room sent delivered dropped waiting
      (drop (length made) out) small (sym whole ∙ p out room)).0

  pub rehearse_invented : ¬ ((b world out : List ℕ) (mask : ℕ) (ks : List Step) → length world ≡ world_width → sheet_in b ≡ sheet mask ks
      → longest (length ks) ≤ length out → laid out 0 (with_totals mask ks sent delivered dropped waiting) ≡ record_left b world out)
  unfolding recorded sheet_in form_of steps_in all_zeros_in all_zero all number_at
  rehearse_invented p =
      let none : sent ≡ 0 = laid_counted blank [] refl (omega arith) (λ out room. p blank one out 1 [] (length-image (start 1)) refl room) in
      let some : sent ≡ 1 =
      laid_counted written (write ∷ []) refl (omega arith) (λ out room. p written one out 1 (write ∷ []) (length-image (start 1)) refl room) in
      omega (arith, none, some)

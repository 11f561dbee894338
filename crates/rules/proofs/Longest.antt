-- NO RECORD IS LONGER THAN `longest` SAYS. A number is no longer than a greater one, so a line is no longer than one with greater numbers; and what a step of a
-- good world prints is in range. Assumes nothing.
use mathlib.Core.Path.{◌≡◌, refl}
use mathlib.Core.Bool.{Bool, true, false, and-eq-true_iff}
use mathlib.Core.List.{List, [], ◌∷◌}
use Prim.Native.Nat.{ℕ, zero, suc, ◌+◌, ◌*◌, ◌/◌, ◌≤◌, ◌<◌}
use native.Mathlib.Omega.{arith}
use lib.Dec.{ltb, lit≤}
use lib.ListN.{length, length-append}
use borrow.Author.Tests.{ltb-true, ltb-false}
use Rattle.rules.specs.Stamps.{Pair}
use Rattle.rules.specs.Messages.{Event, nothing, opened, read_done, write_done}
use Rattle.rules.specs.State.{World, start}
use Rattle.rules.specs.Sending.{waiting_in}
use Rattle.rules.specs.Steps.{Step, Outcome, after, report, stepped}
use Rattle.rules.specs.WellFormed.{is_stamp, is_pair, well_formed}
use Rattle.rules.specs.Runs.{outcomes, last_world, sum, sent_by, delivered_by, dropped_by, fields, digits, line, step_line, step_lines, printed, widest_step, longest}
use Rattle.rules.proofs.Sends.{EventWell}
use Rattle.rules.proofs.Starts.{start_good}
use Rattle.rules.proofs.Refusals.{every_answer}
use Rattle.rules.proofs.Counts.{places-all, run_few, sent-is-sum}
use Rattle.rules.proofs.Kept.{good_facts, step_keeps, step_tells, always_good}

-- ---- numbers and lines

digits_longer : (k n m : ℕ) → n ≤ m → length (digits k n) ≤ length (digits k m)
unfolding digits
digits_longer zero n m h = omega arith
digits_longer (suc k) n m h = go (ltb n 10) (ltb m 10) refl refl (digits_longer k (n / 10) (m / 10) (omega arith))
  where
    go : (a b : Bool) → ltb n 10 ≡ a → ltb m 10 ≡ b → length (digits k (n / 10)) ≤ length (digits k (m / 10))
        → length (digits (suc k) n) ≤ length (digits (suc k) m)
    go true true e f l = rw (e, f) (omega arith)
    go true false e f l = rw (e, f) (simp length-append (omega arith))
    go false true e f l = absurd (omega (arith, ltb-false n 10 e, ltb-true m 10 f))
    go false false e f l = rw (e, f) (simp length-append (omega (arith, l)))

-- as many numbers, none of them greater
unfoldable Under : List ℕ → List ℕ → Type 0
Under [] [] = Unit {0}
Under [] (m ∷ ms) = ⊥
Under (n ∷ ns) [] = ⊥
Under (n ∷ ns) (m ∷ ms) = (n ≤ m) × Under ns ms

line_longer : (ns ms : List ℕ) → Under ns ms → length (line ns) ≤ length (line ms)
unfolding line Under
line_longer [] [] u = omega arith
line_longer [] (m ∷ ms) u = absurd u
line_longer (n ∷ ns) [] u = absurd u
line_longer (n ∷ []) (m ∷ []) u = simp length-append (omega (arith, digits_longer 10 n m u.0))
line_longer (n ∷ []) (m ∷ y ∷ ms) u = absurd u.1
line_longer (n ∷ x ∷ ns) (m ∷ []) u = absurd u.1
line_longer (n ∷ x ∷ ns) (m ∷ y ∷ ms) u = simp length-append (omega (arith, digits_longer 10 n m u.0, line_longer (x ∷ ns) (y ∷ ms) u.1))

-- ---- a step's line

pair_under : (p : Pair) → is_pair p ≡ true → Under (p.stamp.count ∷ p.stamp.desk ∷ p.value ∷ []) (65535 ∷ 3 ∷ 4294967295 ∷ [])
unfolding is_pair Under
pair_under p e =
    let k = (and-eq-true_iff (is_stamp p.stamp) (ltb p.value 4294967296)).0 e in
    let s = (and-eq-true_iff (ltb p.stamp.count 65536) (ltb p.stamp.desk 4)).0 k.0 in
    let count = ltb-true p.stamp.count 65536 s.0 in
    let desk = ltb-true p.stamp.desk 4 s.1 in
    let value = ltb-true p.value 4294967296 k.1 in
    (omega (arith, count), (omega (arith, desk), (omega (arith, value), tt)))

fields_under : (e : Event) (who : ℕ) → EventWell e → who < 8 → Under (fields e who) (3 ∷ 7 ∷ 65535 ∷ 3 ∷ 4294967295 ∷ [])
unfolding Under
fields_under nothing who t l = (lit≤ tt, (lit≤ tt, (lit≤ tt, (lit≤ tt, (lit≤ tt, tt)))))
fields_under (opened v) who t l = (lit≤ tt, (omega arith, (lit≤ tt, (lit≤ tt, (omega (arith, t), tt)))))
fields_under (read_done p) who t l = (lit≤ tt, (omega arith, pair_under p t))
fields_under (write_done p) who t l = (lit≤ tt, (omega arith, pair_under p t))

step-longest : (i : ℕ) (w : World) (k : Step) → i ≤ 8000 → well_formed w ≡ true → length (step_line i (stepped w k)) ≤ length widest_step
step-longest i w k l e =
    let o : Outcome = stepped w k in
    let t = step_tells w k e in
    line_longer _ _ (unfold Under in (l, (every_answer w k, fields_under (report o).event (report o).who t.event t.who)))

-- ---- the whole

step_wide : length widest_step ≡ 30
unfolding line digits
step_wide = refl

pub longest-is : (n : ℕ) → longest n ≡ 33 + 30 * n
unfolding longest line digits
longest-is n = omega arith

lines-longest : (i : ℕ) (w : World) (ks : List Step) → i + length ks ≤ 8001 → well_formed w ≡ true → length (step_lines i (outcomes w ks)) ≤ 30 * length ks
unfolding step_lines outcomes
lines-longest i w [] l e = omega arith
lines-longest i w (k ∷ ks) l e =
    let rest = lines-longest (suc i) (after w (stepped w k)) ks (omega arith) (step_keeps w k e) in
    simp length-append (omega (arith, step-longest i w k (omega arith) e, step_wide, rest))

pub printed-longest : (mask : ℕ) → 0 < mask → mask < 256 → (ks : List Step) → length ks ≤ 8000 → length (printed mask ks) ≤ longest (length ks)
unfolding printed
printed-longest mask some small ks few =
    let os : List Outcome = outcomes (start mask) ks in
    let last : World = last_world (start mask) ks in
    let waits : waiting_in last.places ≤ 256 = omega (arith, places-all last.places, (good_facts last (always_good mask some small ks)).many) in
    let lines = lines-longest 1 (start mask) ks (omega arith) (start_good mask some small) in
    let moved = run_few (start mask) ks in
    let head = line_longer (mask ∷ []) (255 ∷ []) (unfold Under in (omega arith, tt)) in
    let end = line_longer (sum sent_by os ∷ sum delivered_by os ∷ sum dropped_by os ∷ waiting_in last.places ∷ []) (8256 ∷ 8000 ∷ 8000 ∷ 256 ∷ [])
    (unfold Under in (omega (arith, sent-is-sum mask ks, moved, waits), (omega (arith, moved), (omega (arith, moved), (waits, tt))))) in
    let wide : length (line (255 ∷ [])) + length (line (8256 ∷ 8000 ∷ 8000 ∷ 256 ∷ [])) ≡ 23 = unfold line digits in refl in
    simp length-append (omega (arith, longest-is (length ks), lines, head, end, wide))

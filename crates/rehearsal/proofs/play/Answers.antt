-- `rehearsal::play` meets its contract. Assumes nothing.
use mathlib.Core.Path.{◌≡◌, refl, sym}
use Prim.Native.Nat.{ℕ, ◌≤◌, ◌<◌}
use native.Mathlib.Omega.{arith}
use lib.ListN.{length, get_or, replicate, length-replicate}
use borrow.Author.Rules.{rules}
use Rattle.rules.specs.State.{start}
use Rattle.rules.specs.Runs.{outcomes, last_world}
use Rattle.rules.proofs.Counts.{run_few}
use Rattle.layout.specs.Image.{image}
use Rattle.sheet.specs.Reading.{steps_from}
use Rattle.record.specs.Lines.{far}
use Rattle.world.specs.Tracing.{trace_rows}
use Rattle.world.proofs.Tracing.{shown_few}
use Rattle.rehearsal.specs.Playing.{Begins}
use Rattle.rehearsal.proofs.Playing.{trace_runs, played}
use Rattle.rehearsal.proofs.play.Goals as goal

-- a long repeat is not counted by computing
zeros : (n : ℕ) → n ≡ length {A = ℕ} (replicate n 0)
zeros n = sym (length-replicate n 0)

pub slice_bounds-trace-end : goal.slice_bounds-trace-end
slice_bounds-trace-end c = zeros 80000

pub put_rows-t-requires : goal.put_rows-t-requires
put_rows-t-requires c =
    let ran : (c.trace.new.world ≡ image (last_world (start (get_or c.args.sheet.now 5 0)) (steps_from c.args.sheet.now 6)))
    × Begins c.trace.new.rows (trace_rows (outcomes (start (get_or c.args.sheet.now 5 0)) (steps_from c.args.sheet.now 6))) =
    trace_runs c.args.sheet.now (get_or c.args.sheet.now 5 0) c.requires.1.0 refl c.args.w.now (replicate 80000 0) c.trace.new.world
    c.trace.new.rows c.requires.0
    (omega (arith, zeros 80000)) (c.trace.ensures.last, c.trace.ensures.rows) in record { sheet_value = c.requires.1.0; begins = ran.1 }

pub put_totals-requires : goal.put_totals-requires
put_totals-requires c =
    let most = shown_few c.args.sheet.now c.requires.1.0 in (
      omega (arith, c.put_rows-t.ensures.delivered, run_few (start (get_or c.args.sheet.now 5 0)) (steps_from c.args.sheet.now 6), most),
      omega (arith, c.put_rows-t.ensures.dropped, run_few (start (get_or c.args.sheet.now 5 0)) (steps_from c.args.sheet.now 6), most),
    )

pub returns : goal.returns
returns c =
    let ran : (c.trace.new.world ≡ image (last_world (start (get_or c.args.sheet.now 5 0)) (steps_from c.args.sheet.now 6)))
    × Begins c.trace.new.rows (trace_rows (outcomes (start (get_or c.args.sheet.now 5 0)) (steps_from c.args.sheet.now 6))) =
    trace_runs c.args.sheet.now (get_or c.args.sheet.now 5 0) c.requires.1.0 refl c.args.w.now (replicate 80000 0) c.trace.new.world
    c.trace.new.rows c.requires.0
    (omega (arith, zeros 80000)) (c.trace.ensures.last, c.trace.ensures.rows) in
    let small : c.args.mask < 256 = search rules in
    let near : length c.args.out.now ≤ far = omega arith in
    let m : get_or c.args.sheet.now 5 0 ≡ c.args.mask = sym c.requires.1.1 in
    let is = rw m at ran.0 in
    let p = played c.args.sheet.now c.args.mask c.requires.1.0 c.requires.1.1 small c.args.out.now c.trace.new.world _ _ _ c.put_start-at.result
    c.put_totals.result c.put_rows-t.result near is (c.put_start-at.ensures.position, c.put_start-at.ensures.bytes) (rw m at c.put_rows-t.ensures)
    c.put_totals.ensures.position c.put_totals.ensures.bytes in record { position = p.0; bytes = p.1; world = is }

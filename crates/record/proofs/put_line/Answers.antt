-- `record::put_line` meets its contract. From the second number on, what is left makes up the tail. Assumes nothing.
use mathlib.Core.Path.{refl, sym, ap, ◌∙◌}
use mathlib.Core.List.{[], ◌∷◌}
use native.Mathlib.Omega.{arith}
use Rattle.rules.specs.Runs.{line}
use Rattle.record.proofs.Laying.{printed-first, printed_then, printed_as, printing_none, printing_more, printing_all}
use Rattle.record.proofs.Digits.{line-none, line_tail, tail_next, tail_end}
use Rattle.record.proofs.put_line.Goals as goal

pub returns-in_default : goal.returns-in_default
returns-in_default c =
    let both = printed_as _ (sym (line-none _ c.in_default.ensures.cases)) (printed-first _ (c.put.ensures.position, c.put.ensures.bytes)) in
    record { position = both.0; bytes = both.1 }

pub loop-n-init : goal.loop-n-init
loop-n-init c = printing_none (omega arith) (omega arith)

pub loop-n-preserved : goal.loop-n-preserved
loop-n-preserved c =
    let wrote = printing_more _ _ _ c.loop-n.invariant (tail_next _ _ c.loop-n-test.true) (c.put-next.ensures.position, c.put-next.ensures.bytes) in
    printing_more _ _ _ wrote refl (c.put_number-p-in-loop-n.ensures.position, c.put_number-p-in-loop-n.ensures.bytes)

pub returns : goal.returns
returns c =
    let tail = printing_more (10 ∷ []) _ [] c.loop-n.invariant (tail_end _ _ c.loop-n-test.false) (c.put-2.ensures.position, c.put-2.ensures.bytes) in
    let first = printed-first _ (c.put_number-p.ensures.position, c.put_number-p.ensures.bytes) in
    let whole = printed_then _ _ first (omega arith) (printing_all tail refl) in
    let both = printed_as _ (sym (ap line c.in-Some.ensures.cases.0 ∙ line_tail _ _)) whole in
    record { position = both.0; bytes = both.1 }

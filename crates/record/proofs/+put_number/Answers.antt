-- `record::put_number` meets its contract: the last digit stands behind those of a tenth.
use mathlib.Core.Path.{sym}
use native.Mathlib.Omega.{arith}
use Rattle.record.proofs.Laying.{printed-first, printed_then, printed_as}
use Rattle.record.proofs.Digits.{decimal_one, decimal_more}
use Rattle.record.proofs.+put_number.Goals as goal

pub returns-then-n-lt10 : goal.returns-then-n-lt10
returns-then-n-lt10 t c =
    let both = printed_as _ (sym (decimal_one c.args.n (omega arith))) (printed-first _ (c.put.ensures.position, c.put.ensures.bytes)) in
    record { position = both.0; bytes = both.1 }

pub returns : goal.returns
returns t c =
    let front = printed-first _ (c.put_number-last.ensures.position, c.put_number-last.ensures.bytes) in
    let whole = printed_then _ _ front (omega arith) (c.put-2.ensures.position, c.put-2.ensures.bytes) in
    let both = printed_as _ (sym (decimal_more c.args.n (omega arith) (omega arith))) whole in
    record { position = both.0; bytes = both.1 }

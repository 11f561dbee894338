-- `rehearsal::refuse_sheet` meets its contract. Assumes nothing.
use Rattle.rehearsal.proofs.Playing.{bad_short, bad-laid}
use Rattle.rehearsal.proofs.refuse_sheet.Goals as goal

pub returns-then-out-lt-BAD : goal.returns-then-out-lt-BAD
returns-then-out-lt-BAD c = let both = bad_short c.args.out.now c.if-out-lt-BAD.true in record { answer = both.0; bytes = both.1 }

pub returns-else-out-lt-BAD : goal.returns-else-out-lt-BAD
returns-else-out-lt-BAD c =
    let put = c.put_bad-length.ensures in
    let both = bad-laid c.args.out.now c.if-out-lt-BAD.false c.put_bad-length.result c.put_bad-length.new.out put.position put.bytes in
    record { answer = both.0; bytes = both.1 }

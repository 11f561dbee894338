-- `sheet::put_steps` meets its contract. What is left to write, written, gives the whole. Assumes nothing.
use Rattle.std.proofs.Common.{arith}
use Rattle.std.proofs.lemmas.Iterator.{YieldsList-from_slice, YieldsList-from_zip}
use Rattle.std.proofs.lemmas.Iterator.Consumers.{YieldsList-at, YieldsList-turn, YieldsList-end}
use Rattle.std.proofs.lemmas.List.{length_push}
use Rattle.sheet.proofs.Writing.{zipped-length, left-all, left_more, left-none}
use Rattle.sheet.proofs.put_steps.Goals as goal

pub loop-kind-init : goal.loop-kind-init
loop-kind-init c = left-all

pub loop-kind-preserved : goal.loop-kind-preserved
loop-kind-preserved c =
    let a = c.args in
    let x = c.in-Some in
    let pairs = YieldsList-from_zip {s = c.zip.result} (YieldsList-from_slice a.kinds.now (cc)) (YieldsList-from_slice a.ids.now (cc)) in
    let first = YieldsList-at c.zip-kind-items.ensures.first pairs in
    let zipped = YieldsList-from_zip {s = c.zip-kind-items.result} first (YieldsList-from_slice a.values.now (cc)) in
    let all = YieldsList-at c.into_iter-kind-iterator.ensures.into_iter_gives zipped in
    let turn = YieldsList-turn all c.loop-kind.yielded _ c.loop-kind.yielded_by _ c.next.new.self _ x.is c.next.ensures.steps in
    rw (length_push c.loop-kind.yielded ((x.kind, x.id), x.value))
    (left_more _ _ _ _ c.loop-kind.invariant ((x.kind.now, x.id.now), x.value.now) turn c.requires c.put_step.ensures)

pub returns : goal.returns
returns c =
    let a = c.args in
    let pairs = YieldsList-from_zip {s = c.zip.result} (YieldsList-from_slice a.kinds.now (cc)) (YieldsList-from_slice a.ids.now (cc)) in
    let first = YieldsList-at c.zip-kind-items.ensures.first pairs in
    let zipped = YieldsList-from_zip {s = c.zip-kind-items.result} first (YieldsList-from_slice a.values.now (cc)) in
    let all = YieldsList-at c.into_iter-kind-iterator.ensures.into_iter_gives zipped in
    let end = YieldsList-end all c.loop-kind.yielded _ c.loop-kind.yielded_by _ c.next.new.self c.in-None.is c.next.ensures.steps in
    left-none c.loop-kind.invariant (omega (arith, zipped-length a.kinds.now a.ids.now a.values.now, end.1))

-- `image::put_sequence` meets its contract: the views before i are written. Assumes nothing.
use mathlib.Core.Path.{◌≡◌, refl, sym, ap, ◌∙◌}
use mathlib.Core.List.{List, [], ◌∷◌}
use Prim.Native.Nat.{ℕ, ◌+◌, ◌*◌, ◌≤◌}
use native.Mathlib.Omega.{arith}
use lib.ListN.{length}
use borrow.Author.Tests.{leb-true, leb-false}
use Rattle.rows.specs.Bytes.{placed, zeros}
use Rattle.rows.proofs.Laws.{placed_not, put_first, put_then, wrote_none, wrote_more, wrote-all}
use Rattle.rows.proofs.Numbers.{length-be16}
use Rattle.views.specs.Row.{views_of}
use Rattle.layout.specs.Layout.{sequence_width}
use Rattle.layout.specs.Image.{sequence_bytes}
use Rattle.layout.proofs.Zeros.{sequence-zeros}
use Rattle.image.proofs.Widths.{length_views, length-sequence}
use Rattle.image.proofs.put_sequence.Goals as goal

-- an empty row is zeros
none : (l : List ℕ) → length l ≡ 0 → zeros sequence_width ≡ sequence_bytes l
none [] e = sym sequence-zeros
none (x ∷ l) e = absurd (omega arith)

pub returns-then-not-has_room : goal.returns-then-not-has_room
returns-then-not-has_room c =
    let past = leb-false _ _ (sym c.has_room.ensures ∙ c.if-not-has_room.true) in
    sym (placed_not _ _ _ (omega (arith, length-sequence (views_of c.args.q))))

pub returns-then-n-eq0 : goal.returns-then-n-eq0
returns-then-n-eq0 c = c.clear.ensures ∙ ap (placed _ _) (none _ (sym c.count-n.ensures.0 ∙ c.if-n-eq0.true))

pub loop-i-init : goal.loop-i-init
loop-i-init c = wrote_none

pub overflow_add-at : goal.overflow_add-at
overflow_add-at c =
    let space : c.args.at + sequence_width ≤ length c.args.s.now = leb-true _ _ (sym c.has_room.ensures ∙ c.if-not-has_room.false) in
    omega arith

pub loop-i-preserved : goal.loop-i-preserved
loop-i-preserved c =
    let space : c.args.at + sequence_width ≤ length c.args.s.now = leb-true _ _ (sym c.has_room.ensures ∙ c.if-not-has_room.false) in
    wrote_more (λ k. length-be16 _) (omega arith) _ (c.args.at + 2 * c.loop-i.i)
    c.loop-i.invariant c.loop-i-test.true (omega arith)
    (rw c.view_at-v.ensures at c.put_u16.ensures)

pub overflow_add-at-2 : goal.overflow_add-at-2
overflow_add-at-2 c =
    let space : c.args.at + sequence_width ≤ length c.args.s.now = leb-true _ _ (sym c.has_room.ensures ∙ c.if-not-has_room.false) in
    omega arith

pub returns : goal.returns
unfolding sequence_bytes
returns c =
    let space : c.args.at + sequence_width ≤ length c.args.s.now = leb-true _ _ (sym c.has_room.ensures ∙ c.if-not-has_room.false) in
    let views = wrote-all (λ k. length-be16 _) (omega arith) c.loop-i.invariant c.loop-i-test.false in
    let p1 = put_first _ _ (length_views (views_of c.args.q)) views in
    let p2 = put_then _ _ p1 refl (omega arith) (rw c.count-n.ensures.0 at c.put_byte.ensures) in
    p2.is

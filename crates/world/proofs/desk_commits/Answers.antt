-- `world::desk_commits` meets its contract. Assumes nothing.
use mathlib.Core.Path.{refl, sym, ap, ◌∙◌}
use Prim.Native.Nat.{◌+◌}
use Rattle.std.specs.Prelude.{Err, Ok, unwrap_or}
use Rattle.std.proofs.lemmas.Result.{err_from_is_err_and}
use borrow.Author.Tests.{not-true, not-false}
use Rattle.rules.specs.Messages.{no_room}
use Rattle.rules.specs.declared.Refusal.TheVariants.{NoRoom}
use Rattle.rules.specs.State.{no_desk, with_desk}
use Rattle.rules.specs.Steps.{desk_does}
use Rattle.layout.specs.Image.{world_at}
use Rattle.state.specs.Meaning.{sendings_of}
use Rattle.state.specs.Plans.{desk_plan_of}
use Rattle.world.specs.Commits.{desk_left}
use Rattle.world.proofs.Good.{shaped}
use Rattle.world.proofs.Commit.{coded_number, refused_kept, done_accepted, plan_refuses, desk_row, desk-put, desk_crowded, desk-done, freed-sent}
use Rattle.world.proofs.desk_commits.Goals as goal

pub returns-in_err-plan : goal.returns-in_err-plan
unfolding desk_plan_of desk_left desk_does
returns-in_err-plan c k a e few d =
    let p = err_from_is_err_and c.from_residual.result c.from_residual.ensures.1 in
    let x = plan_refuses no_desk a (desk_plan_of (Err c.in_err-plan.field-0.0)) (rw c.in_err-plan.was at e) (coded_number _) in
    rw (p.1, p.2) (refused_kept _ x.why c.args.w.now x.numbered ∙ ap (desk_left c.args.w.now k (unwrap_or c.args.p 256) c.args.n) (sym x.is))

pub returns-then-not-has_room : goal.returns-then-not-has_room
unfolding desk_plan_of
returns-then-not-has_room c k a e few d =
    refused_kept NoRoom no_room c.args.w.now refl
    ∙ desk_crowded c.args.w.now c.requires.0 (unwrap_or c.args.p 256) c.args.n k a (desk_plan_of (Ok c.in_ok-plan.plan)) (rw c.in_ok-plan.was at e) few d refl
    (sym (c.has_room.ensures (8 + c.args.n)) ∙ not-true _ c.if-not-has_room.true-raw)

pub returns : goal.returns
unfolding desk_plan_of
returns c k a e few d =
    done_accepted _ _ _ c.tells.ensures
    ∙ desk-done c.args.w.now c.requires.0 (unwrap_or c.args.p 256) c.args.n k a (desk_plan_of (Ok c.in_ok-plan.plan)) (rw c.in_ok-plan.was at e) few d refl
    (sym (c.has_room.ensures (8 + c.args.n)) ∙ not-false _ c.if-not-has_room.false-raw) _
    (freed-sent (with_desk (world_at c.args.w.now) c.args.n c.in_ok-plan.plan.next) (shaped c.args.w.now c.requires.0).places
    (unwrap_or c.args.p 256) (8 + c.args.n)
    (sendings_of c.in_ok-plan.plan.sends) _ _ _
    (rw (c.row_of.ensures ∙ desk_row c.args.n) at c.put_desk.ensures ∙ desk-put c.args.w.now c.requires.0 c.args.n c.requires.1 c.in_ok-plan.plan.next)
    c.free.ensures c.send_all.ensures)

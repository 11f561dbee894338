-- `world::relay_commits` meets its contract. Assumes nothing.
use mathlib.Core.Path.{refl, sym, ap, ◌∙◌}
use mathlib.Core.Bool.{and-eq-true_iff}
use Rattle.std.specs.Prelude.{Err, Ok, unwrap_or}
use borrow.Author.Tests.{not-true, not-false}
use Rattle.rules.specs.Messages.{no_room}
use Rattle.rules.specs.declared.Refusal.TheVariants.{NoRoom}
use Rattle.rules.specs.State.{no_relay, with_relay, relay_at}
use Rattle.rules.specs.Steps.{relay_does}
use Rattle.layout.specs.Image.{world_at}
use Rattle.state.specs.Meaning.{part_of, sendings_of}
use Rattle.state.specs.Plans.{plan_of}
use Rattle.locality.specs.Narrow.{widened}
use Rattle.world.specs.Commits.{relay_left}
use Rattle.world.proofs.Good.{shaped}
use Rattle.world.proofs.Commit.{coded_number, refused_kept, done_accepted, plan_refuses, relay_crowded, relay_unseated, relay_done, freed-sent}
use Rattle.world.proofs.relay_commits.Goals as goal

pub returns-in-Err : goal.returns-in-Err
unfolding plan_of relay_left relay_does
returns-in-Err c n a e few d =
    let x = plan_refuses no_relay a (plan_of (Err c.in-Err.refusal)) (rw c.in-Err.is at e) (coded_number _) in
    refused_kept _ x.why c.args.w.now x.numbered ∙ ap (relay_left c.args.w.now n (unwrap_or c.args.p 256) c.args.s.number) (sym x.is)

pub returns-then-not-has_room : goal.returns-then-not-has_room
unfolding plan_of
returns-then-not-has_room c n a e few d =
    refused_kept NoRoom no_room c.args.w.now refl
    ∙ relay_crowded c.args.w.now c.requires (unwrap_or c.args.p 256) c.args.s.number n a (plan_of (Ok c.in-Ok.plan)) (rw c.in-Ok.is at e) few d refl
    (sym (c.has_room.ensures c.args.s.number) ∙ not-true _ c.if-not-has_room.true-raw)

pub returns-then-not-has_seats : goal.returns-then-not-has_seats
unfolding plan_of
returns-then-not-has_seats c n a e few d =
    refused_kept NoRoom no_room c.args.w.now refl
    ∙ relay_unseated c.args.w.now c.requires (unwrap_or c.args.p 256) c.args.s.number n a (plan_of (Ok c.in-Ok.plan)) (rw c.in-Ok.is at e) few d refl
    (sym c.has_seats.ensures ∙ not-true _ c.if-not-has_seats.true-raw)

pub returns : goal.returns
unfolding plan_of
returns c n a e few d =
    let w = world_at c.args.w.now in
    let r = widened (relay_at w c.args.s.number) (part_of c.in-Ok.plan.next) in
    let fits = sym c.has_seats.ensures ∙ not-false _ c.if-not-has_seats.false-raw in
    let two = (and-eq-true_iff _ _).0 fits in
    done_accepted _ _ _ c.tells.ensures
    ∙ relay_done c.args.w.now c.requires (unwrap_or c.args.p 256) c.args.s.number n a (plan_of (Ok c.in-Ok.plan)) (rw c.in-Ok.is at e) few d refl
    (sym (c.has_room.ensures c.args.s.number) ∙ not-false _ c.if-not-has_room.false-raw) fits _
    (freed-sent (with_relay w c.args.s.number r) (shaped c.args.w.now c.requires).places (unwrap_or c.args.p 256) c.args.s.number
    (sendings_of c.in-Ok.plan.sends) _ _ _
    (c.put_part.ensures two.0 two.1) c.free.ensures c.send_all.ensures)

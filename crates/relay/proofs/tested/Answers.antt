-- `relay::tested` meets its contract. Assumes nothing.
use mathlib.Core.Path.{◌∙◌}
use mathlib.Core.Bool.{and-eq-true_iff}
use mathlib.Core.List.{[]}
use Rattle.rules.specs.Relays.{tested}
use Rattle.state.specs.declared.Event.TheVariants.{Nothing}
use Rattle.state.specs.Meaning.{transfer_of, relay_of, part_of, event_of}
use Rattle.relay.specs.Fitting.{shows_view, shows_move}
use Rattle.relay.proofs.Laws.{put_transfer_lem, plan_is}
use Rattle.relay.proofs.tested.Goals as goal

pub returns-then-passes : goal.returns-then-passes
unfolding tested transfer_of part_of relay_of
returns-then-passes c =
    let b = (and-eq-true_iff (shows_view c.args.t.new (part_of c.args.p)) (shows_move c.args.t.old c.args.t.new (part_of c.args.p))).0 c.requires in
    c.enters.ensures ∙ rw (put_transfer_lem transfer_of c.args.p.transfer (transfer_of c.args.t) b.1, ← c.if-passes.ensures)

pub returns-else-passes : goal.returns-else-passes
unfolding tested transfer_of part_of relay_of event_of
returns-else-passes c =
    let b = (and-eq-true_iff (shows_view c.args.t.new (part_of c.args.p)) (shows_move c.args.t.old c.args.t.new (part_of c.args.p))).0 c.requires in
    rw c.quietly.ensures (plan_is c.with_transfer.result [] Nothing ∙ rw (
      c.with_transfer.ensures,
      put_transfer_lem transfer_of c.args.p.transfer (transfer_of c.args.t) b.1,
      ← c.if-passes.ensures,
    ))

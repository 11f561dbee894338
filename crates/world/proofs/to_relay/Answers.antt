-- `world::to_relay` meets its contract. Assumes nothing.
use mathlib.Core.Path.{refl, ap, ◌∙◌}
use borrow.Author.Rules.{rules}
use Rattle.rules.specs.State.{no_relay, relay_at}
use Rattle.rules.specs.Relays.{relay_hears}
use Rattle.layout.specs.Image.{world_at}
use Rattle.state.specs.Meaning.{body_of, message_of}
use Rattle.state.specs.Plans.{planned}
use Rattle.locality.specs.Narrow.{generator_of_body, move_of_body, narrow}
use Rattle.locality.proofs.Wide.{hears_wide}
use Rattle.locality.proofs.Few.{hears_few}
use Rattle.locality.proofs.Fits.{hears_fits}
use Rattle.world.proofs.Good.{good_relay_lem}
use Rattle.world.proofs.Routes.{held-delivered, held_good, to_relay_left}
use Rattle.world.proofs.to_relay.Goals as goal

pub returns : goal.returns
unfolding message_of
returns c =
    let m = message_of c.args.m in
    let r = relay_at (world_at c.args.w.now) c.args.m.to in
    let x = body_of c.args.m.body in
    let shown = narrow r (generator_of_body x) (move_of_body x) in
    let ask = relay_hears c.args.m.to shown c.args.m.from x in
    c.relay_commits.ensures 1 ask
    (c.hears.ensures
    ∙ ap (planned no_relay)
    (rw (c.part_at-part.ensures, c.about_of-about.ensures.0, c.about_of-about.ensures.1)
    (hears_fits c.args.m.to r m x (good_relay_lem c.args.w.now c.requires.0 c.args.m.to) refl
    (held_good c.args.w.now c.requires.0 c.args.p (search rules) m c.requires.1.0))))
    (hears_few c.args.m.to shown c.args.m.from x) (held-delivered c.args.w.now c.requires.0 c.args.p (search rules) m c.requires.1.0)
    ∙ to_relay_left c.args.w.now c.requires.0 c.args.p (search rules) m c.requires.1.1 ask (hears_wide c.args.m.to r c.args.m.from x)

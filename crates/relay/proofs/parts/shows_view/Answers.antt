-- `relay::parts::shows_view` meets its contract. Assumes nothing.
use lib.Dec.{eqb}
use Rattle.std.proofs.Common.{rules}
use Rattle.rules.specs.State.{Generator}
use Rattle.state.specs.Meaning.{generator_of, relay_of, part_of}
use Rattle.relay.proofs.Laws.{all_shown}
use Rattle.relay.proofs.parts.shows_view.Goals as goal

pub returns : goal.returns
unfolding part_of relay_of generator_of
returns c =
    all_shown generator_of (λ (g : Generator). eqb g.view c.args.v) c.args.p.generator c.is_none_or.result _ c.is_none_or.ensures (λ x h. search rules)

-- `relay::at_generator` meets its contract. Assumes nothing.
use mathlib.Core.List.{[], ◌∷◌}
use Rattle.rules.specs.Messages.{nothing}
use Rattle.rules.specs.State.{with_generators}
use Rattle.rules.specs.Relays.{at_generator}
use Rattle.state.specs.Meaning.{generator_of, transfer_of, relay_of, listed, part_of, event_of}
use Rattle.state.specs.Plans.{turn_of, turned, plan_of, planned}
use Rattle.relay.proofs.Laws.{put_generator_lem}
use Rattle.relay.proofs.at_generator.Goals as goal

pub returns : goal.returns
unfolding plan_of planned part_of relay_of at_generator with_generators event_of turn_of turned
returns c =
    λ turn shown e.
    rw (put_generator_lem generator_of c.args.p.generator turn.next shown)
    (λ i. record {
      answer = 0;
      next = relay_of c.args.p.head ((e i).next ∷ []) (listed transfer_of c.args.p.transfer);
      sendings = (e i).sendings;
      event = nothing;
    })

-- `relay::hears` meets its contract. Assumes nothing.
use mathlib.Core.Path.{◌≡◌, ◌∙◌}
use Rattle.std.proofs.Common.{rules}
use Rattle.layout.specs.Image.{body_in}
use Rattle.rules.specs.Generators.{generator_for, converged_heard}
use Rattle.rules.specs.Relays.{relay_hears}
use Rattle.rules.proofs.Generators.{view_of, converged-leaves}
use Rattle.state.specs.Meaning.{generator_of, part_of, body_of}
use Rattle.state.specs.Plans.{turn_of, turned}
use Rattle.views.specs.Row.{views_of}
use Rattle.generator.specs.Heard.{heard_in_row}
use Rattle.relay.specs.Fitting.{fitting, hears_answer, hears_in_row}
use Rattle.relay.proofs.Laws.{heard_view}
use Rattle.relay.proofs.hears.Goals as goal

pub returns-in-Proposal : goal.returns-in-Proposal
unfolding hears_answer hears_in_row relay_hears fitting body_of body_in
returns-in-Proposal c =
    let q = views_of c.args.b.sequence in
    c.heard_at.ensures (heard_in_row (generator_for c.args.b.first (part_of c.args.p).generators) c.args.from q) (heard_view _ _ _ ∙ view_of _ _)
    (λ g t e h. let k : turn_of t ≡ turned (heard_in_row (generator_of g) c.args.from q) = search rules in k ∙ rw e)
    ∙ rw (← c.in-Proposal.ensures)

pub returns-in-Converged : goal.returns-in-Converged
unfolding hears_answer hears_in_row relay_hears fitting body_of body_in
returns-in-Converged c =
    let q = views_of c.args.b.sequence in
    c.heard_at-in-Converged.ensures (converged_heard (generator_for c.args.b.first (part_of c.args.p).generators) c.args.from q)
    ((converged-leaves _ _ _).for ∙ view_of _ _)
    (λ g t e h. let k : turn_of t ≡ turned (converged_heard (generator_of g) c.args.from q) = search rules in k ∙ rw e)
    ∙ rw (← c.in-Converged.ensures)

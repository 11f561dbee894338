-- `generator::proposal_heard` meets its contract. Assumes nothing.
use mathlib.Core.Path.{◌≡◌, refl, ap, ◌∙◌}
use mathlib.Core.List.{◌∷◌}
use Rattle.views.specs.Row.{views_of}
use Rattle.rules.specs.Messages.{Sending, proposal, to_members}
use Rattle.rules.specs.State.{Generator}
use Rattle.rules.specs.Generators.{settles}
use Rattle.state.specs.Meaning.{generator_of, sending_of, sendings_of}
use Rattle.state.specs.Plans.{bounded, Turned, turn_of, turned}
use Rattle.messages.proofs.Made.{made_says, sent_says}
use Rattle.messages.proofs.Sent.{before_means}
use Rattle.generator.specs.Heard.{merged_in_row, hears_in_row, heard_in_row}
use Rattle.generator.proofs.proposal_heard.Goals as goal

pub returns : goal.returns
unfolding heard_in_row hears_in_row turn_of turned generator_of
returns c =
    let h : Generator = merged_in_row (generator_of c.args.g) c.args.from (views_of c.args.q) in
    let rest : turn_of c.settles-settled.result ≡ turned (settles h) = c.settles-settled.ensures ∙ rw c.merged-heard.ensures in
    let sent : sending_of c.to_members-sent.result ≡ to_members c.args.g.view (proposal c.args.g.view h.own) =
    sent_says c.to_members-sent.ensures
    (made_says _ _ c.proposal.ensures refl ∙ ap (λ (k : Generator). proposal c.args.g.view k.own) c.merged-heard.ensures) in
    let ss = (settles h).sendings in
    let all : sendings_of c.sent_before.result ≡ bounded (to_members c.args.g.view (proposal c.args.g.view h.own) ∷ ss) =
    before_means _ _ ss c.sent_before.ensures (ap (λ (u : Turned). u.sendings) rest) ∙ ap (λ (s : Sending). bounded (s ∷ ss)) sent in
    rw (← c.if-not-lacks.ensures) (λ i. record { next = (rest i).next; sendings = all i })

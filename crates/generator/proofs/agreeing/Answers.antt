-- `generator::agreeing` meets its contract. Assumes nothing.
use Rattle.std.proofs.Common.{rules, ◌≡◌, ◌∙◌, arith, length, reverse}
use Rattle.std.specs.List.{fold}
use Rattle.views.specs.Row.{views_of}
use Rattle.state.specs.Meaning.{notes_of}
use Rattle.generator.proofs.Notes.{one_more, agreeing-fold}
use Rattle.generator.proofs.agreeing.Goals as goal

pub returns : goal.returns
unfolding notes_of
returns c =
    let e : c.fold.result ≡ fold (one_more (views_of c.args.q)) 0 (reverse c.args.n.of) = search rules in
    let full : length c.args.n.of ≡ 8 = search rules in
    e ∙ agreeing-fold c.args.n.of (views_of c.args.q) (omega arith)

-- `world::reads::outgoing` meets its contract. Assumes nothing.
use mathlib.Core.Path.{sym, ◌∙◌}
use lib.ListN.{length}
use borrow.Author.Rules.{rules}
use Rattle.std.proofs.lemmas.Iterator.{YieldsList-from_slice, YieldsList-from_map}
use Rattle.std.proofs.lemmas.Iterator.Consumers.{sum_by_from_yields_List}
use Rattle.state.specs.declared.Sending.{Sending}
use Rattle.state.specs.Meaning.{sendings_of}
use Rattle.world.specs.Commits.{receivers_below}
use Rattle.world.proofs.Places.{out_counted}
use Rattle.world.proofs.reads.outgoing.Goals as goal

pub returns : goal.returns
unfolding sendings_of
returns c from =
    sum_by_from_yields_List (λ (s : Sending). length (receivers_below s.receivers 12)) c.args.x.of c.map.result c.sum.result c.sum.ensures.ran
    (YieldsList-from_map _ (λ (s : Sending). length (receivers_below s.receivers 12)) (YieldsList-from_slice c.args.x.of cc) c.map.ensures.closure
    (λ x r q k. search rules))
    ∙ sym (out_counted from c.args.x.of)

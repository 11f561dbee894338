-- `good::generators::good_notes` meets its contract: there are eight, and each is tested by its number. Assumes nothing.
use mathlib.Core.Path.{◌≡◌, sym, ap, ◌∙◌}
use mathlib.Core.List.{List, [], map}
use Prim.Native.Nat.{ℕ}
use lib.ListN.{length, get_or, length-map}
use borrow.Author.Rules.{rules}
use borrow.Author.Tests.{eq-eqb}
use Rattle.rows.specs.Tests.{all}
use Rattle.views.specs.declared.Sequence.{Sequence}
use Rattle.views.specs.Row.{views_of}
use Rattle.rules.specs.WellFormed.{good_note, good_notes}
use Rattle.state.specs.Meaning.{notes_of}
use Rattle.image.proofs.Parts.{note_at}
use Rattle.good.proofs.Held.{all_same, from_list}
use Rattle.good.proofs.Chains.{all_numbered}
use Rattle.good.proofs.generators.good_notes.Goals as goal

-- a note of the code's eight, and of those that they mean
whole : (v : ℕ) (qs : List Sequence) → length qs ≡ 8
    → all (length qs) (λ k. good_note v k (views_of (get_or qs k (record { views = []; len = 0 })))) ≡ good_notes v (map views_of qs)
whole v qs e =
    let eight : length (map views_of qs) ≡ 8 = length-map qs views_of ∙ e in
    rw (e, eq-eqb (length (map views_of qs)) 8 eight)
    (all_same 8 (λ k. good_note v k (views_of (get_or qs k (record { views = []; len = 0 })))) (λ k. good_note v k (get_or (map views_of qs) k []))
    (λ k p. ap (good_note v k) (note_at qs k))
    ∙ sym (from_list 8 (good_note v) [] (map views_of qs) eight))

pub returns : goal.returns
unfolding notes_of
returns c =
    all_numbered (record { views = []; len = 0 }) c.args.n.of (λ i q. good_note c.args.v i (views_of q)) (search rules) (search rules) c.all.ensures.ran
    (λ x b q k. search rules)
    ∙ whole c.args.v c.args.n.of (search rules)

-- `views::union` meets its contract: the definition puts the views at their places from the outermost down. Assumes nothing.
use Rattle.std.proofs.Common.{◌≡◌, ◌∙◌, ap, List, [], ◌∷◌, ℕ, reverse, fold}
use Rattle.std.proofs.lemmas.List.{reverse-append}
use Rattle.std.proofs.lemmas.List.Sums.{fold-append}
use Rattle.views.specs.declared.Sequence.{Sequence}
use Rattle.views.specs.Chain.{plus_of, union_of}
use Rattle.views.specs.Row.{views_of, row_of}
use Rattle.views.proofs.Rows.{held, row-plus}
use Rattle.views.proofs.union.Goals as goal

placed : (a l : List ℕ) (b : Sequence) → b ≡ row_of l → fold (λ r v. row_of (plus_of v (views_of r))) b (reverse a) ≡ row_of (union_of a l)
unfolding union_of
placed [] l b e = e
placed (v ∷ a) l b e =
    let f : Sequence → ℕ → Sequence = λ r w. row_of (plus_of w (views_of r)) in
    ap (fold f b) (reverse-append (v ∷ []) a) ∙ fold-append f b (reverse a) (v ∷ []) ∙ rw (held _ _ (placed a l b e), row-plus)

pub returns : goal.returns
returns c = c.all_placed.ensures ∙ rw c.as_slice.ensures.views (placed _ _ c.kept.result c.kept.ensures)

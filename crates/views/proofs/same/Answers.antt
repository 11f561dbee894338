-- `views::same` meets its contract: the definition is the library's comparison view by view. Assumes nothing.
use Rattle.std.proofs.Common.{◌≡◌, ◌∙◌, ap, List, [], ◌∷◌, ℕ, ◌&&◌, refl}
use lib.Dec.{eqb}
use lib.Pointwise.{pointwise}
use Rattle.views.specs.Chain.{same_of}
use Rattle.views.proofs.same.Goals as goal

compared : (a b : List ℕ) → pointwise eqb a b ≡ same_of a b
unfolding same_of
compared [] [] = refl
compared [] (y ∷ b) = refl
compared (x ∷ a) [] = refl
compared (x ∷ a) (y ∷ b) = ap (λ r. eqb x y && r) (compared a b)

pub returns : goal.returns
returns c = c.eq.ensures ∙ rw (c.as_slice.ensures.views, c.as_slice-2.ensures.views) (compared _ _)

-- `views::has` meets its contract: the library asks each view whether it is v, and the definition asks v. Assumes nothing.
use Rattle.std.proofs.Common.{◌≡◌, ◌∙◌, ap₂, List, [], ◌∷◌, ℕ, ◌||◌, refl, arith}
use Rattle.std.proofs.lemmas.Bool.Decides.{nat_tests}
use Rattle.std.specs.List.{list_any}
use Rattle.views.specs.Chain.{some, has_of}
use lib.Dec.{eqb}
use Rattle.views.proofs.has.Goals as goal

swapped : (a b : ℕ) → eqb a b ≡ eqb b a
swapped a b = grind (arith, nat_tests)

asked : (v : ℕ) (l : List ℕ) → list_any (λ w. eqb w v) l ≡ has_of l v
unfolding some
asked v [] = refl
asked v (w ∷ l) = ap₂ ◌||◌ (swapped w v) (asked v l)

pub returns : goal.returns
returns c = c.contains.ensures.value ∙ rw c.as_slice.ensures.views (asked c.args.v _)

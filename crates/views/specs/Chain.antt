-- "A sequence is a set of views of which any two are nested." It is written as the list of its views in ascending order, innermost first, each once.
-- Assumes nothing.
use Rattle.std.specs.Prelude.{Bool, true, false, not, ◌&&◌, List, [], ◌∷◌, ℕ, ◌-◌, eqb, ltb, length, get_or, if◌then◌else◌}
use Rattle.std.specs.Int.Bits.{bit_or}
use Rattle.std.specs.List.{list_any}
use Rattle.views.specs.Choice.{those}
use Rattle.views.specs.View.{clash_of, inside_of}

-- some view of the sequence passes the test
unfoldable pub some : (ℕ → Bool) → List ℕ → Bool
some f vs = list_any f vs

-- v is one of the views
abbrev pub has_of : List ℕ → ℕ → Bool
has_of own v = some (eqb v) own

-- "q has a view that own lacks"
abbrev pub lacks_of : List ℕ → List ℕ → Bool
lacks_of q own = some (λ v. not (has_of own v)) q

-- "some view of q and some of own differ and neither includes the other"
abbrev pub conflict_of : List ℕ → List ℕ → Bool
conflict_of q own = some (λ v. some (clash_of v) own) q

-- the same views
unfoldable pub same_of : List ℕ → List ℕ → Bool
same_of [] [] = true
same_of [] (w ∷ ws) = false
same_of (v ∷ vs) [] = false
same_of (v ∷ vs) (w ∷ ws) = eqb v w && same_of vs ws

-- "Least and most are its innermost and outermost"; 0 where there is none
abbrev pub least_of : List ℕ → ℕ
least_of vs = get_or vs 0 0

abbrev pub most_of : List ℕ → ℕ
most_of vs = get_or vs (length vs - 1) 0

-- one view more, at its place; nothing changes where it is there already
unfoldable pub plus_of : ℕ → List ℕ → List ℕ
plus_of v [] = v ∷ []
plus_of v (w ∷ ws) = if ltb v w then v ∷ w ∷ ws else if eqb v w then w ∷ ws else w ∷ plus_of v ws

-- the views of both
unfoldable pub union_of : List ℕ → List ℕ → List ℕ
union_of [] b = b
union_of (v ∷ a) b = plus_of v (union_of a b)

-- "If q has a view that own lacks: where some view of q and some of own differ and neither includes the other, own becomes converged plus one view,
-- the union of most(own) and most(q); otherwise own becomes the union of both."
unfoldable pub heard_of : List ℕ → List ℕ → List ℕ → List ℕ
heard_of own converged q =
    if lacks_of q own
    then (if conflict_of q own then plus_of (bit_or (most_of own) (most_of q)) converged else union_of q own)
    else own

-- the views of q that strictly include w
abbrev pub beyond_of : ℕ → List ℕ → List ℕ
beyond_of w q = those (inside_of w) q

-- "Kept for view v, all its views strictly include v": each is a view, and strictly includes the one before it, the first one v
unfoldable pub above_of : ℕ → List ℕ → Bool
above_of v [] = true
above_of v (w ∷ ws) = inside_of v w && ltb w 65536 && above_of w ws

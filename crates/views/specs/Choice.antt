-- The part of a list that passes a test. Assumes nothing.
use Rattle.std.specs.Prelude.{Bool, List, [], ◌∷◌, if◌then◌else◌}

-- those that pass the test, in their order
unfoldable pub those : {A : Type 0} → (A → Bool) → List A → List A
those f [] = []
those f (x ∷ xs) = if f x then x ∷ those f xs else those f xs

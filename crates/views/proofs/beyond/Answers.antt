-- `views::beyond` meets its contract. The invariant: the row holds those that pass of the views read so far. Assumes nothing.
use Rattle.std.proofs.Common.{◌≡◌, ◌∙◌, Bool, true, false, List, [], ◌∷◌, ◌++◌, ℕ, ◌+◌, ◌<◌, length, get_or, take, refl, append-nil}
use Rattle.std.specs.Prelude.{if◌then◌else◌}
use Rattle.std.proofs.lemmas.List.{take_more}
use Rattle.views.specs.Choice.{those}
use Rattle.views.proofs.Rows.{clean_row, row_joined}
use Rattle.views.proofs.beyond.Goals as goal
use Rattle.views.proofs.beyond.Goals.{then-inside, else-inside}

module _ (f : ℕ → Bool) where
  those-append : (a b : List ℕ) → those f (a ++ b) ≡ those f a ++ those f b
  unfolding those
  those-append [] b = refl
  those-append (x ∷ a) b = rw (those-append a b) (joins (f x))
    where
      joins : (s : Bool) → (if s then x ∷ (those f a ++ those f b) else those f a ++ those f b) ≡ (if s then x ∷ those f a else those f a) ++ those f b
      joins true = refl
      joins false = refl

  those_more : (l : List ℕ) (i : ℕ) → i < length l
      → those f (take (i + 1) l) ≡ those f (take i l) ++ (if f (get_or l i 0) then get_or l i 0 ∷ [] else [])
  unfolding those
  those_more l i h = rw (take_more l i 0 h, those-append)

pub loop-x-init : goal.loop-x-init
unfolding those
loop-x-init c = c.empty-a.ensures

pub push-a-requires : goal.push-a-requires
push-a-requires c = clean_row _ _ c.loop-x.invariant

pub loop-x-preserved : goal.loop-x-preserved
loop-x-preserved c =
    rw (those_more _ _ _ c.loop-x-test.true, ← c.inside.ensures)
    (elim c.if-inside.branch [
      | then-inside w ↦ rw w.if-inside.true (w.a-is ∙ row_joined _ _ _ _ c.loop-x.invariant w.push-a.ensures)
      | else-inside w ↦ rw (w.if-inside.false, append-nil) (w.a-is ∙ c.loop-x.invariant)
    ])

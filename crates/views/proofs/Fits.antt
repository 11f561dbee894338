-- A row cuts nothing off: what the rules make of sequences kept for a view with an update has at most 15 views, so that the row holds all of them.
-- The premises are the tests by which goodness is stated. Assumes nothing.
use mathlib.Core.Path.{◌≡◌, refl, ◌∙◌}
use mathlib.Core.Logic.{◌≢◌}
use mathlib.Core.Bool.{true, false}
use mathlib.Core.List.{List}
use Prim.Native.Nat.{ℕ, ◌≤◌, ◌<◌}
use lib.ListN.{length, take}
use lib.Seq.{take_all}
use Rattle.views.specs.Chain.{lacks_of, conflict_of, union_of, heard_of, above_of}
use Rattle.views.specs.Row.{views_of, row_of}
use Rattle.views.proofs.Rows.{held}
use Rattle.views.proofs.Nested.{Above, above_fact, above_fits}
use Rattle.views.proofs.Merge.{above_union, above_heard}

pub views_row : (l : List ℕ) → views_of (row_of l) ≡ take 15 l
views_row l = held (row_of l) l refl

pub views_whole : (l : List ℕ) → length l ≤ 15 → views_of (row_of l) ≡ l
views_whole l h = views_row l ∙ take_all 15 l h

module _ (v : ℕ) (small : v < 65536) (update : v ≢ 0) where
  whole : {l : List ℕ} → Above v l → views_of (row_of l) ≡ l
  whole {l} a = views_whole l (above_fits small update a)

  pub above_whole : (l : List ℕ) → above_of v l ≡ true → views_of (row_of l) ≡ l
  above_whole l a = whole (above_fact v l a)

  pub union_whole : (a b : List ℕ) → above_of v a ≡ true → above_of v b ≡ true → conflict_of a b ≡ false → views_of (row_of (union_of a b)) ≡ union_of a b
  union_whole a b ha hb n = whole (above_union (above_fact v a ha) (above_fact v b hb) n)

  pub heard_whole : (own converged q : List ℕ) → above_of v own ≡ true → above_of v converged ≡ true → above_of v q ≡ true → lacks_of converged own ≡ false
      → views_of (row_of (heard_of own converged q)) ≡ heard_of own converged q
  heard_whole own converged q ho hc hq n = whole (above_heard (above_fact v own ho) (above_fact v converged hc) (above_fact v q hq) n)

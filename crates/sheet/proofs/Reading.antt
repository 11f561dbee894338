-- What the definitions of specs/Reading say where a step is left and where none is; in any form. Assumes nothing.
use Rattle.std.specs.Prelude.{None, Some}
use mathlib.Core.Path.{◌≡◌}
use mathlib.Core.List.{List}
use Prim.Native.Nat.{ℕ, ◌+◌, ◌≤◌, ◌<◌}
use lib.ListN.{length, drop}
use borrow.Author.Tests.{le-leb, lt-leb}
use Rattle.rules.specs.Sheets.{step_width, step_in, form_in}
use Rattle.sheet.specs.Reading.{step_at, after_of}

module _ (b : List ℕ) (at : ℕ) where
  pub step-none : length b < at + step_width (form_in b) → step_at b at ≡ None
  unfolding step_at
  step-none h = rw (lt-leb (at + step_width (form_in b)) (length b) h)

  pub step-some : at + step_width (form_in b) ≤ length b → step_at b at ≡ Some (step_in (form_in b) (drop at b))
  unfolding step_at
  step-some h = rw (le-leb (at + step_width (form_in b)) (length b) h)

  pub after_none : length b < at + step_width (form_in b) → after_of b at ≡ at
  unfolding after_of
  after_none h = rw (lt-leb (at + step_width (form_in b)) (length b) h)

  pub after-some : at + step_width (form_in b) ≤ length b → after_of b at ≡ at + step_width (form_in b)
  unfolding after_of
  after-some h = rw (le-leb (at + step_width (form_in b)) (length b) h)

-- "it has at most 15": every sequence of a good world fits its row. Assumes nothing.
use mathlib.Core.Path.{◌≡◌}
use mathlib.Core.Bool.{true}
use mathlib.Core.List.{[]}
use Prim.Native.Nat.{ℕ, ◌≤◌}
use lib.ListN.{length, get_or}
use Rattle.rules.specs.State.{Generator, Transfer, Place}
use Rattle.rules.specs.WellFormed.{good_transfer, good_place}
use Rattle.rules.proofs.Generators.{Gen, gen_tests}
use Rattle.layout.specs.Image.{place_row}
use Rattle.layout.proofs.Fits.{GeneratorFits, generator_fits, transfer_fits, place_fits}

-- ---- a generator's sequences, with all notes

module _ (s : ℕ) (g : Generator) (good : Gen s g) where
  fits : GeneratorFits g
  fits = generator_fits s g (gen_tests s g good)

  pub own_short : length g.own ≤ 15
  own_short = fits.own.few

  pub converged_short : length g.converged ≤ 15
  converged_short = fits.converged.few

  pub raised_short : length g.raised ≤ 15
  raised_short = fits.raised.few

  pub proposal_short : (i : ℕ) → length (get_or g.proposals i []) ≤ 15
  proposal_short i = (fits.proposals.each i).few

  pub convergence_short : (i : ℕ) → length (get_or g.convergences i []) ≤ 15
  convergence_short i = (fits.convergences.each i).few

-- ---- a transfer's, and a message's

pub transfer_short : (s : ℕ) (t : Transfer) → good_transfer s t ≡ true → length t.sequence ≤ 15
transfer_short s t good = (transfer_fits s t good).sequence.few

pub place_short : (p : Place) → good_place p ≡ true → length (place_row p).sequence ≤ 15
place_short p good = (place_fits p good).sequence.few

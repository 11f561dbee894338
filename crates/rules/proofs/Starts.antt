-- A start is well formed. Assumes nothing.
use Rattle.std.specs.Prelude.{◌||◌}
use mathlib.Core.Path.{◌≡◌, refl}
use mathlib.Core.Logic.{⊎_elim}
use mathlib.Core.Bool.{true}
use Prim.Native.Nat.{ℕ, ◌<◌}
use native.Mathlib.Omega.{arith}
use lib.Dec.{eqb}
use borrow.Author.Tests.{eqb-true}
use Rattle.views.proofs.Truth.{either_true}
use Rattle.rows.specs.Tests as tests
use Rattle.rows.proofs.All.{all_at}
use Rattle.rules.specs.Sets.{member, inside, some, above, all, all_hold}
use Rattle.rules.specs.State.{start_relay, start_desk, start}
use Rattle.rules.specs.WellFormed.{is_pair, all_from, distinct, good_generators, good_transfers, good_relay, good_phase, good_desk, good_place, well_formed}

-- all 255 starts, computed
starts : tests.all 256 (λ m. eqb m 0 || well_formed (start m)) ≡ true
unfolding tests.all inside some above member all all_hold start_relay start_desk start well_formed good_place good_desk good_phase good_relay good_generators good_transfers is_pair all_from distinct
starts = refl

pub start_good : (mask : ℕ) → 0 < mask → mask < 256 → well_formed (start mask) ≡ true
start_good mask p h =
    ⊎_elim (λ e. absurd (omega (arith, eqb-true mask 0 e))) (λ e. e)
    (either_true (eqb mask 0) (well_formed (start mask)) (all_at 256 mask (λ m. eqb m 0 || well_formed (start m)) starts h))

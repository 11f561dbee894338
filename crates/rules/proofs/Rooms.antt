-- A transfer that is just taken never passes the entry test: so no step both takes and frees a transfer, and the length of the list after a step
-- says what the step needed. Assumes nothing.
use mathlib.Core.Path.{◌≡◌, refl}
use mathlib.Core.Bool.{false, not, and-false}
use mathlib.Core.List.{List}
use Prim.Native.Nat.{ℕ}
use Rattle.views.proofs.Digits.{bit_none}
use Rattle.views.proofs.Quorums.{quorum_someone}
use Rattle.views.proofs.Truth.{contrary, never_true}
use Rattle.rules.specs.Sets.{reaches, none}
use Rattle.rules.specs.Stamps.{Pair}
use Rattle.rules.specs.Relays.{fresh_transfer, keeps, gathers, passes}

-- ---- a transfer just taken

none_reach : (v : ℕ) → reaches v 0 ≡ false
none_reach v = never_true (reaches v 0) (λ h. let s = quorum_someone v 0 h in contrary s.first (bit_none s.relay))

pub install_waits : (o w : ℕ) (q : List ℕ) → passes (keeps (fresh_transfer o w) q) ≡ false
unfolding fresh_transfer keeps
install_waits o w q = rw (none_reach o) (and-false (not (none q)))

pub state_waits : (o w from : ℕ) (p : Pair) (updates : ℕ) → passes (gathers (fresh_transfer o w) from p updates) ≡ false
unfolding fresh_transfer gathers
state_waits o w from p updates = refl

-- What the part of a good relay shows, and what the whole relay becomes: one generator and one transfer are written at their seats, or transfers are freed.
-- Assumes nothing.
use mathlib.Core.Path.{◌≡◌}
use mathlib.Core.Bool.{true, false}
use mathlib.Core.List.{List, [], ◌∷◌}
use Prim.Native.Nat.{ℕ, ◌≤◌, ◌<◌}
use lib.Dec.{eqb, leb, ltb}
use lib.ListN.{length, get_or}
use borrow.Author.Tests.{leb-true}
use Rattle.rules.specs.Sets.{those, inside}
use Rattle.rules.specs.State.{Generator, Transfer, Relay}
use Rattle.rules.specs.Generators.{fresh}
use Rattle.rules.specs.Relays.{fresh_transfer, is_for}
use Rattle.rules.specs.WellFormed.{good_generators, good_transfers, good_relay}
use Rattle.rules.proofs.Hold.{hold_facts}
use Rattle.rules.proofs.Lists.{those_fewer}
use Rattle.rules.proofs.Relays.{Rel, rel_facts}
use Rattle.rows.proofs.Change.{Changed}
use Rattle.locality.specs.Narrow.{Move, move, narrow, widened}
use Rattle.locality.proofs.Table.{by_view, by_move}
use Rattle.locality.proofs.Seat.{seat, part_present, part_absent, put_changed, put_fits}

-- the seats of a view and of a move
abbrev pub seat_of_view : ℕ → List Generator → ℕ
seat_of_view v gs = seat (λ g. eqb g.view v) gs

abbrev pub seat_of_move : Move → List Transfer → ℕ
seat_of_move m ts = seat (is_for m.old m.new) ts

-- ---- what the part of a good relay shows

module _ (s : ℕ) (r : Relay) (good : good_relay s r ≡ true) where
  rel : Rel s r
  rel = rel_facts s r good

  pub generators_fit : length r.generators ≤ 8
  unfolding good_relay good_generators
  generators_fit = leb-true _ _ (hold_facts _ (hold_facts _ good).1.1.1.1.1.1.0).0

  pub transfers_fit : length r.transfers ≤ 8
  unfolding good_relay good_transfers
  transfers_fit = leb-true _ _ (hold_facts _ (hold_facts _ good).1.1.1.1.1.1.1.0).0

  module _ (v : ℕ) (m : Move) where
    pub generator_there : seat_of_view v r.generators < length r.generators → (narrow r v m).generators ≡ get_or r.generators (seat_of_view v r.generators) (fresh 0) ∷ []
    unfolding narrow
    generator_there h = part_present by_view v r.generators (fresh 0) rel.different h

    pub generator_absent : seat_of_view v r.generators ≡ length r.generators → (narrow r v m).generators ≡ []
    unfolding narrow
    generator_absent h = part_absent by_view v r.generators h

    pub transfer_there : seat_of_move m r.transfers < length r.transfers → (narrow r v m).transfers ≡ get_or r.transfers (seat_of_move m r.transfers) (fresh_transfer 0 0) ∷ []
    unfolding narrow
    transfer_there h = part_present by_move m r.transfers (fresh_transfer 0 0) rel.apart h

    pub transfer_absent : seat_of_move m r.transfers ≡ length r.transfers → (narrow r v m).transfers ≡ []
    unfolding narrow
    transfer_absent h = part_absent by_move m r.transfers h

-- ---- what the whole relay r becomes when its part becomes n

module _ (r n : Relay) where
  pub generators_stay : n.generators ≡ [] → (widened r n).generators ≡ r.generators
  unfolding widened
  generators_stay e = rw e

  module _ (g : Generator) (e : n.generators ≡ g ∷ []) (v : ℕ) (for : g.view ≡ v) where
    pub generator_written : Changed (fresh 0) r.generators (seat_of_view v r.generators) g (widened r n).generators
    unfolding widened
    generator_written = rw e (put_changed by_view v g for (fresh 0) r.generators)

    pub generator_room : (k : ℕ) → length r.generators ≤ k → leb (length (widened r n).generators) k ≡ ltb (seat_of_view v r.generators) k
    unfolding widened
    generator_room k h = rw e (put_fits by_view v g for k r.generators h)

  -- the view is as it was
  module _ (same : eqb n.view r.view ≡ true) where
    pub transfers_stay : n.transfers ≡ [] → (widened r n).transfers ≡ r.transfers
    unfolding widened
    transfers_stay e = rw (same, e)

    module _ (t : Transfer) (e : n.transfers ≡ t ∷ []) (m : Move) (for : move t.old t.new ≡ m) where
      pub transfer_written : Changed (fresh_transfer 0 0) r.transfers (seat_of_move m r.transfers) t (widened r n).transfers
      unfolding widened
      transfer_written = rw (same, e) (put_changed by_move m t for (fresh_transfer 0 0) r.transfers)

      pub transfer_room : (k : ℕ) → length r.transfers ≤ k → leb (length (widened r n).transfers) k ≡ ltb (seat_of_move m r.transfers) k
      unfolding widened
      transfer_room k h = rw (same, e) (put_fits by_move m t for k r.transfers h)

  -- an entry
  module _ (new : eqb n.view r.view ≡ false) where
    pub transfers-freed : (widened r n).transfers ≡ those (λ u. inside n.view u.new) r.transfers
    unfolding widened
    transfers-freed = rw new

    pub freed_fewer : length (widened r n).transfers ≤ length r.transfers
    freed_fewer = rw transfers-freed (those_fewer (λ u. inside n.view u.new) r.transfers)

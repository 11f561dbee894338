-- What the image of a world holds at each part's place, and what is read there. Assumes nothing.
use mathlib.Core.Path.{◌≡◌}
use mathlib.Core.List.{List}
use Prim.Native.Nat.{ℕ, ◌+◌, ◌*◌, ◌<◌}
use native.Mathlib.Nat.{zero-add}
use lib.ListN.{get_or}
use Rattle.rows.proofs.Laws.{Holds}
use Rattle.rows.proofs.Tables.{table-holds}
use Rattle.rules.specs.State.{Relay, no_relay, no_desk, free, World}
use Rattle.rules.specs.State as state
use Rattle.rules.specs.Generators.{fresh}
use Rattle.rules.specs.Relays.{fresh_transfer}
use Rattle.layout.specs.Layout.{generator_width, transfer_width, relay_generators, relay_transfers, relay_width, desk_width, message_width, world_desks}
use Rattle.layout.specs.Layout.{world_places, relay_begin, generator_begin, transfer_begin, desk_begin, place_begin}
use Rattle.layout.specs.Image.{generator_bytes, transfer_bytes, relay_bytes, desk_bytes, place_bytes, image, generator_at, transfer_at}
use Rattle.layout.proofs.Widths.{length_generator, length_transfer, length_relay, length-desk, length-place}
use Rattle.layout.proofs.Rows.{generator_back, transfer_back, holds-generators, holds-transfers}
use Rattle.layout.proofs.World.{WorldFits, holds-relays, holds-desks, holds-places}

-- ---- in a relay's region, wherever it stands

module _ (l : List ℕ) (o : ℕ) (r : Relay) (h : Holds l o (relay_bytes r)) (i : ℕ) (hi : i < 8) where
  holds_generator : Holds l (o + relay_generators + i * generator_width) (generator_bytes (get_or r.generators i (fresh 0)))
  holds_generator = table-holds generator_bytes (fresh 0) generator_width 8 length_generator l (o + relay_generators) i r.generators hi (holds-generators l o r h)

  holds_transfer : Holds l (o + relay_transfers + i * transfer_width) (transfer_bytes (get_or r.transfers i (fresh_transfer 0 0)))
  holds_transfer = table-holds transfer_bytes (fresh_transfer 0 0) transfer_width 8 length_transfer l (o + relay_transfers) i r.transfers hi (holds-transfers l o r h)

-- ---- in the image

module _ (w : World) where
  pub holds-desk : (n : ℕ) → n < 4 → Holds (image w) (desk_begin n) (desk_bytes (state.desk_at w n))
  holds-desk n h = table-holds desk_bytes no_desk desk_width 4 length-desk (image w) world_desks n w.desks h (holds-desks w)

  pub holds-place : (p : ℕ) → p < 256 → Holds (image w) (place_begin p) (place_bytes (state.place_at w p))
  holds-place p h = table-holds place_bytes free message_width 256 length-place (image w) world_places p w.places h (holds-places w)

module _ (w : World) (s : ℕ) (hs : s < 8) where
  pub holds_relay : Holds (image w) (relay_begin s) (relay_bytes (state.relay_at w s))
  holds_relay = rw zero-add at (table-holds relay_bytes no_relay relay_width 8 length_relay (image w) 0 s w.relays hs (holds-relays w))

  image_generator : (i : ℕ) → i < 8 → Holds (image w) (generator_begin s i) (generator_bytes (get_or (state.relay_at w s).generators i (fresh 0)))
  image_generator = holds_generator (image w) (relay_begin s) (state.relay_at w s) holds_relay

  image_transfer : (i : ℕ) → i < 8 → Holds (image w) (transfer_begin s i) (transfer_bytes (get_or (state.relay_at w s).transfers i (fresh_transfer 0 0)))
  image_transfer = holds_transfer (image w) (relay_begin s) (state.relay_at w s) holds_relay

-- ---- and so what is read there, of a world that fits

module _ (w : World) (f : WorldFits w) where
  pub read_generator : (s i : ℕ) → s < 8 → i < 8 → generator_at (image w) (generator_begin s i) ≡ get_or (state.relay_at w s).generators i (fresh 0)
  read_generator s i hs hi = generator_back (image w) (generator_begin s i) _ ((f.relay s).generators.each i) (image_generator w s hs i hi)

  pub read_transfer : (s i : ℕ) → s < 8 → i < 8 → transfer_at (image w) (transfer_begin s i) ≡ get_or (state.relay_at w s).transfers i (fresh_transfer 0 0)
  read_transfer s i hs hi = transfer_back (image w) (transfer_begin s i) _ ((f.relay s).transfers.each i) (image_transfer w s hs i hi)

-- What the code tests of each row of a buffer: that what it means is good, and that its bytes are the bytes of that, so that unused room is zero.
-- Assumes nothing.
use Rattle.std.specs.Prelude.{Bool, List, [], ℕ, ◌+◌, ◌*◌, ◌-◌, eqb, length, get_or, ◌&&◌, ◌||◌}
use Rattle.rows.specs.Tests.{all, all_zero}
use Rattle.rules.specs.Sets.{relay_count, desk_count, place_count, seat_count}
use Rattle.rules.specs.Messages.{Body}
use Rattle.rules.specs.State.{Place, waiting}
use Rattle.rules.specs.WellFormed.{good_generator, good_transfer, good_relay, good_desk, good_place, other_view, other_move}
use Rattle.layout.specs.Layout.{generator_width, transfer_width, world_zeros, world_rest, relay_begin, generators_begin, transfers_begin, desk_begin, place_begin}
use Rattle.layout.specs.Image.{head_bytes, generator_bytes, transfer_bytes, desk_bytes, place_bytes, generator_at, transfer_at, desk_at, row_at, place_in}
use Rattle.state.specs.Meaning.{relay_of, message_of}
use Rattle.image.specs.Parts.{head_at, message_row_at}

-- the bytes b stand in l from o on
unfoldable pub held : List ℕ → ℕ → List ℕ → Bool
held l o b = all (length b) (λ k. eqb (get_or l (o + k) 0) (get_or b k 0))

-- a place in which a message with this body waits
abbrev pub sent : ℕ → ℕ → Body → Place
sent s r x = waiting (record { from = s; to = r; body = x })

-- ---- one row, from o on

-- a relay but for its tables
unfoldable pub head_good : List ℕ → ℕ → ℕ → Bool
head_good l s o = good_relay s (relay_of (head_at l o) [] []) && held l o (head_bytes (relay_of (head_at l o) [] []))

unfoldable pub desk_good : List ℕ → ℕ → Bool
desk_good l o = good_desk (desk_at l o) && held l o (desk_bytes (desk_at l o))

unfoldable pub place_good : List ℕ → ℕ → Bool
place_good l o = good_place (place_in (row_at l o)) && held l o (place_bytes (place_in (row_at l o)))

-- the message that waits in a place that is not free
unfoldable pub message_good : List ℕ → ℕ → Bool
message_good l o = good_place (waiting (message_of (message_row_at l o))) && held l o (place_bytes (waiting (message_of (message_row_at l o))))

-- ---- a relay's two tables: what is good of a row, what differs of two, and how wide each is

unfoldable pub generator_row_good : List ℕ → ℕ → ℕ → Bool
generator_row_good l s o = good_generator s (generator_at l o) && held l o (generator_bytes (generator_at l o))

unfoldable pub transfer_row_good : List ℕ → ℕ → ℕ → Bool
transfer_row_good l s o = good_transfer s (transfer_at l o) && held l o (transfer_bytes (transfer_at l o))

-- the rows from a and from b on name different views
unfoldable pub other_generator : List ℕ → ℕ → ℕ → Bool
other_generator l a b = other_view (generator_at l a) (generator_at l b)

-- the rows from a and from b on name different pairs
unfoldable pub other_transfer : List ℕ → ℕ → ℕ → Bool
other_transfer l a b = other_move (transfer_at l a) (transfer_at l b)

-- what is read at place i differs from what is read at each place before it
unfoldable pub differs : {A : Type 0} → (A → A → Bool) → (ℕ → A) → ℕ → Bool
differs differ at i = all i (λ j. differ (at j) (at i))

module _ (other good : List ℕ → ℕ → ℕ → Bool) (n : ℕ) (l : List ℕ) (s o i : ℕ) where
  -- place i differs from those before it and is good
  unfoldable pub place_filled : Bool
  place_filled = differs (other l) (λ j. o + j * n) i && good l s (o + i * n)

  -- "generator and transfer places name different views or pairs and are filled from the lowest": it is so, or from place i on all is zero
  unfoldable pub filled_good : Bool
  filled_good = all_zero l (o + i * n) ((seat_count - i) * n) || place_filled

-- ---- a relay, and all rows of a world

unfoldable pub relay_good : List ℕ → ℕ → Bool
relay_good l s =
    head_good l s (relay_begin s)
    && (all seat_count (filled_good other_generator generator_row_good generator_width l s (generators_begin s))
    && all seat_count (filled_good other_transfer transfer_row_good transfer_width l s (transfers_begin s)))

unfoldable pub rows_good : List ℕ → Bool
rows_good l =
    all relay_count (relay_good l)
    && (all desk_count (λ n. desk_good l (desk_begin n)) && (all place_count (λ p. place_good l (place_begin p)) && all_zero l world_zeros world_rest))

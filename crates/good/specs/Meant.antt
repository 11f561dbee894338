-- What the trait `Row` asks of each kind of row: what the code reads is good when what it means is. Assumes nothing.
use Rattle.std.specs.Prelude.{◌&&◌}
use mathlib.Core.Path.{◌≡◌, refl}
use mathlib.Core.List.{List, []}
use Prim.Native.Nat.{ℕ}
use Rattle.rules.specs.State.{waiting}
use Rattle.rules.specs.WellFormed.{good_generator, good_transfer, good_relay, good_desk, good_place}
use Rattle.layout.specs.Image.{head_bytes, generator_bytes, transfer_bytes, desk_bytes, place_bytes, desk_at}
use Rattle.state.specs.Meaning.{generator_of, transfer_of, relay_of, message_of}
use Rattle.image.specs.Parts.{head_at, generator_row_at, transfer_row_at, message_row_at}
use Rattle.image.proofs.Meaning.{generator_read, transfer_read}
use Rattle.good.specs.Rows.{held, head_good, generator_row_good, transfer_row_good, desk_good, message_good}

module _ (l : List ℕ) (s o : ℕ) where
  pub generator_means : generator_row_good l s o
      ≡ (good_generator s (generator_of (generator_row_at l o)) && held l o (generator_bytes (generator_of (generator_row_at l o))))
  unfolding generator_row_good
  generator_means = rw (generator_read l o refl) refl

  pub transfer_means : transfer_row_good l s o
      ≡ (good_transfer s (transfer_of (transfer_row_at l o)) && held l o (transfer_bytes (transfer_of (transfer_row_at l o))))
  unfolding transfer_row_good
  transfer_means = rw (transfer_read l o refl) refl

  pub head_means : head_good l s o ≡ (good_relay s (relay_of (head_at l o) [] []) && held l o (head_bytes (relay_of (head_at l o) [] [])))
  unfolding head_good
  head_means = refl

  pub desk_means : desk_good l o ≡ (good_desk (desk_at l o) && held l o (desk_bytes (desk_at l o)))
  unfolding desk_good
  desk_means = refl

  pub message_means : message_good l o
      ≡ (good_place (waiting (message_of (message_row_at l o))) && held l o (place_bytes (waiting (message_of (message_row_at l o)))))
  unfolding message_good
  message_means = refl

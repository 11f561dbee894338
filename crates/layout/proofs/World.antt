-- "One state has one image": a well-formed world is read back from its image, and good bytes are the image of the world that they mean.
-- Assumes nothing.
use Rattle.std.specs.Prelude.{◌&&◌}
use mathlib.Core.Path.{◌≡◌, refl, sym, ap, ◌∙◌}
use mathlib.Core.Bool.{true, and-eq-true_iff}
use mathlib.Core.List.{List, []}
use Prim.Native.Nat.{ℕ, ◌+◌, ◌<◌}
use native.Mathlib.Nat.{zero-add}
use native.Mathlib.Omega.{arith}
use lib.Dec.{eqb}
use lib.ListN.{length, get_or, take}
use borrow.Author.Tests.{eqb-true}
use Rattle.views.proofs.Among.{same_fact, same_self}
use Rattle.rows.specs.Bytes.{tab, sum, table}
use Rattle.rows.proofs.Laws.{Holds, holds_self, tab_ext}
use Rattle.rows.proofs.Fields.{cat-holds}
use Rattle.rows.proofs.Tables.{table_back}
use Rattle.rules.specs.Sets.{same, all, all_hold}
use Rattle.rules.specs.State.{no_relay, no_desk, free, World}
use Rattle.rules.specs.WellFormed.{is_pair, distinct, good_generators, good_transfers, good_relay, good_phase, good_desk, good_place, well_formed}
use Rattle.layout.specs.Layout.{relay_width, desk_width, message_width, world_desks, world_places, world_width, relay_begin, desk_begin, place_begin}
use Rattle.layout.specs.Image.{relay_bytes, desk_bytes, place_row, place_bytes, image, relay_at, desk_at, row_at, place_in, world_at, good_bytes, world_tables}
use Rattle.rules.proofs.Hold.{hold_facts, from_at, all_at}
use Rattle.layout.proofs.Widths.{length_relay, length-desk, length-place, world_widths, world_widths_lem, length-image}
use Rattle.layout.proofs.Fits.{RelayFits, relay_fits, DeskFits, desk_fits, RowFits, place_fits}
use Rattle.layout.proofs.Rows.{relay_back, desk_back, place_back}

-- ---- a world that fits

-- each part has its number of rows
pub record Shaped (w : World) : Type 0 where
  pub relays : length w.relays ≡ 8
  pub desks : length w.desks ≡ 4
  pub places : length w.places ≡ 256

pub record WorldFits (w : World) : Type 0 where
  pub shaped : Shaped w
  pub relay : (s : ℕ) → RelayFits (get_or w.relays s no_relay)
  pub desk : (d : ℕ) → DeskFits (get_or w.desks d no_desk)
  pub place : (p : ℕ) → RowFits (place_row (get_or w.places p free))

pub no_relay_lem : (s : ℕ) → good_relay s no_relay ≡ true
unfolding good_relay good_generators good_transfers is_pair all_hold all distinct
no_relay_lem s = refl

no_desk_lem : good_desk no_desk ≡ true
unfolding good_desk good_phase all_hold
no_desk_lem = refl

pub no_place : good_place free ≡ true
unfolding good_place
no_place = refl

pub world_fits : (w : World) → well_formed w ≡ true → WorldFits w
unfolding well_formed
world_fits w e =
    let h = hold_facts _ e in
    record {
      shaped = record {
        relays = eqb-true (length w.relays) 8 h.0;
        desks = eqb-true (length w.desks) 4 h.1.1.0;
        places = eqb-true (length w.places) 256 h.1.1.1.1.0;
      };
      relay = λ s. relay_fits (0 + s) _ (from_at good_relay 0 w.relays s no_relay h.1.0 (no_relay_lem (0 + s)));
      desk = λ d. desk_fits _ (all_at good_desk w.desks d no_desk h.1.1.1.0 no_desk_lem);
      place = λ p. place_fits _ (all_at good_place w.places p free h.1.1.1.1.1.0 no_place);
    }

-- ---- the tables of an image

module _ (w : World) where
  part : (i : ℕ) → i < 4 → Holds (image w) (0 + sum (take i world_widths)) (get_or (world_tables w) i [])
  unfolding image
  part i p = cat-holds (world_widths_lem w) (image w) i 0 p (holds_self (image w))

  pub holds-relays : Holds (image w) 0 (table relay_bytes no_relay 8 w.relays)
  holds-relays = part 0 (omega arith)

  pub holds-desks : Holds (image w) world_desks (table desk_bytes no_desk 4 w.desks)
  holds-desks = part 1 (omega arith)

  pub holds-places : Holds (image w) world_places (table place_bytes free 256 w.places)
  holds-places = part 2 (omega arith)

  pub fit_back : WorldFits w → world_at (image w) ≡ w
  unfolding world_at
  fit_back f = λ j. record { relays = relays j; desks = desks j; places = places j }
    where
      relays : tab 8 (λ k. relay_at (image w) (relay_begin k)) ≡ w.relays
      relays =
          tab_ext 8 (λ k. relay_at (image w) (relay_begin k)) (λ k. relay_at (image w) (0 + relay_begin k)) (λ k p. ap (relay_at (image w)) (sym (zero-add (relay_begin k))))
          ∙ table_back relay_bytes no_relay relay_width 8 length_relay relay_at (image w) 0 RelayFits (relay_back (image w)) w.relays f.shaped.relays (λ k p. f.relay k) holds-relays

      desks : tab 4 (λ k. desk_at (image w) (desk_begin k)) ≡ w.desks
      desks = table_back desk_bytes no_desk desk_width 4 length-desk desk_at (image w) world_desks DeskFits (desk_back (image w)) w.desks f.shaped.desks (λ k p. f.desk k) holds-desks

      places : tab 256 (λ k. place_in (row_at (image w) (place_begin k))) ≡ w.places
      places =
          table_back place_bytes free message_width 256 length-place (λ l o. place_in (row_at l o)) (image w) world_places (λ p. RowFits (place_row p)) (place_back (image w)) w.places
          f.shaped.places (λ k p. f.place k) holds-places

  pub world_back : well_formed w ≡ true → world_at (image w) ≡ w
  world_back e = fit_back (world_fits w e)

  pub image_good : well_formed w ≡ true → good_bytes (image w) ≡ true
  unfolding good_bytes
  image_good e = rw (world_back e, e, same_self (image w), length-image w)

-- different worlds have different images
pub image_injective : (w v : World) → well_formed w ≡ true → well_formed v ≡ true → image w ≡ image v → w ≡ v
image_injective w v g h e = sym (world_back w g) ∙ ap world_at e ∙ world_back v h

-- ---- good bytes

module _ (b : List ℕ) (good : good_bytes b ≡ true) where
  parts : (eqb (length b) world_width ≡ true) × ((well_formed (world_at b) ≡ true) × (same (image (world_at b)) b ≡ true))
  unfolding good_bytes
  parts =
      let h = (and-eq-true_iff (eqb (length b) world_width) (well_formed (world_at b) && same (image (world_at b)) b)).0 good in
      (h.0, (and-eq-true_iff (well_formed (world_at b)) (same (image (world_at b)) b)).0 h.1)

  pub good_length : length b ≡ world_width
  good_length = eqb-true (length b) world_width parts.0

  pub good_formed : well_formed (world_at b) ≡ true
  good_formed = parts.1.0

  pub good_image : image (world_at b) ≡ b
  good_image = same_fact (image (world_at b)) b parts.1.1

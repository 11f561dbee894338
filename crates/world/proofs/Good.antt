-- Good bytes, part by part: what is read of them is what the world that they mean has there. Assumes nothing.
use Rattle.std.specs.Prelude.{Option, None, Some, is_some, IfSome}
use mathlib.Core.Path.{◌≡◌, refl, sym, ap, ◌∙◌}
use mathlib.Core.Logic.{◌⊎◌, ⊎_elim}
use mathlib.Core.Bool.{true, false, not}
use mathlib.Core.List.{List, [], ◌∷◌}
use Prim.Native.Nat.{ℕ, ◌+◌, ◌-◌, ◌≤◌, ◌<◌}
use native.Mathlib.Nat.{zero-add}
use native.Mathlib.Omega.{arith}
use lib.Dec.{eqb, ltb}
use lib.ListN.{get_or-eq_default, length, get_or}
use borrow.Author.Tests.{eq-eqb, not-true, not-false, ltb-true, ltb-false}
use Rattle.views.proofs.Truth.{decided, contrary}
use Rattle.rows.specs.Bytes.{u16_at}
use Rattle.rows.proofs.Laws.{get_d_tab}
use Rattle.rules.specs.State.{Generator, Transfer, Relay, no_relay, no_desk, free}
use Rattle.rules.specs.State as state
use Rattle.rules.specs.Generators.{fresh}
use Rattle.rules.specs.Relays.{fresh_transfer, is_for}
use Rattle.rules.specs.Steps.{alive_in}
use Rattle.rules.specs.WellFormed.{good_relay, good_place, well_formed}
use Rattle.layout.specs.Layout.{head_view, transfer_new, relay_begin, generators_begin, transfers_begin, generator_begin, transfer_begin, desk_begin, place_begin}
use Rattle.layout.specs.Image.{generator_at, transfer_at, relay_at, desk_at, row_at, place_in, world_at, good_bytes}
use Rattle.rules.proofs.Hold.{hold_facts, from_at, all_at}
use Rattle.layout.proofs.Fits.{RelayFits}
use Rattle.layout.proofs.World.{no_relay_lem, no_place, Shaped, WorldFits, world_fits, good_formed, good_image}
use Rattle.layout.proofs.Read.{read_generator, read_transfer}
use Rattle.state.specs.declared.Head.{Head}
use Rattle.state.specs.Meaning.{relay_of, listed}
use Rattle.image.specs.Parts.{head_at}
use Rattle.locality.specs.Narrow.{Move, move, with_tables, narrow}
use Rattle.world.specs.Commits.{First, row_of, ends_view, ends_move}
use Rattle.locality.proofs.Table.{by_view, by_move}
use Rattle.locality.proofs.Seat.{present}
use Rattle.locality.proofs.Part.{seat_of_view, seat_of_move, generator_there, generator_absent, transfer_there, transfer_absent}
use Rattle.world.proofs.Lists.{seat_found}

-- ---- the seat i that a search among the eight rows of xs has found: what a part shows of xs, by the row x that is read there; its number is 0 where
-- it is not filled

pub record AtSeat {A : Type 0} (number : A → ℕ) (xs : List A) (d : A) (part : List A) (i : ℕ) (x : A) : Type 0 where
  few : length xs ≤ 8
  present : (i < length xs) ⊎ (i ≡ length xs)
  there : i < length xs → part ≡ get_or xs i d ∷ []
  absent : i ≡ length xs → part ≡ []
  row : i < 8 → x ≡ get_or xs i d
  full : i < length xs → eqb (number (get_or xs i d)) 0 ≡ false
  blank : number d ≡ 0

module _ {A : Type 0} {number : A → ℕ} {xs : List A} {d : A} {part : List A} {i : ℕ} {x : A} (at : AtSeat number xs d part i x) where
  pub nothing : (i < 8 → eqb (number x) 0 ≡ true) → [] ≡ part
  nothing e =
      let few = at.few in
      ⊎_elim (λ h. let l : i < 8 = omega arith in absurd (contrary (rw (at.row l) at (e l)) (at.full h))) (λ h. sym (at.absent h)) at.present

  pub something : i < 8 → eqb (number x) 0 ≡ false → x ∷ [] ≡ part
  something l e =
      ⊎_elim (λ h. rw (at.row l, at.there h))
      (λ h. absurd (contrary (eq-eqb (number x) 0 (ap number (at.row l ∙ get_or-eq_default xs d {n = i} (omega arith)) ∙ at.blank)) e)) at.present

  -- the row is read only where the seat is one of the eight, and filled
  pub shown : {C : Type 0} (means : C → A) → i < 8 → (y : Option C) → is_some y ≡ not (eqb (number x) 0) → IfSome y (λ u. means u ≡ x) → listed means y ≡ part
  shown means l None e k = nothing (λ h. not-false _ (sym e))
  shown means l (Some u) e k = rw k (something l (not-true _ (sym e)))

-- no seat is left
pub none_shown : {A : Type 0} {number : A → ℕ} {xs : List A} {d : A} {part : List A} {x : A} → AtSeat number xs d part 8 x → [] ≡ part
none_shown at = nothing at (λ h. absurd (omega arith))

-- ---- whatever the bytes are

module _ (b : List ℕ) where
  pub relay_at_lem : (s : ℕ) → s < 8 → state.relay_at (world_at b) s ≡ relay_at b (relay_begin s)
  unfolding world_at
  relay_at_lem s h = get_d_tab 8 s (λ k. relay_at b (relay_begin k)) no_relay h

  pub desk_at_lem : (n : ℕ) → n < 4 → state.desk_at (world_at b) n ≡ desk_at b (desk_begin n)
  unfolding world_at
  desk_at_lem n h = get_d_tab 4 n (λ k. desk_at b (desk_begin k)) no_desk h

  pub place_at_lem : (p : ℕ) → p < 256 → state.place_at (world_at b) p ≡ place_in (row_at b (place_begin p))
  unfolding world_at
  place_at_lem p h = get_d_tab 256 p (λ k. place_in (row_at b (place_begin k))) free h

  pub alive-row : (who : ℕ) → who < 12 → eqb (get_or b (row_of who) 0) 1 ≡ alive_in (world_at b) who
  unfolding relay_at desk_at
  alive-row who h = ⊎_elim (λ t. rw t (rw (relay_at_lem who (ltb-true who 8 t)))) (λ t. rw t (rw (desk_at_lem (who - 8) (omega (arith, ltb-false who 8 t))))) (decided (ltb who 8))

  pub view_at : (s : ℕ) → s < 8 → u16_at b (relay_begin s + head_view) ≡ (state.relay_at (world_at b) s).view
  unfolding relay_at
  view_at s h = rw (relay_at_lem s h)

  -- a relay is its head, with its tables
  pub head_with : (s : ℕ) → s < 8 → (gs : List Generator) (ts : List Transfer) → relay_of (head_at b (relay_begin s)) gs ts ≡ with_tables (state.relay_at (world_at b) s) gs ts
  unfolding relay_of head_at relay_at
  head_with s h gs ts = rw (relay_at_lem s h)

-- ---- good bytes

module _ (b : List ℕ) (good : good_bytes b ≡ true) where
  pub fitting : WorldFits (world_at b)
  fitting = world_fits (world_at b) (good_formed b good)

  pub shaped : Shaped (world_at b)
  shaped = fitting.shaped

  pub good_relay_lem : (s : ℕ) → good_relay s (state.relay_at (world_at b) s) ≡ true
  unfolding well_formed
  good_relay_lem s = rw zero-add at (from_at good_relay 0 (world_at b).relays s no_relay (hold_facts _ (good_formed b good)).1.0 (no_relay_lem (0 + s)))

  pub good_place_lem : (p : ℕ) → good_place (state.place_at (world_at b) p) ≡ true
  unfolding well_formed
  good_place_lem p = all_at good_place (world_at b).places p free (hold_facts _ (good_formed b good)).1.1.1.1.1.0 no_place

  module _ (s : ℕ) (hs : s < 8) where
    abbrev r : Relay
    r = state.relay_at (world_at b) s

    rows : RelayFits r
    rows = fitting.relay s

    pub generator_row : (i : ℕ) → i < 8 → generator_at b (generator_begin s i) ≡ get_or r.generators i (fresh 0)
    generator_row i h = ap (λ (l : List ℕ). generator_at l (generator_begin s i)) (sym (good_image b good)) ∙ read_generator (world_at b) fitting s i hs h

    pub transfer_row : (i : ℕ) → i < 8 → transfer_at b (transfer_begin s i) ≡ get_or r.transfers i (fresh_transfer 0 0)
    transfer_row i h = ap (λ (l : List ℕ). transfer_at l (transfer_begin s i)) (sym (good_image b good)) ∙ read_transfer (world_at b) fitting s i hs h

    row-view : (i : ℕ) → i < 8 → u16_at b (generator_begin s i) ≡ (get_or r.generators i (fresh 0)).view
    unfolding generator_at
    row-view i h = ap (λ (g : Generator). g.view) (generator_row i h)

    row_old : (i : ℕ) → i < 8 → u16_at b (transfer_begin s i) ≡ (get_or r.transfers i (fresh_transfer 0 0)).old
    unfolding transfer_at
    row_old i h = ap (λ (t : Transfer). t.old) (transfer_row i h)

    row_new : (i : ℕ) → i < 8 → u16_at b (transfer_begin s i + transfer_new) ≡ (get_or r.transfers i (fresh_transfer 0 0)).new
    unfolding transfer_at
    row_new i h = ap (λ (t : Transfer). t.new) (transfer_row i h)

    filled_view : (i : ℕ) → i < length r.generators → eqb (get_or r.generators i (fresh 0)).view 0 ≡ false
    filled_view i h = not-true _ (rows.generators.full i h)

    filled_new : (i : ℕ) → i < length r.transfers → eqb (get_or r.transfers i (fresh_transfer 0 0)).new 0 ≡ false
    filled_new i h = not-true _ (rows.transfers.full i h)

    -- what the search for a seat finds
    pub seat_view : (v i : ℕ) → First 8 (ends_view b (generators_begin s) v) i → seat_of_view v r.generators ≡ i
    unfolding ends_view fresh
    seat_view v i f =
        seat_found r.generators (fresh 0) (λ g. eqb g.view 0) (λ g. eqb g.view v) 8 (ends_view b (generators_begin s) v)
        rows.generators.few refl filled_view (λ k h. rw (row-view k h)) i f

    pub seat_move : (o n i : ℕ) → First 8 (ends_move b (transfers_begin s) o n) i → seat_of_move (move o n) r.transfers ≡ i
    unfolding ends_move fresh_transfer
    seat_move o n i f =
        seat_found r.transfers (fresh_transfer 0 0) (λ t. eqb t.new 0) (is_for o n) 8 (ends_move b (transfers_begin s) o n)
        rows.transfers.few refl filled_new (λ k h. rw (row_new k h, row_old k h)) i f

    -- so what the part shows
    pub generator_at_seat : (v : ℕ) (m : Move) (i : ℕ) → First 8 (ends_view b (generators_begin s) v) i
        → AtSeat (λ (g : Generator). g.view) r.generators (fresh 0) (narrow r v m).generators i (generator_at b (generator_begin s i))
    unfolding fresh
    generator_at_seat v m i f =
        let at = seat_view v i f in
        record {
          few = rows.generators.few;
          present = rw at at (present by_view v r.generators);
          there = rw at at (generator_there s r (good_relay_lem s) v m);
          absent = rw at at (generator_absent s r (good_relay_lem s) v m);
          row = generator_row i;
          full = filled_view i;
          blank = refl;
        }

    pub transfer_at_seat : (v o n i : ℕ) → First 8 (ends_move b (transfers_begin s) o n) i
        → AtSeat (λ (t : Transfer). t.new) r.transfers (fresh_transfer 0 0) (narrow r v (move o n)).transfers i (transfer_at b (transfer_begin s i))
    unfolding fresh_transfer
    transfer_at_seat v o n i f =
        let at = seat_move o n i f in
        record {
          few = rows.transfers.few;
          present = rw at at (present by_move (move o n) r.transfers);
          there = rw at at (transfer_there s r (good_relay_lem s) v (move o n));
          absent = rw at at (transfer_absent s r (good_relay_lem s) v (move o n));
          row = transfer_row i;
          full = filled_new i;
          blank = refl;
        }

    pub part_is : (v : ℕ) (m : Move) (h : Head) (gs : List Generator) (ts : List Transfer) → h ≡ head_at b (relay_begin s) → gs ≡ (narrow r v m).generators → ts ≡ (narrow r v m).transfers
        → relay_of h gs ts ≡ narrow r v m
    unfolding narrow
    part_is v m h gs ts eh eg et = rw (eh, eg, et) (head_with b s hs _ _)

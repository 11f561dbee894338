-- The rows of a buffer are good exactly when the world that it means is well formed and the buffer is its image. Assumes nothing.
use Rattle.std.specs.Prelude.{◌&&◌}
use mathlib.Core.Path.{◌≡◌, refl, sym, ap, ◌∙◌}
use mathlib.Core.Bool.{Bool, true, false, not, and-eq-true_iff, and-false, and-true, and_assoc}
use mathlib.Core.List.{List, [], ◌∷◌, ◌++◌}
use Prim.Native.Nat.{ℕ, ◌+◌, ◌*◌, ◌≤◌, ◌<◌}
use native.Mathlib.Nat.{zero-add, add-zero}
use native.Mathlib.Omega.{arith}
use lib.Dec.{eqb}
use lib.ListN.{length, get_or}
use borrow.Author.Tests.{eq-eqb, ne_eqb}
use Rattle.rows.specs.Bytes.{tab, table, zeros}
use Rattle.rows.specs.Tests.{all, all_zero}
use Rattle.rows.proofs.All.{all_at, all_every}
use Rattle.rows.proofs.Laws.{Holds, holds_self, length-tab, get_d_tab}
use Rattle.rows.proofs.Held.{run-held, none, more, cat-held, held_all, zeros-held, zeros_pass}
use Rattle.rows.proofs.Tables.{table-length, length-zeros}
use Rattle.rows.proofs.Fields.{cat-holds}
use Rattle.views.proofs.Truth.{same_truth}
use Rattle.views.proofs.Among.{same_fact, same_self}
use Rattle.rules.specs.Sets as sets
use Rattle.rules.specs.Sets.{same, those, member, all_hold}
use Rattle.rules.specs.State.{Generator, Transfer, Relay, Place, World, no_relay, no_desk, free}
use Rattle.rules.specs.declared.Desk.{Desk}
use Rattle.rules.specs.Generators.{fresh}
use Rattle.rules.specs.Relays.{fresh_transfer}
use Rattle.rules.specs.WellFormed.{is_view, is_pair, distinct, implies, same_bool, good_generator, good_transfer, other_view, other_move}
use Rattle.rules.specs.WellFormed.{good_generators, good_transfers, good_relay, good_desk, good_place, well_formed}
use Rattle.layout.specs.Layout.{head_width, generator_width, transfer_width, generators_width, transfers_width, relay_generators, relay_transfers, relay_width}
use Rattle.layout.specs.Layout.{desk_width, message_width, world_desks, world_places, world_zeros, world_width, world_rest, relay_begin, desk_begin, place_begin}
use Rattle.layout.specs.Image.{head_bytes, generator_bytes, transfer_bytes, relay_bytes, desk_bytes, place_bytes, image, generator_at, transfer_at, filled_generator, filled_transfer, relay_at, desk_at, row_at, place_in, world_at, good_bytes}
use Rattle.rules.proofs.Hold.{hold_facts, hold_tests}
use Rattle.layout.proofs.Widths.{length_head, length_generator, length_transfer, length_relay, length-desk, length-place, length-image, world_widths_lem}
use Rattle.layout.proofs.Fits.{GeneratorFits, TransferFits, generator_fits, transfer_fits, generator_filled, transfer_filled, no_generator, no_transfer}
use Rattle.layout.proofs.Rows.{unfilled_generator, unfilled_transfer, generator_back, transfer_back, holds_head, holds-generators, holds-transfers}
use Rattle.layout.proofs.Read.{holds-desk, holds-place, holds_relay}
use Rattle.layout.proofs.Zeros.{generator_zeros_lem, transfer_zeros_lem}
use Rattle.state.specs.declared.Head.{Head}
use Rattle.state.specs.Meaning.{relay_of}
use Rattle.image.specs.Parts.{head_at}
use Rattle.image.proofs.Parts.{relay_parts, head_alone}
use Rattle.good.specs.Rows.{held, differs, head_good, generator_row_good, transfer_row_good, other_generator, other_transfer, place_filled}
use Rattle.good.specs.Rows.{filled_good, desk_good, place_good, relay_good, rows_good}
use Rattle.good.proofs.Held.{from-tab, all-tab, held_true, held_fact}
use Rattle.good.proofs.Rows.{rows_same}

-- ---- a relay's tables

module _ (s : ℕ) where
  no_generators : good_generators s [] ≡ true
  unfolding good_generators all_hold sets.all distinct
  no_generators = refl

  no_transfers : good_transfers s [] ≡ true
  unfolding good_transfers all_hold sets.all distinct
  no_transfers = refl

module _ (l : List ℕ) (s o : ℕ) where
  generators_same : o + generators_width ≤ length l → let gs = those filled_generator (tab 8 (λ k. generator_at l (o + k * generator_width))) in
      all 8 (filled_good other_generator generator_row_good generator_width l s o) ≡ good_generators s gs && held l o (table generator_bytes (fresh 0) 8 gs)
  unfolding filled_good place_filled differs other_generator generator_row_good good_generators
  generators_same room =
      rows_same generator_bytes (fresh 0) generator_width length_generator generator_zeros_lem filled_generator unfilled_generator (good_generator s) other_view
      GeneratorFits (generator_fits s) no_generator (generator_filled s) generator_at l (generator_back l) o room

  transfers_same : o + transfers_width ≤ length l → let ts = those filled_transfer (tab 8 (λ k. transfer_at l (o + k * transfer_width))) in
      all 8 (filled_good other_transfer transfer_row_good transfer_width l s o)
      ≡ good_transfers s ts && held l o (table transfer_bytes (fresh_transfer 0 0) 8 ts)
  unfolding filled_good place_filled differs other_transfer transfer_row_good good_transfers
  transfers_same room =
      rows_same transfer_bytes (fresh_transfer 0 0) transfer_width length_transfer transfer_zeros_lem filled_transfer unfilled_transfer (good_transfer s) other_move
      TransferFits (transfer_fits s) no_transfer (transfer_filled s) transfer_at l (transfer_back l) o room

-- ---- a relay

hold_pair : (bs : List Bool) (g t : Bool) → all_hold (bs ++ (g ∷ t ∷ [])) ≡ all_hold (bs ++ (true ∷ true ∷ [])) && (g && t)
unfolding all_hold
hold_pair [] g t = ap (λ (x : Bool). g && x) (and-true t)
hold_pair (b ∷ bs) g t = rw (hold_pair bs g t) (sym (and_assoc b (all_hold (bs ++ (true ∷ true ∷ []))) (g && t)))

module _ (s : ℕ) where
  -- what is tested of a relay's head
  pub head_tested : (h : Head) → good_relay s (relay_of h [] [])
      ≡ all_hold (is_view h.view ∷ is_view h.known ∷ is_view h.pending ∷ is_pair h.holds ∷ implies h.active (h.entered && member h.view s)
      ∷ same_bool h.entered (not (eqb h.view 0)) ∷ true ∷ true ∷ [])
  unfolding good_relay relay_of
  head_tested h = rw (no_generators s, no_transfers s) refl

  -- a relay is good when its head is, and its tables are
  relay_good_lem : (h : Head) (gs : List Generator) (ts : List Transfer)
      → good_relay s (relay_of h gs ts) ≡ good_relay s (relay_of h [] []) && (good_generators s gs && good_transfers s ts)
  unfolding good_relay relay_of
  relay_good_lem h gs ts =
      rw (no_generators s, no_transfers s)
      (hold_pair (is_view h.view ∷ is_view h.known ∷ is_view h.pending ∷ is_pair h.holds ∷ implies h.active (h.entered && member h.view s)
      ∷ same_bool h.entered (not (eqb h.view 0)) ∷ []) (good_generators s gs) (good_transfers s ts))

module _ (l : List ℕ) (o : ℕ) (room : o + relay_width ≤ length l) (h : Head) (gs : List Generator) (ts : List Transfer) where
  stands_relay : Holds l (o + 0) (head_bytes (relay_of h gs ts)) → Holds l (o + relay_generators) (table generator_bytes (fresh 0) 8 gs) → Holds l (o + relay_transfers) (table transfer_bytes (fresh_transfer 0 0) 8 ts)
      → Holds l (o + 0) (relay_bytes (relay_of h gs ts))
  unfolding relay_bytes relay_of
  stands_relay x y z =
      cat-held (more head_width (length_head (relay_of h gs ts)) x
      (more generators_width (table-length generator_bytes (fresh 0) generator_width 8 length_generator gs) y
      (more transfers_width (table-length transfer_bytes (fresh_transfer 0 0) transfer_width 8 length_transfer ts) z (none room))))

  abbrev held_parts : Bool
  held_parts = held l o (head_bytes (relay_of h [] [])) && (held l (o + relay_generators) (table generator_bytes (fresh 0) 8 gs) && held l (o + relay_transfers) (table transfer_bytes (fresh_transfer 0 0) 8 ts))

  parts_held : held l o (relay_bytes (relay_of h gs ts)) ≡ true → held_parts ≡ true
  unfolding relay_of
  parts_held e =
      let r = relay_of h gs ts in
      let k = held_fact l o (relay_bytes r) (rw (length_relay r) room) e in
      rw (← head_alone h gs ts)
      (rw (held_true l o (head_bytes r) (holds_head l o r k), held_true l (o + relay_generators) _ (holds-generators l o r k), held_true l (o + relay_transfers) _ (holds-transfers l o r k)))

  relay_held : held_parts ≡ true → held l o (relay_bytes (relay_of h gs ts)) ≡ true
  relay_held e =
      let r = relay_of h gs ts in
      let a = (and-eq-true_iff (held l o (head_bytes (relay_of h [] []))) _).0 e in
      let b = (and-eq-true_iff (held l (o + relay_generators) (table generator_bytes (fresh 0) 8 gs)) (held l (o + relay_transfers) (table transfer_bytes (fresh_transfer 0 0) 8 ts))).0 a.1 in
      let lg = table-length generator_bytes (fresh 0) generator_width 8 length_generator gs in
      let lt = table-length transfer_bytes (fresh_transfer 0 0) transfer_width 8 length_transfer ts in
      let lh = length_head r in
      held_true l o (relay_bytes r) (go
      (rw (add-zero o, head_alone h gs ts) (held_fact l o (head_bytes (relay_of h [] [])) (omega (arith, length_head (relay_of h [] []))) a.0))
      (held_fact l (o + relay_generators) (table generator_bytes (fresh 0) 8 gs) (omega arith) b.0)
      (held_fact l (o + relay_transfers) (table transfer_bytes (fresh_transfer 0 0) 8 ts) (omega arith) b.1))
    where
      go : Holds l (o + 0) (head_bytes (relay_of h gs ts)) → Holds l (o + relay_generators) (table generator_bytes (fresh 0) 8 gs) → Holds l (o + relay_transfers) (table transfer_bytes (fresh_transfer 0 0) 8 ts)
          → Holds l o (relay_bytes (relay_of h gs ts))
      go x y z = rw (← add-zero o) (stands_relay x y z)

  relay_held_same : held l o (relay_bytes (relay_of h gs ts)) ≡ held_parts
  relay_held_same = same_truth (held l o (relay_bytes (relay_of h gs ts))) held_parts parts_held relay_held

both : {a b : Bool} → a ≡ true → b ≡ true → a && b ≡ true
both e f = rw (e, f)

rest_of : (w : World) → Holds (image w) world_zeros (zeros world_rest)
unfolding image
rest_of w = cat-holds (world_widths_lem w) (image w) 3 0 (omega arith) (holds_self (image w))

shuffle : (a b c d e f : Bool) → (a && b) && ((c && d) && (e && f)) ≡ (a && (c && e)) && (b && (d && f))
shuffle false b c d e f = refl
shuffle true false c d e f = sym (and-false (c && e))
shuffle true true false d e f = refl
shuffle true true true false e f = sym (and-false e)
shuffle true true true true e f = refl

module _ (l : List ℕ) (long : length l ≡ world_width) where
  relay_same : (s : ℕ) → s < 8 → relay_good l s ≡ good_relay s (relay_at l (relay_begin s)) && held l (relay_begin s) (relay_bytes (relay_at l (relay_begin s)))
  unfolding relay_good head_good
  relay_same s p =
      let o = relay_begin s in
      let h = head_at l o in
      let gs = those filled_generator (tab 8 (λ k. generator_at l (o + relay_generators + k * generator_width))) in
      let ts = those filled_transfer (tab 8 (λ k. transfer_at l (o + relay_transfers + k * transfer_width))) in
      rw (generators_same l s (o + relay_generators) (omega arith), transfers_same l s (o + relay_transfers) (omega arith), relay_parts l o, relay_good_lem s h gs ts, relay_held_same l o (omega arith) h gs ts)
      (shuffle (good_relay s (relay_of h [] [])) (held l o (head_bytes (relay_of h [] []))) (good_generators s gs) (held l (o + relay_generators) (table generator_bytes (fresh 0) 8 gs)) (good_transfers s ts)
      (held l (o + relay_transfers) (table transfer_bytes (fresh_transfer 0 0) 8 ts)))

  -- ---- all rows

  module _ (e : rows_good l ≡ true) where
    tests : (all 8 (relay_good l) ≡ true) × ((all 4 (λ n. desk_good l (desk_begin n)) ≡ true) × ((all 256 (λ p. place_good l (place_begin p)) ≡ true) × (all_zero l world_zeros world_rest ≡ true)))
    unfolding rows_good
    tests =
        let a = (and-eq-true_iff (all 8 (relay_good l)) _).0 e in
        let b = (and-eq-true_iff (all 4 (λ n. desk_good l (desk_begin n))) _).0 a.1 in
        let c = (and-eq-true_iff (all 256 (λ p. place_good l (place_begin p))) _).0 b.1 in
        (a.0, (b.0, (c.0, c.1)))

    relay_is : (k : ℕ) → k < 8 → (good_relay k (relay_at l (relay_begin k)) ≡ true) × (held l (relay_begin k) (relay_bytes (relay_at l (relay_begin k))) ≡ true)
    relay_is k p = (and-eq-true_iff _ _).0 (sym (relay_same k p) ∙ all_at 8 k (relay_good l) tests.0 p)

    desk-is : (k : ℕ) → k < 4 → (good_desk (desk_at l (desk_begin k)) ≡ true) × (held l (desk_begin k) (desk_bytes (desk_at l (desk_begin k))) ≡ true)
    unfolding desk_good
    desk-is k p = (and-eq-true_iff _ _).0 (all_at 4 k (λ n. desk_good l (desk_begin n)) tests.1.0 p)

    place_is : (k : ℕ) → k < 256 → let x = place_in (row_at l (place_begin k)) in (good_place x ≡ true) × (held l (place_begin k) (place_bytes x) ≡ true)
    unfolding place_good
    place_is k p = (and-eq-true_iff _ _).0 (all_at 256 k (λ p. place_good l (place_begin p)) tests.1.1.0 p)

    world_formed : well_formed (world_at l) ≡ true
    unfolding well_formed world_at
    world_formed =
        hold_tests _ (
          eq-eqb _ 8 (length-tab 8 (λ k. relay_at l (relay_begin k))),
          (
            from-tab 8 good_relay (λ k. relay_at l (relay_begin k)) ∙ all_every 8 (λ k. good_relay k (relay_at l (relay_begin k))) (λ k p. (relay_is k p).0),
            (
              eq-eqb _ 4 (length-tab 4 (λ k. desk_at l (desk_begin k))),
              (
                all-tab 4 good_desk (λ k. desk_at l (desk_begin k)) ∙ all_every 4 (λ k. good_desk (desk_at l (desk_begin k))) (λ k p. (desk-is k p).0),
                (
                  eq-eqb _ 256 (length-tab 256 (λ k. place_in (row_at l (place_begin k)))),
                  (all-tab 256 good_place (λ k. place_in (row_at l (place_begin k))) ∙ all_every 256 (λ k. good_place (place_in (row_at l (place_begin k)))) (λ k p. (place_is k p).0), tt),
                ),
              ),
            ),
          ),
        )

    relays-held : Holds l (0 + 0) (table relay_bytes no_relay 8 (tab 8 (λ k. relay_at l (relay_begin k))))
    relays-held =
        let row : ℕ → Relay = λ k. relay_at l (relay_begin k) in
        run-held relay_width 8 0 l (λ k. relay_bytes (get_or (tab 8 row) k no_relay)) (λ k. length_relay _) (omega arith)
        (λ k p. rw (get_d_tab 8 k row no_relay p, zero-add (relay_begin k)) (held_fact l (relay_begin k) (relay_bytes (row k)) (omega (arith, length_relay (row k))) (relay_is k p).1))

    desks-held : Holds l world_desks (table desk_bytes no_desk 4 (tab 4 (λ k. desk_at l (desk_begin k))))
    desks-held =
        let row : ℕ → Desk = λ k. desk_at l (desk_begin k) in
        run-held desk_width 4 world_desks l (λ k. desk_bytes (get_or (tab 4 row) k no_desk)) (λ k. length-desk _) (omega arith)
        (λ k p. rw (get_d_tab 4 k row no_desk p) (held_fact l (desk_begin k) (desk_bytes (row k)) (omega (arith, length-desk (row k))) (desk-is k p).1))

    places-held : Holds l world_places (table place_bytes free 256 (tab 256 (λ k. place_in (row_at l (place_begin k)))))
    places-held =
        let row : ℕ → Place = λ k. place_in (row_at l (place_begin k)) in
        run-held message_width 256 world_places l (λ k. place_bytes (get_or (tab 256 row) k free)) (λ k. length-place _) (omega arith)
        (λ k p. rw (get_d_tab 256 k row free p) (held_fact l (place_begin k) (place_bytes (row k)) (omega (arith, length-place (row k))) (place_is k p).1))

    image-held : Holds l (0 + 0) (image (world_at l))
    unfolding image world_at
    image-held =
        let end : 0 + world_width ≤ length l = omega arith in
        let rest : world_zeros + world_rest ≤ length l = omega arith in
        let w = world_at l in
        cat-held {o = 0} {n = 0} (more world_desks (table-length relay_bytes no_relay relay_width 8 length_relay w.relays) relays-held
        (more 256 (table-length desk_bytes no_desk desk_width 4 length-desk w.desks) desks-held
        (more 20480 (table-length place_bytes free message_width 256 length-place w.places) places-held
        (more world_rest (length-zeros world_rest) (zeros-held l world_zeros world_rest rest tests.1.1.1) (none end)))))

    image_same : same (image (world_at l)) l ≡ true
    image_same =
        let w = image (world_at l) in
        ap (same w) (held_all l w image-held (length-image (world_at l) ∙ sym long)) ∙ same_self w

  module _ (formed : well_formed (world_at l) ≡ true) (is : image (world_at l) ≡ l) where
    goods : (all 8 (λ k. good_relay k (relay_at l (relay_begin k))) ≡ true)
        × ((all 4 (λ k. good_desk (desk_at l (desk_begin k))) ≡ true) × (all 256 (λ k. good_place (place_in (row_at l (place_begin k)))) ≡ true))
    unfolding well_formed world_at
    goods =
        let h = hold_facts _ formed in (
          sym (from-tab 8 good_relay (λ k. relay_at l (relay_begin k))) ∙ h.1.0,
          (
            sym (all-tab 4 good_desk (λ k. desk_at l (desk_begin k))) ∙ h.1.1.1.0,
            sym (all-tab 256 good_place (λ k. place_in (row_at l (place_begin k)))) ∙ h.1.1.1.1.1.0,
          ),
        )

    holds_relay_row : (k : ℕ) → k < 8 → Holds l (relay_begin k) (relay_bytes (relay_at l (relay_begin k)))
    unfolding world_at
    holds_relay_row k p = rw (is, get_d_tab 8 k (λ k. relay_at l (relay_begin k)) no_relay p) at (holds_relay (world_at l) k p)

    holds-desk-row : (k : ℕ) → k < 4 → Holds l (desk_begin k) (desk_bytes (desk_at l (desk_begin k)))
    unfolding world_at
    holds-desk-row k p = rw (is, get_d_tab 4 k (λ k. desk_at l (desk_begin k)) no_desk p) at (holds-desk (world_at l) k p)

    holds-place-row : (k : ℕ) → k < 256 → Holds l (place_begin k) (place_bytes (place_in (row_at l (place_begin k))))
    unfolding world_at
    holds-place-row k p = rw (is, get_d_tab 256 k (λ k. place_in (row_at l (place_begin k))) free p) at (holds-place (world_at l) k p)

    holds-rest : Holds l world_zeros (zeros world_rest)
    holds-rest = rw is at (rest_of (world_at l))

    rows_pass : rows_good l ≡ true
    unfolding rows_good desk_good place_good
    rows_pass =
        both (all_every 8 (relay_good l) (λ k p. relay_same k p ∙ both (all_at 8 k (λ k. good_relay k (relay_at l (relay_begin k))) goods.0 p) (held_true l _ _ (holds_relay_row k p))))
        (both (all_every 4 (λ n. desk_good l (desk_begin n)) (λ k p. both (all_at 4 k (λ k. good_desk (desk_at l (desk_begin k))) goods.1.0 p) (held_true l _ _ (holds-desk-row k p))))
        (both (all_every 256 (λ n. place_good l (place_begin n)) (λ k p. both (all_at 256 k (λ k. good_place (place_in (row_at l (place_begin k)))) goods.1.1 p) (held_true l _ _ (holds-place-row k p))))
        (zeros_pass l world_zeros world_rest holds-rest)))

  pub rows_world : rows_good l ≡ well_formed (world_at l) && same (image (world_at l)) l
  rows_world =
      same_truth (rows_good l) (well_formed (world_at l) && same (image (world_at l)) l) (λ e. both (world_formed e) (image_same e))
      (λ e. let h = (and-eq-true_iff (well_formed (world_at l)) (same (image (world_at l)) l)).0 e in rows_pass h.0 (same_fact (image (world_at l)) l h.1))

  pub bytes_good : good_bytes l ≡ rows_good l
  unfolding good_bytes
  bytes_good = rw (eq-eqb (length l) world_width long) (sym rows_world)

pub other_length : (l : List ℕ) → (length l ≡ world_width → ⊥) → good_bytes l ≡ false
unfolding good_bytes
other_length l h = rw (ne_eqb (length l) world_width h)

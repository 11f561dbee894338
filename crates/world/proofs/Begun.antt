-- A start: relays and desks are written one after another into zeros; and CRASH, which writes one byte. Assumes nothing.
use mathlib.Core.Path.{◌≡◌, refl, sym, ap, ◌∙◌}
use mathlib.Core.Logic.{◌≢◌, ⊎_elim}
use mathlib.Core.Bool.{true}
use mathlib.Core.List.{List, [], ◌∷◌}
use Prim.Native.Nat.{ℕ, zero, suc, ◌+◌, ◌*◌, ◌-◌, ◌≤◌, ◌<◌}
use native.Mathlib.Nat.{add-zero}
use native.Mathlib.Numerals.{add-one}
use native.Mathlib.Omega.{arith}
use lib.Dec.{ltb}
use lib.ListN.{length, get_or, replicate, length-set, length-replicate}
use lib.Seq.{get_or-set_other}
use borrow.Author.Tests.{eq-eqb, ne_eqb, lt-leb, ltb-true, ltb-false}
use Rattle.views.proofs.Truth.{decided}
use Rattle.rows.specs.Bytes.{placed, splice, cat, zeros}
use Rattle.rows.proofs.Laws.{placed_fits}
use Rattle.rows.proofs.Tables.{splice-whole, length-zeros}
use Rattle.rules.specs.State.{Relay, no_relay, no_desk, free, World, relay_at, desk_at, with_relay, with_desk, crashed_relay, crashed_desk, start_relay, start_desk, start}
use Rattle.rules.specs.declared.Desk.{Desk}
use Rattle.layout.specs.Layout.{desk_width, world_desks, world_width, relay_begin, desk_begin}
use Rattle.layout.specs.Image.{head_bytes, relay_bytes, desk_bytes, image, world_at, good_bytes}
use Rattle.rules.specs.Messages.{bad_world, bad_step}
use Rattle.rules.specs.Steps.{no_report, crashing}
use Rattle.layout.specs.Lent.{kept, left, lent_start}
use Rattle.layout.proofs.Widths.{length_head, length-desk, length-image}
use Rattle.layout.proofs.World.{Shaped, good_image}
use Rattle.layout.proofs.Write.{write_head, put_head, write_relay, write-desk, put-desk}
use Rattle.layout.proofs.Fits.{replicate_at}
use Rattle.layout.proofs.Zeros.{image-zeros}
use Rattle.world.specs.Answer.{accepted}
use Rattle.world.specs.Commits.{row_of, relays_to, desks_to, begun}
use Rattle.world.proofs.Good.{shaped}

-- ---- the relays and desks so far

module _ (mask : ℕ) where
  relays_long : (n : ℕ) → length (relays_to mask n) ≡ 8
  unfolding relays_to
  relays_long zero = refl
  relays_long (suc n) = length-set (relays_to mask n) n (start_relay mask n) ∙ relays_long n

  desks_long : (n : ℕ) → length (desks_to mask n) ≡ 4
  unfolding desks_to
  desks_long zero = refl
  desks_long (suc n) = length-set (desks_to mask n) n (start_desk mask) ∙ desks_long n

  begun_shaped : (n m : ℕ) → Shaped (begun mask n m)
  unfolding begun
  begun_shaped n m = record { relays = relays_long n; desks = desks_long m; places = length-replicate 256 free }

  -- those not written yet
  no_relay_lem : (n k : ℕ) → n ≤ k → get_or (relays_to mask n) k no_relay ≡ no_relay
  unfolding relays_to
  no_relay_lem zero k h = replicate_at 8 k no_relay
  no_relay_lem (suc n) k h = get_or-set_other (relays_to mask n) n k (start_relay mask n) no_relay (λ (e : k ≡ n). omega arith) ∙ no_relay_lem n k (omega arith)

  relay_more : (n m : ℕ) → with_relay (begun mask n m) n (start_relay mask n) ≡ begun mask (n + 1) m
  unfolding begun relays_to
  relay_more n m = rw (add-one, relays_to)

  desk_more : (n m : ℕ) → with_desk (begun mask n m) m (start_desk mask) ≡ begun mask n (m + 1)
  unfolding begun desks_to
  desk_more n m = rw (add-one, desks_to)

  head_put : (n : ℕ) → splice (relay_bytes no_relay) 0 (head_bytes (start_relay mask n)) ≡ relay_bytes (start_relay mask n)
  unfolding start_relay
  head_put n = put_head no_relay (start_relay mask n) refl refl

  pub relay_written : (n m : ℕ) → n < 8 → placed (image (begun mask n m)) (relay_begin n) (head_bytes (start_relay mask n)) ≡ image (begun mask (n + 1) m)
  relay_written n m h =
      let w = begun mask n m in
      let r = start_relay mask n in
      let is : relay_at w n ≡ no_relay = unfold begun in no_relay_lem n n (omega arith) in
      placed_fits (image w) (head_bytes r) (relay_begin n) (omega (arith, length_head r, length-image w))
      ∙ ap (λ (k : ℕ). splice (image w) k (head_bytes r)) (sym (add-zero (relay_begin n)))
      ∙ write_relay w (begun_shaped n m) n 0 (head_bytes r) r h (omega (arith, length_head r)) (rw is (head_put n))
      ∙ ap image (relay_more n m)

  pub desk-written : (n m : ℕ) → m < 4 → placed (image (begun mask n m)) (desk_begin m) (desk_bytes (start_desk mask)) ≡ image (begun mask n (m + 1))
  desk-written n m h =
      let w = begun mask n m in
      let d = start_desk mask in
      placed_fits (image w) (desk_bytes d) (desk_begin m) (omega (arith, length-desk d, length-image w))
      ∙ put-desk w (begun_shaped n m) m d h
      ∙ ap image (desk_more n m)

  pub begun_all : begun mask 8 4 ≡ start mask
  unfolding begun relays_to desks_to start
  begun_all = refl

  pub begun-none : (l : List ℕ) → length l ≡ world_width → placed l 0 (zeros world_width) ≡ image (begun mask 0 0)
  begun-none l e =
      let z = length-zeros world_width in
      placed_fits l (zeros world_width) 0 (omega arith)
      ∙ splice-whole l (zeros world_width) (z ∙ sym e)
      ∙ sym image-zeros
      ∙ ap image nothing
    where
      nothing : record { relays = replicate 8 no_relay; desks = replicate 4 no_desk; places = replicate 256 free } ≡ begun mask 0 0
      nothing = unfold begun relays_to desks_to in refl

-- ---- "CRASH only ends alive"

crash_head : (r : Relay) → splice (head_bytes r) 0 (0 ∷ []) ≡ head_bytes (crashed_relay r)
unfolding head_bytes crashed_relay cat splice
crash_head r = refl

crash-row : (r : Relay) → splice (relay_bytes r) 0 (0 ∷ []) ≡ relay_bytes (crashed_relay r)
unfolding crashed_relay
crash-row r = write_head r (crashed_relay r) 0 (0 ∷ []) (omega arith) (crash_head r) refl refl

crash_seat : (d : Desk) → splice (desk_bytes d) 0 (0 ∷ []) ≡ desk_bytes (crashed_desk d)
unfolding desk_bytes crashed_desk cat splice
crash_seat d = refl

module _ (b : List ℕ) (good : good_bytes b ≡ true) where
  abbrev w : World
  w = world_at b

  relay_crashed : (s : ℕ) → s < 8 → placed b (relay_begin s) (0 ∷ []) ≡ image (with_relay w s (crashed_relay (relay_at w s)))
  relay_crashed s h =
      ap (λ (l : List ℕ). placed l (relay_begin s) (0 ∷ [])) (sym (good_image b good))
      ∙ placed_fits (image w) (0 ∷ []) (relay_begin s) (omega (arith, length-image w))
      ∙ ap (λ (k : ℕ). splice (image w) k (0 ∷ [])) (sym (add-zero (relay_begin s)))
      ∙ write_relay w (shaped b good) s 0 (0 ∷ []) (crashed_relay (relay_at w s)) h (omega arith) (crash-row (relay_at w s))

  desk_crashed : (n : ℕ) → n < 4 → placed b (desk_begin n) (0 ∷ []) ≡ image (with_desk w n (crashed_desk (desk_at w n)))
  desk_crashed n h =
      ap (λ (l : List ℕ). placed l (desk_begin n) (0 ∷ [])) (sym (good_image b good))
      ∙ placed_fits (image w) (0 ∷ []) (desk_begin n) (omega (arith, length-image w))
      ∙ ap (λ (k : ℕ). splice (image w) (world_desks + k) (0 ∷ [])) (sym (add-zero (n * desk_width)))
      ∙ write-desk w (shaped b good) n 0 (0 ∷ []) (crashed_desk (desk_at w n)) h (omega arith) (crash_seat (desk_at w n))

  pub crash-left : (who : ℕ) → who < 12 → (l : List ℕ) → l ≡ placed b (row_of who) (0 ∷ []) → accepted no_report l ≡ left b (crashing w who)
  unfolding crashing
  crash-left who h l e =
      rw e (⊎_elim (λ t. rw t (rw (relay_crashed who (ltb-true who 8 t)))) (λ t. rw t (rw (desk_crashed (who - 8) (omega (arith, ltb-false who 8 t))))) (decided (ltb who 8)))

-- ---- what is left of a start

module _ (b : List ℕ) (mask : ℕ) where
  pub start_misfit : length b ≢ world_width → kept bad_world b ≡ lent_start b mask
  unfolding lent_start
  start_misfit h = rw (ne_eqb (length b) world_width h)

  module _ (long : length b ≡ world_width) where
    pub start_none : mask ≡ 0 → kept bad_step b ≡ lent_start b mask
    unfolding lent_start
    start_none e = rw (eq-eqb (length b) world_width long, eq-eqb mask 0 e)

    pub start-done : mask ≢ 0 → mask < 256 → (x y z : List ℕ) → x ≡ placed b 0 (zeros world_width) → (x ≡ image (begun mask 0 0) → y ≡ image (begun mask 8 0)) → (y ≡ image (begun mask 8 0) → z ≡ image (begun mask 8 4))
        → accepted no_report z ≡ lent_start b mask
    unfolding lent_start
    start-done h k x y z e f g =
        rw (eq-eqb (length b) world_width long, ne_eqb mask 0 h, lt-leb 256 mask k)
        (ap (accepted no_report) (g (f (e ∙ begun-none mask b long)) ∙ ap image (begun_all mask)))

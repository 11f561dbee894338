-- A relay's region of good bytes: whether what its part has become finds its seats, and what is written there. Assumes nothing.
use Rattle.std.specs.Prelude.{Option, None, Some, is_some}
use mathlib.Core.Path.{◌≡◌, refl, sym, ap, ◌∙◌}
use mathlib.Core.Logic.{◌≢◌}
use mathlib.Core.Bool.{true, false}
use mathlib.Core.List.{List, [], ◌∷◌}
use Prim.Native.Nat.{ℕ, ◌+◌, ◌*◌, ◌≤◌, ◌<◌}
use native.Mathlib.Nat.{add-zero, add_assoc}
use native.Mathlib.Omega.{arith}
use lib.Dec.{eqb, leb, ltb}
use lib.ListN.{length, get_or}
use lib.Seq.{get_or-set_same, set-set}
use borrow.Author.Tests.{eq-eqb, ne_eqb, le-leb}
use Rattle.views.proofs.Sets.{inside_lt, inside_fact}
use Rattle.rows.specs.Bytes.{placed, splice, table, tab, u16_at}
use Rattle.rows.proofs.Laws.{placed_fits, run_ext}
use Rattle.rows.proofs.Tables.{table-length}
use Rattle.rules.specs.Sets.{those, inside}
use Rattle.rules.specs.State.{Generator, Transfer, Relay, no_relay, World, relay_at, with_relay, with_generators, with_transfers}
use Rattle.rules.specs.Generators.{fresh}
use Rattle.rules.specs.Relays.{fresh_transfer}
use Rattle.layout.specs.Layout.{head_view, generator_width, transfer_width, relay_generators, relay_transfers, relay_width, relay_begin, generators_begin}
use Rattle.layout.specs.Layout.{transfers_begin, generator_begin, transfer_begin}
use Rattle.layout.specs.Image.{head_bytes, generator_bytes, transfer_bytes, relay_bytes, image, transfer_at, filled_transfer, world_at, good_bytes}
use Rattle.layout.specs.Image.{relay_at as relay_in}
use Rattle.layout.proofs.Widths.{length_head, length_generator, length_transfer, length-image}
use Rattle.layout.proofs.World.{Shaped, good_image}
use Rattle.rows.proofs.Change.{Changed}
use Rattle.layout.proofs.Write.{put_head, put_generator_lem, put_transfer_lem, put-transfers, write_relay, shaped_relay}
use Rattle.state.specs.declared.Generator as code-generator
use Rattle.state.specs.declared.Transfer as code-transfer
use Rattle.state.specs.declared.Part.{Part}
use Rattle.state.specs.Meaning.{generator_of, transfer_of, relay_of, part_of}
use Rattle.image.proofs.Parts.{head_alone}
use Rattle.locality.specs.Narrow.{move, widened}
use Rattle.world.specs.Commits.{First, Found, ends_view, ends_move, kept_rows}
use Rattle.locality.proofs.Part.{generators_fit, transfers_fit, generators_stay, generator_written, generator_room, transfers_stay, transfer_written, transfer_room, transfers-freed, freed_fewer}
use Rattle.world.proofs.Lists.{seat_room, set_self, those_again}
use Rattle.world.proofs.Good.{relay_at_lem, view_at, shaped, good_relay_lem, seat_view, seat_move}

-- ---- a piece written into the region of the relay s, which has become r

module _ (w : World) (sh : Shaped w) (s : ℕ) (hs : s < 8) where
  pub relay_put : (r q : Relay) (o : ℕ) (v : List ℕ) → o + length v ≤ relay_width → splice (relay_bytes r) o v ≡ relay_bytes q
      → placed (image (with_relay w s r)) (relay_begin s + o) v ≡ image (with_relay w s q)
  relay_put r q o v h e =
      let u : World = with_relay w s r in
      let long = sh.relays in
      let is : relay_at u s ≡ r = get_or-set_same w.relays s r no_relay (omega arith) in
      placed_fits (image u) v (relay_begin s + o) (omega (arith, length-image u))
      ∙ write_relay u (shaped_relay w sh s r) s o v q hs h (rw is e)
      ∙ ap (λ (l : List Relay). image (record { relays = l; desks = w.desks; places = w.places })) (set-set w.relays s r q)

  pub relay_same : image w ≡ image (with_relay w s (relay_at w s))
  relay_same = ap (λ (l : List Relay). image (record { relays = l; desks = w.desks; places = w.places })) (sym (set_self w.relays s no_relay))

-- ---- good bytes

module _ (b : List ℕ) (good : good_bytes b ≡ true) (s : ℕ) (hs : s < 8) (p : Part) where
  abbrev w : World
  w = world_at b

  abbrev r : Relay
  r = relay_at w s

  abbrev n : Relay
  n = part_of p

  -- the whole region, before anything is written
  begin : b ≡ image (with_relay w s r)
  begin = sym (good_image b good) ∙ relay_same w (shaped b good) s hs

  -- ---- what the part shows

  no_generator : p.generator ≡ None → n.generators ≡ []
  unfolding part_of relay_of
  no_generator e = rw e

  a_generator : (g : code-generator.Generator) → p.generator ≡ Some g → n.generators ≡ generator_of g ∷ []
  unfolding part_of relay_of
  a_generator g e = rw e

  no_transfer : p.transfer ≡ None → n.transfers ≡ []
  unfolding part_of relay_of
  no_transfer e = rw e

  a_transfer : (t : code-transfer.Transfer) → p.transfer ≡ Some t → n.transfers ≡ transfer_of t ∷ []
  unfolding part_of relay_of
  a_transfer t e = rw e

  generator_view_lem : (g : code-generator.Generator) → (generator_of g).view ≡ g.view
  unfolding generator_of
  generator_view_lem g = refl

  transfer_move : (t : code-transfer.Transfer) → move (transfer_of t).old (transfer_of t).new ≡ move t.old t.new
  unfolding transfer_of
  transfer_move t = refl

  -- its view, and the view before
  same_view_lem : p.head.view ≡ u16_at b (relay_begin s + head_view) → eqb n.view r.view ≡ true
  unfolding part_of relay_of
  same_view_lem e = eq-eqb _ _ (e ∙ view_at b s hs)

  other_view_lem : p.head.view ≢ u16_at b (relay_begin s + head_view) → eqb n.view r.view ≡ false
  unfolding part_of relay_of
  other_view_lem e = ne_eqb _ _ (λ q. e (q ∙ sym (view_at b s hs)))

  -- ---- the seats

  few_generators : length r.generators ≤ 8
  few_generators = generators_fit s r (good_relay_lem b good s)

  few_transfers : length r.transfers ≤ 8
  few_transfers = transfers_fit s r (good_relay_lem b good s)

  pub seated_none : p.generator ≡ None → true ≡ leb (length (widened r n).generators) 8
  seated_none e = sym (rw (generators_stay r n (no_generator e)) (le-leb _ _ few_generators))

  pub seated_some : (g : code-generator.Generator) → p.generator ≡ Some g → (i : ℕ) → First 8 (ends_view b (generators_begin s) g.view) i
      → ltb i 8 ≡ leb (length (widened r n).generators) 8
  seated_some g e i f =
      ap (λ (k : ℕ). ltb k 8) (sym (seat_view b good s hs g.view i f))
      ∙ sym (generator_room r n (generator_of g) (a_generator g e) g.view (generator_view_lem g) 8 few_generators)

  pub seated_found : (g : code-generator.Generator) → p.generator ≡ Some g → (x : Option ℕ) → Found 8 (ends_view b (generators_begin s) g.view) x
      → is_some x ≡ leb (length (widened r n).generators) 8
  seated_found g e = seat_room (ends_view b (generators_begin s) g.view) (leb (length (widened r n).generators) 8) (seated_some g e)

  pub moved_seated : p.head.view ≢ u16_at b (relay_begin s + head_view) → true ≡ leb (length (widened r n).transfers) 8
  moved_seated v =
      let few : length (widened r n).transfers ≤ 8 = omega (arith, freed_fewer r n (other_view_lem v), few_transfers) in
      sym (le-leb (length (widened r n).transfers) 8 few)

  module _ (v : p.head.view ≡ u16_at b (relay_begin s + head_view)) where
    pub stays_seated : p.transfer ≡ None → true ≡ leb (length (widened r n).transfers) 8
    stays_seated e = sym (rw (transfers_stay r n (same_view_lem v) (no_transfer e)) (le-leb _ _ few_transfers))

    pub moves_seated : (t : code-transfer.Transfer) → p.transfer ≡ Some t → (i : ℕ) → First 8 (ends_move b (transfers_begin s) t.old t.new) i
        → ltb i 8 ≡ leb (length (widened r n).transfers) 8
    moves_seated t e i f =
        ap (λ (k : ℕ). ltb k 8) (sym (seat_move b good s hs t.old t.new i f))
        ∙ sym (transfer_room r n (same_view_lem v) (transfer_of t) (a_transfer t e) (move t.old t.new) (transfer_move t) 8 few_transfers)

    pub moves_found : (t : code-transfer.Transfer) → p.transfer ≡ Some t → (x : Option ℕ) → Found 8 (ends_move b (transfers_begin s) t.old t.new) x
        → is_some x ≡ leb (length (widened r n).transfers) 8
    moves_found t e = seat_room (ends_move b (transfers_begin s) t.old t.new) (leb (length (widened r n).transfers) 8) (moves_seated t e)

  -- ---- the transfers are written

  abbrev ts : List Transfer
  ts = (widened r n).transfers

  write : (o : ℕ) (v : List ℕ) → o + length v ≤ relay_width → splice (relay_bytes r) o v ≡ relay_bytes (with_transfers r ts)
      → placed b (relay_begin s + o) v ≡ image (with_relay w s (with_transfers r ts))
  write o v h e = ap (λ (l : List ℕ). placed l (relay_begin s + o) v) begin ∙ relay_put w (shaped b good) s hs r (with_transfers r ts) o v h e

  -- a transfer that is kept is filled
  entered : (u : Transfer) → inside p.head.view u.new ≡ true → filled_transfer u ≡ true
  entered u e = rw (ne_eqb u.new 0 (λ (z : u.new ≡ 0). omega (arith, inside_lt (inside_fact p.head.view u.new e))))

  kept_rows_lem : kept_rows b (transfers_begin s) p.head.view 8 ≡ those (λ u. inside p.head.view u.new) r.transfers
  unfolding kept_rows relay_in
  kept_rows_lem = rw (relay_at_lem b s hs) (sym (those_again (λ u. inside p.head.view u.new) filled_transfer entered (tab 8 (λ k. transfer_at b (transfer_begin s k)))))

  pub moved-written : p.head.view ≢ u16_at b (relay_begin s + head_view) → (xs : List Transfer)
      → ((k : ℕ) → k < 8 → get_or xs k (fresh_transfer 0 0) ≡ get_or (kept_rows b (transfers_begin s) p.head.view 8) k (fresh_transfer 0 0))
      → placed b (transfers_begin s) (table transfer_bytes (fresh_transfer 0 0) 8 xs) ≡ image (with_relay w s (with_transfers r ts))
  unfolding part_of relay_of
  moved-written v xs each =
      let freed : ts ≡ those (λ u. inside p.head.view u.new) r.transfers = transfers-freed r n (other_view_lem v) in
      let same : table transfer_bytes (fresh_transfer 0 0) 8 xs ≡ table transfer_bytes (fresh_transfer 0 0) 8 ts =
      run_ext 8 (λ k. transfer_bytes (get_or xs k (fresh_transfer 0 0))) (λ k. transfer_bytes (get_or ts k (fresh_transfer 0 0)))
      (λ k h. ap transfer_bytes (each k h ∙ ap (λ (l : List Transfer). get_or l k (fresh_transfer 0 0)) (kept_rows_lem ∙ sym freed))) in
      rw same
      (write relay_transfers (table transfer_bytes (fresh_transfer 0 0) 8 ts) (omega (arith, table-length transfer_bytes (fresh_transfer 0 0) transfer_width 8 length_transfer ts)) (put-transfers r ts))

  module _ (v : p.head.view ≡ u16_at b (relay_begin s + head_view)) where
    pub stays_written : p.transfer ≡ None → b ≡ image (with_relay w s (with_transfers r ts))
    unfolding with_transfers
    stays_written e = begin ∙ rw (transfers_stay r n (same_view_lem v) (no_transfer e))

    pub moves_written : (t : code-transfer.Transfer) → p.transfer ≡ Some t → (i : ℕ) → First 8 (ends_move b (transfers_begin s) t.old t.new) i → i < 8
        → placed b (transfer_begin s i) (transfer_bytes (transfer_of t)) ≡ image (with_relay w s (with_transfers r ts))
    moves_written t e i f h =
        let u = transfer_of t in
        let at = seat_move b good s hs t.old t.new i f in
        ap (λ (k : ℕ). placed b k (transfer_bytes u)) (add_assoc (relay_begin s) relay_transfers (i * transfer_width))
        ∙ write (relay_transfers + i * transfer_width) (transfer_bytes u) (omega (arith, length_transfer u))
        (put_transfer_lem r ts i u (rw at at (transfer_written r n (same_view_lem v) u (a_transfer t e) (move t.old t.new) (transfer_move t))) h)

  -- ---- then the head, then the generator

  abbrev headed : Relay
  headed = relay_of p.head r.generators ts

  pub head_written : placed (image (with_relay w s (with_transfers r ts))) (relay_begin s) (head_bytes (relay_of p.head [] [])) ≡ image (with_relay w s headed)
  head_written =
      rw (← head_alone p.head r.generators ts)
      (ap (λ (k : ℕ). placed (image (with_relay w s (with_transfers r ts))) k (head_bytes headed)) (sym (add-zero (relay_begin s)))
      ∙ relay_put w (shaped b good) s hs (with_transfers r ts) headed 0 (head_bytes headed) (omega (arith, length_head headed)) whole)
    where
      whole : splice (relay_bytes (with_transfers r ts)) 0 (head_bytes headed) ≡ relay_bytes headed
      whole = unfold with_transfers relay_of in (put_head (with_transfers r ts) headed refl refl)

  pub none_written : p.generator ≡ None → headed ≡ widened r n
  unfolding widened part_of relay_of
  none_written e = rw e

  region : (g : Generator) (i : ℕ) → Changed (fresh 0) r.generators i g (widened r n).generators → i < 8
      → splice (relay_bytes headed) (relay_generators + i * generator_width) (generator_bytes g) ≡ relay_bytes (widened r n)
  unfolding relay_of with_generators part_of widened
  region g i c h = put_generator_lem headed (widened r n).generators i g c h

  pub some_written : (g : code-generator.Generator) → p.generator ≡ Some g → (i : ℕ) → First 8 (ends_view b (generators_begin s) g.view) i → i < 8
      → placed (image (with_relay w s headed)) (generator_begin s i) (generator_bytes (generator_of g)) ≡ image (with_relay w s (widened r n))
  some_written g e i f h =
      let u = generator_of g in
      let at = seat_view b good s hs g.view i f in
      ap (λ (k : ℕ). placed (image (with_relay w s headed)) k (generator_bytes u)) (add_assoc (relay_begin s) relay_generators (i * generator_width))
      ∙ relay_put w (shaped b good) s hs headed (widened r n) (relay_generators + i * generator_width) (generator_bytes u) (omega (arith, length_generator u))
      (region u i (rw at at (generator_written r n u (a_generator g e) g.view (generator_view_lem g))) h)

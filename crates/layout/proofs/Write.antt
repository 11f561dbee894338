-- What a piece written into the image of a world makes of it: the image of the world with that part changed. Assumes nothing.
use mathlib.Core.Path.{◌≡◌, sym, ap, ◌∙◌}
use mathlib.Core.List.{List}
use Prim.Native.Nat.{ℕ, ◌+◌, ◌*◌, ◌≤◌, ◌<◌}
use native.Mathlib.Nat.{add-zero, zero-add}
use native.Mathlib.Omega.{arith}
use lib.ListN.{length, get_or, set, length-set}
use Rattle.rows.specs.Bytes.{splice, cat, table}
use Rattle.rows.proofs.Fields.{cat-write}
use Rattle.rows.proofs.Tables.{splice-whole, table-length}
use Rattle.rules.specs.State.{Generator, Transfer, Relay, with_generators, with_transfers, no_relay, no_desk, Place, free, World, relay_at, desk_at, place_at, with_relay, with_desk, with_places}
use Rattle.rules.specs.declared.Desk.{Desk}
use Rattle.rules.specs.Generators.{fresh}
use Rattle.rules.specs.Relays.{fresh_transfer}
use Rattle.layout.specs.Layout.{head_width, generator_width, transfer_width, transfers_width, relay_generators, relay_transfers, relay_width, desk_width}
use Rattle.layout.specs.Layout.{message_width, world_desks, world_places, relay_begin, desk_begin, place_begin}
use Rattle.layout.specs.Image.{head_bytes, generator_bytes, transfer_bytes, relay_bytes, desk_bytes, place_bytes, image, relay_fields, world_tables}
use Rattle.layout.proofs.Widths.{length_head, length_generator, length_transfer, relay_widths_lem, length_relay, length-desk, length-place, world_widths_lem}
use Rattle.rows.proofs.Change.{Changed, changed_set, table-write}
use Rattle.layout.proofs.World.{Shaped}

-- a whole row written over another
over : {A : Type 0} (enc : A → List ℕ) {w : ℕ} → ((x : A) → length (enc x) ≡ w) → (x y : A) → splice (enc x) 0 (enc y) ≡ enc y
over enc wide x y = splice-whole (enc x) (enc y) (wide y ∙ sym (wide x))

-- ---- inside a relay's region

module _ (r : Relay) where
  -- the head: v at o inside it, and all of it
  pub write_head : (q : Relay) (o : ℕ) (v : List ℕ) → o + length v ≤ head_width → splice (head_bytes r) o v ≡ head_bytes q
      → r.generators ≡ q.generators → r.transfers ≡ q.transfers → splice (relay_bytes r) o v ≡ relay_bytes q
  unfolding relay_bytes
  write_head q o v h e eg et =
      ap (λ (n : ℕ). splice (cat (relay_fields r)) n v) (sym (zero-add o))
      ∙ cat-write (relay_widths_lem r) 0 o v (omega arith) h
      ∙ rw (e, eg, et)

  pub put_head : (q : Relay) → r.generators ≡ q.generators → r.transfers ≡ q.transfers → splice (relay_bytes r) 0 (head_bytes q) ≡ relay_bytes q
  put_head q = write_head q 0 (head_bytes q) (omega (arith, length_head q)) (over head_bytes length_head r q)

  -- a generator's place
  write_generator : (gs : List Generator) (i o : ℕ) (v : List ℕ) (g : Generator) → Changed (fresh 0) r.generators i g gs → i < 8 → o + length v ≤ generator_width
      → splice (generator_bytes (get_or r.generators i (fresh 0))) o v ≡ generator_bytes g
      → splice (relay_bytes r) (relay_generators + (i * generator_width + o)) v ≡ relay_bytes (with_generators r gs)
  unfolding relay_bytes head_bytes with_generators
  write_generator gs i o v g c hi ho e =
      cat-write (relay_widths_lem r) 1 (i * generator_width + o) v (omega arith) (omega arith)
      ∙ ap (λ (t : List ℕ). cat (set (relay_fields r) 1 t)) (table-write generator_bytes (fresh 0) generator_width 8 length_generator r.generators gs i o v g c hi ho e)

  pub put_generator_lem : (gs : List Generator) (i : ℕ) (g : Generator) → Changed (fresh 0) r.generators i g gs → i < 8
      → splice (relay_bytes r) (relay_generators + i * generator_width) (generator_bytes g) ≡ relay_bytes (with_generators r gs)
  put_generator_lem gs i g c hi =
      rw (← add-zero (i * generator_width))
      (write_generator gs i 0 (generator_bytes g) g c hi (omega (arith, length_generator g)) (over generator_bytes length_generator (get_or r.generators i (fresh 0)) g))

  -- a transfer's place
  write_transfer : (ts : List Transfer) (i o : ℕ) (v : List ℕ) (t : Transfer) → Changed (fresh_transfer 0 0) r.transfers i t ts → i < 8 → o + length v ≤ transfer_width
      → splice (transfer_bytes (get_or r.transfers i (fresh_transfer 0 0))) o v ≡ transfer_bytes t
      → splice (relay_bytes r) (relay_transfers + (i * transfer_width + o)) v ≡ relay_bytes (with_transfers r ts)
  unfolding relay_bytes head_bytes with_transfers
  write_transfer ts i o v t c hi ho e =
      cat-write (relay_widths_lem r) 2 (i * transfer_width + o) v (omega arith) (omega arith)
      ∙ ap (λ (b : List ℕ). cat (set (relay_fields r) 2 b)) (table-write transfer_bytes (fresh_transfer 0 0) transfer_width 8 length_transfer r.transfers ts i o v t c hi ho e)

  pub put_transfer_lem : (ts : List Transfer) (i : ℕ) (t : Transfer) → Changed (fresh_transfer 0 0) r.transfers i t ts → i < 8
      → splice (relay_bytes r) (relay_transfers + i * transfer_width) (transfer_bytes t) ≡ relay_bytes (with_transfers r ts)
  put_transfer_lem ts i t c hi =
      rw (← add-zero (i * transfer_width))
      (write_transfer ts i 0 (transfer_bytes t) t c hi (omega (arith, length_transfer t)) (over transfer_bytes length_transfer (get_or r.transfers i (fresh_transfer 0 0)) t))

  -- all transfers at once
  pub put-transfers : (ts : List Transfer) → splice (relay_bytes r) relay_transfers (table transfer_bytes (fresh_transfer 0 0) 8 ts) ≡ relay_bytes (with_transfers r ts)
  unfolding relay_bytes head_bytes with_transfers
  put-transfers ts =
      let new = table transfer_bytes (fresh_transfer 0 0) 8 ts in
      let wide : (ts : List Transfer) → length (table transfer_bytes (fresh_transfer 0 0) 8 ts) ≡ transfers_width = table-length transfer_bytes (fresh_transfer 0 0) transfer_width 8 length_transfer in
      cat-write (relay_widths_lem r) 2 0 new (omega arith) (omega (arith, wide ts))
      ∙ ap (λ (b : List ℕ). cat (set (relay_fields r) 2 b)) (over (table transfer_bytes (fresh_transfer 0 0) 8) wide r.transfers ts)

-- ---- inside the image: v at o inside a row, and the whole row

module _ (w : World) where
  write-place : (ps : List Place) (p o : ℕ) (v : List ℕ) (x : Place) → Changed free w.places p x ps → p < 256 → o + length v ≤ message_width
      → splice (place_bytes (place_at w p)) o v ≡ place_bytes x → splice (image w) (world_places + (p * message_width + o)) v ≡ image (with_places w ps)
  unfolding image
  write-place ps p o v x c hp ho e =
      cat-write (world_widths_lem w) 2 (p * message_width + o) v (omega arith) (omega arith)
      ∙ ap (λ (t : List ℕ). cat (set (world_tables w) 2 t)) (table-write place_bytes free message_width 256 length-place w.places ps p o v x c hp ho e)

  pub put-place : (ps : List Place) (p : ℕ) (x : Place) → Changed free w.places p x ps → p < 256
      → splice (image w) (place_begin p) (place_bytes x) ≡ image (with_places w ps)
  put-place ps p x c hp =
      rw (← add-zero (p * message_width)) (write-place ps p 0 (place_bytes x) x c hp (omega (arith, length-place x)) (over place_bytes length-place (place_at w p) x))

module _ (w : World) (shaped : Shaped w) where
  -- so what a piece makes of a relay's region, it makes of the image
  pub write_relay : (s o : ℕ) (v : List ℕ) (r : Relay) → s < 8 → o + length v ≤ relay_width → splice (relay_bytes (relay_at w s)) o v ≡ relay_bytes r
      → splice (image w) (relay_begin s + o) v ≡ image (with_relay w s r)
  unfolding image
  write_relay s o v r hs ho e =
      let long = shaped.relays in
      ap (λ (n : ℕ). splice (cat (world_tables w)) n v) (sym (zero-add (relay_begin s + o)))
      ∙ cat-write (world_widths_lem w) 0 (relay_begin s + o) v (omega arith) (omega arith)
      ∙ ap (λ (t : List ℕ). cat (set (world_tables w) 0 t))
      (table-write relay_bytes no_relay relay_width 8 length_relay w.relays (set w.relays s r) s o v r (changed_set w.relays s r (omega arith)) hs ho e)

  pub write-desk : (n o : ℕ) (v : List ℕ) (d : Desk) → n < 4 → o + length v ≤ desk_width → splice (desk_bytes (desk_at w n)) o v ≡ desk_bytes d
      → splice (image w) (world_desks + (n * desk_width + o)) v ≡ image (with_desk w n d)
  unfolding image
  write-desk n o v d hn ho e =
      let long = shaped.desks in
      cat-write (world_widths_lem w) 1 (n * desk_width + o) v (omega arith) (omega arith)
      ∙ ap (λ (t : List ℕ). cat (set (world_tables w) 1 t))
      (table-write desk_bytes no_desk desk_width 4 length-desk w.desks (set w.desks n d) n o v d (changed_set w.desks n d (omega arith)) hn ho e)

  pub put-desk : (n : ℕ) (d : Desk) → n < 4 → splice (image w) (desk_begin n) (desk_bytes d) ≡ image (with_desk w n d)
  put-desk n d hn = rw (← add-zero (n * desk_width)) (write-desk n 0 (desk_bytes d) d hn (omega (arith, length-desk d)) (over desk_bytes length-desk (desk_at w n) d))

  -- the world stays one of 8 relays, 4 desks and 256 places
  pub shaped_relay : (s : ℕ) (r : Relay) → Shaped (with_relay w s r)
  shaped_relay s r = record { relays = length-set w.relays s r ∙ shaped.relays; desks = shaped.desks; places = shaped.places }

-- How wide each part of the image of a world is, for every value: the widths of a row's fields, and of the row. Assumes nothing.
use mathlib.Core.Path.{◌≡◌, refl}
use mathlib.Core.List.{List, [], ◌∷◌}
use Prim.Native.Nat.{ℕ}
use lib.ListN.{length, get_or, length-append}
use native.Mathlib.Omega.{arith}
use Rattle.rows.specs.Bytes.{be16, table}
use Rattle.rows.proofs.Laws.{length_run}
use Rattle.rows.proofs.Numbers.{length-bytes_of}
use Rattle.rows.proofs.Fields.{Widths, none, more, cat-length}
use Rattle.rows.proofs.Tables.{table-length, length-zeros}
use Rattle.rules.specs.Stamps.{Pair}
use Rattle.rules.specs.State.{Generator, Transfer, Relay, no_relay, no_desk, Place, free, World}
use Rattle.rules.specs.declared.Desk.{Desk}
use Rattle.rules.specs.Generators.{fresh}
use Rattle.rules.specs.Relays.{fresh_transfer}
use Rattle.layout.specs.Layout.{byte_width, u16_width, u32_width, sequence_width, pair_width, head_width, head_rest, notes_width, generator_width, generator_rest}
use Rattle.layout.specs.Layout.{transfer_width, transfer_rest, generators_width, transfers_width, relay_width, desk_width, message_width, message_rest}
use Rattle.layout.specs.Layout.{world_desks, world_width, world_rest}
use Rattle.layout.specs.Image.{sequence_bytes, pair_bytes, head_bytes, generator_bytes, transfer_bytes, relay_bytes, desk_bytes, Row, place_row, row_bytes, place_bytes, image, pair_fields, head_fields, generator_fields, transfer_fields, relay_fields, desk_fields, row_fields, world_tables}

pub length-sequence : (q : List ℕ) → length (sequence_bytes q) ≡ sequence_width
unfolding sequence_bytes
length-sequence q = simp length-append (omega (arith, length_run 2 15 (λ k. be16 (get_or q k 0)) (λ k. length-bytes_of 2 (get_or q k 0))))

-- ---- a stamp and its value

abbrev pub pair_widths : List ℕ
pair_widths = u16_width ∷ byte_width ∷ u32_width ∷ []

pub pair_widths_lem : (p : Pair) → Widths (pair_fields p) pair_widths
pair_widths_lem p = more (length-bytes_of 2 _) (more refl (more (length-bytes_of 4 _) none))

pub length-pair : (p : Pair) → length (pair_bytes p) ≡ pair_width
unfolding pair_bytes
length-pair p = cat-length (pair_widths_lem p)

-- ---- a relay's head

abbrev pub head_widths : List ℕ
head_widths = byte_width ∷ byte_width ∷ byte_width ∷ u16_width ∷ u16_width ∷ u16_width ∷ pair_width ∷ head_rest ∷ []

pub head_widths_lem : (r : Relay) → Widths (head_fields r) head_widths
head_widths_lem r =
    more refl (more refl (more refl (more (length-bytes_of 2 _) (more (length-bytes_of 2 _) (more (length-bytes_of 2 _)
    (more (length-pair r.holds) (more (length-zeros head_rest) none)))))))

pub length_head : (r : Relay) → length (head_bytes r) ≡ head_width
unfolding head_bytes
length_head r = cat-length (head_widths_lem r)

-- ---- a generator

abbrev pub generator_widths : List ℕ
generator_widths = u16_width ∷ sequence_width ∷ sequence_width ∷ sequence_width ∷ notes_width ∷ notes_width ∷ generator_rest ∷ []

pub generator_widths_lem : (g : Generator) → Widths (generator_fields g) generator_widths
generator_widths_lem g =
    more (length-bytes_of 2 _) (more (length-sequence g.own) (more (length-sequence g.converged) (more (length-sequence g.raised)
    (more (notes g.proposals) (more (notes g.convergences) (more (length-zeros generator_rest) none))))))
  where
    notes : (ns : List (List ℕ)) → length (table sequence_bytes [] 8 ns) ≡ notes_width
    notes = table-length sequence_bytes [] sequence_width 8 length-sequence

pub length_generator : (g : Generator) → length (generator_bytes g) ≡ generator_width
unfolding generator_bytes
length_generator g = cat-length (generator_widths_lem g)

-- ---- a transfer

abbrev pub transfer_widths : List ℕ
transfer_widths = u16_width ∷ u16_width ∷ sequence_width ∷ byte_width ∷ pair_width ∷ u16_width ∷ transfer_rest ∷ []

pub transfer_widths_lem : (t : Transfer) → Widths (transfer_fields t) transfer_widths
transfer_widths_lem t =
    more (length-bytes_of 2 _) (more (length-bytes_of 2 _) (more (length-sequence t.sequence) (more refl (more (length-pair t.best)
    (more (length-bytes_of 2 _) (more (length-zeros transfer_rest) none))))))

pub length_transfer : (t : Transfer) → length (transfer_bytes t) ≡ transfer_width
unfolding transfer_bytes
length_transfer t = cat-length (transfer_widths_lem t)

-- ---- a relay

abbrev pub relay_widths : List ℕ
relay_widths = head_width ∷ generators_width ∷ transfers_width ∷ []

pub relay_widths_lem : (r : Relay) → Widths (relay_fields r) relay_widths
relay_widths_lem r =
    more (length_head r)
    (more (table-length generator_bytes (fresh 0) generator_width 8 length_generator r.generators)
    (more (table-length transfer_bytes (fresh_transfer 0 0) transfer_width 8 length_transfer r.transfers) none))

pub length_relay : (r : Relay) → length (relay_bytes r) ≡ relay_width
unfolding relay_bytes
length_relay r = cat-length (relay_widths_lem r)

-- ---- a desk

abbrev pub desk_widths : List ℕ
desk_widths = 1 ∷ 1 ∷ 2 ∷ 2 ∷ 7 ∷ 1 ∷ 7 ∷ 1 ∷ 42 ∷ []

pub desk_widths_lem : (d : Desk) → Widths (desk_fields d) desk_widths
desk_widths_lem d =
    more refl (more refl (more (length-bytes_of 2 _) (more (length-bytes_of 2 _) (more (length-pair d.holds) (more refl (more (length-pair d.best)
    (more refl (more (length-zeros 42) none))))))))

pub length-desk : (d : Desk) → length (desk_bytes d) ≡ desk_width
unfolding desk_bytes
length-desk d = cat-length (desk_widths_lem d)

-- ---- a message's row, and a place

abbrev pub row_widths : List ℕ
row_widths =
    byte_width ∷ byte_width ∷ byte_width ∷ u16_width ∷ u16_width ∷ u16_width ∷ sequence_width ∷ pair_width ∷ u16_width ∷ message_rest ∷ []

pub row_widths_lem : (m : Row) → Widths (row_fields m) row_widths
row_widths_lem m =
    more refl (more refl (more refl (more (length-bytes_of 2 _) (more (length-bytes_of 2 _) (more (length-bytes_of 2 _)
    (more (length-sequence m.sequence) (more (length-pair m.pair) (more (length-bytes_of 2 _) (more (length-zeros message_rest) none)))))))))

pub length-row : (m : Row) → length (row_bytes m) ≡ message_width
unfolding row_bytes
length-row m = cat-length (row_widths_lem m)

pub length-place : (p : Place) → length (place_bytes p) ≡ message_width
unfolding place_bytes
length-place p = length-row (place_row p)

-- ---- a world

abbrev pub world_widths : List ℕ
world_widths = world_desks ∷ 256 ∷ 20480 ∷ world_rest ∷ []

pub world_widths_lem : (w : World) → Widths (world_tables w) world_widths
world_widths_lem w =
    more (table-length relay_bytes no_relay relay_width 8 length_relay w.relays)
    (more (table-length desk_bytes no_desk desk_width 4 length-desk w.desks)
    (more (table-length place_bytes free message_width 256 length-place w.places)
    (more (length-zeros world_rest) none)))

pub length-image : (w : World) → length (image w) ≡ world_width
unfolding image
length-image w = cat-length (world_widths_lem w)

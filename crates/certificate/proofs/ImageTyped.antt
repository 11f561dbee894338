-- A well-formed world's image is bytes, 65,536 of them: what a lent buffer can hold. Assumes nothing.
use mathlib.Core.Path.{◌≡◌, ◌∙◌}
use mathlib.Core.Bool.{Bool, true, false}
use mathlib.Core.List.{List, [], ◌∷◌, ◌++◌}
use Prim.Native.Nat.{ℕ, zero, suc, ◌%◌, ◌/◌, ◌<◌}
use native.Mathlib.Omega.{arith}
use lib.Dec.{T}
use lib.ListN.{length, get_or, set, length-set}
use borrow.Author.Tests.{lt-ltb}
use Rattle.rows.specs.Bytes.{bytes_of, run, cat, zeros}
use Rattle.rules.specs.Stamps.{Pair}
use Rattle.rules.specs.State.{Generator, Transfer, Relay, Place, World}
use Rattle.rules.specs.declared.Desk.{Desk}
use Rattle.rules.specs.declared.Phase.{Phase}
use Rattle.rules.specs.declared.Phase.TheVariants.{Idle, Read1, Read2, Write1, Write2}
use Rattle.rules.specs.WellFormed.{well_formed}
use Rattle.layout.specs.Layout.{world_width, world_rest}
use Rattle.layout.specs.Image.{flag, sequence_bytes, pair_bytes, pair_fields, head_bytes, head_fields, generator_bytes, generator_fields}
use Rattle.layout.specs.Image.{transfer_bytes, transfer_fields, relay_bytes, relay_fields, phase_number, desk_bytes, desk_fields}
use Rattle.layout.specs.Image.{Row, place_row, row_bytes, row_fields, place_bytes, image, world_tables}
use Rattle.layout.proofs.Fits.{SequenceFits, PairFits, NotesFit, GeneratorFits, TransferFits, RelayFits, DeskFits, RowFits}
use Rattle.layout.proofs.Widths.{length-image}
use Rattle.layout.proofs.World.{world_fits}
use Rattle.certificate.proofs.Typed.{in_u8, every, in_bytes}

-- ---- bytes, and pieces of bytes one after another

Bytes : List ℕ → Type 0
Bytes [] = Unit {0}
Bytes (x ∷ l) = (x < 256) × Bytes l

infixr 20 ◌and◌
data Pieces : List (List ℕ) → Type 0 where
  no_more : Pieces []
  ◌and◌ : {l : List ℕ} {ls : List (List ℕ)} → Bytes l → Pieces ls → Pieces (l ∷ ls)

one_byte : (x : ℕ) → x < 256 → Bytes (x ∷ [])
unfolding Bytes
one_byte x h = (h, tt)

joined : (a b : List ℕ) → Bytes a → Bytes b → Bytes (a ++ b)
unfolding Bytes
joined [] b p q = q
joined (x ∷ a) b p q = (p.0, joined a b p.1 q)

pieces : (ls : List (List ℕ)) → Pieces ls → Bytes (cat ls)
unfolding cat
pieces [] no_more = unfold Bytes in tt
pieces (l ∷ ls) (h and hs) = joined l (cat ls) h (pieces ls hs)

in_rows : (n : ℕ) (f : ℕ → List ℕ) → ((k : ℕ) → Bytes (f k)) → Bytes (run n f)
unfolding run
in_rows zero f h = unfold Bytes in tt
in_rows (suc n) f h = joined (run n f) (f n) (in_rows n f h) (h n)

number_bytes : (n x : ℕ) → Bytes (bytes_of n x)
unfolding bytes_of
number_bytes zero x = unfold Bytes in tt
number_bytes (suc n) x = joined (bytes_of n (x / 256)) (x % 256 ∷ []) (number_bytes n (x / 256)) (one_byte (x % 256) (omega arith))

zero_bytes_lem : (n : ℕ) → Bytes (zeros n)
unfolding zeros
zero_bytes_lem n = in_rows n (λ k. 0 ∷ []) (λ k. one_byte 0 (omega arith))

flag_byte : (b : Bool) → Bytes (flag b)
flag_byte true = one_byte 1 (omega arith)
flag_byte false = one_byte 0 (omega arith)

-- ---- the parts of a world

sequence_bytes_lem : (q : List ℕ) → SequenceFits q → Bytes (sequence_bytes q)
unfolding sequence_bytes
sequence_bytes_lem q h =
    let views = in_rows 15 (λ k. bytes_of 2 (get_or q k 0)) (λ k. number_bytes 2 (get_or q k 0)) in
    joined (run 15 (λ k. bytes_of 2 (get_or q k 0))) (length q ∷ []) views (one_byte (length q) (omega (arith, h.few)))

notes_bytes_lem : (ns : List (List ℕ)) → NotesFit ns → Bytes (run 8 (λ k. sequence_bytes (get_or ns k [])))
notes_bytes_lem ns h = in_rows 8 _ (λ k. sequence_bytes_lem (get_or ns k []) (h.each k))

pair_bytes_lem : (p : Pair) → PairFits p → Bytes (pair_bytes p)
unfolding pair_bytes
pair_bytes_lem p h = pieces (pair_fields p) (number_bytes 2 p.stamp.count and one_byte p.stamp.desk h.desk and number_bytes 4 p.value and no_more)

head_bytes_lem : (r : Relay) → PairFits r.holds → Bytes (head_bytes r)
unfolding head_bytes
head_bytes_lem r h =
    pieces (head_fields r)
    (flag_byte r.alive and flag_byte r.entered and flag_byte r.active and number_bytes 2 r.view
    and number_bytes 2 r.known and number_bytes 2 r.pending and pair_bytes_lem r.holds h and zero_bytes_lem 48 and no_more)

generator_bytes_lem : (g : Generator) → GeneratorFits g → Bytes (generator_bytes g)
unfolding generator_bytes
generator_bytes_lem g h =
    pieces (generator_fields g)
    (number_bytes 2 g.view and sequence_bytes_lem g.own h.own and sequence_bytes_lem g.converged h.converged
    and sequence_bytes_lem g.raised h.raised and notes_bytes_lem g.proposals h.proposals
    and notes_bytes_lem g.convergences h.convergences and zero_bytes_lem 1 and no_more)

transfer_bytes_lem : (t : Transfer) → TransferFits t → Bytes (transfer_bytes t)
unfolding transfer_bytes
transfer_bytes_lem t h =
    pieces (transfer_fields t)
    (number_bytes 2 t.old and number_bytes 2 t.new and sequence_bytes_lem t.sequence h.sequence
    and one_byte t.senders h.senders and pair_bytes_lem t.best h.best and number_bytes 2 t.gathered and zero_bytes_lem 35
    and no_more)

relay_bytes_lem : (r : Relay) → RelayFits r → Bytes (relay_bytes r)
unfolding relay_bytes
relay_bytes_lem r h =
    pieces (relay_fields r)
    (head_bytes_lem r h.holds and in_rows 8 _ (λ k. generator_bytes_lem _ (h.generators.each k))
    and in_rows 8 _ (λ k. transfer_bytes_lem _ (h.transfers.each k)) and no_more)

phase_byte : (p : Phase) → phase_number p < 256
phase_byte Idle = omega arith
phase_byte Read1 = omega arith
phase_byte Read2 = omega arith
phase_byte Write1 = omega arith
phase_byte Write2 = omega arith

desk_bytes_lem : (d : Desk) → DeskFits d → Bytes (desk_bytes d)
unfolding desk_bytes
desk_bytes_lem d h =
    pieces (desk_fields d)
    (flag_byte d.alive and one_byte (phase_number d.phase) (phase_byte d.phase) and number_bytes 2 d.view
    and number_bytes 2 d.tries and pair_bytes_lem d.holds h.holds and one_byte d.replied h.replied
    and pair_bytes_lem d.best h.best and flag_byte d.agreed and zero_bytes_lem 42 and no_more)

row_bytes_lem : (m : Row) → RowFits m → Bytes (row_bytes m)
unfolding row_bytes
row_bytes_lem m h =
    pieces (row_fields m)
    (one_byte m.kind h.kind and one_byte m.from h.from and one_byte m.to h.to and number_bytes 2 m.first
    and number_bytes 2 m.second and number_bytes 2 m.tries and sequence_bytes_lem m.sequence h.sequence
    and pair_bytes_lem m.pair h.pair and number_bytes 2 m.updates and zero_bytes_lem 31 and no_more)

place_bytes_lem : (p : Place) → RowFits (place_row p) → Bytes (place_bytes p)
unfolding place_bytes
place_bytes_lem p h = row_bytes_lem (place_row p) h

world_bytes : (w : World) → well_formed w ≡ true → Bytes (image w)
unfolding image
world_bytes w good =
    let h = world_fits w good in
    pieces (world_tables w)
    (in_rows 8 _ (λ k. relay_bytes_lem _ (h.relay k)) and in_rows 4 _ (λ k. desk_bytes_lem _ (h.desk k))
    and in_rows 256 _ (λ k. place_bytes_lem _ (h.place k)) and zero_bytes_lem world_rest and no_more)

-- ---- as the test has it

every_byte : (l : List ℕ) → Bytes l → T (every in_u8 l)
unfolding Bytes
every_byte [] h = tt
every_byte (x ∷ l) h = rw (lt-ltb x 256 h.0) (every_byte l h.1)

bytes_slice : (l : List ℕ) → length l ≡ world_width → Bytes l → T (in_bytes l)
bytes_slice l e h = rw e (every_byte l h)

pub image_bytes : (w : World) → well_formed w ≡ true → T (in_bytes (image w))
image_bytes w good = bytes_slice (image w) (length-image w) (world_bytes w good)

set_byte : (l : List ℕ) (k x : ℕ) → x < 256 → Bytes l → Bytes (set l k x)
unfolding Bytes
set_byte [] k x small h = h
set_byte (y ∷ l) zero x small h = (small, h.1)
set_byte (y ∷ l) (suc k) x small h = (h.0, set_byte l k x small h.1)

-- the same with one byte changed
pub changed_bytes : (w : World) → well_formed w ≡ true → (k x : ℕ) → x < 256 → T (in_bytes (set (image w) k x))
changed_bytes w good k x small =
    bytes_slice (set (image w) k x) (length-set (image w) k x ∙ length-image w) (set_byte (image w) k x small (world_bytes w good))

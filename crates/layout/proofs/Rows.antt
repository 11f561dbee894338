-- What is written of a row is read back, wherever it stands. Assumes nothing.
use Rattle.std.specs.Prelude.{if◌then◌else◌}
use mathlib.Core.Path.{◌≡◌, refl, sym, ap, ◌∙◌}
use mathlib.Core.Bool.{Bool, true, false}
use mathlib.Core.List.{List, [], ◌∷◌, ◌++◌, append-nil}
use Prim.Native.Nat.{ℕ, zero, suc, ◌+◌, ◌*◌, ◌<◌}
use native.Mathlib.Nat.{add-zero}
use native.Mathlib.Omega.{arith}
use lib.Dec.{eqb, leb}
use lib.ListN.{length, get_or, take, get_or-eq_default}
use lib.Seq.{ext_get_or, get_or-take, length-take-le, take-suc, take_all}
use borrow.Author.Tests.{leb-true, leb-false}
use Rattle.rows.specs.Bytes.{be16, u16_at, run, tab, sum, table}
use Rattle.rows.proofs.Laws.{Holds, holds-left, holds_right, holds-run, holds-byte, length_run, length-tab, tab_ext, get_d_tab}
use Rattle.rows.proofs.Numbers.{length-bytes_of, holds_u16, holds_u32}
use Rattle.rows.proofs.Fields.{cat-holds}
use Rattle.rows.proofs.Tables.{table-holds, table_back}
use Rattle.rules.specs.Sets.{those, view_count}
use Rattle.rules.specs.Stamps.{Pair}
use Rattle.rules.specs.Messages.{Body, request, view, proposal, converged, install, state, get, put, view_reply, pair_reply, ack}
use Rattle.rules.specs.State.{Generator, Transfer, Relay, Place, free, waiting}
use Rattle.rules.specs.declared.Desk.{Desk}
use Rattle.rules.specs.declared.Phase.{Phase}
use Rattle.rules.specs.declared.Phase.TheVariants.{Idle, Read1, Read2, Write1, Write2}
use Rattle.rules.specs.Generators.{fresh}
use Rattle.rules.specs.Relays.{fresh_transfer}
use Rattle.layout.specs.Layout.{u16_width, sequence_count, sequence_width, pair_desk, pair_value, head_entered, head_active, head_view, head_known, head_pending}
use Rattle.layout.specs.Layout.{head_holds, generator_own, generator_converged, generator_raised, generator_proposals, generator_convergences, generator_width}
use Rattle.layout.specs.Layout.{transfer_new, transfer_sequence, transfer_senders, transfer_best, transfer_gathered, transfer_width, relay_generators}
use Rattle.layout.specs.Layout.{relay_transfers, desk_phase, desk_view, desk_tries, desk_holds, desk_replied, desk_best, desk_agreed, message_from, message_to}
use Rattle.layout.specs.Layout.{message_first, message_second, message_tries, message_sequence, message_pair, message_updates}
use Rattle.layout.specs.Image.{flag, byte, sequence_bytes, pair_bytes, head_bytes, generator_bytes, transfer_bytes, relay_bytes, phase_number, desk_bytes, Row, row, body_row, place_row, row_bytes, place_bytes, flag_at, sequence_at, pair_at, generator_at, transfer_at, filled_generator, filled_transfer, relay_at, phase_of, desk_at, row_at, body_in, place_in, pair_fields, head_fields, generator_fields, transfer_fields, relay_fields, desk_fields, row_fields}
use Rattle.layout.specs.Kinds.{kind_of}
use Rattle.rules.proofs.Lists.{those-append}
use Rattle.layout.proofs.Widths.{length-sequence, pair_widths, pair_widths_lem, head_widths, head_widths_lem, generator_widths, generator_widths_lem, length_generator, transfer_widths, transfer_widths_lem, length_transfer, relay_widths, relay_widths_lem, desk_widths, desk_widths_lem, row_widths, row_widths_lem}
use Rattle.layout.proofs.Fits.{SequenceFits, PairFits, NotesFit, GeneratorFits, TransferFits, RowsFit, RelayFits, DeskFits, RowFits}

-- ---- bytes, sequences, pairs

flag_back : (l : List ℕ) (o : ℕ) (b : Bool) → Holds l o (flag b) → flag_at l o ≡ b
flag_back l o b h = rw (holds-byte l o (if b then 1 else 0) [] h) (go b)
  where
    go : (b : Bool) → eqb (if b then 1 else 0) 1 ≡ b
    go true = refl
    go false = refl

byte_back : (l : List ℕ) (o x : ℕ) → Holds l o (byte x) → get_or l o 0 ≡ x
byte_back l o x h = holds-byte l o x [] h

pub sequence_back : (l : List ℕ) (o : ℕ) (q : List ℕ) → SequenceFits q → Holds l o (sequence_bytes q) → sequence_at l o ≡ q
unfolding sequence_at sequence_bytes
sequence_back l o q f h =
    let views = run 15 (λ k. be16 (get_or q k 0)) in
    let wide : length views ≡ sequence_count = length_run u16_width view_count (λ k. be16 (get_or q k 0)) (λ k. length-bytes_of 2 (get_or q k 0)) in
    let many : get_or l (o + sequence_count) 0 ≡ length q = byte_back l (o + sequence_count) (length q) (holds_right l views (byte (length q)) o sequence_count wide h) in
    let read : tab 15 (λ k. u16_at l (o + 2 * k)) ≡ tab 15 (λ k. get_or q k 0) =
    tab_ext 15 (λ k. u16_at l (o + 2 * k)) (λ k. get_or q k 0) (λ k p. one k p (holds-left l views (byte (length q)) o h)) in
    rw (many, read) whole
  where
    one : (k : ℕ) → k < 15 → Holds l o (run 15 (λ k. be16 (get_or q k 0))) → u16_at l (o + 2 * k) ≡ get_or q k 0
    one k p h =
        let e : o + 2 * k ≡ o + k * 2 = omega arith in
        rw e (holds_u16 l (o + k * 2) (get_or q k 0) (f.each k) (holds-run 2 15 k o l (λ k. be16 (get_or q k 0)) (λ k. length-bytes_of 2 (get_or q k 0)) p h))

    whole : take (length q) (tab 15 (λ k. get_or q k 0)) ≡ q
    whole =
        let few = f.few in
        let long = length-tab 15 (λ k. get_or q k 0) in
        let cut : length (take (length q) (tab 15 (λ k. get_or q k 0))) ≡ length q = length-take-le (length q) (tab 15 (λ k. get_or q k 0)) (omega arith) in
        ext_get_or 0 (take (length q) (tab 15 (λ k. get_or q k 0))) q cut
        (λ k p. get_or-take (length q) (tab 15 (λ k. get_or q k 0)) k 0 (omega arith) ∙ get_d_tab 15 k (λ k. get_or q k 0) 0 (omega arith))

pub pair_back : (l : List ℕ) (o : ℕ) (p : Pair) → PairFits p → Holds l o (pair_bytes p) → pair_at l o ≡ p
unfolding pair_at pair_bytes
pair_back l o p f h =
    let at : (i : ℕ) → i < 3 → Holds l (o + sum (take i pair_widths)) (get_or (pair_fields p) i []) = λ i k. cat-holds (pair_widths_lem p) l i o k h in
    λ j. record {
      stamp = record {
        count = holds_u16 l o p.stamp.count f.count (rw (← add-zero o) (at 0 (omega arith))) j;
        desk = byte_back l (o + pair_desk) p.stamp.desk (at 1 (omega arith)) j;
      };
      value = holds_u32 l (o + pair_value) p.value f.value (at 2 (omega arith)) j;
    }

-- ---- a generator, a transfer

notes_back : (l : List ℕ) (o : ℕ) (ns : List (List ℕ)) → NotesFit ns → Holds l o (table sequence_bytes [] 8 ns) → tab 8 (λ k. sequence_at l (o + k * sequence_width)) ≡ ns
notes_back l o ns f h =
    table_back sequence_bytes [] sequence_width 8 length-sequence sequence_at l o SequenceFits (λ p q. sequence_back l p q) ns f.long (λ k p. f.each k) h

pub generator_back : (l : List ℕ) (o : ℕ) (g : Generator) → GeneratorFits g → Holds l o (generator_bytes g) → generator_at l o ≡ g
unfolding generator_at generator_bytes
generator_back l o g f h =
    let at : (i : ℕ) → i < 7 → Holds l (o + sum (take i generator_widths)) (get_or (generator_fields g) i []) = λ i k. cat-holds (generator_widths_lem g) l i o k h in
    λ j. record {
      view = holds_u16 l o g.view f.view (rw (← add-zero o) (at 0 (omega arith))) j;
      own = sequence_back l (o + generator_own) g.own f.own (at 1 (omega arith)) j;
      converged = sequence_back l (o + generator_converged) g.converged f.converged (at 2 (omega arith)) j;
      raised = sequence_back l (o + generator_raised) g.raised f.raised (at 3 (omega arith)) j;
      proposals = notes_back l (o + generator_proposals) g.proposals f.proposals (at 4 (omega arith)) j;
      convergences = notes_back l (o + generator_convergences) g.convergences f.convergences (at 5 (omega arith)) j;
    }

pub transfer_back : (l : List ℕ) (o : ℕ) (t : Transfer) → TransferFits t → Holds l o (transfer_bytes t) → transfer_at l o ≡ t
unfolding transfer_at transfer_bytes
transfer_back l o t f h =
    let at : (i : ℕ) → i < 7 → Holds l (o + sum (take i transfer_widths)) (get_or (transfer_fields t) i []) = λ i k. cat-holds (transfer_widths_lem t) l i o k h in
    λ j. record {
      old = holds_u16 l o t.old f.old (rw (← add-zero o) (at 0 (omega arith))) j;
      new = holds_u16 l (o + transfer_new) t.new f.new (at 1 (omega arith)) j;
      sequence = sequence_back l (o + transfer_sequence) t.sequence f.sequence (at 2 (omega arith)) j;
      senders = byte_back l (o + transfer_senders) t.senders (at 3 (omega arith)) j;
      best = pair_back l (o + transfer_best) t.best f.best (at 4 (omega arith)) j;
      gathered = holds_u16 l (o + transfer_gathered) t.gathered f.gathered (at 5 (omega arith)) j;
    }

-- ---- a table of which the filled rows count

module _ {A : Type 0} (filled : A → Bool) where
  those_one : (x : A) (t : Bool) → filled x ≡ t → those filled (x ∷ []) ≡ if t then x ∷ [] else []
  unfolding those
  those_one x t e = rw e

  module _ (d : A) (unfilled : filled d ≡ false) (xs : List A) (full : (k : ℕ) → k < length xs → filled (get_or xs k d) ≡ true) where
    those-tab : (n : ℕ) → those filled (tab n (λ k. get_or xs k d)) ≡ take n xs
    unfolding tab those
    those-tab zero = refl
    those-tab (suc n) =
        those-append filled (tab n (λ k. get_or xs k d)) (get_or xs n d ∷ []) ∙ rw (those-tab n) (go (leb (length xs) n) refl)
      where
        go : (t : Bool) → leb (length xs) n ≡ t → take n xs ++ those filled (get_or xs n d ∷ []) ≡ take (suc n) xs
        go true e =
            let h = leb-true (length xs) n e in
            let past : get_or xs n d ≡ d = get_or-eq_default xs d h in
            rw (past, those_one d false unfilled, append-nil, take_all n xs h, take_all (suc n) xs (omega arith))
        go false e =
            let h = leb-false (length xs) n e in
            rw (those_one (get_or xs n d) true (full n h)) (sym (take-suc xs n d h))

  module _ (enc : A → List ℕ) (d : A) (w : ℕ) (wide : (x : A) → length (enc x) ≡ w) (unfilled : filled d ≡ false)
      (Fits : A → Type 0) (dec : List ℕ → ℕ → A) (l : List ℕ) (back : (o : ℕ) (x : A) → Fits x → Holds l o (enc x) → dec l o ≡ x) where
    pub rows_back : (o : ℕ) (xs : List A) → RowsFit Fits filled d xs → Holds l o (table enc d 8 xs) → those filled (tab 8 (λ k. dec l (o + k * w))) ≡ xs
    rows_back o xs f h =
        ap (those filled) (tab_ext 8 (λ k. dec l (o + k * w)) (λ k. get_or xs k d) (λ k p. back (o + k * w) (get_or xs k d) (f.each k) (table-holds enc d w 8 wide l o k xs p h)))
        ∙ those-tab d unfilled xs f.full 8
        ∙ take_all 8 xs f.few

-- ---- a relay

pub unfilled_generator : filled_generator (fresh 0) ≡ false
unfolding fresh
unfilled_generator = refl

pub unfilled_transfer : filled_transfer (fresh_transfer 0 0) ≡ false
unfolding fresh_transfer
unfilled_transfer = refl

-- what a relay's region holds
module _ (l : List ℕ) (o : ℕ) (r : Relay) (h : Holds l o (relay_bytes r)) where
  part : (i : ℕ) → i < 3 → Holds l (o + sum (take i relay_widths)) (get_or (relay_fields r) i [])
  unfolding relay_bytes
  part i p = cat-holds (relay_widths_lem r) l i o p h

  pub holds_head : Holds l o (head_bytes r)
  holds_head = rw (← add-zero o) (part 0 (omega arith))

  pub holds-generators : Holds l (o + relay_generators) (table generator_bytes (fresh 0) 8 r.generators)
  holds-generators = part 1 (omega arith)

  pub holds-transfers : Holds l (o + relay_transfers) (table transfer_bytes (fresh_transfer 0 0) 8 r.transfers)
  holds-transfers = part 2 (omega arith)

pub relay_back : (l : List ℕ) (o : ℕ) (r : Relay) → RelayFits r → Holds l o (relay_bytes r) → relay_at l o ≡ r
unfolding relay_at head_bytes
relay_back l o r f h =
    let at : (i : ℕ) → i < 8 → Holds l (o + sum (take i head_widths)) (get_or (head_fields r) i []) = λ i k. cat-holds (head_widths_lem r) l i o k (holds_head l o r h) in
    λ j. record {
      alive = flag_back l o r.alive (rw (← add-zero o) (at 0 (omega arith))) j;
      entered = flag_back l (o + head_entered) r.entered (at 1 (omega arith)) j;
      active = flag_back l (o + head_active) r.active (at 2 (omega arith)) j;
      view = holds_u16 l (o + head_view) r.view f.view (at 3 (omega arith)) j;
      known = holds_u16 l (o + head_known) r.known f.known (at 4 (omega arith)) j;
      pending = holds_u16 l (o + head_pending) r.pending f.pending (at 5 (omega arith)) j;
      holds = pair_back l (o + head_holds) r.holds f.holds (at 6 (omega arith)) j;
      generators =
          rows_back filled_generator generator_bytes (fresh 0) generator_width length_generator unfilled_generator GeneratorFits generator_at l (generator_back l) (o + relay_generators)
          r.generators f.generators (holds-generators l o r h) j;
      transfers =
          rows_back filled_transfer transfer_bytes (fresh_transfer 0 0) transfer_width length_transfer unfilled_transfer TransferFits transfer_at l (transfer_back l) (o + relay_transfers)
          r.transfers f.transfers (holds-transfers l o r h) j;
    }

-- ---- a desk

phase_back : (p : Phase) → phase_of (phase_number p) ≡ p
phase_back Idle = refl
phase_back Read1 = refl
phase_back Read2 = refl
phase_back Write1 = refl
phase_back Write2 = refl

pub desk_back : (l : List ℕ) (o : ℕ) (d : Desk) → DeskFits d → Holds l o (desk_bytes d) → desk_at l o ≡ d
unfolding desk_at desk_bytes
desk_back l o d f h =
    let at : (i : ℕ) → i < 9 → Holds l (o + sum (take i desk_widths)) (get_or (desk_fields d) i []) = λ i k. cat-holds (desk_widths_lem d) l i o k h in
    λ j. record {
      alive = flag_back l o d.alive (rw (← add-zero o) (at 0 (omega arith))) j;
      phase = (ap phase_of (byte_back l (o + desk_phase) (phase_number d.phase) (at 1 (omega arith))) ∙ phase_back d.phase) j;
      view = holds_u16 l (o + desk_view) d.view f.view (at 2 (omega arith)) j;
      tries = holds_u16 l (o + desk_tries) d.tries f.tries (at 3 (omega arith)) j;
      holds = pair_back l (o + desk_holds) d.holds f.holds (at 4 (omega arith)) j;
      replied = byte_back l (o + desk_replied) d.replied (at 5 (omega arith)) j;
      best = pair_back l (o + desk_best) d.best f.best (at 6 (omega arith)) j;
      agreed = flag_back l (o + desk_agreed) d.agreed (at 7 (omega arith)) j;
    }

-- ---- a message

pub row_back : (l : List ℕ) (o : ℕ) (m : Row) → RowFits m → Holds l o (row_bytes m) → row_at l o ≡ m
unfolding row_at row_bytes
row_back l o m f h =
    let at : (i : ℕ) → i < 10 → Holds l (o + sum (take i row_widths)) (get_or (row_fields m) i []) = λ i k. cat-holds (row_widths_lem m) l i o k h in
    λ j. record {
      kind = byte_back l o m.kind (rw (← add-zero o) (at 0 (omega arith))) j;
      from = byte_back l (o + message_from) m.from (at 1 (omega arith)) j;
      to = byte_back l (o + message_to) m.to (at 2 (omega arith)) j;
      first = holds_u16 l (o + message_first) m.first f.first (at 3 (omega arith)) j;
      second = holds_u16 l (o + message_second) m.second f.second (at 4 (omega arith)) j;
      tries = holds_u16 l (o + message_tries) m.tries f.tries (at 5 (omega arith)) j;
      sequence = sequence_back l (o + message_sequence) m.sequence f.sequence (at 6 (omega arith)) j;
      pair = pair_back l (o + message_pair) m.pair f.pair (at 7 (omega arith)) j;
      updates = holds_u16 l (o + message_updates) m.updates f.updates (at 8 (omega arith)) j;
    }

-- a row with another sender and receiver
unfoldable pub addressed : ℕ → ℕ → Row → Row
addressed s r m = row m.kind s r m.first m.second m.tries m.sequence m.pair m.updates

-- the row of a body: its kind is not 0, only its ends are not the body's, and it says the body and the place that waits
pub record RowOf (s r : ℕ) (b : Body) : Type 0 where
  pub kind : eqb (body_row s r b).kind 0 ≡ false
  pub ends : body_row s r b ≡ addressed s r (body_row 0 0 b)
  pub says : body_in (body_row s r b) ≡ b
  pub waits : place_in (body_row s r b) ≡ waiting (record { from = s; to = r; body = b })

pub row_of_lem : (s r : ℕ) (b : Body) → RowOf s r b
unfolding addressed kind_of body_in place_in
row_of_lem s r (request u c) = record { kind = refl; ends = refl; says = refl; waits = refl }
row_of_lem s r (view v) = record { kind = refl; ends = refl; says = refl; waits = refl }
row_of_lem s r (proposal v q) = record { kind = refl; ends = refl; says = refl; waits = refl }
row_of_lem s r (converged v q) = record { kind = refl; ends = refl; says = refl; waits = refl }
row_of_lem s r (install o w q) = record { kind = refl; ends = refl; says = refl; waits = refl }
row_of_lem s r (state o w p u) = record { kind = refl; ends = refl; says = refl; waits = refl }
row_of_lem s r (get try c) = record { kind = refl; ends = refl; says = refl; waits = refl }
row_of_lem s r (put try c p) = record { kind = refl; ends = refl; says = refl; waits = refl }
row_of_lem s r (view_reply try v) = record { kind = refl; ends = refl; says = refl; waits = refl }
row_of_lem s r (pair_reply try p) = record { kind = refl; ends = refl; says = refl; waits = refl }
row_of_lem s r (ack try) = record { kind = refl; ends = refl; says = refl; waits = refl }

-- every place is what its row says, whatever it says
pub place_in_lem : (p : Place) → place_in (place_row p) ≡ p
unfolding place_in
place_in_lem free = refl
place_in_lem (waiting m) = (row_of_lem m.from m.to m.body).waits

pub place_back : (l : List ℕ) (o : ℕ) (p : Place) → RowFits (place_row p) → Holds l o (place_bytes p) → place_in (row_at l o) ≡ p
unfolding place_bytes
place_back l o p f h = ap place_in (row_back l o (place_row p) f h) ∙ place_in_lem p

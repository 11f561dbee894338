-- The message places of an image: which are free, how many, and what placing, freeing and sending make of them. Assumes nothing.
use Rattle.std.specs.Prelude.{if◌then◌else◌, filter, sum_by}
use Rattle.std.specs.List.{range_with_len}
use Rattle.std.proofs.lemmas.List.Sums.{sum_by-cons}
use Rattle.std.proofs.lemmas.Nat.{pow_pos, ones_cat, mod-pow-add}
use Rattle.std.proofs.Math.Nat.{mod-lt}
use lib.Count.{ones, ones-le}
use mathlib.Core.Path.{◌≡◌, refl, sym, ap, ◌∙◌}
use mathlib.Core.Logic.{◌≢◌, ⊎_elim}
use mathlib.Core.Bool.{true, false}
use mathlib.Core.List.{List, [], ◌∷◌, ◌++◌, map, map-append, append-nil, append_assoc}
use Prim.Native.Nat.{ℕ, zero, suc, ◌+◌, ◌/◌, ◌%◌, ◌^◌, ◌≤◌, ◌<◌, suc-le-suc}
use native.Mathlib.Nat.{le_of_suc-le-suc}
use native.Mathlib.Numerals.{add-one}
use native.Mathlib.Omega.{arith}
use lib.Dec.{eqb, leb, ltb}
use lib.ListN.{get_or-append, length, get_or, set, take, drop, length-set, length-append, length-map}
use lib.Seq.{length-take-le, get_or-take, take-suc, take_all}
use borrow.Author.Tests.{leb-true, leb-false, ltb-true, ltb-false}
use Rattle.views.proofs.Truth.{decided, contrary}
use Rattle.rows.specs.Bytes.{placed, splice, tab, cat, zeros}
use Rattle.rows.proofs.Laws.{Holds, holds-byte, placed_fits, placed_not}
use Rattle.rows.proofs.Change.{Changed, changed_first, changed_more, changed_set}
use Rattle.rules.specs.Sets.{bit, those}
use Rattle.rules.specs.Messages.{Body, Message, Sending, copies, outgoing}
use Rattle.rules.specs.State.{Place, free, waiting, World, place_at, with_places}
use Rattle.rules.specs.Sending.{place, place_all, free_in}
use Rattle.rules.specs.Steps.{freed}
use Rattle.layout.specs.Layout.{message_width, place_begin}
use Rattle.layout.specs.Image.{place_row, row_bytes, place_bytes, image}
use Rattle.rules.specs.Table.{is_free}
use Rattle.rules.proofs.Kept.{places-length}
use Rattle.layout.proofs.Widths.{length-place, length-image}
use Rattle.layout.proofs.Rows.{row_of_lem}
use Rattle.layout.proofs.Read.{holds-place}
use Rattle.layout.proofs.Write.{put-place}
use Rattle.layout.proofs.Zeros.{place-zeros}
use Rattle.state.specs.declared.Sending as code
use Rattle.state.specs.Meaning.{sending_of}
use Rattle.world.specs.Commits.{First, free_row, free_rows, TakenTo, receivers_below, freed_at, message, is_waiting, delivered}
use Rattle.world.proofs.Lists.{those_counted, passing, passing_few}

-- ---- a place's kind is 0 exactly where it is free

place-kind : (p : Place) → eqb (place_row p).kind 0 ≡ is_free p
place-kind free = refl
place-kind (waiting m) = (row_of_lem m.from m.to m.body).kind

kind-byte : (l : List ℕ) (o : ℕ) (p : Place) → Holds l o (place_bytes p) → get_or l o 0 ≡ (place_row p).kind
unfolding place_bytes row_bytes cat
kind-byte l o p h = holds-byte l o (place_row p).kind _ h

pub not_free : (p : Place) → is_free p ≡ false → p ≢ free
not_free free e q = contrary refl e
not_free (waiting m) e q = let z : ◌≡◌ {A = ℕ} 0 1 = cc in omega arith

pub is_free_lem : (p : Place) → is_free p ≡ true → p ≡ free
is_free_lem free e = refl
is_free_lem (waiting m) e = absurd (contrary e refl)

pub is-waiting : (p : Place) → is_waiting p ≡ true → is_free p ≡ false
is-waiting free e = absurd (contrary e refl)
is-waiting (waiting m) e = refl

-- ---- how many are free

unfoldable free_to : List Place → ℕ → ℕ
free_to ps zero = 0
free_to ps (suc n) = free_to ps n + (if is_free (get_or ps n free) then 1 else 0)

free_to_more : (x : Place) (ps : List Place) (n : ℕ) → free_to (x ∷ ps) (suc n) ≡ (if is_free x then 1 else 0) + free_to ps n
unfolding free_to
free_to_more x ps zero = omega arith
free_to_more x ps (suc n) = omega (arith, free_to_more x ps n)

free-to-all : (ps : List Place) → free_to ps (length ps) ≡ free_in ps
unfolding free_in free_to
free-to-all [] = refl
free-to-all (free ∷ ps) = omega (arith, free_to_more free ps (length ps), free-to-all ps)
free-to-all (waiting m ∷ ps) = omega (arith, free_to_more (waiting m) ps (length ps), free-to-all ps)

module _ (w : World) where
  pub free-row : (p : ℕ) → p < 256 → free_row (image w) p ≡ is_free (place_at w p)
  unfolding free_row
  free-row p h = ap (λ (k : ℕ). eqb k 0) (kind-byte (image w) (place_begin p) (place_at w p) (holds-place w p h)) ∙ place-kind (place_at w p)

  rows_to : (n : ℕ) → n ≤ 256 → free_rows (image w) n ≡ free_to w.places n
  unfolding free_rows free_to
  rows_to zero h = refl
  rows_to (suc n) h = rw (rows_to n (omega arith), free-row n (omega arith))

  pub free_rows_lem : length w.places ≡ 256 → free_rows (image w) 256 ≡ free_in w.places
  free_rows_lem e = rows_to 256 (omega arith) ∙ ap (free_to w.places) (sym e) ∙ free-to-all w.places

-- counted by a chain
rows_those : (l : List ℕ) (n : ℕ) → free_rows l n ≡ length (those (free_row l) (tab n (λ k. k)))
unfolding free_rows those tab
rows_those l zero = refl
rows_those l (suc n) = rw (rows_those l n) (sym (rw add-one at (those_counted (free_row l) (λ k. k) n)))

pub rows_counted : (l : List ℕ) (n : ℕ) → length (filter (free_row l) (range_with_len 0 n)) ≡ free_rows l n
rows_counted l n = ap length (passing (free_row l) n) ∙ sym (rows_those l n)

pub places_counted : (l : List ℕ) (n r : ℕ) → r ≡ length (filter (free_row l) (range_with_len 0 n)) → (r ≡ free_rows l n) × (r ≤ n)
places_counted l n r e = (e ∙ rows_counted l n, rw e (passing_few (free_row l) n))

-- ---- a place freed

free_more : (ps : List Place) (p : ℕ) → p < length ps → is_free (get_or ps p free) ≡ false → free_in (set ps p free) ≡ free_in ps + 1
unfolding free_in
free_more [] p h e = absurd (omega arith)
free_more (free ∷ ps) zero h e = absurd (contrary refl e)
free_more (waiting m ∷ ps) zero h e = omega arith
free_more (free ∷ ps) (suc p) h e = omega (arith, free_more ps p (le_of_suc-le-suc h) e)
free_more (waiting m ∷ ps) (suc p) h e = free_more ps p (le_of_suc-le-suc h) e

-- by whether a place is delivered
module _ (P : World → Type 0) (w : World) (p : ℕ) where
  pub by_delivered : (p < 256 → P (freed w p)) → (256 ≤ p → P w) → P (freed_at w p)
  unfolding freed_at
  by_delivered f g = ⊎_elim (λ e. rw e (f (ltb-true p 256 e))) (λ e. rw e (g (ltb-false p 256 e))) (decided (ltb p 256))

module _ (w : World) (long : length w.places ≡ 256) (p : ℕ) where
  pub freed_long : length (freed_at w p).places ≡ 256
  freed_long = by_delivered (λ v. length v.places ≡ 256) w p (λ h. unfold freed in (length-set w.places p free ∙ long)) (λ h. long)

  pub freed_rooms : delivered w p ≡ true → free_in (freed_at w p).places ≡ free_in w.places + (if ltb p 256 then 1 else 0)
  unfolding delivered freed_at freed
  freed_rooms e =
      ⊎_elim (λ t. let h = ltb-true p 256 t in rw t (free_more w.places p (omega arith) (is-waiting (place_at w p) (rw t at e))))
      (λ t. rw t (omega arith)) (decided (ltb p 256))

-- ---- written

fits_place : (w : World) (p : ℕ) (x : Place) → p < 256 → placed (image w) (place_begin p) (place_bytes x) ≡ splice (image w) (place_begin p) (place_bytes x)
fits_place w p x h = placed_fits (image w) (place_bytes x) (place_begin p) (omega (arith, length-place x, length-image w))

-- i is the lowest free place
changed_place : (m : Message) (ps : List Place) (i : ℕ) → i < length ps → ((k : ℕ) → k < i → get_or ps k free ≢ free) → get_or ps i free ≡ free
    → Changed free ps i (waiting m) (place m ps)
unfolding place
changed_place m [] i h below here = absurd (omega arith)
changed_place m (free ∷ ps) zero h below here = changed_first
changed_place m (free ∷ ps) (suc i) h below here = absurd (below 0 (omega arith) refl)
changed_place m (waiting x ∷ ps) zero h below here = let z : ◌≡◌ {A = ℕ} 0 1 = cc in absurd (omega arith)
changed_place m (waiting x ∷ ps) (suc i) h below here = changed_more (changed_place m ps i (le_of_suc-le-suc h) (λ k p. below (suc k) (suc-le-suc p)) here)

full : (m : Message) (ps : List Place) → ((k : ℕ) → k < length ps → get_or ps k free ≢ free) → place m ps ≡ ps
unfolding place
full m [] q = refl
full m (free ∷ ps) q = absurd (q 0 (omega arith) refl)
full m (waiting x ∷ ps) q = ap (λ (l : List Place). waiting x ∷ l) (full m ps (λ k r. q (suc k) (suc-le-suc r)))

module _ (w : World) (long : length w.places ≡ 256) where
  -- "DELIVER frees its place first"
  pub put-free : (p : ℕ) → p < 256 → placed (image w) (place_begin p) (zeros message_width) ≡ image (freed w p)
  unfolding freed
  put-free p h =
      rw (← place-zeros) (fits_place w p free h ∙ put-place w (set w.places p free) p free (changed_set w.places p free (omega arith)) h)

  -- "A new message takes the lowest free place"
  pub put_lowest : (m : Message) (p : ℕ) → First 256 (free_row (image w)) p → p < 256
      → placed (image w) (place_begin p) (place_bytes (waiting m)) ≡ image (with_places w (place m w.places))
  put_lowest m p f h =
      fits_place w p (waiting m) h
      ∙ put-place w (place m w.places) p (waiting m)
      (changed_place m w.places p (omega arith) (λ k q. not_free _ (sym (free-row w k (omega arith)) ∙ f.below k q)) (is_free_lem _ (sym (free-row w p h) ∙ f.here h))) h

  -- where none is free, it takes none
  pub put_nowhere : (m : Message) (p : ℕ) → First 256 (free_row (image w)) p → 256 ≤ p → place m w.places ≡ w.places
  put_nowhere m p f h = full m w.places (λ k q. not_free _ (sym (free-row w k (omega arith)) ∙ f.below k (omega arith)))

-- ---- the places below that of a row that is written stay taken

byte-before : (l b : List ℕ) (o k : ℕ) → k < o → get_or (placed l o b) k 0 ≡ get_or l k 0
unfolding splice
byte-before l b o k h = ⊎_elim fits misses (decided (leb (o + length b) (length l)))
  where
    fits : leb (o + length b) (length l) ≡ true → get_or (placed l o b) k 0 ≡ get_or l k 0
    fits e =
        let room = leb-true (o + length b) (length l) e in
        rw (placed_fits l b o room)
        (get_or-append (take o l) (b ++ drop (o + length b) l) 0 k (rw (length-take-le o l (omega arith)) h) ∙ get_or-take o l k 0 h)

    misses : leb (o + length b) (length l) ≡ false → get_or (placed l o b) k 0 ≡ get_or l k 0
    misses e = rw (placed_not l b o (leb-false (o + length b) (length l) e))

pub taken_none : {l : List ℕ} → TakenTo l 0
taken_none {l} = record { within = omega arith; each = λ k h. absurd (omega arith) }

pub taken_put : (l t b : List ℕ) (p : ℕ) → First 256 (free_row l) p → t ≡ placed l (place_begin p) b → TakenTo t p
unfolding free_row
taken_put l t b p f e =
    record {
      within = f.within;
      each = λ k h. ap (λ (x : ℕ). eqb x 0) (ap (λ (s : List ℕ). get_or s (place_begin k) 0) e ∙ byte-before l b (place_begin p) (place_begin k) (omega arith)) ∙ f.below k h;
    }

-- ---- sent

pub places-append : (a b : List Message) (ps : List Place) → place_all (a ++ b) ps ≡ place_all b (place_all a ps)
unfolding place_all
places-append [] b ps = refl
places-append (m ∷ a) b ps = places-append a b (place m ps)

-- to its receivers in ascending order
pub all_copies : (from : ℕ) (s : Sending) → copies from s ≡ map (message from s.body) (receivers_below s.receivers 12)
unfolding copies receivers_below tab message
all_copies from s = refl

-- to nobody goes nothing
pub no_copies : (from : ℕ) (s : Sending) → s.receivers ≡ 0 → copies from s ≡ []
no_copies from s e = all_copies from s ∙ rw (e, nobody)
  where
    nobody : receivers_below 0 12 ≡ []
    nobody = unfold receivers_below tab those in refl

-- the receivers as a chain finds them
pub receivers_found : (m n : ℕ) → filter (bit m) (range_with_len 0 n) ≡ receivers_below m n
unfolding receivers_below
receivers_found m n = passing (bit m) n

-- and as the ones among its low bits
one_or_none : (y : ℕ) → y < 2 → ones y ≡ (if eqb y 1 then 1 else 0)
unfolding ones
one_or_none zero h = refl
one_or_none (suc zero) h = refl
one_or_none (suc (suc y)) h = absurd (omega arith)

ones_below : (m n : ℕ) → ones (m % 2 ^ n) ≡ length (receivers_below m n)
unfolding receivers_below
ones_below m zero = let none : m % 1 ≡ 0 = omega arith in rw none (unfold tab those ones in refl)
ones_below m (suc n) =
    let next : 1 + n ≡ suc n = omega arith in
    let high : ones (m / 2 ^ n % 2) ≡ (if bit m n then 1 else 0) = one_or_none (m / 2 ^ n % 2) (omega arith) in
    let low : m % 2 ^ n < 2 ^ n = mod-lt m (pow_pos n) in
    ap ones (rw next at (mod-pow-add m 1 n)) ∙ ones_cat n (m / 2 ^ n % 2) (m % 2 ^ n) low
    ∙ rw (high, ones_below m n) (omega (arith, rw add-one at (those_counted (bit m) (λ k. k) n)))

pub receivers_counted : (m n : ℕ) → (ones (m % 2 ^ n) ≡ length (receivers_below m n)) × (ones (m % 2 ^ n) ≤ n)
receivers_counted m n = (ones_below m n, ones-le n (m % 2 ^ n) (mod-lt m (pow_pos n)))

-- what goes out of the first i of these sendings
unfoldable pub out_to : ℕ → List code.Sending → ℕ → List Message
out_to from xs i = outgoing from (map sending_of (take i xs))

out_append : (from : ℕ) (ss ts : List Sending) → outgoing from (ss ++ ts) ≡ outgoing from ss ++ outgoing from ts
unfolding outgoing
out_append from [] ts = refl
out_append from (s ∷ ss) ts = rw (out_append from ss ts) (sym (append_assoc (copies from s) (outgoing from ss) (outgoing from ts)))

out_one : (from : ℕ) (s : Sending) → outgoing from (s ∷ []) ≡ copies from s
unfolding outgoing
out_one from s = append-nil (copies from s)

module _ (from : ℕ) (xs : List code.Sending) where
  pub out_none : out_to from xs 0 ≡ []
  unfolding out_to outgoing
  out_none = refl

  pub out_more : (i : ℕ) (d : code.Sending) → i < length xs → out_to from xs (i + 1) ≡ out_to from xs i ++ copies from (sending_of (get_or xs i d))
  unfolding out_to
  out_more i d h =
      let ss : List Sending = map sending_of (take i xs) in
      let s : Sending = sending_of (get_or xs i d) in
      rw (add-one, take-suc xs i d h, map-append sending_of (take i xs) (get_or xs i d ∷ []), out_append from ss (s ∷ []), out_one from s)

  pub out_all : (i : ℕ) → length xs ≤ i → out_to from xs i ≡ outgoing from (map sending_of xs)
  unfolding out_to
  out_all i h = rw (take_all i xs h)

-- counted
copies_counted : (from : ℕ) (x : code.Sending) → length (copies from (sending_of x)) ≡ length (receivers_below x.receivers 12)
unfolding sending_of
copies_counted from x = ap length (all_copies from (sending_of x)) ∙ length-map (receivers_below x.receivers 12) _

pub out_counted : (from : ℕ) (xs : List code.Sending) → length (outgoing from (map sending_of xs)) ≡ sum_by (λ s. length (receivers_below s.receivers 12)) xs
unfolding outgoing
out_counted from [] = refl
out_counted from (x ∷ xs) =
    let s : Sending = sending_of x in
    length-append (copies from s) (outgoing from (map sending_of xs))
    ∙ rw (out_counted from xs, copies_counted from x, sum_by-cons (λ (y : code.Sending). length (receivers_below y.receivers 12)) x xs)

-- a buffer s₀ into which these messages are placed
pub record Placed (s₀ : List ℕ) (ms : List Message) (s : List ℕ) : Type 0 where
  pub is : (w : World) → length w.places ≡ 256 → s₀ ≡ image w → s ≡ image (with_places w (place_all ms w.places))

pub placed-none : {s : List ℕ} {ms : List Message} → ms ≡ [] → Placed s ms s
unfolding place_all
placed-none z = record { is = λ w l e. e ∙ rw z }

pub placed_more : {s₀ s : List ℕ} {ms : List Message} → Placed s₀ ms s → (ns : List Message) {all : List Message} → all ≡ ms ++ ns → (t : List ℕ)
    → ((w : World) → length w.places ≡ 256 → s ≡ image w → t ≡ image (with_places w (place_all ns w.places))) → Placed s₀ all t
placed_more {ms = ms} h ns z t f =
    record { is = λ w l q. f (with_places w (place_all ms w.places)) (places-length ms w.places ∙ l) (h.is w l q) ∙ rw (z, places-append ms ns w.places) }

-- one more
pub placed_one : {s₀ s : List ℕ} (from : ℕ) (b : Body) (ns : List ℕ) → Placed s₀ (map (message from b) ns) s → (n : ℕ) (t : List ℕ)
    → ((w : World) → length w.places ≡ 256 → s ≡ image w → t ≡ image (with_places w (place (message from b n) w.places)))
    → Placed s₀ (map (message from b) (ns ++ (n ∷ []))) t
unfolding place_all
placed_one from b ns h n t f = placed_more h (message from b n ∷ []) (map-append (message from b) ns (n ∷ [])) t f

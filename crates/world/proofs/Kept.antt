-- The transfers that stay when a view is entered, read into eight rows. Assumes nothing.
use Rattle.std.specs.Prelude.{filter}
use Rattle.std.specs.List.{range_with_len, enumerate_from}
use Rattle.std.proofs.lemmas.List.FromFn.{length-map-range_with_len, length-enumerate_from, get_or-enumerate_from}
use Rattle.std.proofs.lemmas.List.Sums.{length-filter, count_by-le-length}
use mathlib.Core.Path.{◌≡◌, refl, sym, ap, ◌∙◌}
use mathlib.Core.List.{List, [], ◌∷◌, ◌++◌, map, map-append}
use Prim.Native.Nat.{ℕ, zero, suc, ◌+◌, ◌*◌, ◌≤◌, ◌<◌}
use native.Mathlib.Nat.{zero-add}
use native.Mathlib.Decide.{ℕ_discrete}
use native.Mathlib.Omega.{arith}
use lib.ListN.{length, get_or, set, replicate, length-set, length-map, get_or-map}
use lib.Seq.{get_or-set_same, get_or-set_other}
use Rattle.views.specs.Row.{views_of}
use Rattle.rules.specs.Sets.{those, inside}
use Rattle.rules.specs.State as state
use Rattle.rules.specs.Relays.{fresh_transfer}
use Rattle.layout.specs.Layout.{transfer_width}
use Rattle.layout.specs.Image.{transfer_at}
use Rattle.rules.proofs.Lists.{map-set}
use Rattle.layout.proofs.Fits.{replicate_at}
use Rattle.rows.proofs.Change.{changed_add}
use Rattle.state.specs.declared.Transfer.{Transfer}
use Rattle.state.specs.Meaning.{transfer_of}
use Rattle.world.specs.Commits.{kept_rows}
use Rattle.world.proofs.Lists.{tab_range, those_filter}

abbrev none : state.Transfer
none = fresh_transfer 0 0

-- ---- those that stay, as a chain finds them, each with its number

module _ (l : List ℕ) (at v : ℕ) where
  abbrev pub found : List state.Transfer
  found = filter (λ (t : state.Transfer). inside v t.new) (map (λ (k : ℕ). transfer_at l (at + k * transfer_width)) (range_with_len 0 8))

  found_kept : found ≡ kept_rows l at v 8
  unfolding kept_rows
  found_kept =
      those_filter (λ (t : state.Transfer). inside v t.new) (map (λ (k : ℕ). transfer_at l (at + k * transfer_width)) (range_with_len 0 8))
      ∙ ap (those (λ (t : state.Transfer). inside v t.new)) (tab_range (λ (k : ℕ). transfer_at l (at + k * transfer_width)) 8)

  found_few : length found ≤ 8
  found_few =
      let xs : List state.Transfer = map (λ (k : ℕ). transfer_at l (at + k * transfer_width)) (range_with_len 0 8) in
      omega (
        arith,
        length-filter (λ (t : state.Transfer). inside v t.new) xs,
        count_by-le-length (λ (t : state.Transfer). inside v t.new) xs,
        length-map-range_with_len (λ (k : ℕ). transfer_at l (at + k * transfer_width)) 0 8,
      )

  -- the next of them has the next number
  pub numbered : (n i : ℕ) (t : state.Transfer) → (n < length (enumerate_from 0 found)) × ((i, t) ≡ get_or (enumerate_from 0 found) n (i, t))
      → (i ≡ n) × (n < 8)
  numbered n i t h =
      let short : n < length found = omega (arith, h.0, length-enumerate_from 0 found) in
      let is : ◌≡◌ {A = ℕ × state.Transfer} (i, t) (0 + n, get_or found n t) = h.1 ∙ get_or-enumerate_from 0 found n (i, t) short in
      (ap (λ (p : ℕ × state.Transfer). p.0) is ∙ zero-add n, omega (arith, found_few))

-- ---- kept: the items so far stand first, and blank ones after them

abbrev pub meant : ℕ × Transfer → ℕ × state.Transfer
meant p = (p.0, transfer_of p.1)

abbrev pub second : ℕ × Transfer → state.Transfer
second p = transfer_of p.1

pub record Filled (kept : List Transfer) (items : List (ℕ × Transfer)) : Type 0 where
  pub long : length kept ≡ 8
  pub same : (k : ℕ) → k < 8 → get_or (map transfer_of kept) k (fresh_transfer 0 0) ≡ get_or (map second items) k (fresh_transfer 0 0)

map-replicate : {A B : Type 0} (f : A → B) (m : ℕ) (x : A) → map f (replicate m x) ≡ replicate m (f x)
map-replicate f zero x = refl
map-replicate {B = B} f (suc m) x = ap (λ (l : List B). f x ∷ l) (map-replicate f m x)

pub filled_none : (t : Transfer) → transfer_of t ≡ fresh_transfer 0 0 → Filled (replicate 8 t) []
filled_none t e =
    record {
      long = refl;
      same = λ k h. ap (λ (xs : List state.Transfer). get_or xs k none) (map-replicate transfer_of 8 t ∙ ap (replicate 8) e) ∙ replicate_at 8 k none;
    }

-- u is put where ys ends, and xs begins as ys does
put_last : (xs ys : List state.Transfer) (u : state.Transfer) (i : ℕ) → i < length xs → length ys ≡ i → (k : ℕ) → get_or xs k none ≡ get_or ys k none
    → get_or (set xs i u) k none ≡ get_or (ys ++ (u ∷ [])) k none
put_last xs ys u i h e k same = each (ℕ_discrete k i)
  where
    each : Dec (k ≡ i) → get_or (set xs i u) k none ≡ get_or (ys ++ (u ∷ [])) k none
    each (yes z) = rw z (get_or-set_same xs i u none h ∙ sym (rw e at (changed_add {d = none} ys u).here))
    each (no z) = get_or-set_other xs i k u none z ∙ same ∙ sym ((changed_add {d = none} ys u).others k (λ q. z (q ∙ e)))

pub filled_more : {kept : List Transfer} {items : List (ℕ × Transfer)} → Filled kept items → (i : ℕ) (t : Transfer) → i ≡ length items → i < 8
    → Filled (set kept i t) (items ++ ((i, t) ∷ []))
filled_more {kept} {items} f i t e h =
    let room : i < length (map transfer_of kept) = omega (arith, length-map kept transfer_of, f.long) in
    let count : length (map second items) ≡ i = length-map items second ∙ sym e in
    record {
      long = length-set kept i t ∙ f.long;
      same = λ k p. rw (map-set transfer_of kept i t, map-append second items ((i, t) ∷ [])) (put_last _ _ (transfer_of t) i room count k (f.same k p));
    }

seconds : (n : ℕ) (xs : List state.Transfer) → map (λ (p : ℕ × state.Transfer). p.1) (enumerate_from n xs) ≡ xs
seconds n [] = refl
seconds n (x ∷ xs) = ap (λ (l : List state.Transfer). x ∷ l) (seconds (n + 1) xs)

map_twice : (items : List (ℕ × Transfer)) → map second items ≡ map (λ (p : ℕ × state.Transfer). p.1) (map meant items)
map_twice [] = refl
map_twice (x ∷ items) = ap (λ (l : List state.Transfer). second x ∷ l) (map_twice items)

-- once all are read
pub filled_all : (l : List ℕ) (at v : ℕ) {kept : List Transfer} {items : List (ℕ × Transfer)} → Filled kept items
    → map meant items ≡ enumerate_from 0 (found l at v)
    → (k : ℕ) → k < 8 → get_or (map transfer_of kept) k (fresh_transfer 0 0) ≡ get_or (kept_rows l at v 8) k (fresh_transfer 0 0)
filled_all l at v {kept} {items} f e k h =
    f.same k h
    ∙ ap (λ (xs : List state.Transfer). get_or xs k none)
    (map_twice items ∙ ap (map (λ (p : ℕ × state.Transfer). p.1)) e ∙ seconds 0 (found l at v) ∙ found_kept l at v)

-- an element of the code's array
pub kept_at : (ts : List Transfer) (k : ℕ)
    → transfer_of (get_or ts k (record { old = 0; new = 0; sequence = record { views = []; len = 0 }; senders = 0; best = record { stamp = record { count = 0; desk = 0 }; value = 0 }; gathered = 0 }))
    ≡ get_or (map transfer_of ts) k (fresh_transfer 0 0)
unfolding transfer_of views_of fresh_transfer
kept_at ts k =
    sym (get_or-map transfer_of ts k (record { old = 0; new = 0; sequence = record { views = []; len = 0 }; senders = 0; best = record { stamp = record { count = 0; desk = 0 }; value = 0 }; gathered = 0 }))

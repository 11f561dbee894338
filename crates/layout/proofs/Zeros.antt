-- "unused room is zero": the rows of places that are not filled, of a free place, of no relay and of no desk are zeros, and so is the image of a world
-- that has nothing else. Assumes nothing.
use mathlib.Core.Path.{◌≡◌, refl, sym, ap, ◌∙◌}
use mathlib.Core.List.{List, [], ◌∷◌, ◌++◌, append-nil, append_assoc}
use Prim.Native.Nat.{ℕ, zero, suc, ◌+◌, ◌*◌}
use native.Mathlib.Nat.{add-zero, add-suc}
use native.Mathlib.Omega.{arith}
use lib.ListN.{get_or, replicate}
use Rattle.rows.specs.Bytes.{be16, run, cat, sum, table, zeros}
use Rattle.rows.proofs.Numbers.{zeros-number}
use Rattle.rules.specs.Stamps.{zero_pair}
use Rattle.rules.specs.State.{no_relay, no_desk, free, World}
use Rattle.rules.specs.Generators.{fresh}
use Rattle.rules.specs.Relays.{fresh_transfer}
use Rattle.layout.specs.Layout.{byte_width, sequence_count, sequence_width, head_width, notes_width, generator_width, transfer_width, relay_width, desk_width}
use Rattle.layout.specs.Layout.{message_width, world_width}
use Rattle.layout.specs.Image.{sequence_bytes, pair_bytes, head_bytes, generator_bytes, transfer_bytes, relay_bytes, desk_bytes, row_bytes, place_bytes, image}
use Rattle.layout.proofs.Fits.{replicate_at}

-- ---- zeros in pieces

zeros-append : (a b : ℕ) → zeros a ++ zeros b ≡ zeros (a + b)
unfolding zeros run
zeros-append a zero = rw add-zero (append-nil (zeros a))
zeros-append a (suc b) = rw (add-suc a b) (sym (append_assoc (zeros a) (zeros b) (0 ∷ [])) ∙ ap (λ (l : List ℕ). l ++ (0 ∷ [])) (zeros-append a b))

zeros-none : [] ≡ zeros 0
unfolding zeros run
zeros-none = refl

one_zero : 0 ∷ [] ≡ zeros 1
unfolding zeros run
one_zero = refl

module _ (w : ℕ) (f : ℕ → List ℕ) (each : (k : ℕ) → f k ≡ zeros w) where
  run-zeros : (n : ℕ) → run n f ≡ zeros (n * w)
  unfolding run
  run-zeros zero = let e : 0 * w ≡ 0 = omega arith in rw e zeros-none
  run-zeros (suc n) = let e : suc n * w ≡ n * w + w = omega arith in rw (run-zeros n, each n, e) (zeros-append (n * w) w)

data Zeros : List (List ℕ) → List ℕ → Type 0 where
  none : Zeros [] []
  more : {p : List ℕ} {ps : List (List ℕ)} {w : ℕ} {ws : List ℕ} → p ≡ zeros w → Zeros ps ws → Zeros (p ∷ ps) (w ∷ ws)

cat-zeros : {ps : List (List ℕ)} {ws : List ℕ} → Zeros ps ws → cat ps ≡ zeros (sum ws)
unfolding cat
cat-zeros none = zeros-none
cat-zeros (more {ps = ps} {w = w} {ws = ws} e r) = rw (e, cat-zeros r) (zeros-append w (sum ws))

-- ---- rows

pub pair-zeros : pair_bytes zero_pair ≡ zeros 7
unfolding pair_bytes
pair-zeros = cat-zeros (more (zeros-number 2) (more one_zero (more (zeros-number 4) none)))

pub sequence-zeros : sequence_bytes [] ≡ zeros sequence_width
unfolding sequence_bytes
sequence-zeros =
    ap (λ (l : List ℕ). l ++ (0 ∷ [])) (run-zeros 2 (λ k. be16 0) (λ k. zeros-number 2) 15)
    ∙ ap (λ (l : List ℕ). zeros sequence_count ++ l) one_zero
    ∙ zeros-append sequence_count byte_width

-- a table of nothing but d's rows
module _ {A : Type 0} (enc : A → List ℕ) (d : A) (w : ℕ) (blank : enc d ≡ zeros w) where
  table-zeros : (n m : ℕ) → table enc d n (replicate m d) ≡ zeros (n * w)
  table-zeros n m = run-zeros w (λ k. enc (get_or (replicate m d) k d)) (λ k. ap enc (replicate_at m k d) ∙ blank) n

pub generator_zeros_lem : generator_bytes (fresh 0) ≡ zeros generator_width
unfolding generator_bytes fresh
generator_zeros_lem =
    cat-zeros (more (zeros-number 2) (more sequence-zeros (more sequence-zeros (more sequence-zeros (more notes (more notes (more refl none)))))))
  where
    notes : table sequence_bytes [] 8 (replicate 8 []) ≡ zeros notes_width
    notes = table-zeros sequence_bytes [] sequence_width sequence-zeros 8 8

pub transfer_zeros_lem : transfer_bytes (fresh_transfer 0 0) ≡ zeros transfer_width
unfolding transfer_bytes fresh_transfer
transfer_zeros_lem =
    cat-zeros (more (zeros-number 2) (more (zeros-number 2) (more sequence-zeros (more one_zero (more pair-zeros (more (zeros-number 2) (more refl none)))))))

pub relay_zeros : relay_bytes no_relay ≡ zeros relay_width
unfolding relay_bytes head_bytes
relay_zeros =
    cat-zeros (more head (more (table-zeros generator_bytes (fresh 0) generator_width generator_zeros_lem 8 0) (more (table-zeros transfer_bytes (fresh_transfer 0 0) transfer_width transfer_zeros_lem 8 0) none)))
  where
    head : head_bytes no_relay ≡ zeros head_width
    head =
        cat-zeros (more one_zero (more one_zero (more one_zero (more (zeros-number 2) (more (zeros-number 2) (more (zeros-number 2)
        (more pair-zeros (more refl none))))))))

pub desk-zeros : desk_bytes no_desk ≡ zeros desk_width
unfolding desk_bytes
desk-zeros =
    cat-zeros (more one_zero (more one_zero (more (zeros-number 2) (more (zeros-number 2) (more pair-zeros (more one_zero (more pair-zeros
    (more one_zero (more refl none)))))))))

pub place-zeros : place_bytes free ≡ zeros message_width
unfolding place_bytes row_bytes
place-zeros =
    cat-zeros (more one_zero (more one_zero (more one_zero (more (zeros-number 2) (more (zeros-number 2) (more (zeros-number 2)
    (more sequence-zeros (more pair-zeros (more (zeros-number 2) (more refl none))))))))))

-- ---- a world of nothing: where a start begins

abbrev pub no_world : World
no_world = record { relays = replicate 8 no_relay; desks = replicate 4 no_desk; places = replicate 256 free }

pub image-zeros : image no_world ≡ zeros world_width
unfolding image
image-zeros =
    cat-zeros (more (table-zeros relay_bytes no_relay relay_width relay_zeros 8 8) (more (table-zeros desk_bytes no_desk desk_width desk-zeros 4 4)
    (more (table-zeros place_bytes free message_width place-zeros 256 256) (more refl none))))

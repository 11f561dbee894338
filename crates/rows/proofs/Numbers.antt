-- Laws of numbers in bytes, high byte first, over how many bytes there are: each number is read back from its bytes, and bytes are those of
-- the number that is read from them. The names with 16 and 32 are these laws at two and four bytes. Assumes nothing.
use mathlib.Core.Path.{◌≡◌, refl, ap}
use mathlib.Core.List.{List, [], ◌∷◌, ◌++◌}
use Prim.Native.Nat.{ℕ, zero, suc, ◌+◌, ◌*◌, ◌^◌, ◌/◌, ◌%◌, ◌≤◌, ◌<◌}
use native.Mathlib.Numerals.{add-one}
use native.Mathlib.Nat.{add-zero, pow-zero, pow-suc}
use native.Mathlib.Omega.{arith}
use mir.Syntax.{w8, w16, w32}
use mir.Val.{Fits}
use lib.ListN.{length, get_or, drop, length-append, drop_of_length-le, get_or-eq_default}
use lib.Seq.{drop-cons, get_or-drop, drop-drop}
use Rattle.std.specs.Int.{to_be_bytes}
use Rattle.rows.specs.Bytes.{bytes_of, fields_of, sum, number_at, be16, be32, u16_at, u32_at, run, zeros}
use Rattle.rows.proofs.Laws.{Holds, holds_self, holds-left, holds_right, holds-byte}
use Rattle.rows.proofs.Held.{holds_nil, holds_one, holds-append}

-- every element is a byte
pub record Bytes (l : List ℕ) : Type 0 where
  pub each : (k : ℕ) → get_or l k 0 < 256

pub length-bytes_of : (n x : ℕ) → length (bytes_of n x) ≡ n
unfolding bytes_of
length-bytes_of zero x = refl
length-bytes_of (suc n) x = simp length-append (omega (arith, length-bytes_of n (x / 256)))

-- past the end a number is zero
pub number_past : (n : ℕ) (l : List ℕ) (o : ℕ) → length l ≤ o → number_at n l o ≡ 0
unfolding number_at
number_past zero l o h = refl
number_past (suc n) l o h = let z : get_or l (o + n) 0 ≡ 0 = get_or-eq_default l 0 (omega arith) in rw (number_past n l o h, z)

-- what bytes hold is read back
pub holds-number : (n : ℕ) (l : List ℕ) (o x : ℕ) → x < 256 ^ n → Holds l o (bytes_of n x) → number_at n l o ≡ x
unfolding bytes_of number_at
holds-number zero l o x small h = omega (arith, pow-zero 256)
holds-number (suc n) l o x small h =
    let below : x < 256 ^ n * 256 = rw (pow-suc 256 n) at small in
    let high : number_at n l o ≡ x / 256 = holds-number n l o (x / 256) (omega arith) (holds-left l (bytes_of n (x / 256)) (x % 256 ∷ []) o h) in
    let low = holds-byte l (o + n) (x % 256) [] (holds_right l (bytes_of n (x / 256)) (x % 256 ∷ []) o n (length-bytes_of n (x / 256)) h) in
    rw (high, low) (omega arith)

-- the bytes of a number, read as that number
pub number_back : (n x : ℕ) → x < 256 ^ n → number_at n (bytes_of n x) 0 ≡ x
number_back n x small = holds-number n (bytes_of n x) 0 x small (holds_self (bytes_of n x))

-- ---- halves, read from what stands at o and after it: two bytes are one and one, four are two and two

module _ (l rest : List ℕ) (o : ℕ) (e : rest ≡ drop o l) where
  pub u16_halves : u16_at l o ≡ get_or rest 0 0 * 256 + get_or rest 1 0
  unfolding number_at
  u16_halves = rw (e, get_or-drop o l 0 0, get_or-drop o l 1 0) (omega arith)

  pub u32_halves : u32_at l o ≡ u16_at rest 0 * 65536 + u16_at rest 2
  unfolding number_at
  u32_halves = rw (e, get_or-drop o l 0 0, get_or-drop o l 1 0, get_or-drop o l 2 0, get_or-drop o l 3 0) (omega arith)

-- zero is zero bytes
pub zeros-number : (n : ℕ) → bytes_of n 0 ≡ zeros n
unfolding bytes_of zeros run
zeros-number zero = refl
zeros-number (suc n) = ap (λ (l : List ℕ). l ++ (0 ∷ [])) (zeros-number n)

-- ---- a byte; fields: how long they are, where they end, and those from the i-th on

pub byte-number : {x : ℕ} → Fits w8 x → bytes_of 1 x ≡ x ∷ []
unfolding bytes_of
byte-number {x} small = let e : x % 256 ≡ x = omega arith in rw e

pub fields-length : (ws xs : List ℕ) → length (fields_of ws xs) ≡ sum ws
unfolding fields_of
fields-length [] xs = refl
fields-length (w ∷ ws) xs = simp length-append (omega (arith, length-bytes_of w (get_or xs 0 0), fields-length ws (drop 1 xs)))

-- the fields of ws before the i-th, laid from o on, end at p
pub record Ends (ws : List ℕ) (o p i : ℕ) : Type 0 where
  pub is : p + sum (drop i ws) ≡ o + sum ws

pub ends_none : {ws : List ℕ} {o : ℕ} → Ends ws o o 0
ends_none = record { is = refl }

module _ {ws : List ℕ} {o p i : ℕ} (e : Ends ws o p i) where
  module _ {w : ℕ} (h : i < length ws) (q : w ≡ get_or ws i 0) where
    next : sum (drop i ws) ≡ w + sum (drop (i + 1) ws)
    next = rw (add-one, drop-cons ws i 0 h, q)

    pub ends_more : Ends ws o (p + w) (i + 1)
    ends_more = record { is = omega (arith, next, e.is) }

    pub ends_inside : p + w ≤ o + sum ws
    ends_inside = omega (arith, next, e.is)

  pub ends_all : length ws ≤ i → p ≡ o + sum ws
  ends_all h = omega (arith, ap sum (drop_of_length-le ws h), e.is)

pub fields-next : (ws xs : List ℕ) (i : ℕ) → i < length ws
    → fields_of (drop i ws) (drop i xs) ≡ bytes_of (get_or ws i 0) (get_or xs i 0) ++ fields_of (drop (i + 1) ws) (drop (i + 1) xs)
unfolding fields_of
fields-next ws xs i h = rw (drop-cons ws i 0 h, fields_of, get_or-drop i xs 0 0, drop-drop 1 i xs, add-zero i, add-one i)

-- ---- from bytes

module _ (l : List ℕ) (o : ℕ) (bytes : Bytes l) where
  pub number-held : (n : ℕ) → o + n ≤ length l → Holds l o (bytes_of n (number_at n l o))
  unfolding bytes_of number_at
  number-held zero h = holds_nil l o (omega arith)
  number-held (suc n) h =
      let x = number_at n l o in
      let y = get_or l (o + n) 0 in
      let small = bytes.each (o + n) in
      let high : (x * 256 + y) / 256 ≡ x = omega arith in
      let low : (x * 256 + y) % 256 ≡ y = omega arith in
      rw (high, low) (holds-append l (bytes_of n x) (y ∷ []) o n (length-bytes_of n x) (number-held n (omega arith)) (holds_one l (o + n) (omega arith)))

-- ---- two and four bytes

pub length-be16 : (x : ℕ) → length (be16 x) ≡ 2
length-be16 = length-bytes_of 2

pub holds_u16 : (l : List ℕ) (o x : ℕ) → x < 65536 → Holds l o (be16 x) → u16_at l o ≡ x
holds_u16 = holds-number 2

pub holds_u32 : (l : List ℕ) (o x : ℕ) → x < 4294967296 → Holds l o (be32 x) → u32_at l o ≡ x
holds_u32 = holds-number 4

-- the library's bytes of a number are these
pub be16-written : (x : ℕ) → to_be_bytes w16 x ≡ be16 x
unfolding bytes_of
be16-written x = refl

pub be32-written : (x : ℕ) → to_be_bytes w32 x ≡ be32 x
unfolding bytes_of
be32-written x =
    let third : x / 65536 ≡ x / 256 / 256 = omega arith in
    let fourth : x / 16777216 ≡ x / 256 / 256 / 256 = omega arith in
    rw (third, fourth)

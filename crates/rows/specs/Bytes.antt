-- Bytes in a buffer: a piece written over it, numbers high byte first, and pieces one after another. `get_or l k 0` is the byte of l at k, and
-- 0 past its end. Assumes nothing.
use Rattle.std.specs.Prelude.{ℕ, zero, suc, ◌+◌, ◌*◌, ◌/◌, ◌%◌, cond, List, [], ◌∷◌, ◌++◌, leb, length, get_or, take, drop}
use Rattle.rows.specs.declared.Field.{Field}
use Rattle.rows.specs.declared.Field.TheVariants.{Flag, Byte, U16, U32, Zeros}

-- l, with b written over it from index o
unfoldable pub splice : List ℕ → ℕ → List ℕ → List ℕ
splice l o b = take o l ++ (b ++ drop (o + length b) l)

-- the same where b fits wholly, and otherwise l as it was
unfoldable pub placed : List ℕ → ℕ → List ℕ → List ℕ
placed l o b = cond (leb (o + length b) (length l)) (splice l o b) l

-- the last n bytes of x, "high byte first"
unfoldable pub bytes_of : ℕ → ℕ → List ℕ
bytes_of zero x = []
bytes_of (suc n) x = bytes_of n (x / 256) ++ (x % 256 ∷ [])

-- numbers one after another, each in as many bytes as its width says; a number that xs lacks is 0
unfoldable pub fields_of : List ℕ → List ℕ → List ℕ
fields_of [] xs = []
fields_of (w ∷ ws) xs = bytes_of w (get_or xs 0 0) ++ fields_of ws (drop 1 xs)

-- the number in the n bytes of l from o on, "high byte first"
unfoldable pub number_at : ℕ → List ℕ → ℕ → ℕ
number_at zero l o = 0
number_at (suc n) l o = number_at n l o * 256 + get_or l (o + n) 0

abbrev pub be16 : ℕ → List ℕ
be16 = bytes_of 2

abbrev pub be32 : ℕ → List ℕ
be32 = bytes_of 4

abbrev pub u16_at : List ℕ → ℕ → ℕ
u16_at = number_at 2

abbrev pub u32_at : List ℕ → ℕ → ℕ
u32_at = number_at 4

-- the pieces f 0, f 1, .. f (n - 1), one after another
unfoldable pub run : ℕ → (ℕ → List ℕ) → List ℕ
run zero f = []
run (suc n) f = run n f ++ f n

-- the list of f 0, f 1, .. f (n - 1)
unfoldable pub tab {ℓ} : {A : Type ℓ} → ℕ → (ℕ → A) → List A
tab zero f = []
tab (suc n) f = tab n f ++ (f n ∷ [])

-- pieces of any widths, one after another
unfoldable pub cat : List (List ℕ) → List ℕ
cat [] = []
cat (p ∷ ps) = p ++ cat ps

abbrev pub sum : List ℕ → ℕ
sum [] = 0
sum (w ∷ ws) = w + sum ws

-- n rows: those of xs, each encoded by enc, and d's for the rows that xs lacks
abbrev pub table : {A : Type 0} → (A → List ℕ) → A → ℕ → List A → List ℕ
table enc d n xs = run n (λ k. enc (get_or xs k d))

-- n zero bytes: "unused room is zero"
unfoldable pub zeros : ℕ → List ℕ
zeros n = run n (λ k. 0 ∷ [])

-- one field of a row; unused room is zero
unfoldable pub field_bytes : Field → List ℕ
field_bytes (Flag x) = cond x 1 0 ∷ []
field_bytes (Byte x) = x ∷ []
field_bytes (U16 x) = be16 x
field_bytes (U32 x) = be32 x
field_bytes (Zeros n) = zeros n

-- a row: fields one after another
unfoldable pub fields_bytes : List Field → List ℕ
fields_bytes [] = []
fields_bytes (f ∷ fs) = field_bytes f ++ fields_bytes fs

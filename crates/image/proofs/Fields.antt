-- A row that is written in three: fields, a sequence, and fields. Assumes nothing.
use mathlib.Core.Path.{◌≡◌}
use mathlib.Core.List.{List, ◌++◌}
use Prim.Native.Nat.{ℕ, ◌+◌, ◌≤◌}
use native.Mathlib.Omega.{arith}
use lib.ListN.{length}
use Rattle.rows.specs.Bytes.{placed, fields_bytes}
use Rattle.rows.specs.declared.Field.{Field}
use Rattle.rows.proofs.Laws.{put_first, put_then}
use Rattle.rows.proofs.Row.{row_width, fields_bytes-length}
use Rattle.layout.specs.Layout.{sequence_width}
use Rattle.layout.specs.Image.{sequence_bytes}
use Rattle.image.proofs.Widths.{length-sequence}

pub around : (l q : List ℕ) (o : ℕ) (fs gs : List Field) {l₁ l₂ t : List ℕ}
    → l₁ ≡ placed l o (fields_bytes fs) → l₂ ≡ placed l₁ (o + row_width fs) (sequence_bytes q)
    → t ≡ placed l₂ (o + (row_width fs + sequence_width)) (fields_bytes gs)
    → o + (row_width fs + sequence_width + row_width gs) ≤ length l → t ≡ placed l o ((fields_bytes fs ++ sequence_bytes q) ++ fields_bytes gs)
around l q o fs gs {l₁} {l₂} {t} e₁ e₂ e₃ fit =
    let p₁ = put_first (fields_bytes fs) l₁ (fields_bytes-length fs) e₁ in
    let p₂ = put_then (sequence_bytes q) l₂ p₁ (length-sequence q) (omega arith) e₂ in
    let p₃ = put_then (fields_bytes gs) t p₂ (fields_bytes-length gs) (omega arith) e₃ in
    p₃.is

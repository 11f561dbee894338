-- Sheets there and back: an accepted sheet that is written again gives its bytes, and a list that is written is read as that list. Assumes nothing.
use mathlib.Core.Path.{◌≡◌, ap, ◌∙◌}
use mathlib.Core.List.{List, [], ◌∷◌, ◌++◌}
use Prim.Native.Nat.{ℕ, suc, ◌^◌, ◌≤◌, ◌<◌}
use native.Mathlib.Omega.{arith}
use lib.ListN.{length, get_or, take, drop}
use lib.Seq.{take_at}
use Rattle.rules.specs.declared.Step.{Step}
use Rattle.rules.specs.Sheets.{Form, form_in, sheet, sheet_in, sheet_bytes, sheet_width, wrote, written}
use Rattle.rules.proofs.Sheets.{Known, Smalls, size, sheet_back, sheet-held}
use Rattle.sheet.specs.Writing.{listed, buffer_of}
use Rattle.sheet.proofs.Walk.{accepted, count, sound}
use Rattle.sheet.proofs.Writing.{ruling}

module _ (b buffer : List ℕ) (mask : ℕ) (ks : List Step) (each : (k : ℕ) → get_or b k 0 < 256) (e : sheet_in b ≡ sheet mask ks) where
  pub same_bytes : sheet_bytes (form_in b) mask ks ≡ b
  same_bytes =
      let a = accepted b mask ks e in
      rw (a.masked, a.steps) at (sheet-held b (record { each = each }) a.good)

  pub again : length b ≤ length buffer → written (form_in b) buffer mask ks ≡ wrote (b ++ drop (length b) buffer)
  again h =
      let f : Form = form_in b in
      let a = accepted b mask ks e in
      let s = sound b a.good in
      let n = count b mask ks a in
      let some : mask ≡ 0 → ⊥ = λ z. s.some (a.masked ∙ z) in
      let room : sheet_width f (length ks) ≤ length buffer = omega (arith, size f mask ks, ap length same_bytes) in
      let few : length ks ≤ f.most_steps = omega (arith, s.within) in
      rw same_bytes at (ruling f buffer mask ks some few room)

-- steps in slices of bytes and of numbers that fit a value's bytes are steps that a sheet can hold
pub smalls : (f : Form) (ks ids vs : List ℕ) → ((k : ℕ) → get_or ks k 0 < 256) → ((k : ℕ) → get_or ids k 0 < 256)
    → ((k : ℕ) → get_or vs k 0 < 256 ^ f.value_bytes) → Smalls f (listed ks ids vs)
unfolding listed Smalls
smalls f [] ids vs hk hi hv = tt
smalls f (k ∷ ks) [] vs hk hi hv = tt
smalls f (k ∷ ks) (i ∷ ids) [] hk hi hv = tt
smalls f (k ∷ ks) (i ∷ ids) (v ∷ vs) hk hi hv =
    (record { kind = hk 0; id = hi 0; value = hv 0 }, smalls f ks ids vs (λ j. hk (suc j)) (λ j. hi (suc j)) (λ j. hv (suc j)))

-- up to the most steps of the form: what is written of them, read, is the list
pub back : (f : Form) → Known f → (buffer : List ℕ) (mask : ℕ) (ks : List Step) → 0 < mask → length ks ≤ f.most_steps → Smalls f ks
    → sheet_width f (length ks) ≤ length buffer
    → sheet_in (take (sheet_width f (length ks)) (buffer_of buffer (written f buffer mask ks))) ≡ sheet mask ks
back f known buffer mask ks low few h room =
    let some : mask ≡ 0 → ⊥ = λ z. omega arith in
    let whole : List ℕ = sheet_bytes f mask ks in
    rw (ruling f buffer mask ks some few room, take_at whole (drop (length whole) buffer) (sheet_width f (length ks)) (size f mask ks))
    (sheet_back f mask ks known low few h)

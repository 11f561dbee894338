-- A message's place by its row: free, or with what the row says in it. Assumes nothing.
use mathlib.Core.Path.{◌≡◌, refl, sym, ap, ◌∙◌}
use mathlib.Core.Bool.{false, and-false}
use mathlib.Core.List.{List}
use Prim.Native.Nat.{ℕ, ◌+◌, ◌≤◌, ◌<◌}
use native.Mathlib.Nat.{add-zero}
use native.Mathlib.Omega.{arith}
use lib.Dec.{eqb, leb}
use lib.ListN.{get_or}
use borrow.Author.Tests.{lt-leb, ne_eqb}
use Rattle.rows.specs.Tests.{all_zero}
use Rattle.rows.proofs.All.{all_fails}
use Rattle.rules.specs.State.{free, waiting}
use Rattle.rules.specs.WellFormed.{good_place}
use Rattle.layout.specs.Layout.{message_width}
use Rattle.layout.specs.Image.{place_bytes, row_bytes, row_at, place_in}
use Rattle.layout.proofs.Zeros.{place-zeros}
use Rattle.state.specs.declared.Body.{Body}
use Rattle.state.specs.Meaning.{body_of, message_of}
use Rattle.messages.specs.Made.{made_with}
use Rattle.messages.proofs.Made.{made_row, says_own}
use Rattle.image.specs.Parts.{message_row, message_row_at}
use Rattle.image.proofs.Meaning.{message-read}
use Rattle.image.proofs.Parts.{place_of, said_bytes}
use Rattle.good.specs.Rows.{held, sent, place_good, message_good}
use Rattle.good.proofs.Held.{zero_held}

module _ (l : List ℕ) (o : ℕ) where
  free_good : place_in (row_at l o) ≡ free → place_good l o ≡ all_zero l o message_width
  unfolding place_good good_place
  free_good e = rw e (ap (held l o) place-zeros ∙ sym (zero_held l o message_width))

  pub no_kind_lem : get_or l o 0 ≡ 0 → place_good l o ≡ all_zero l o message_width
  unfolding place_in row_at
  no_kind_lem e = free_good (rw e)

  pub above_kinds : 11 < get_or l o 0 → place_good l o ≡ false
  unfolding place_in row_at all_zero
  above_kinds h =
      free_good (rw (lt-leb (get_or l o 0) 11 h, and-false (leb 1 (get_or l o 0))))
      ∙ all_fails message_width 0 (λ k. eqb (get_or l (o + k) 0) 0) (omega arith) (rw (add-zero o) (ne_eqb (get_or l o 0) 0 (λ z. omega arith)))

  -- the row of a message whose kind is one of the eleven says what waits in its place
  pub place_says : 1 ≤ get_or l o 0 → get_or l o 0 ≤ 11 → place_good l o ≡ message_good l o
  unfolding place_good message_good message_row_at
  place_says low high =
      let e : place_in (row_at l o) ≡ waiting (message_of (message_row_at l o)) =
      ap place_in (sym (message-read l o refl)) ∙ place_of (message_row_at l o) low high in
      rw e refl

-- a message whose body is made plain has the bytes of its place
pub plain_place : (from to : ℕ) (b plain : Body) → plain ≡ made_with b.sequence (body_of b)
    → row_bytes (message_row (record { from = from; to = to; body = plain })) ≡ place_bytes (sent from to (body_of b))
plain_place from to b plain e = said_bytes (record { from = from; to = to; body = plain }) (body_of b) (made_row _ _ e (says_own b))

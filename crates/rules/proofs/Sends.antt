-- What is sent well: every message of it is one that its rule could send. Events whose fields are in range. And what a member of a view is, to its receivers
-- and repliers. Assumes nothing.
use mathlib.Core.Path.{◌≡◌, sym, ◌∙◌}
use mathlib.Core.Bool.{true, and-eq-true_iff}
use mathlib.Core.List.{List, [], ◌∷◌, ◌++◌}
use Prim.Native.Nat.{ℕ, ◌<◌, ◌^◌}
use borrow.Author.Tests.{eqb-true}
use Rattle.views.proofs.Truth.{contrary}
use Rattle.views.proofs.Digits.{bit_none, bit_one}
use Rattle.views.proofs.Sets.{or_within, one_within, within_fact, within_test, member_bit}
use Rattle.rules.specs.Sets.{bit, members, member, within, joins, joined}
use Rattle.rules.specs.Messages.{Message, Sending, Event, nothing, opened, read_done, write_done}
use Rattle.rules.specs.WellFormed.{is_pair, between, good_body}

abbrev pub SendWell : ℕ → Sending → Type 0
SendWell from x = (n : ℕ) → n < 12 → bit x.receivers n ≡ true → good_body (record { from = from; to = n; body = x.body }) x.body ≡ true

unfoldable pub SendsWell : ℕ → List Sending → Type 0
SendsWell from [] = Unit {0}
SendsWell from (x ∷ xs) = SendWell from x × SendsWell from xs

pub sends_none : (from : ℕ) → SendsWell from []
unfolding SendsWell
sends_none from = tt

pub sends_one : (from : ℕ) (x : Sending) → SendWell from x → SendsWell from (x ∷ [])
unfolding SendsWell
sends_one from x h = (h, tt)

pub sends-append : (from : ℕ) (a b : List Sending) → SendsWell from a → SendsWell from b → SendsWell from (a ++ b)
unfolding SendsWell
sends-append from [] b h k = k
sends-append from (x ∷ a) b h k = (h.0, sends-append from a b h.1 k)

-- the view, or the stamp and value, that an event tells
abbrev pub EventWell : Event → Type 0
EventWell nothing = Unit {0}
EventWell (opened v) = v < 65536
EventWell (read_done p) = is_pair p ≡ true
EventWell (write_done p) = is_pair p ≡ true

-- from a member of v to a member of w
pub from_member : (v w : ℕ) (m : Message) → between v w m ≡ true → member v m.from ≡ true
from_member v w m e = ((and-eq-true_iff (member v m.from) (member w m.to)).0 e).0

pub to_member : (v w : ℕ) (m : Message) → between v w m ≡ true → member w m.to ≡ true
to_member v w m e = ((and-eq-true_iff (member v m.from) (member w m.to)).0 e).1

-- the one receiver of what goes to one
pub only_one : (s n : ℕ) → bit (2 ^ s) n ≡ true → n ≡ s
only_one s n e = eqb-true n s (sym (bit_one n s) ∙ e)

-- a view with a member has members
pub has_members : (v s : ℕ) → member v s ≡ true → members v ≡ 0 → ⊥
has_members v s m z = contrary (rw z at (sym (member_bit v s) ∙ m)) (bit_none s)

-- members who replied, and one member more
pub one_more : (v who s : ℕ) → within who (members v) ≡ true → member v s ≡ true → within (joined who (joins s)) (members v) ≡ true
one_more v who s w m = within_test (or_within (within_fact who (members v) w) (one_within (members v) s (sym (member_bit v s) ∙ m)))

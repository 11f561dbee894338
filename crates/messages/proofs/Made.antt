-- What the builders' bodies and sendings mean: a body that is made of a rule's words says them. Assumes nothing.
use Rattle.std.specs.Prelude.{if◌then◌else◌}
use mathlib.Core.Path.{◌≡◌, refl, sym, ap, ◌∙◌}
use mathlib.Core.Bool.{Bool, true, false}
use mathlib.Core.List.{[]}
use Prim.Native.Nat.{ℕ}
use Rattle.views.specs.declared.Sequence.{Sequence}
use Rattle.views.specs.Row.{views_of, row_of}
use Rattle.views.proofs.Rows.{held}
use Rattle.rules.specs.Messages as rules
use Rattle.layout.specs.Kinds.{kind_of}
use Rattle.layout.specs.declared.MessageKind.{MessageKind}
use Rattle.layout.specs.declared.MessageKind.TheVariants.{Request, View, Proposal, Converged, Install, State, Get, Put, ViewReply, PairReply, Ack}
use Rattle.layout.specs.Image.{body_row, body_by, body_in}
use Rattle.layout.proofs.Rows.{addressed, row_of_lem}
use Rattle.state.specs.declared.Body.{Body}
use Rattle.state.specs.declared.Sending.{Sending}
use Rattle.state.specs.Meaning.{row_of_body, body_of, sending_of}
use Rattle.state.specs.Plans.{no_sending}
use Rattle.messages.specs.Made.{said_by, made_with, made, send_to, to_nobody}

-- the row holds the sequence that is said
abbrev pub Says : Sequence → rules.Body → Type 0
Says q x = views_of (said_by x q) ≡ (body_row 0 0 x).sequence

pub none : views_of (row_of []) ≡ []
none = held (row_of []) [] refl

module _ {r : Body} (q : Sequence) (x : rules.Body) (e : r ≡ made_with q x) (f : Says q x) where
  pub made_row : row_of_body r ≡ body_row 0 0 x
  unfolding made_with addressed
  made_row = rw (e, f) (sym (row_of_lem 0 0 x).ends)

  pub made_says : body_of r ≡ x
  unfolding body_of
  made_says = ap body_in made_row ∙ (row_of_lem 0 0 x).says

-- the same as equations, which a tactic applies from left to right: of a body that says the sequence, and of one that says none
pub said_is : (q : Sequence) (x : rules.Body) → Says q x → body_of (made_with q x) ≡ x
said_is q x f = made_says q x refl f

pub made_is : (x : rules.Body) → (body_row 0 0 x).sequence ≡ [] → body_of (made x) ≡ x
made_is x e = said_is (row_of []) x (go _ ∙ none ∙ sym e)
  where
    go : (b : Bool) → views_of (if b then row_of [] else row_of []) ≡ views_of (row_of [])
    go true = refl
    go false = refl

-- the body that any row says, it says with its own sequence
pub says_own : (b : Body) → Says b.sequence (body_of b)
unfolding body_of body_in
says_own b = go (kind_of b.kind)
  where
    go : (k : MessageKind) → Says b.sequence (body_by k (row_of_body b))
    go Request = none
    go View = none
    go Proposal = refl
    go Converged = refl
    go Install = refl
    go State = none
    go Get = none
    go Put = none
    go ViewReply = none
    go PairReply = none
    go Ack = none

pub sent_says : {r : Sending} {n : ℕ} {b : Body} {x : rules.Body} → r ≡ send_to n b → body_of b ≡ x → sending_of r ≡ record { body = x; receivers = n }
unfolding sending_of
sent_says e f = rw (e, f)

pub nothing-sent : {r : Sending} → r ≡ to_nobody → sending_of r ≡ no_sending
nothing-sent e = sent_says e (made_says (row_of []) (rules.ack 0) refl none)

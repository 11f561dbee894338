-- What a desk's plan means that is made of a desk, of sendings and of an event, and what its refusals mean. Assumes nothing.
use mathlib.Core.Path.{◌≡◌, refl}
use mathlib.Core.List.{List, [], ◌∷◌, map}
use Prim.Native.Nat.{ℕ}
use Rattle.std.specs.Prelude.{Ok, Err}
use Rattle.views.specs.Row.{row_of}
use Rattle.stamps.specs.declared.Pair.{Pair}
use Rattle.rules.specs.Sets.{members}
use Rattle.rules.specs.Messages.{get, put, to_members, not_now, worn, refused, does, quietly, sends}
use Rattle.rules.specs.State.{no_desk}
use Rattle.rules.specs.declared.Desk.{Desk}
use Rattle.rules.specs.declared.Refusal.TheVariants.{NotNow, Worn}
use Rattle.state.specs.declared.Body.{Body}
use Rattle.state.specs.declared.Sending.{Sending}
use Rattle.state.specs.declared.Event.{Event}
use Rattle.state.specs.declared.Event.TheVariants.{Nothing}
use Rattle.state.specs.Meaning.{body_of, sending_of, event_of}
use Rattle.state.specs.Plans.{planned, desk_plan_of}
use Rattle.messages.specs.Made.{made, send_to, plan_of_all}
use Rattle.messages.proofs.Made.{none, made_says}
use Rattle.messages.proofs.Plans.{plan_says}

pub desk_does :
    (next : Desk) (xs : List Sending) (e : Event)
    → desk_plan_of (Ok (plan_of_all next xs e)) ≡ planned no_desk (does next (map sending_of xs) (event_of e))
unfolding desk_plan_of
desk_does next xs e = plan_says (λ (d : Desk). d) no_desk next xs e

-- "does nothing"
pub desk_quiet : (d : Desk) → desk_plan_of (Ok (plan_of_all d [] Nothing)) ≡ planned no_desk (quietly d)
unfolding event_of
desk_quiet d = desk_does d [] Nothing

-- something is asked of the members of a view
pub desk_asks :
    (d : Desk) (v : ℕ) (b : Body)
    → desk_plan_of (Ok (plan_of_all d (send_to (members v) b ∷ []) Nothing)) ≡ planned no_desk (sends d (to_members v (body_of b) ∷ []))
unfolding event_of sending_of
desk_asks d v b = desk_does d (send_to (members v) b ∷ []) Nothing

pub desk_not_now : desk_plan_of (Err NotNow) ≡ planned no_desk (refused not_now)
unfolding desk_plan_of planned
desk_not_now = refl

pub desk_worn : desk_plan_of (Err Worn) ≡ planned no_desk (refused worn)
unfolding desk_plan_of planned
desk_worn = refl

-- for the functions that answer a plan or a refusal
pub ruleset plans = (desk_does, desk_quiet, desk_not_now, desk_worn)

-- ---- what is asked: a Get and a Put

pub get_says : (tries c : ℕ) → body_of (made (get tries c)) ≡ get tries c
get_says tries c = made_says (row_of []) (get tries c) refl none

pub put_says : (tries c : ℕ) (p : Pair) → body_of (made (put tries c p)) ≡ put tries c p
put_says tries c p = made_says (row_of []) (put tries c p) refl none

pub ruleset asked = (get_says, put_says)

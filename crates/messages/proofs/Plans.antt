-- What the builders' plans mean, whatever it is that comes next: what the rule does. Assumes nothing.
use mathlib.Core.Path.{◌≡◌, refl, ap, ◌∙◌}
use mathlib.Core.List.{List, [], ◌∷◌, map}
use Prim.Native.Nat.{ℕ}
use Rattle.std.specs.Prelude.{Ok}
use Rattle.rules.specs.Messages as rules
use Rattle.state.specs.declared.Body.{Body}
use Rattle.state.specs.declared.Sending.{Sending}
use Rattle.state.specs.declared.Event.{Event}
use Rattle.state.specs.declared.Event.TheVariants.{Nothing}
use Rattle.state.specs.declared.Plan.{Plan}
use Rattle.state.specs.Meaning.{body_of, sending_of, event_of}
use Rattle.state.specs.Plans.{Planned, planned, planned_by}
use Rattle.messages.specs.Made.{send_to, plan_of_all}
use Rattle.messages.proofs.Made.{sent_says}
use Rattle.messages.proofs.Sent.{all_is, before_means}

module _ {T A : Type 0} (means : T → A) (blank : A) where
  pub plan_says : (next : T) (ss : List Sending) (e : Event)
      → planned_by means blank (Ok (plan_of_all next ss e)) ≡ planned blank (rules.does (means next) (map sending_of ss) (event_of e))
  unfolding plan_of_all planned
  plan_says next ss e = rw (all_is ss)

  -- with a sending that the rule names before the others
  pub first_says : (s : Sending) (later : Plan T) (a : A) (ss : List rules.Sending) (e : rules.Event)
      → planned_by means blank (Ok later) ≡ planned blank (rules.does a ss e)
      → planned_by means blank (Ok (plan_of_all later.next (s ∷ later.sends.of) later.event)) ≡ planned blank (rules.does a (sending_of s ∷ ss) e)
  unfolding plan_of_all planned
  first_says s later a ss e k =
      let all = before_means s later.sends ss refl (ap (λ (q : Planned A). q.sendings) k) in
      λ i. record { answer = 0; next = (k i).next; sendings = all i; event = (k i).event }

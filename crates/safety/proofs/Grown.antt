-- As the log grows, what is tied to it stays tied: messages, transfers and notes by any entries, a relay by those of other relays and of desks,
-- a desk by those of other desks and of relays. Assumes nothing.
use mathlib.Core.Path.{◌≡◌, sym, ap}
use mathlib.Core.Logic.{◌⊎◌, inl, inr}
use mathlib.Core.Bool.{Bool}
use mathlib.Core.List.Memᴰ
use mathlib.Core.List.{List, [], ◌∷◌}
use Prim.Native.Nat.{ℕ}
use native.Mathlib.Omega.{arith}
use Rattle.rules.specs.Stamps.{Value}
use Rattle.rules.specs.Messages.{Body, request, view, proposal, converged, install, state as state_says, get as get_says, put as put_says, view_reply, pair_reply, ack, Sending}
use Rattle.rules.specs.State.{Generator, Transfer, Relay, Place, free, waiting}
use Rattle.rules.specs.declared.Desk.{Desk}
use Rattle.rules.specs.declared.Phase.{Phase}
use Rattle.safety.proofs.Setting.{Setting}
use Rattle.safety.proofs.Lists.{All, all_none, all_more, all_map}
use Rattle.safety.proofs.Log.{Op, Entry, Log, ◌∋◌, conv}
use Rattle.safety.proofs.Growth.{Since, stay, add, since_has, one_more, doer, ByRelay, ByDesk, About, Turning, relay_only, not_desk}
use Rattle.safety.proofs.RelayFacts.{RelayFacts, relay_other}
use Rattle.safety.proofs.GeneratorFacts.{generator_other}
use Rattle.safety.proofs.DeskFacts.{Stage, desk_other}
use Rattle.safety.proofs.Notes.{notes_more}
use Rattle.safety.proofs.Ties.{GeneratorTied, Plan, TransferTied, GeneratorsTied, RelayTied, Firsts, Acks, Phased, at_rest, at_read1, at_write1, at_read2, at_write2, DeskTied, Backed, SendingBacked, PlaceBacked}

-- ---- by any entries

module _ {P : Entry → Type 0} {l m : Log} (g : Since P l m) where
  pub plan_since : {o w : ℕ} {q : List ℕ} → Plan l o w q → Plan m o w q
  plan_since p = record { raised = since_has g p.raised; kept = p.kept; least = p.least }

  pub backed_since : (from to : ℕ) (b : Body) → Backed l from to b → Backed m from to b
  backed_since from to (request u c) h = h
  backed_since from to (view v) h = h
  backed_since from to (proposal v q) h = (since_has g h.0, h.1)
  backed_since from to (converged v q) h = (since_has g h.0, h.1)
  backed_since from to (install o w q) h = plan_since h
  backed_since from to (state_says o w p u) h = (h.0, since_has g h.1, h.2, h.3, h.4)
  backed_since from to (get_says t c) h = (h.0, h.1, h.2, since_has g h.3)
  backed_since from to (put_says t c p) h = (h.0, h.1, h.2, since_has g h.3, h.4)
  backed_since from to (view_reply t v) h = h
  backed_since from to (pair_reply t p) h = (h.0, h.1, h.2, since_has g h.3, h.4)
  backed_since from to (ack t) h = (h.0, h.1, h.2, h.3, h.4, since_has g h.5)

  pub sending_since : (from : ℕ) (s : Sending) → SendingBacked l from s → SendingBacked m from s
  sending_since from s h n e = backed_since from n s.body (h n e)

  pub sendings_since : {from : ℕ} {ss : List Sending} → All (SendingBacked l from) ss → All (SendingBacked m from) ss
  sendings_since {from} a = all_map (sending_since from) a

  place_since : (p : Place) → PlaceBacked l p → PlaceBacked m p
  place_since free h = h
  place_since (waiting x) h = backed_since x.from x.to x.body h

  pub places_since : {ps : List Place} → All (PlaceBacked l) ps → All (PlaceBacked m) ps
  places_since a = all_map place_since a

  transfer_since : (t : Transfer) → TransferTied l t → TransferTied m t
  transfer_since t h = record {
    plan = go h.plan;
    notes = notes_more (λ k r z s. (s.0, since_has g s.1)) h.notes;
    small = h.small;
    updates = h.updates;
  }
    where
      go : (t.sequence ≡ []) ⊎ Plan l t.old t.new t.sequence → (t.sequence ≡ []) ⊎ Plan m t.old t.new t.sequence
      go (inl e) = inl e
      go (inr p) = inr (plan_since p)

  pub transfers_since : {ts : List Transfer} → All (TransferTied l) ts → All (TransferTied m) ts
  transfers_since a = all_map transfer_since a

  firsts_since : {n : ℕ} {d : Desk} → Firsts l n d → Firsts m n d
  firsts_since h = record {
    notes = notes_more (λ k r z s. since_has g s) h.notes;
    small = h.small;
    clean = h.clean;
    agreed = λ e k b. ((h.agreed e k b).0, since_has g (h.agreed e k b).1);
  }

  acks_since : {n : ℕ} {d : Desk} {o : Op} → Acks l n d o → Acks m n d o
  acks_since h = record {
    each = λ k b. ((h.each k b).0, (h.each k b).1, since_has g (h.each k b).2);
    stamp_is = h.stamp_is;
    value_is = h.value_is;
    small = h.small;
  }

  pub phased_since : {n : ℕ} {d : Desk} {p : Phase} {s : Stage} → Phased l n d p s → Phased m n d p s
  phased_since at_rest = at_rest
  phased_since (at_read1 h) = at_read1 (firsts_since h)
  phased_since (at_write1 h) = at_write1 (firsts_since h)
  phased_since (at_read2 e h) = at_read2 e (acks_since h)
  phased_since (at_write2 e h) = at_write2 e (acks_since h)

-- what goes to all receivers alike
pub sent_alike : (l : Log) (from : ℕ) (s : Sending) → ((n : ℕ) → Backed l from n s.body) → All (SendingBacked l from) (s ∷ [])
sent_alike l from s h = all_more {x = s} (λ n e. h n) all_none

-- ---- a relay k, by an entry that is not about it

module _ {l : Log} {e : Entry} {k : ℕ} where
  pub generator_more : {v : ℕ} {g : Generator} → ((q : List ℕ) → conv k v q ≡ e → ⊥) → GeneratorTied l k v g → GeneratorTied (e ∷ l) k v g
  generator_more {v} {g} n h = record {
    view-is = h.view-is;
    facts = generator_other h.facts n;
    own-rises = h.own-rises;
    conv_rises = h.conv_rises;
    contained = h.contained;
    heard = λ j. go (h.heard j);
  }
    where
      go : {j : ℕ} {q : List ℕ} → (q ≡ []) ⊎ (l ∋ conv j v q) → (q ≡ []) ⊎ ((e ∷ l) ∋ conv j v q)
      go (inl z) = inl z
      go (inr m) = inr (Memᴰ.tail m)

  pub generators_more : (gs : List Generator) → ((v : ℕ) (q : List ℕ) → conv k v q ≡ e → ⊥) → GeneratorsTied l k gs → GeneratorsTied (e ∷ l) k gs
  generators_more gs n h v = generator_more (n v) (h v)

  pub relay_more : {C : Setting} {r : Relay} → (About k e → ⊥) → ((v : ℕ) (q : List ℕ) → conv k v q ≡ e → ⊥) → RelayTied C l k r
      → RelayTied C (e ∷ l) k r
  relay_more {r = r} a n h = record {
    facts = relay_other h.facts a;
    outside = h.outside;
    inside = h.inside;
    small = h.small;
    view_small = h.view_small;
    updates = h.updates;
    generators = generators_more r.generators n h.generators;
    transfers = transfers_since one_more h.transfers;
  }

pub desk_more : {l : Log} {e : Entry} {n : ℕ} {d : Desk} → (ByDesk n e → ⊥) → DeskTied l n d → DeskTied (e ∷ l) n d
desk_more f h = record { stage = h.stage; facts = desk_other h.facts f; phased = phased_since one_more h.phased }

-- ---- entries of others

module _ {C : Setting} {r : Relay} where
  pub relay_by_relay : (j k : ℕ) {l m : Log} → (j ≡ k → ⊥) → Since (ByRelay k) l m → RelayTied C l j r → RelayTied C m j r
  relay_by_relay j k n stay h = h
  relay_by_relay j k n (add b s) h =
      relay_more (λ a. n (relay_only b a.0)) (λ v q c. n (relay_only b (ap doer (sym c)))) (relay_by_relay j k n s h)

  pub relay_by_desk : (j d : ℕ) {l m : Log} → Since (ByDesk d) l m → RelayTied C l j r → RelayTied C m j r
  relay_by_desk j d stay h = h
  relay_by_desk j d (add b s) h =
      relay_more (λ a. not_desk (inl a.0) b) (λ v q c. not_desk (inl (ap doer (sym c))) b) (relay_by_desk j d s h)

module _ {d : Desk} where
  pub desk_by_relay : (n k : ℕ) {l m : Log} → Since (ByRelay k) l m → DeskTied l n d → DeskTied m n d
  desk_by_relay n k stay h = h
  desk_by_relay n k (add b s) h = desk_more (not_desk b) (desk_by_relay n k s h)

  pub desk_by_desk : (n b : ℕ) {l m : Log} → (n ≡ b → ⊥) → Since (ByDesk b) l m → DeskTied l n d → DeskTied m n d
  desk_by_desk n b f stay h = h
  desk_by_desk n b f (add p s) h = desk_more (λ a. f (cc)) (desk_by_desk n b f s h)

-- ---- the entries of one generator: no other of its relay's is touched, nor the relay's record

module _ (k v : ℕ) where
  pub facts_turning : {C : Setting} {l m : Log} {u s : ℕ} {y : Value} {i a : Bool} → Since (Turning k v) l m
      → RelayFacts C l k u s y i a → RelayFacts C m k u s y i a
  facts_turning stay h = h
  facts_turning (add b s) h = relay_other (facts_turning s h) (λ a. omega arith)

  pub generator_turning : (u : ℕ) {l m : Log} {g : Generator} → (u ≡ v → ⊥) → Since (Turning k v) l m → GeneratorTied l k u g → GeneratorTied m k u g
  generator_turning u n stay h = h
  generator_turning u n (add b s) h = generator_more (λ q c. n (b.2 u q c)) (generator_turning u n s h)

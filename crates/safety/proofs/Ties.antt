-- HOW A WORLD IS TIED TO ITS LOG: what the log must say by what each relay, generator, transfer, desk and waiting message holds.
-- Nothing in flight says more than the log: so losing or copying a message costs nothing. Assumes nothing.
use mathlib.Core.Path.{◌≡◌}
use mathlib.Core.Logic.{◌⊎◌}
use mathlib.Core.Bool.{true, false}
use mathlib.Core.List.{List, []}
use Prim.Native.Nat.{ℕ, ◌+◌, ◌<◌}
use lib.ListN.{length, get_or}
use Rattle.views.specs.Chain.{least_of, lacks_of}
use Rattle.views.specs.View.{bit_of}
use Rattle.views.proofs.Nested.{Above as Rising}
use Rattle.rules.specs.Stamps.{Value}
use Rattle.rules.specs.Messages.{Body, request, view, proposal, converged, install, state as state_says, get as get_says, put as put_says, view_reply, pair_reply, ack, Sending}
use Rattle.rules.specs.State.{Generator, Transfer, Relay, Place, free, waiting, World, relay_at, desk_at}
use Rattle.rules.specs.declared.Desk.{Desk}
use Rattle.rules.specs.declared.Phase.{Phase}
use Rattle.rules.specs.declared.Phase.TheVariants.{Idle, Read1, Read2, Write1, Write2}
use Rattle.rules.specs.Generators.{generator_for}
use Rattle.safety.proofs.Setting.{Setting}
use Rattle.safety.proofs.Lists.{All}
use Rattle.safety.proofs.Bridge.{Kept}
use Rattle.safety.proofs.Numbers.{num, Small}
use Rattle.safety.proofs.Log.{reading, writing, Op, get, put, Log, ◌∋◌, own, conv, raise, state, ask, reply}
use Rattle.safety.proofs.RelayFacts.{RelayFacts}
use Rattle.safety.proofs.GeneratorFacts.{GeneratorFacts}
use Rattle.safety.proofs.DeskFacts.{DeskFacts, Stage, resting, asking, putting}
use Rattle.safety.proofs.Notes.{Notes, States, Replies}

-- ---- a relay k

-- its generator for the view v. Of the proposals heard nothing is asked
pub record GeneratorTied (l : Log) (k v : ℕ) (g : Generator) : Type 0 where
  pub view-is : g.view ≡ v
  pub facts : GeneratorFacts l k v g.own g.converged
  pub own-rises : Rising v g.own
  pub conv_rises : Rising v g.converged
  pub contained : lacks_of g.converged g.own ≡ false
  pub heard : (j : ℕ) → (get_or g.convergences j [] ≡ []) ⊎ (l ∋ conv j v (get_or g.convergences j []))

-- an install from o to w by q
pub record Plan (l : Log) (o w : ℕ) (q : List ℕ) : Type 0 where
  pub raised : l ∋ raise o q
  pub kept : Kept o q
  pub least : least_of q ≡ w

pub record TransferTied (l : Log) (t : Transfer) : Type 0 where
  pub plan : (t.sequence ≡ []) ⊎ Plan l t.old t.new t.sequence
  pub notes : Notes (States l t.old t.new) t.senders (num t.best.stamp) t.best.value
  pub small : Small t.best
  pub updates : t.gathered < 65536

-- a generator that is absent is fresh, and then nothing of it is in the log: so all views are spoken of
abbrev pub GeneratorsTied : Log → ℕ → List Generator → Type 0
GeneratorsTied l k gs = (v : ℕ) → GeneratorTied l k v (generator_for v gs)

pub record RelayTied (C : Setting) (l : Log) (k : ℕ) (r : Relay) : Type 0 where
  pub facts : RelayFacts C l k r.view (num r.holds.stamp) r.holds.value r.entered r.active
  pub outside : r.entered ≡ false → r.view ≡ 0
  pub inside : r.active ≡ true → r.entered ≡ true
  pub small : Small r.holds
  pub view_small : r.view < 65536
  pub updates : r.pending < 65536
  pub generators : GeneratorsTied l k r.generators
  pub transfers : All (TransferTied l) r.transfers

-- ---- a desk n

-- phase 1: who replied, the best reply, and whether all stamps agreed
pub record Firsts (l : Log) (n : ℕ) (d : Desk) : Type 0 where
  pub notes : Notes (Replies l n d.tries d.view) d.replied (num d.best.stamp) d.best.value
  pub small : Small d.best
  pub clean : d.replied ≡ 0 → num d.best.stamp ≡ 0
  pub agreed : d.agreed ≡ true → (k : ℕ) → bit_of d.replied k ≡ true → (z : Value) × (l ∋ reply k n d.tries d.view (num d.best.stamp) z)

-- phase 2 of the settled operation o: who acknowledged
pub record Acks (l : Log) (n : ℕ) (d : Desk) (o : Op) : Type 0 where
  pub each : (k : ℕ) → bit_of d.replied k ≡ true → (s : ℕ) × (z : Value) × (l ∋ reply k n d.tries d.view s z)
  pub stamp_is : o.stamp ≡ num d.holds.stamp
  pub value_is : o.value ≡ d.holds.value
  pub small : Small d.holds

pub data Phased (l : Log) (n : ℕ) (d : Desk) : Phase → Stage → Type 0 where
  at_rest : Phased l n d Idle resting
  at_read1 : {m : ℕ} → Firsts l n d → Phased l n d Read1 (asking m reading)
  at_write1 : {m : ℕ} → Firsts l n d → Phased l n d Write1 (asking m (writing d.holds.value))
  at_read2 : {o : Op} → o.task ≡ reading → Acks l n d o → Phased l n d Read2 (putting o)
  at_write2 : {o : Op} → o.task ≡ writing d.holds.value → Acks l n d o → Phased l n d Write2 (putting o)

pub record DeskTied (l : Log) (n : ℕ) (d : Desk) : Type 0 where
  pub stage : Stage
  pub facts : DeskFacts l n d.tries d.view stage
  pub phased : Phased l n d d.phase stage

-- ---- a message, by what its sender did; 8 + d is the desk d

abbrev pub Backed : Log → (sender receiver : ℕ) → Body → Type 0
Backed l from to (request u c) = u < 65536
Backed l from to (view v) = Unit {0}
Backed l from to (proposal v q) = (l ∋ own from v q) × Kept v q
Backed l from to (converged v q) = (l ∋ conv from v q) × Kept v q
Backed l from to (install o w q) = Plan l o w q
Backed l from to (state_says o w p u) = (x : ℕ) × (l ∋ state from x o w (num p.stamp) p.value) × Small p × (u < 65536) × (from < 8)
Backed l from to (get_says t c) = (d : ℕ) × (n : ℕ) × (from ≡ 8 + d) × (l ∋ ask d t n c get)
Backed l from to (put_says t c p) = (d : ℕ) × (n : ℕ) × (from ≡ 8 + d) × (l ∋ ask d t n c (put (num p.stamp) p.value)) × Small p
Backed l from to (view_reply t v) = Unit {0}
Backed l from to (pair_reply t p) = (d : ℕ) × (v : ℕ) × (to ≡ 8 + d) × (l ∋ reply from d t v (num p.stamp) p.value) × Small p
Backed l from to (ack t) = (d : ℕ) × (v : ℕ) × (to ≡ 8 + d) × (s : ℕ) × (y : Value) × (l ∋ reply from d t v s y)

-- what is sent, to each of its receivers
abbrev pub SendingBacked : Log → ℕ → Sending → Type 0
SendingBacked l from s = (n : ℕ) → bit_of s.receivers n ≡ true → Backed l from n s.body

abbrev pub PlaceBacked : Log → Place → Type 0
PlaceBacked l free = Unit {0}
PlaceBacked l (waiting m) = Backed l m.from m.to m.body

-- ---- the world

pub record WorldTied (C : Setting) (l : Log) (w : World) : Type 0 where
  pub eight : length w.relays ≡ 8
  pub four : length w.desks ≡ 4
  pub relays : (s : ℕ) → s < 8 → RelayTied C l s (relay_at w s)
  pub desks : (n : ℕ) → n < 4 → DeskTied l n (desk_at w n)
  pub places : All (PlaceBacked l) w.places

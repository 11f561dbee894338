-- How a step is routed: which act it tells, which message a place holds, and what the acts are of their parts. Assumes nothing.
use Rattle.std.specs.Prelude.{if◌then◌else◌, Result, Ok, MatchResult, ◌≢◌}
use mathlib.Core.Path.{◌≡◌, refl, sym, ap, ◌∙◌}
use mathlib.Core.Logic.{⊎_elim}
use mathlib.Core.Bool.{Bool, true, false, ◌&&◌, and-false, and-eq-true_iff}
use mathlib.Core.List.{List}
use Prim.Native.Nat.{ℕ, ◌-◌, ◌≤◌, ◌<◌}
use native.Mathlib.Omega.{arith}
use lib.Dec.{eqb, leb, ltb}
use borrow.Author.Tests.{ne_eqb, lt-ltb, le-ltb, eqb-true, ltb-true}
use Rattle.views.proofs.Truth.{decided, contrary, cases}
use Rattle.rules.specs.Messages.{Body, Message, Answer, dead, empty, bad_step, bad_world}
use Rattle.rules.specs.State.{Relay, Place, free, waiting, World, relay_at, desk_at, place_at}
use Rattle.rules.specs.declared.Desk as rules-desk
use Rattle.rules.specs.Steps.{drop, Act, no_report, deliver, bad, told, Outcome, relay_does, desk_does, alive_in, if_alive, freed, delivers}
use Rattle.rules.specs.Steps.{delivery, dropping, acts, stepped}
use Rattle.rules.specs.declared.Step.{Step}
use Rattle.rules.specs.declared.StepKind.{StepKind}
use Rattle.rules.specs.declared.StepKind.TheVariants.{Join, Leave, Timer, Read, Write, Deliver, Drop, Crash}
use Rattle.rules.specs.declared.Refusal.{Refusal}
use Rattle.rules.specs.declared.Refusal.TheVariants.{BadStep}
use Rattle.rules.specs.Coded.{kind_told}
use Rattle.rules.specs.Relays.{relay_hears}
use Rattle.rules.specs.Desks.{desk_hears}
use Rattle.rules.specs.WellFormed.{good_body, good_place}
use Rattle.layout.specs.Layout.{place_begin}
use Rattle.layout.specs.Image.{place_in, row_at, image, world_at, good_bytes}
use Rattle.layout.specs.Lent.{kept, left, lent_step}
use Rattle.rules.proofs.Kept.{to-desk}
use Rattle.rules.specs.Table.{is_free}
use Rattle.layout.proofs.World.{good_image}
use Rattle.state.specs.declared.Message as code-message
use Rattle.state.specs.Meaning.{message_of}
use Rattle.image.specs.Parts.{message_row}
use Rattle.image.proofs.Parts.{place_is}
use Rattle.world.specs.Answer.{accepted}
use Rattle.locality.specs.Narrow.{widens}
use Rattle.locality.specs.Asked.{relay_asked, desk_asked}
use Rattle.world.specs.Commits.{free_row, freed_at, delivered, relay_left, desk_left, relay_steps, desk_steps, crash_steps}
use Rattle.world.proofs.Places.{free-row, is_free_lem}
use Rattle.world.proofs.Good.{place_at_lem, good_place_lem}

-- ---- which act a step tells

abbrev pub kind_number : StepKind → ℕ
kind_number Join = 1
kind_number Leave = 2
kind_number Timer = 3
kind_number Read = 4
kind_number Write = 5
kind_number Deliver = 6
kind_number Drop = 7
kind_number Crash = 8

-- no other kind is the fifth
pub other_kind : (kind : StepKind) → kind_number kind ≡ 5 → kind ≡ Write
other_kind Join e = absurd (omega arith)
other_kind Leave e = absurd (omega arith)
other_kind Timer e = absurd (omega arith)
other_kind Read e = absurd (omega arith)
other_kind Write e = refl
other_kind Deliver e = absurd (omega arith)
other_kind Drop e = absurd (omega arith)
other_kind Crash e = absurd (omega arith)

module _ (k : Step) where
  -- what the kind that its number tells says of a step: the number, or that the step tells no act
  abbrev pub Tells : Result StepKind Refusal → Type 0
  Tells r = MatchResult r (λ kind. k.kind ≡ kind_number kind) (λ x. (x ≡ BadStep) × (told k ≡ bad))

  of_kind : (m : ℕ) (kind : StepKind) (r : Result StepKind Refusal) → m ≡ kind_number kind → (eqb k.kind m ≡ false → Tells r)
      → Tells (if eqb k.kind m then Ok kind else r)
  of_kind m kind r q f = cases Tells (eqb k.kind m) (λ e. eqb-true k.kind m e ∙ q) f

  pub kind_tells : Tells (kind_told k.kind)
  unfolding kind_told told
  kind_tells =
      of_kind 1 Join _ refl (λ a. of_kind 2 Leave _ refl (λ b. of_kind 3 Timer _ refl (λ c. of_kind 4 Read _ refl (λ d.
      of_kind 5 Write _ refl (λ e. of_kind 6 Deliver _ refl (λ f. of_kind 7 Drop _ refl (λ g. of_kind 8 Crash _ refl (λ h.
      (refl, rw (a, b, c, d, e, f, g, h))))))))))

  -- "A value other than 0 belongs to WRITE only."
  pub told_valued : k.kind ≢ 5 → k.value ≢ 0 → told k ≡ bad
  unfolding told
  told_valued e v = simp (ne_eqb k.kind 5 e, ne_eqb k.value 0 v, and-false)

  module _ (w : World) where
    module _ (none : k.value ≡ 0) where
      pub join_steps : k.kind ≡ 1 → acts w (told k) ≡ relay_steps w 1 k.id
      unfolding acts told relay_asked
      join_steps e = rw (e, none) (⊎_elim (λ t. rw t) (λ t. rw t) (decided (ltb k.id 8)))

      pub leave_steps : k.kind ≡ 2 → acts w (told k) ≡ relay_steps w 2 k.id
      unfolding acts told relay_asked
      leave_steps e = rw (e, none) (⊎_elim (λ t. rw t) (λ t. rw t) (decided (ltb k.id 8)))

      pub timer_steps : k.kind ≡ 3 → acts w (told k) ≡ relay_steps w 3 k.id
      unfolding acts told relay_asked
      timer_steps e = rw (e, none) (⊎_elim (λ t. rw t) (λ t. rw t) (decided (ltb k.id 8)))

      pub read_steps : k.kind ≡ 4 → acts w (told k) ≡ desk_steps w 4 k.id 0
      unfolding acts told desk_asked
      read_steps e = rw (e, none) (⊎_elim (λ t. rw t) (λ t. rw t) (decided (ltb k.id 4)))

      pub delivers_told : k.kind ≡ 6 → k.id < 256 → told k ≡ deliver k.id
      unfolding told
      delivers_told e h = rw (e, none, lt-ltb k.id 256 h)

      pub drops_told : k.kind ≡ 7 → k.id < 256 → told k ≡ drop k.id
      unfolding told
      drops_told e h = rw (e, none, lt-ltb k.id 256 h)

      pub crash_told : k.kind ≡ 8 → acts w (told k) ≡ crash_steps w k.id
      unfolding acts told
      crash_told e = rw (e, none) (⊎_elim (λ t. rw t) (λ t. rw t) (decided (ltb k.id 12)))

    pub write-steps : k.kind ≡ 5 → k.value < 4294967296 → acts w (told k) ≡ desk_steps w 5 k.id k.value
    unfolding acts told desk_asked
    write-steps e h = rw (e, lt-ltb k.value 4294967296 h) (⊎_elim (λ t. rw t) (λ t. rw t) (decided (ltb k.id 4)))

-- ---- an act of who is dead, and of who is alive

module _ (b : List ℕ) (who : ℕ) (o : Outcome) where
  pub dead-left : alive_in (world_at b) who ≡ false → kept dead b ≡ left b (if_alive (world_at b) who o)
  unfolding if_alive
  dead-left e = rw e

  pub alive-left : alive_in (world_at b) who ≡ true → left b o ≡ left b (if_alive (world_at b) who o)
  unfolding if_alive
  alive-left e = rw e

-- ---- what is left of an answer that no delivery asked for

pub none-delivered : (w : World) → delivered w 256 ≡ true
unfolding delivered
none-delivered w = refl

pub relay_step : (b : List ℕ) (s : ℕ) (a c : Answer Relay) → a ≡ widens (relay_at (world_at b) s) c → relay_left b 0 256 s c ≡ left b (relay_does (world_at b) 0 s a)
unfolding relay_left freed_at
relay_step b s a c e = rw e

pub desk-step : (b : List ℕ) (n : ℕ) (a : Answer rules-desk.Desk) → desk_left b 0 256 n a ≡ left b (desk_does (world_at b) 0 n a)
unfolding desk_left freed_at
desk-step b n a = refl

-- ---- delivery

module _ (b : List ℕ) (good : good_bytes b ≡ true) (p : ℕ) (hp : p < 256) where
  abbrev w : World
  w = world_at b

  pub free-place : free_row b p ≡ is_free (place_at w p)
  free-place = ap (λ (l : List ℕ). free_row l p) (sym (good_image b good)) ∙ free-row w p hp

  pub deliver_empty : free_row b p ≡ true → kept empty b ≡ left b (acts w (deliver p))
  unfolding acts delivery
  deliver_empty e = rw (is_free_lem (place_at w p) (sym free-place ∙ e))

  pub drop_empty : free_row b p ≡ true → kept empty b ≡ left b (acts w (drop p))
  unfolding acts dropping
  drop_empty e = rw (is_free_lem (place_at w p) (sym free-place ∙ e))

  module _ (m : code-message.Message) where
    pub place-holds : free_row b p ≡ false → message_row m ≡ row_at b (place_begin p) → place_at w p ≡ waiting (message_of m)
    place-holds e q =
        let is : place_at w p ≡ (if leb 1 m.body.kind && leb m.body.kind 11 then waiting (message_of m) else free) = place_at_lem b p hp ∙ ap place_in (sym q) ∙ place_is m in
        go (leb 1 m.body.kind && leb m.body.kind 11) is
      where
        go : (t : Bool) → place_at w p ≡ (if t then waiting (message_of m) else free) → place_at w p ≡ waiting (message_of m)
        go true is = is
        go false is = absurd (contrary (ap is_free is) (sym free-place ∙ e))

  module _ (m : Message) (is : place_at w p ≡ waiting m) where
    pub held-delivered : delivered w p ≡ true
    unfolding delivered
    held-delivered = rw (is, lt-ltb p 256 hp)

    pub held_good : good_body m m.body ≡ true
    unfolding good_place
    held_good = rw is at (good_place_lem b good p)

    pub held-dead : alive_in w m.to ≡ false → kept dead b ≡ left b (acts w (deliver p))
    unfolding acts delivery
    held-dead e = rw is (dead-left b m.to (delivers (freed w p) m) e)

    pub held-alive : alive_in w m.to ≡ true → left b (delivers (freed w p) m) ≡ left b (acts w (deliver p))
    unfolding acts delivery
    held-alive e = rw is (alive-left b m.to (delivers (freed w p) m) e)

  abbrev u : World
  u = freed w p

  pub to_relay_left : (m : Message) → m.to < 8 → (c : Answer Relay)
      → relay_hears m.to (relay_at w m.to) m.from m.body ≡ widens (relay_at w m.to) c → relay_left b 1 p m.to c ≡ left b (delivers u m)
  unfolding relay_left delivers freed_at freed
  to_relay_left m h c e = rw (lt-ltb m.to 8 h, lt-ltb p 256 hp, e)

  pub to-desk-left : (m : Message) → 8 ≤ m.to
      → desk_left b 1 p (m.to - 8) (desk_hears (m.to - 8) (desk_at w (m.to - 8)) m.from m.body) ≡ left b (delivers u m)
  unfolding desk_left delivers freed_at freed
  to-desk-left m h = rw (le-ltb m.to 8 h, lt-ltb p 256 hp)

-- a good message's receiver is one of the twelve
pub to_below : (m : Message) (x : Body) → good_body m x ≡ true → m.to < 12
to_below m x g =
    ⊎_elim (λ e. omega (arith, ltb-true m.to 8 e)) (λ e. ltb-true m.to 12 ((and-eq-true_iff (leb 8 m.to) (ltb m.to 12)).0 (to-desk m x g e)).1)
    (decided (ltb m.to 8))

-- ---- DROP, and any step of good bytes

go_drop : (b : List ℕ) (w : World) (p : ℕ) (x : Place) → is_free x ≡ false → accepted no_report (image (freed w p)) ≡ left b (dropping w p x)
unfolding dropping
go_drop b w p free e = absurd (contrary refl e)
go_drop b w p (waiting m) e = refl

module _ (b : List ℕ) (good : good_bytes b ≡ true) where
  pub drop-left : (p : ℕ) → p < 256 → free_row b p ≡ false → (l : List ℕ) → l ≡ image (freed_at (world_at b) p) → accepted no_report l ≡ left b (acts (world_at b) (drop p))
  unfolding acts freed_at
  drop-left p h e l q = rw (q, lt-ltb p 256 h) (go_drop b (world_at b) p (place_at (world_at b) p) (sym (free-place b good p h) ∙ e))

  pub step_left : (k : Step) (x : Act) → told k ≡ x → left b (acts (world_at b) x) ≡ lent_step b k
  unfolding lent_step stepped
  step_left k x e = rw (good, e)

  pub bad-left : (k : Step) → told k ≡ bad → kept bad_step b ≡ lent_step b k
  unfolding acts
  bad-left k e = step_left k bad e

pub world-left : (b : List ℕ) → good_bytes b ≡ false → (k : Step) → kept bad_world b ≡ lent_step b k
unfolding lent_step
world-left b e k = rw e

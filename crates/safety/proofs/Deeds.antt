-- What one step of a world does to the log: its entries are those of one relay or of one desk; it may open a view, begin an operation or end one,
-- and the history (rules/specs/History.antt) says the same of it. Assumes nothing.
use mathlib.Core.Path.{◌≡◌, refl, ap, ◌∙◌}
use mathlib.Core.Bool.{◌&&◌}
use mathlib.Core.List.{List, [], ◌∷◌}
use Prim.Native.Nat.{ℕ, ◌+◌, ◌<◌}
use native.Mathlib.Omega.{arith}
use native.Mathlib.Decide.{ℕ_discrete}
use lib.Dec.{leb}
use lib.ListN.{length, get_or, set, length-set}
use lib.Seq.{get_or-set_same, get_or-set_other}
use Rattle.views.proofs.Truth.{cases}
use Rattle.rules.specs.Sets.{bit}
use Rattle.rules.specs.Stamps.{Pair}
use Rattle.rules.specs.Messages.{Message, Sending, copies, outgoing, Event, nothing, opened, read_done, write_done, Answer, refused, does}
use Rattle.rules.specs.State.{Relay, Place, free, waiting, World, no_relay, no_desk, with_relay, with_desk, with_places}
use Rattle.rules.specs.declared.Desk.{Desk}
use Rattle.rules.specs.Sending.{place, place_all}
use Rattle.rules.specs.Steps.{Act, Report, reports, Outcome, refusal, done, roomy, relay_does, desk_does}
use Rattle.rules.specs.History.{Told, begin as beginning, ended_by, operation, opened_by}
use Rattle.rules.specs.Demand3.{event_of}
use Rattle.safety.proofs.Setting.{Setting}
use Rattle.safety.proofs.Lists.{All, all_none, all_more, all_append, all_map, all-image, those_pass}
use Rattle.safety.proofs.Numbers.{num, Small}
use Rattle.safety.proofs.Log.{Task, Op, Log, begin, finish, Active, Sound}
use Rattle.safety.proofs.Growth.{Since, stay, add, since_join, since_map, of_desk, ByRelay, ByDesk, Plain, relay_plain}
use Rattle.safety.proofs.Ties.{RelayTied, DeskTied, Backed, SendingBacked, PlaceBacked, WorldTied}
use Rattle.safety.proofs.Grown.{places_since, relay_by_relay, relay_by_desk, desk_by_relay, desk_by_desk}
use Rattle.safety.proofs.RelaySteps.{Tells, RelayDone}
use Rattle.safety.proofs.DeskSteps.{Says, says_read, says_write, Ending, goes_on, ends, DeskDone}

-- ---- in the words of the history, step by step

-- the act begins nothing; it begins what the desk n was told
abbrev pub Still : Act → Type 0
Still a = (i : ℕ) (ts : List Told) → beginning i ts a ≡ ts

abbrev pub Begins : Act → ℕ → Task → Type 0
Begins a n x = (i : ℕ) (ts : List Told) → beginning i ts a ≡ set ts n (record { task = x; begun = i })

-- the report ends nothing; it ends the operation o with the pair p
abbrev pub NoEnd : Report → Type 0
NoEnd r = (i : ℕ) (ts : List Told) → ended_by i ts r.event r.who ≡ []

abbrev pub EndOf : Report → Op → Pair → Type 0
EndOf r o p = (i : ℕ) (ts : List Told) → ended_by i ts r.event r.who ≡ operation ts o.desk i (event_of o.task) p ∷ []

pub data Deed (C : Setting) (l : Log) (a : Act) (r : Report) : Log → Type 0 where
  quiet : {m : Log} → Since Plain l m → Still a → NoEnd r → opened_by r.event ≡ [] → Deed C l a r m
  opens : {m : Log} (k v : ℕ) → Since Plain l m → Still a → NoEnd r → opened_by r.event ≡ v ∷ [] → Active C m k v → Deed C l a r m
  begun : {m : Log} (n t : ℕ) (x : Task) → n < 4 → Since Plain (begin n t x ∷ l) m → Begins a n x → NoEnd r → opened_by r.event ≡ [] → Deed C l a r m
  ended : {m : Log} (o : Op) (p : Pair) → Since Plain l m → Still a → EndOf r o p → opened_by r.event ≡ [] → o.stamp ≡ num p.stamp
      → o.value ≡ p.value → Small p
      → Deed C l a r (finish o ∷ m)

pub record Moved (C : Setting) (l : Log) (a : Act) (w : World) (r : Report) : Type 0 where
  pub log : Log
  pub sound : Sound C log
  pub tied : WorldTied C log w
  pub deed : Deed C l a r log

abbrev pub Moves : Setting → Log → Act → Outcome → Type 0
Moves C l a (refusal x) = Unit {0}
Moves C l a (done w r s d b) = Moved C l a w r

-- ---- messages placed

abbrev MessageBacked : Log → Message → Type 0
MessageBacked l m = Backed l m.from m.to m.body

copies_backed : (l : Log) (from : ℕ) (s : Sending) → SendingBacked l from s → All (MessageBacked l) (copies from s)
unfolding copies
copies_backed l from s h =
    all-image (λ (n : ℕ). record { from = from; to = n; body = s.body }) (all_map (λ n e. h n e) (those_pass (bit s.receivers) (0 ∷ 1 ∷ 2 ∷ 3 ∷ 4 ∷ 5 ∷ 6 ∷ 7 ∷ 8 ∷ 9 ∷ 10 ∷ 11 ∷ [])))

outgoing_backed : (l : Log) (from : ℕ) {ss : List Sending} → All (SendingBacked l from) ss → All (MessageBacked l) (outgoing from ss)
unfolding outgoing
outgoing_backed l from all_none = all_none
outgoing_backed l from (all_more {x = s} h a) = all_append (copies_backed l from s h) (outgoing_backed l from a)

place_backed : (l : Log) (m : Message) (ps : List Place) → MessageBacked l m → All (PlaceBacked l) ps → All (PlaceBacked l) (place m ps)
unfolding place
place_backed l m [] h all_none = all_none
place_backed l m (free ∷ ps) h (all_more p a) = all_more {x = waiting m} h a
place_backed l m (waiting x ∷ ps) h (all_more p a) = all_more {x = waiting x} p (place_backed l m ps h a)

placed : (l : Log) {ms : List Message} (ps : List Place) → All (MessageBacked l) ms → All (PlaceBacked l) ps → All (PlaceBacked l) (place_all ms ps)
unfolding place_all
placed l ps all_none a = a
placed l ps (all_more {x = m} h b) a = placed l (place m ps) b (place_backed l m ps h a)

-- ---- one relay, or one desk, changed

module _ {C : Setting} {l m : Log} (w : World) (h : WorldTied C l w) where
  pub with_relay_lem : (s : ℕ) (r : Relay) (ss : List Sending) → s < 8 → Since (ByRelay s) l m → RelayTied C m s r → All (SendingBacked m s) ss
      → WorldTied C m (with_places (with_relay w s r) (place_all (outgoing s ss) w.places))
  with_relay_lem s r ss i g t b = record {
    eight = length-set w.relays s r ∙ h.eight;
    four = h.four;
    relays = λ j k. go j k (ℕ_discrete j s);
    desks = λ n k. desk_by_relay n s g (h.desks n k);
    places = placed m w.places (outgoing_backed m s b) (places_since g h.places);
  }
    where
      go : (j : ℕ) → j < 8 → Dec (j ≡ s) → RelayTied C m j (get_or (set w.relays s r) j no_relay)
      go j k (yes e) = rw (e, get_or-set_same w.relays s r no_relay (omega (arith, h.eight))) t
      go j k (no n) = rw (get_or-set_other w.relays s j r no_relay n) (relay_by_relay j s n g (h.relays j k))

  pub with_desk_lem : (n : ℕ) (d : Desk) (ss : List Sending) → n < 4 → Since (ByDesk n) l m → DeskTied m n d → All (SendingBacked m (8 + n)) ss
      → WorldTied C m (with_places (with_desk w n d) (place_all (outgoing (8 + n) ss) w.places))
  with_desk_lem n d ss i g t b = record {
    eight = h.eight;
    four = length-set w.desks n d ∙ h.four;
    relays = λ j k. relay_by_desk j n g (h.relays j k);
    desks = λ j k. go j k (ℕ_discrete j n);
    places = placed m w.places (outgoing_backed m (8 + n) b) (places_since g h.places);
  }
    where
      go : (j : ℕ) → j < 4 → Dec (j ≡ n) → DeskTied m j (get_or (set w.desks n d) j no_desk)
      go j k (yes e) = rw (e, get_or-set_same w.desks n d no_desk (omega (arith, h.four))) t
      go j k (no x) = rw (get_or-set_other w.desks n j d no_desk x) (desk_by_desk j n x g (h.desks j k))

-- ---- an answer committed

module _ {C : Setting} {l : Log} (a : Act) (w : World) (h : WorldTied C l w) where
  pub relay_does_lem : (n s : ℕ) → s < 8 → Still a → (x : Answer Relay) → RelayDone C l s x → Moves C l a (relay_does w n s x)
  unfolding relay_does
  relay_does_lem n s i f (refused z) t = tt
  relay_does_lem n s i f (does r ss e) t =
      cases (Moves C l a) (roomy w (outgoing s ss) && (leb (length r.generators) 8 && leb (length r.transfers) 8))
      (λ _. record { log = t.log; sound = t.sound; tied = with_relay_lem w h s r ss i t.since t.tied t.sent; deed = deed e t.tells }) (λ _. tt)
    where
      deed : (e : Event) → Tells C t.log s e → Deed C l a (reports e s) t.log
      deed nothing u = quiet (since_map (relay_plain s) t.since) f (λ j ts. refl) refl
      deed (opened v) u = opens s v (since_map (relay_plain s) t.since) f (λ j ts. refl) refl u
      deed (read_done p) u = absurd u
      deed (write_done p) u = absurd u

  ending_by : {n : ℕ} {k g : Log} {e : Event} → Ending n k e g → Since (ByDesk n) k g
  ending_by goes_on = stay
  ending_by (ends o z d x y u) = add (ap of_desk d) stay

  pub desk-does : (c n : ℕ) → n < 4 → Still a → (x : Answer Desk) → DeskDone C l n x → Moves C l a (desk_does w c n x)
  unfolding desk_does
  desk-does c n i f (refused z) t = tt
  desk-does c n i f (does d ss e) t =
      cases (Moves C l a) (roomy w (outgoing (8 + n) ss))
      (λ _. record {
        log = t.log;
        sound = t.sound;
        tied = with_desk_lem w h n d ss i (since_join (since_map (λ e b. b.0) t.quiet) (ending_by t.ending)) t.tied t.sent;
        deed = deed t.ending;
      }) (λ _. tt)
    where
      told_end : {a : Task} {e : Event} {p : Pair} → Says a e p → (j : ℕ) (ts : List Told)
          → ended_by j ts (reports e n).event (reports e n).who ≡ operation ts n j (event_of a) p ∷ []
      told_end says_read j ts = refl
      told_end says_write j ts = refl

      told_open : {a : Task} {e : Event} {p : Pair} → Says a e p → opened_by (reports e n).event ≡ []
      told_open says_read = refl
      told_open says_write = refl

      deed : {e : Event} {g : Log} → Ending n t.mid e g → Deed C l a (reports e n) g
      deed goes_on = quiet (since_map (λ e b. b.1) t.quiet) f (λ j ts. refl) refl
      deed (ends {p = p} o z b x y u) = ended o p (since_map (λ e b. b.1) t.quiet) f (λ j ts. rw b (told_end z j ts)) (told_open z) x y u

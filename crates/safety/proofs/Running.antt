-- ALONG EVERY RUN there is a sound log to which the world is tied, and which says what the history says. The log is made step by step.
-- Assumes nothing.
use Rattle.std.specs.Prelude.{if◌then◌else◌}
use mathlib.Core.Path.{◌≡◌, refl, sym, subst, ap, ◌∙◌}
use mathlib.Core.Logic.{inl}
use mathlib.Core.Bool.{Bool, true, false, true≢false}
use mathlib.Core.List.Memᴰ
use mathlib.Core.List.{List, [], ◌∷◌, ◌++◌, append-nil, append_assoc}
use Prim.Native.Nat.{ℕ, zero, suc, ◌<◌}
use native.Mathlib.Omega.{arith}
use lib.ListN.{get_or-replicate}
use Rattle.views.proofs.Among.{lacks_self}
use Rattle.views.proofs.Nested.{above_none}
use Rattle.rules.specs.Sets.{bit}
use Rattle.rules.specs.Stamps.{zero_pair}
use Rattle.rules.specs.State.{Relay, World, start, start_relay, start_desk, free, relay_at, no_desk}
use Rattle.rules.specs.declared.Step.{Step}
use Rattle.rules.specs.Generators.{generator_for, fresh}
use Rattle.rules.specs.Steps.{Outcome, refusal, done, after, report, stepped, told as told-act}
use Rattle.rules.specs.Runs.{outcomes, last_world}
use Rattle.rules.specs.History.{Told, Operation, nobody, begin as beginning, began, ended_by, ended_in, told_in, opened_by, opened_in}
use Rattle.safety.proofs.Setting.{Setting, setting}
use Rattle.safety.proofs.Lists.{all_none, all_at, all_replicate}
use Rattle.safety.proofs.Log.{Entry, Log, ◌∋◌, Sound, sound_nil}
use Rattle.safety.proofs.Past.{sound-past}
use Rattle.safety.proofs.Growth.{since_has, since_past}
use Rattle.safety.proofs.Numbers.{num}
use Rattle.safety.proofs.RelayFacts.{RelayFacts, relay_starts, relay_waits}
use Rattle.safety.proofs.DeskFacts.{resting, desk_starts}
use Rattle.safety.proofs.Ties.{GeneratorTied, RelayTied, DeskTied, at_rest, PlaceBacked, WorldTied}
use Rattle.safety.proofs.Deeds.{Deed, quiet, opens, begun, ended, Moves}
use Rattle.safety.proofs.Stepping.{step-done}
use Rattle.safety.proofs.Book.{Book, book_none, book_on, book_plain, book_opens, book_begin, book_end}

-- before the step numbered i; the log has grown from the one that was there at some time before
pub record Run (old : Log) (C : Setting) (w : World) (i : ℕ) (ts : List Told) (ops : List Operation) (vs : List ℕ) : Type 0 where
  pub log : Log
  pub sound : Sound C log
  pub tied : WorldTied C log w
  pub book : Book C log i ts ops vs
  pub grown : (e : Entry) → old ∋ e → log ∋ e

-- ---- the start

fresh_tied : (k v : ℕ) → GeneratorTied [] k v (generator_for v [])
unfolding generator_for fresh
fresh_tied k v = record {
  view-is = refl;
  facts = record { own_is = inl refl; conv_in = λ q m. absurd (Memᴰ.not-nil m) };
  own-rises = above_none;
  conv_rises = above_none;
  contained = lacks_self [];
  heard = λ j. inl (all_at {P = λ (q : List ℕ). q ≡ []} j [] refl (all_replicate 8 [] refl));
}

relay_at_start : (mask s : ℕ) → mask < 256 → RelayTied (setting mask) [] s (start_relay mask s)
unfolding start_relay
relay_at_start mask s h = go (bit mask s)
  where
    relay : Bool → Relay
    relay b = record {
      alive = true;
      view = if b then mask else 0;
      entered = b;
      active = b;
      known = mask;
      pending = 0;
      holds = zero_pair;
      generators = [];
      transfers = [];
    }

    tied : (b : Bool) → RelayFacts (setting mask) [] s (relay b).view (num zero_pair.stamp) zero_pair.value b b
        → (b ≡ false → (relay b).view ≡ 0) → (relay b).view < 65536
        → RelayTied (setting mask) [] s (relay b)
    tied b f o i = record {
      facts = f;
      outside = o;
      inside = λ e. e;
      small = omega arith;
      view_small = i;
      updates = omega arith;
      generators = fresh_tied s;
      transfers = all_none;
    }

    go : (b : Bool) → RelayTied (setting mask) [] s (relay b)
    go true = tied true (relay_starts (setting mask) s) (λ e. absurd (true≢false e)) (omega arith)
    go false = tied false (relay_waits (setting mask) s) (λ e. refl) (omega arith)

started_relay : (mask s : ℕ) → s < 8 → relay_at (start mask) s ≡ start_relay mask s
unfolding start
started_relay mask zero h = refl
started_relay mask (suc zero) h = refl
started_relay mask (suc (suc zero)) h = refl
started_relay mask (suc (suc (suc zero))) h = refl
started_relay mask (suc (suc (suc (suc zero)))) h = refl
started_relay mask (suc (suc (suc (suc (suc zero))))) h = refl
started_relay mask (suc (suc (suc (suc (suc (suc zero)))))) h = refl
started_relay mask (suc (suc (suc (suc (suc (suc (suc zero))))))) h = refl
started_relay mask (suc (suc (suc (suc (suc (suc (suc (suc s)))))))) h = absurd (omega arith)

desk_at_start : (mask n : ℕ) → DeskTied [] n (start_desk mask)
unfolding start_desk
desk_at_start mask n = record { stage = resting; facts = desk_starts n mask; phased = at_rest }

start_tied : (mask : ℕ) → mask < 256 → WorldTied (setting mask) [] (start mask)
unfolding start
start_tied mask h = record {
  eight = refl;
  four = refl;
  relays = λ s i. rw (started_relay mask s i) (relay_at_start mask s h);
  desks = λ n i. rw (get_or-replicate 4 n (start_desk mask) no_desk i) (desk_at_start mask n);
  places = all_replicate {P = PlaceBacked []} 256 free tt;
}

pub run-start : (mask : ℕ) → mask < 256 → Run [] (setting mask) (start mask) 1 nobody [] (mask ∷ [])
run-start mask h = record { log = []; sound = sound_nil; tied = start_tied mask h; book = book_none (setting mask); grown = λ e h. h }

-- the same, as a run that goes on from here
pub from-here : {old : Log} {C : Setting} {i : ℕ} {w : World} {ts : List Told} {ops : List Operation} {vs : List ℕ} (R : Run old C w i ts ops vs)
    → Run R.log C w i ts ops vs
from-here R = record { log = R.log; sound = R.sound; tied = R.tied; book = R.book; grown = λ e h. h }

-- ---- a step

module _ {old : Log} {C : Setting} {i : ℕ} {w : World} where
  recast : {ts us : List Told} {ops ps : List Operation} {vs xs : List ℕ} → ts ≡ us → ops ≡ ps → vs ≡ xs → Run old C w i ts ops vs
      → Run old C w i us ps xs
  recast {ts} {us} {ops} {ps} {vs} {xs} p q r x =
      subst (λ (z : List ℕ). Run old C w i us ps z) r
      (subst (λ (z : List Operation). Run old C w i us z vs) q (subst (λ (z : List Told). Run old C w i z ops vs) p x))

module _ {old : Log} {C : Setting} {i : ℕ} {w : World} {ts : List Told} {ops : List Operation} {vs : List ℕ} (R : Run old C w i ts ops vs) where
  moved : (k : Step) (o : Outcome) → Moves C R.log (told-act k) o
      → Run old C (after w o) (suc i) (began i ts k o) (ops ++ ended_by i ts (report o).event (report o).who) (vs ++ opened_by (report o).event)
  moved k (refusal x) t = recast refl (sym (append-nil ops)) (sym (append-nil vs)) (record {
    log = R.log;
    sound = R.sound;
    tied = R.tied;
    book = book_on R.book;
    grown = R.grown;
  })
  moved k (done w' r a b c) t = go t.sound t.tied t.deed
    where
      go : {m : Log} → Sound C m → WorldTied C m w' → Deed C R.log (told-act k) r m
          → Run old C w' (suc i) (beginning i ts (told-act k)) (ops ++ ended_by i ts r.event r.who) (vs ++ opened_by r.event)
      go {m} S T (quiet s f e v) =
          recast (sym (f i ts)) (sym (ap (λ (z : List Operation). ops ++ z) (e i ts) ∙ append-nil ops)) (sym (ap (λ (z : List ℕ). vs ++ z) v ∙ append-nil vs))
          (record { log = m; sound = S; tied = T; book = book_on (book_plain s R.book); grown = λ z h. since_has s (R.grown z h) })
      go {m} S T (opens j v s f e u a) =
          recast (sym (f i ts)) (sym (ap (λ (z : List Operation). ops ++ z) (e i ts) ∙ append-nil ops)) (sym (ap (λ (z : List ℕ). vs ++ z) u))
          (record { log = m; sound = S; tied = T; book = book_opens j v a (book_on (book_plain s R.book)); grown = λ z h. since_has s (R.grown z h) })
      go {m} S T (begun n t x h s f e v) =
          recast (sym (f i ts)) (sym (ap (λ (z : List Operation). ops ++ z) (e i ts) ∙ append-nil ops)) (sym (ap (λ (z : List ℕ). vs ++ z) v ∙ append-nil vs))
          (record {
            log = m;
            sound = S;
            tied = T;
            book = book_plain s (book_begin n t x h (sound-past S (since_past s)) R.book);
            grown = λ z h. since_has s (Memᴰ.tail (R.grown z h));
          })
      go S T (ended {m = m} o p s f e v x y z) =
          recast (sym (f i ts)) (sym (ap (λ (z : List Operation). ops ++ z) (e i ts))) (sym (ap (λ (z : List ℕ). vs ++ z) v ∙ append-nil vs))
          (record {
            log = _;
            sound = S;
            tied = T;
            book = book_end o p S x y z (book_plain s R.book);
            grown = λ z h. Memᴰ.tail (since_has s (R.grown z h));
          })

  pub run_step : (k : Step) → Run old C (after w (stepped w k)) (suc i) (began i ts k (stepped w k))
      (ops ++ ended_by i ts (report (stepped w k)).event (report (stepped w k)).who) (vs ++ opened_by (report (stepped w k)).event)
  run_step k = moved k (stepped w k) (step-done R.sound w R.tied k)

-- ---- a run

pub run-steps : {old : Log} {C : Setting} {i : ℕ} {w : World} {ts : List Told} {ops : List Operation} {vs : List ℕ} → Run old C w i ts ops vs → (ks : List Step)
    → (j : ℕ) × Run old C (last_world w ks) j (told_in i ts ks (outcomes w ks)) (ops ++ ended_in i ts ks (outcomes w ks)) (vs ++ opened_in (outcomes w ks))
unfolding last_world told_in outcomes ended_in opened_in
run-steps {i = i} {ops = ops} {vs = vs} R [] = (i, recast refl (sym (append-nil ops)) (sym (append-nil vs)) R)
run-steps {i = i} {ops = ops} {vs = vs} R (k ∷ ks) =
    let h = run-steps {i = suc i} (run_step R k) ks in
    (h.0, recast refl (append_assoc ops _ _) (append_assoc vs _ _) h.1)

-- What the log must say of a desk: each kind of entry keeps it and is justified by it. Assumes nothing.
use mathlib.Core.Path.{◌≡◌, refl, sym, subst, ap, ◌∙◌}
use mathlib.Core.Logic.{◌⊎◌, inl, inr}
use mathlib.Core.List.Memᴰ
use mathlib.Core.List.{[], ◌∷◌}
use Prim.Native.Nat.{ℕ, suc, ◌≤◌, ◌<◌}
use native.Mathlib.Omega.{arith}
use Rattle.rules.specs.Stamps.{Value}
use Rattle.safety.proofs.Setting.{Setting}
use Rattle.safety.proofs.Quorums.{Most}
use Rattle.safety.proofs.Log.{Task, Op, Ask, get, put, Entry, tag, Log, ◌∋◌, begin, ask, reply, settle, finish, Begin, sends-get, sends-put, Asks, Result, Settle, Ends, put_down, Finish, Sound}
use Rattle.safety.proofs.Growth.{of_desk, doer, ByDesk}
use Rattle.safety.proofs.Past.{back, past_has, why}
use Rattle.safety.proofs.Entries.{older, past-kind}

-- ---- a desk: it rests, or asks for the operation that began with the try m, or puts for one that is settled

pub data Stage : Type 0 where
  resting : Stage
  asking : (m : ℕ) (a : Task) → Stage
  putting : (o : Op) → Stage

abbrev pub Busy : Stage → ℕ → Type 0
Busy resting m = ⊥
Busy (asking n a) m = n ≡ m
Busy (putting o) m = o.try ≡ m

abbrev pub Done : Log → ℕ → ℕ → Type 0
Done l d m = (o : Op) × (l ∋ finish o) × (o.desk ≡ d) × (o.try ≡ m)

-- the log names the try m of d
pub data Tried (l : Log) (d m : ℕ) : Type 0 where
  by_begin : {a : Task} → l ∋ begin d m a → Tried l d m
  by_ask : {n v : ℕ} {x : Ask} → l ∋ ask d m n v x → Tried l d m
  by_settle : {o : Op} → l ∋ settle o → o.desk ≡ d → o.try ≡ m → Tried l d m

abbrev pub Tries : Log → ℕ → ℕ → Type 0
Tries l d n = (m : ℕ) → Tried l d m → m ≤ n

pub data Doing (l : Log) (d n u : ℕ) : Stage → Type 0 where
  rests : Doing l d n u resting
  asks : {m : ℕ} {a : Task} → l ∋ begin d m a → l ∋ ask d n m u get → ((o : Op) → l ∋ settle o → o.desk ≡ d → o.try ≡ m → ⊥) → Doing l d n u (asking m a)
  puts : {o : Op} → o.desk ≡ d → l ∋ begin d o.try o.task → l ∋ settle o → l ∋ ask d n o.try u (put o.stamp o.value) → (l ∋ finish o → ⊥)
      → Doing l d n u (putting o)

-- the desk d has made n tries, and its view is u
pub record DeskFacts (l : Log) (d n u : ℕ) (p : Stage) : Type 0 where
  pub tries : Tries l d n
  pub done : (m : ℕ) (a : Task) → l ∋ begin d m a → Busy p m ⊎ Done l d m
  pub doing : Doing l d n u p

-- what an entry e may add to the tries of d
tried_cases : {l : Log} {e : Entry} {d m : ℕ} {A : Type 0} → Tried (e ∷ l) d m
    → ((a : Task) → begin d m a ≡ e → A) → ((n v : ℕ) (x : Ask) → ask d m n v x ≡ e → A) → ((o : Op) → settle o ≡ e → o.desk ≡ d → o.try ≡ m → A)
    → (Tried l d m → A) → A
tried_cases {l} {e} {d} {m} {A} (by_begin {a = a} h) f g i k = go (Memᴰ.cases_cons h)
  where
    go : (begin d m a ≡ e) ⊎ (l ∋ begin d m a) → A
    go (inl c) = f a c
    go (inr h) = k (by_begin h)
tried_cases {l} {e} {d} {m} {A} (by_ask {n = n} {v = v} {x = x} h) f g i k = go (Memᴰ.cases_cons h)
  where
    go : (ask d m n v x ≡ e) ⊎ (l ∋ ask d m n v x) → A
    go (inl c) = g n v x c
    go (inr h) = k (by_ask h)
tried_cases {l} {e} {d} {m} {A} (by_settle {o = o} h b c) f g i k = go (Memᴰ.cases_cons h)
  where
    go : (settle o ≡ e) ⊎ (l ∋ settle o) → A
    go (inl q) = i o q b c
    go (inr h) = k (by_settle h b c)

module _ {l : Log} {d n : ℕ} where
  tries-begin : {m : ℕ} {a : Task} → m ≤ n → Tries l d n → Tries (begin d m a ∷ l) d n
  tries-begin {m} {a} g t k h = tried_cases h
      (λ b c. let e : k ≡ m = cc in omega arith)
      (λ b v x c. absurd (omega (arith, ap tag c)))
      (λ o c b q. absurd (omega (arith, ap tag c)))
      (t k)

  tries_ask : {m b v : ℕ} {x : Ask} → m ≤ n → Tries l d n → Tries (ask d m b v x ∷ l) d n
  tries_ask {m} {b} {v} {x} g t k h = tried_cases h
      (λ b c. absurd (omega (arith, ap tag c)))
      (λ b v x c. let e : k ≡ m = cc in omega arith)
      (λ o c b q. absurd (omega (arith, ap tag c)))
      (t k)

  tries_settle : {p : Op} → p.try ≤ n → Tries l d n → Tries (settle p ∷ l) d n
  tries_settle {p} g t k h = tried_cases h
      (λ b c. absurd (omega (arith, ap tag c)))
      (λ b v x c. absurd (omega (arith, ap tag c)))
      (λ o c b q. let e : k ≡ p.try = cc in omega arith)
      (t k)

  tries_finish : {p : Op} → Tries l d n → Tries (finish p ∷ l) d n
  tries_finish {p} t k h = tried_cases h
      (λ b c. absurd (omega (arith, ap tag c)))
      (λ b v x c. absurd (omega (arith, ap tag c)))
      (λ o c b q. absurd (omega (arith, ap tag c)))
      (t k)

  tries_up : Tries l d n → Tries l d (suc n)
  tries_up t k h = omega (arith, t k h)

pub done_more : {l : Log} {e : Entry} {d m : ℕ} → Done l d m → Done (e ∷ l) d m
done_more h = (h.0, Memᴰ.tail h.1, h.2, h.3)

done_later : {l : Log} {e : Entry} {d m : ℕ} {A : Type 0} → A ⊎ Done l d m → A ⊎ Done (e ∷ l) d m
done_later (inl b) = inl b
done_later (inr h) = inr (done_more h)

-- it begins an operation: the try is new, and all before are done
module _ {l : Log} {d n u : ℕ} (k : DeskFacts l d n u resting) where
  all_done : (m : ℕ) (a : Task) → l ∋ begin d m a → Done l d m
  all_done m a h = go (k.done m a h)
    where
      go : ⊥ ⊎ Done l d m → Done l d m
      go (inl z) = absurd z
      go (inr z) = z

  pub begin_justified : d < 4 → Begin l d (suc n)
  begin_justified h = record { small = h; fresh = λ m a i. omega (arith, k.tries m (by_begin i)); idle = all_done }

  module _ {a : Task} where
    pub first_ask_justified : Asks (begin d (suc n) a ∷ l) d (suc n) (suc n) get
    first_ask_justified = record {
      fresh = λ m b v x h. omega (arith, k.tries m (by_ask (past-kind (omega arith) h)));
      begun = (a, Memᴰ.head refl);
      sends = sends-get;
    }

    pub desk-begins : DeskFacts (ask d (suc n) (suc n) u get ∷ begin d (suc n) a ∷ l) d (suc n) u (asking (suc n) a)
    desk-begins = record {
      tries = tries_ask (omega arith) (tries-begin (omega arith) (tries_up k.tries));
      done = λ m b h. done m b (Memᴰ.cases_cons (past-kind (omega arith) h));
      doing = asks (Memᴰ.tail (Memᴰ.head refl)) (Memᴰ.head refl)
          (λ o h e f. omega (arith, k.tries o.try (by_settle (past-kind (omega arith) (past-kind (omega arith) h)) e refl)));
    }
      where
        done : (m : ℕ) (b : Task) → (begin d m b ≡ begin d (suc n) a) ⊎ (l ∋ begin d m b)
            → (suc n ≡ m) ⊎ Done (ask d (suc n) (suc n) u get ∷ begin d (suc n) a ∷ l) d m
        done m b (inl c) = inl (cc)
        done m b (inr h) = inr (done_more (done_more (all_done m b h)))

-- it asks again, in another view w
module _ {l : Log} {d n u m : ℕ} {a : Task} (k : DeskFacts l d n u (asking m a)) where
  begun : l ∋ begin d m a
  begun = go k.doing
    where
      go : Doing l d n u (asking m a) → l ∋ begin d m a
      go (asks b q f) = b

  asked : l ∋ ask d n m u get
  asked = go k.doing
    where
      go : Doing l d n u (asking m a) → l ∋ ask d n m u get
      go (asks b q f) = q

  unsettled : (o : Op) → l ∋ settle o → o.desk ≡ d → o.try ≡ m → ⊥
  unsettled = go k.doing
    where
      go : Doing l d n u (asking m a) → (o : Op) → l ∋ settle o → o.desk ≡ d → o.try ≡ m → ⊥
      go (asks b q f) = f

  pub again_justified : Asks l d (suc n) m get
  again_justified = record { fresh = λ b c v x h. omega (arith, k.tries b (by_ask h)); begun = (a, begun); sends = sends-get }

  pub desk_again : {w : ℕ} → DeskFacts (ask d (suc n) m w get ∷ l) d (suc n) w (asking m a)
  desk_again = record {
    tries = tries_ask (omega arith) (tries_up k.tries);
    done = λ b c h. done_later (k.done b c (past-kind (omega arith) h));
    doing = asks (Memᴰ.tail begun) (Memᴰ.head refl) (λ o h. unsettled o (past-kind (omega arith) h));
  }

  -- it settles
  module _ (s : ℕ) (y : Value) where
    abbrev op : Op
    op = record { desk = d; try = m; task = a; stamp = s; value = y }

    pub settle_justified : {C : Setting} → Result C l d n u a s y → Settle C l op
    settle_justified r = record { begun = begun; once = unsettled; try = n; view = u; asked = asked; result = r }

    -- and goes on to put
    pub put_justified : Asks (settle op ∷ l) d (suc n) m (put s y)
    put_justified = record {
      fresh = λ b c v x h. omega (arith, k.tries b (by_ask (past-kind (omega arith) h)));
      begun = (a, Memᴰ.tail begun);
      sends = sends-put {o = op} (Memᴰ.head refl) refl refl;
    }

    module _ {C : Setting} (S : Sound C l) where
      unfinished : l ∋ finish op → ⊥
      unfinished h = let w = why S h in unsettled op (past_has (back w.past) w.is.settled) refl refl

      pub desk_puts : DeskFacts (ask d (suc n) m u (put s y) ∷ settle op ∷ l) d (suc n) u (putting op)
      desk_puts = record {
        tries = tries_ask (omega arith) (tries_settle (omega (arith, k.tries m (by_begin begun))) (tries_up k.tries));
        done = λ b c h. done_later (done_later (k.done b c (past-kind (omega arith) (past-kind (omega arith) h))));
        doing = puts {o = op} refl (Memᴰ.tail (Memᴰ.tail begun)) (Memᴰ.tail (Memᴰ.head refl)) (Memᴰ.head refl)
            (λ h. unfinished (past-kind (omega arith) (past-kind (omega arith) h)));
      }

      -- or it ends at once
      pub at_once_justified : Ends C (settle op ∷ l) op → Finish C (settle op ∷ l) op
      at_once_justified e = record { settled = Memᴰ.head refl; once = λ h. unfinished (past-kind (omega arith) h); ends = e }

      pub desk_rests_at_once : DeskFacts (finish op ∷ settle op ∷ l) d n u resting
      desk_rests_at_once = record {
        tries = tries_finish (tries_settle (k.tries m (by_begin begun)) k.tries);
        done = λ b c h. inr (done (k.done b c (past-kind (omega arith) (past-kind (omega arith) h))));
        doing = rests;
      }
        where
          done : {b : ℕ} → (m ≡ b) ⊎ Done l d b → Done (finish op ∷ settle op ∷ l) d b
          done (inl e) = (op, Memᴰ.head refl, refl, e)
          done (inr h) = done_more (done_more h)

-- it puts again, in another view w, or ends
module _ {l : Log} {d n u : ℕ} {o : Op} (k : DeskFacts l d n u (putting o)) where
  record Puts : Type 0 where
    mine : o.desk ≡ d
    begin-is : l ∋ begin d o.try o.task
    settle_is : l ∋ settle o
    ask_is : l ∋ ask d n o.try u (put o.stamp o.value)
    open_still : l ∋ finish o → ⊥

  now_puts : Puts
  now_puts = go k.doing
    where
      go : Doing l d n u (putting o) → Puts
      go (puts e b s q f) = record { mine = e; begin-is = b; settle_is = s; ask_is = q; open_still = f }

  pub put_again_justified : Asks l d (suc n) o.try (put o.stamp o.value)
  put_again_justified = record {
    fresh = λ b c v x h. omega (arith, k.tries b (by_ask h));
    begun = (o.task, now_puts.begin-is);
    sends = sends-put now_puts.settle_is now_puts.mine refl;
  }

  pub desk_puts_again : {w : ℕ} → DeskFacts (ask d (suc n) o.try w (put o.stamp o.value) ∷ l) d (suc n) w (putting o)
  desk_puts_again = record {
    tries = tries_ask (omega arith) (tries_up k.tries);
    done = λ b c h. done_later (k.done b c (past-kind (omega arith) h));
    doing = puts now_puts.mine (Memᴰ.tail now_puts.begin-is) (Memᴰ.tail now_puts.settle_is) (Memᴰ.head refl)
        (λ h. now_puts.open_still (past-kind (omega arith) h));
  }

  pub finish_justified : {C : Setting} → Most C u (λ j. (r : ℕ) × (z : Value) × (l ∋ reply j d n u r z)) → Finish C l o
  finish_justified {C} h = record { settled = now_puts.settle_is; once = now_puts.open_still; ends = ends now_puts.mine }
    where
      ends : o.desk ≡ d → Ends C l o
      ends e = put_down
          (subst (λ (x : ℕ). l ∋ ask x n o.try u (put o.stamp o.value)) (sym e) now_puts.ask_is)
          (subst (λ (x : ℕ). Most C u (λ j. (r : ℕ) × (z : Value) × (l ∋ reply j x n u r z))) (sym e) h)

  pub desk_rests : DeskFacts (finish o ∷ l) d n u resting
  desk_rests = record { tries = tries_finish k.tries; done = λ b c h. inr (done (k.done b c (past-kind (omega arith) h))); doing = rests }
    where
      done : {b : ℕ} → (o.try ≡ b) ⊎ Done l d b → Done (finish o ∷ l) d b
      done (inl e) = (o, Memᴰ.head refl, now_puts.mine, e)
      done (inr h) = done_more h

-- an entry of another desk, or of none
module _ {l : Log} {d n u : ℕ} {p : Stage} (k : DeskFacts l d n u p) where
  pub desk_other : {e : Entry} → (ByDesk d e → ⊥) → DeskFacts (e ∷ l) d n u p
  desk_other {e} f = record {
    tries = λ m h. tried_cases h (λ a c. absurd (other c refl)) (λ b v x c. absurd (other c refl)) (λ o c b q. absurd (other c (ap of_desk b))) (k.tries m);
    done = λ m a h. done_later (k.done m a (older (λ c. other c refl) h));
    doing = go k.doing;
  }
    where
      other : {g : Entry} → g ≡ e → ByDesk d g → ⊥
      other c h = f (ap doer (sym c) ∙ h)

      go : {p : Stage} → Doing l d n u p → Doing (e ∷ l) d n u p
      go rests = rests
      go (asks b q g) = asks (Memᴰ.tail b) (Memᴰ.tail q) (λ o h i j. g o (older (λ c. other c (ap of_desk i)) h) i j)
      go (puts i b s q g) = puts i (Memᴰ.tail b) (Memᴰ.tail s) (Memᴰ.tail q) (λ h. g (older (λ c. other c (ap of_desk i)) h))

pub desk_starts : (d u : ℕ) → DeskFacts [] d 0 u resting
desk_starts d u = record { tries = λ m h. absurd (go h); done = λ m a h. absurd (Memᴰ.not-nil h); doing = rests }
  where
    go : {m : ℕ} → Tried [] d m → ⊥
    go (by_begin h) = Memᴰ.not-nil h
    go (by_ask h) = Memᴰ.not-nil h
    go (by_settle h b c) = Memᴰ.not-nil h

-- The unfinished writes of the history are the settled writes of the log that have not ended: each is what its desk is putting. Assumes nothing.
use mathlib.Core.Path.{◌≡◌, refl, sym, subst, ap, ◌∙◌}
use mathlib.Core.Logic.{◌⊎◌, inl, inr, ⊎_elim}
use mathlib.Core.List.Memᴰ
use mathlib.Core.List.{List, [], ◌∷◌}
use Prim.Native.Nat.{ℕ, zero, suc, ◌+◌, ◌<◌}
use native.Mathlib.Omega.{arith}
use native.Mathlib.Decide.{dec_lt}
use lib.ListN.{length, get_or}
use Rattle.rules.specs.Stamps.{Value}
use Rattle.rules.specs.State.{World, no_desk, desk_at}
use Rattle.rules.specs.declared.Desk.{Desk}
use Rattle.rules.specs.declared.Phase.{Phase}
use Rattle.rules.specs.History.{Operation, Told, told_at, operation, unfinished_by, unfinished_in}
use Rattle.rules.specs.Demand3.{◌∈◌}
use Rattle.safety.proofs.Setting.{Setting}
use Rattle.safety.proofs.Numbers.{pair_of, pair_back}
use Rattle.safety.proofs.Log.{Task, reading, writing, Op, Log, ◌∋◌, settle, finish}
use Rattle.safety.proofs.Past.{back, past_has, why}
use Rattle.safety.proofs.Operations.{Writes, settle_once}
use Rattle.safety.proofs.DeskFacts.{DeskFacts, Stage, asking, putting, Busy, Done, Doing, asks, puts}
use Rattle.safety.proofs.Ties.{Acks, Phased, at_rest, at_read1, at_write1, at_read2, at_write2}
use Rattle.safety.proofs.Book.{event_at, told, finish_begun}
use Rattle.safety.proofs.Running.{Run}

-- ---- the list, desk by desk

by_desk : (ts : List Told) (n : ℕ) (ds : List Desk) {p : Operation} → p ∈ unfinished_in ts n ds
    → (j : ℕ) × (j < length ds) × (p ∈ unfinished_by ts (n + j) (get_or ds j no_desk).phase (get_or ds j no_desk).holds)
unfolding unfinished_in
by_desk ts n [] m = absurd (Memᴰ.not-nil m)
by_desk ts n (d ∷ ds) {p} m = go (by_desk ts (suc n) ds) (Memᴰ.append_cases (unfinished_by ts n d.phase d.holds) m)
  where
    go : (p ∈ unfinished_in ts (suc n) ds → (j : ℕ) × (j < length ds) × (p ∈ unfinished_by ts (suc n + j) (get_or ds j no_desk).phase (get_or ds j no_desk).holds))
        → (p ∈ unfinished_by ts n d.phase d.holds) ⊎ (p ∈ unfinished_in ts (suc n) ds)
        → (j : ℕ) × (j < length (d ∷ ds)) × (p ∈ unfinished_by ts (n + j) (get_or (d ∷ ds) j no_desk).phase (get_or (d ∷ ds) j no_desk).holds)
    go f (inl h) = (0, omega arith, (let e : n ≡ n + 0 = omega arith in subst (λ (x : ℕ). p ∈ unfinished_by ts x d.phase d.holds) e h))
    go f (inr h) =
        let k = f h in
        let e : suc n + k.0 ≡ n + suc k.0 = omega arith in
        (suc k.0, omega (arith, k.1), subst (λ (x : ℕ). p ∈ unfinished_by ts x (get_or ds k.0 no_desk).phase (get_or ds k.0 no_desk).holds) e k.2)

to-desk : (ts : List Told) (n : ℕ) (ds : List Desk) {p : Operation} (j : ℕ) → j < length ds
    → p ∈ unfinished_by ts (n + j) (get_or ds j no_desk).phase (get_or ds j no_desk).holds
    → p ∈ unfinished_in ts n ds
unfolding unfinished_in
to-desk ts n [] j i m = absurd (omega arith)
to-desk ts n (d ∷ ds) {p} zero i m =
    let e : n + 0 ≡ n = omega arith in
    Memᴰ.append_left (unfinished_in ts (suc n) ds) (subst (λ (x : ℕ). p ∈ unfinished_by ts x d.phase d.holds) e m)
to-desk ts n (d ∷ ds) {p} (suc j) i m =
    let e : n + suc j ≡ suc n + j = omega arith in
    Memᴰ.append_right (unfinished_by ts n d.phase d.holds)
    (to-desk ts (suc n) ds j (omega arith) (subst (λ (x : ℕ). p ∈ unfinished_by ts x (get_or ds j no_desk).phase (get_or ds j no_desk).holds) e m))

module _ {old : Log} {C : Setting} {i : ℕ} {w : World} {ts : List Told} {ops : List Operation} {vs : List ℕ} (R : Run old C w i ts ops vs) where
  abbrev pub named : Op → Operation
  named = told R.book.begins R.book.ends

  -- an operation has one finish
  pub done_finish : {o : Op} → R.log ∋ settle o → Done R.log o.desk o.try → R.log ∋ finish o
  done_finish s d = subst (λ (q : Op). R.log ∋ finish q) (settle_once R.sound (finish_begun R.sound d.1).0 s d.2 d.3) d.1

  -- what has not ended has the date 0
  not_ended : (d t : ℕ) → (Done R.log d t → ⊥) → R.book.ends d t ≡ 0
  not_ended d t u = go (dec_lt 0 (R.book.ends d t))
    where
      go : Dec (0 < R.book.ends d t) → R.book.ends d t ≡ 0
      go (yes h) = absurd (u (R.book.dates.really d t h))
      go (no h) = omega arith

  -- the write that the desk n puts
  putting_named : (n : ℕ) (d : Desk) {o : Op} → Acks R.log n d o → Doing R.log n d.tries d.view (putting o)
      → (R.log ∋ settle o) × (named o ≡ operation ts n 0 0 d.holds) × (R.log ∋ finish o → ⊥)
  putting_named n d {o} A (puts e b s q f) = (s, same, f)
    where
      open_still : Done R.log n o.try → ⊥
      open_still x = f (done_finish s (x.0, x.1, x.2 ∙ sym e, x.3))

      same : named o ≡ operation ts n 0 0 d.holds
      same =
          let c = R.book.current n o.try o.task b open_still in
          let z : R.book.ends o.desk o.try ≡ 0 = not_ended o.desk o.try (λ x. open_still (x.0, x.1, x.2 ∙ e, x.3)) in
          let g : R.book.begins o.desk o.try ≡ (told_at ts n).begun = ap (λ (x : ℕ). R.book.begins x o.try) e ∙ ap (λ (x : Told). x.begun) (sym c) in
          let p : pair_of o.stamp o.value ≡ d.holds = (λ j. pair_of (A.stamp_is j) (A.value_is j)) ∙ pair_back d.holds A.small in
          λ j. record { desk = e j; task = (sym c j).task; begun = g j; ended = z j; event = event_at (z j) o.task; pair = p j }

  pub unfinished-known : (p : Operation) → p ∈ unfinished_in ts 0 w.desks
      → (o : Op) × (R.log ∋ settle o) × Writes o × (named o ≡ p) × (R.log ∋ finish o → ⊥)
  unfinished-known p m =
      let k = by_desk ts 0 w.desks m in
      let e : 0 + k.0 ≡ k.0 = omega arith in
      let D = R.tied.desks k.0 (omega (arith, k.1, R.tied.four)) in
      go D.phased D.facts (subst (λ (x : ℕ). p ∈ unfinished_by ts x (desk_at w k.0).phase (desk_at w k.0).holds) e k.2)
    where
      go : {n : ℕ} {d : Desk} {g : Phase} {s : Stage} → Phased R.log n d g s → DeskFacts R.log n d.tries d.view s
          → p ∈ unfinished_by ts n g d.holds
          → (o : Op) × (R.log ∋ settle o) × Writes o × (named o ≡ p) × (R.log ∋ finish o → ⊥)
      go at_rest f m = absurd (Memᴰ.not-nil m)
      go (at_read1 F) f m = absurd (Memᴰ.not-nil m)
      go (at_write1 F) f m = absurd (Memᴰ.not-nil m)
      go (at_read2 t A) f m = absurd (Memᴰ.not-nil m)
      go {n} {d} (at_write2 {o = o} t A) f m =
          let h = putting_named n d A f.doing in
          (o, h.0, (d.holds.value, t), h.1 ∙ sym (Memᴰ.eq_of_singleton m), h.2)

  -- a settled write has ended, or is unfinished
  pub settled_write : {o : Op} → R.log ∋ settle o → Writes o → (R.log ∋ finish o) ⊎ (named o ∈ unfinished_in ts 0 w.desks)
  settled_write {o} s v =
      let x = why R.sound s in
      let b = past_has (back x.past) x.is.begun in
      let y = why R.sound b in
      let D = R.tied.desks o.desk y.is.small in
      ⊎_elim (λ z. inr (to-desk ts 0 w.desks o.desk (omega (arith, y.is.small, R.tied.four))
      (let e : o.desk ≡ 0 + o.desk = omega arith in subst (λ (x : ℕ). named o ∈ unfinished_by ts x (desk_at w o.desk).phase (desk_at w o.desk).holds) e (go D.phased D.facts z))))
      (λ z. inl (done_finish s z)) (D.facts.done o.try o.task b)
    where
      read : {a : Task} → a ≡ reading → (y : Value) × (a ≡ writing y) → ⊥
      read e f = let z : ◌≡◌ {A = ℕ} 0 1 = cc f.1 in omega arith

      same : {q : Op} {t u : ℕ} → Doing R.log o.desk t u (putting q) → q.try ≡ o.try → q ≡ o
      same (puts e b k q f) t = settle_once R.sound k s e t

      asking_not : {m t u : ℕ} {a : Task} → Doing R.log o.desk t u (asking m a) → m ≡ o.try → ⊥
      asking_not (asks b q f) e = f o s refl (sym e)

      go : {d : Desk} {g : Phase} {k : Stage} → Phased R.log o.desk d g k → DeskFacts R.log o.desk d.tries d.view k → Busy k o.try
          → named o ∈ unfinished_by ts o.desk g d.holds
      go at_rest f z = absurd z
      go (at_read1 F) f z = absurd (asking_not f.doing z)
      go (at_write1 F) f z = absurd (asking_not f.doing z)
      go (at_read2 {o = q} t A) f z = absurd (read (sym (ap (λ (x : Op). x.task) (same f.doing z)) ∙ t) v)
      go {d} (at_write2 {o = q} t A) f z = Memᴰ.head (ap named (sym (same f.doing z)) ∙ (putting_named o.desk d A f.doing).1)

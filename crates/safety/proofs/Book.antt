-- The history of a run and its log say the same: what each desk was last told, the operations that ended with their step numbers, the views opened.
-- Assumes nothing.
use mathlib.Core.Path.{◌≡◌, refl, sym, subst, ap, ◌∙◌}
use mathlib.Core.Logic.{◌⊎◌, inl, inr, ⊎_elim}
use mathlib.Core.List.Memᴰ
use mathlib.Core.List.{List, [], ◌∷◌, ◌++◌}
use Prim.Native.Nat.{ℕ, zero, suc, ◌<◌}
use native.Mathlib.Omega.{arith}
use native.Mathlib.Decide.{ℕ_discrete}
use lib.ListN.{length, set, length-set}
use lib.Seq.{get_or-set_same, get_or-set_other}
use Rattle.rules.specs.Stamps.{Pair}
use Rattle.rules.specs.History.{Operation, Told, told_at, nobody, operation}
use Rattle.rules.specs.Demand3.{◌∈◌, event_of}
use Rattle.safety.proofs.Setting.{Setting}
use Rattle.safety.proofs.Numbers.{num, Small, pair_of, pair_back}
use Rattle.safety.proofs.Log.{Task, Op, Log, ◌∋◌, begin, settle, finish, Active, active-start, Sound}
use Rattle.safety.proofs.Past.{now, back, past_has, justified, sound-past, why}
use Rattle.safety.proofs.Entries.{older, past-kind}
use Rattle.safety.proofs.Operations.{settle_once}
use Rattle.safety.proofs.Growth.{Since, stay, add, since_has, one_more, Plain, active_since}
use Rattle.safety.proofs.DeskFacts.{Done, done_more}
use Rattle.safety.proofs.Dates.{Times, noted, noted_here, noted_other, Dates, dates_none, dates_plain, dates_on, begun-before, dates_begin, dates_finish}

-- the event of an operation that ended with the step numbered i (0: it has not)
abbrev pub event_at : ℕ → Task → ℕ
event_at zero a = 0
event_at (suc i) a = event_of a

pub event_at_lem : (i : ℕ) (a : Task) → 0 < i → event_at i a ≡ event_of a
event_at_lem zero a h = absurd (omega arith)
event_at_lem (suc i) a h = refl

-- an operation of the log in the history's words
abbrev dated : Op → ℕ → ℕ → Operation
dated o begun ended = record {
  desk = o.desk;
  task = o.task;
  begun = begun;
  ended = ended;
  event = event_at ended o.task;
  pair = pair_of o.stamp o.value;
}

abbrev pub told : Times → Times → Op → Operation
told begins ends o = dated o (begins o.desk o.try) (ends o.desk o.try)

-- steps are numbered from 1, and what ended had begun in a step before
pub record Lasting (l : Log) (begins : Times) (ops : List Operation) : Type 0 where
  pub first : (d t : ℕ) (a : Task) → l ∋ begin d t a → 0 < begins d t
  pub lasted : (p : Operation) → p ∈ ops → (0 < p.begun) × (p.begun < p.ended)

-- before the step numbered i: ts is what the desks were last told, ops are the operations that ended, vs the views that opened
pub record Book (C : Setting) (l : Log) (i : ℕ) (ts : List Told) (ops : List Operation) (vs : List ℕ) : Type 0 where
  pub begins : Times
  pub ends : Times
  pub dates : Dates l i begins ends
  pub late : 0 < i
  pub lasting : Lasting l begins ops
  pub four : length ts ≡ 4
  -- an operation that has not ended is the last that its desk was told
  pub current : (n t : ℕ) (a : Task) → l ∋ begin n t a → (Done l n t → ⊥) → told_at ts n ≡ record { task = a; begun = begins n t }
  pub listed : (o : Op) → l ∋ finish o → told begins ends o ∈ ops
  pub known : (p : Operation) → p ∈ ops → (o : Op) × (l ∋ finish o) × (told begins ends o ≡ p)
  pub opened : (v : ℕ) → v ∈ vs → (k : ℕ) × Active C l k v

pub book_none : (C : Setting) → Book C [] 1 nobody [] (C.view ∷ [])
book_none C = record {
  begins = λ d t. 0;
  ends = λ d t. 0;
  dates = dates_none;
  late = omega arith;
  lasting = record { first = λ d t a m. absurd (Memᴰ.not-nil m); lasted = λ p m. absurd (Memᴰ.not-nil m) };
  four = refl;
  current = λ n t a m. absurd (Memᴰ.not-nil m);
  listed = λ o m. absurd (Memᴰ.not-nil m);
  known = λ p m. absurd (Memᴰ.not-nil m);
  opened = λ v m. (0, active-start (Memᴰ.eq_of_singleton m));
}

-- what was begun or ended before plain entries; an operation that ended was settled and begun

old-begin : {l m : Log} {d t : ℕ} {a : Task} → Since Plain l m → m ∋ begin d t a → l ∋ begin d t a
old-begin stay h = h
old-begin (add p s) h = old-begin s (older (p.0 _ _ _) h)

old_finish : {l m : Log} {o : Op} → Since Plain l m → m ∋ finish o → l ∋ finish o
old_finish stay h = h
old_finish (add p s) h = old_finish s (older (p.1 _) h)

pub finish_begun : {C : Setting} {l : Log} {o : Op} → Sound C l → l ∋ finish o → (l ∋ settle o) × (l ∋ begin o.desk o.try o.task)
finish_begun S h =
    let f = why S h in
    let k = past_has (back f.past) f.is.settled in
    let g = why S k in
    (k, past_has (back g.past) g.is.begun)

module _ {C : Setting} {i : ℕ} {ts : List Told} {ops : List Operation} {vs : List ℕ} where
  -- ---- a step more, in which nothing was done
  pub book_on : {l : Log} → Book C l i ts ops vs → Book C l (suc i) ts ops vs
  book_on b = record {
    begins = b.begins;
    ends = b.ends;
    dates = dates_on b.dates;
    late = omega arith;
    lasting = b.lasting;
    four = b.four;
    current = b.current;
    listed = b.listed;
    known = b.known;
    opened = b.opened;
  }

  -- ---- entries that neither begin nor end an operation

  pub book_plain : {l m : Log} → Since Plain l m → Book C l i ts ops vs → Book C m i ts ops vs
  book_plain {l} {m} s b = record {
    begins = b.begins;
    ends = b.ends;
    dates = dates_plain s b.dates;
    late = b.late;
    lasting = record { first = λ d t a h. b.lasting.first d t a (old-begin s h); lasted = b.lasting.lasted };
    four = b.four;
    current = λ n t a h u. b.current n t a (old-begin s h) (λ d. u (d.0, since_has s d.1, d.2, d.3));
    listed = λ o h. b.listed o (old_finish s h);
    known = λ p h. let k = b.known p h in (k.0, since_has s k.1, k.2);
    opened = λ v h. let k = b.opened v h in (k.0, active_since s k.1);
  }

  -- ---- a view opened
  pub book_opens : {l : Log} (k v : ℕ) → Active C l k v → Book C l i ts ops vs → Book C l i ts ops (vs ++ v ∷ [])
  book_opens {l} k v a b = record {
    begins = b.begins;
    ends = b.ends;
    dates = b.dates;
    late = b.late;
    lasting = b.lasting;
    four = b.four;
    current = b.current;
    listed = b.listed;
    known = b.known;
    opened = λ u h. ⊎_elim (b.opened u) (λ e. (k, subst (λ (x : ℕ). Active C l k x) (sym (Memᴰ.eq_of_singleton e)) a)) (Memᴰ.append_cases vs h);
  }

  -- ---- an operation of the desk n begins with the try s

  pub book_begin : {l : Log} (n s : ℕ) (x : Task) → n < 4 → Sound C (begin n s x ∷ l) → Book C l i ts ops vs
      → Book C (begin n s x ∷ l) (suc i) (set ts n (record { task = x; begun = i })) ops vs
  book_begin {l} n s x small S b = record {
    begins = noted b.begins n s i;
    ends = b.ends;
    dates = dates_begin b.dates n s x fresh;
    late = omega arith;
    lasting = record {
      first = λ d t a h. ⊎_elim (λ c. omega (arith, noted_here b.begins n s i (same_begin c).0 (same_begin c).1, b.late))
          (λ k. omega (arith, begun-before b.dates n s x fresh d t a k, b.lasting.first d t a k)) (Memᴰ.cases_cons h);
      lasted = b.lasting.lasted;
    };
    four = length-set ts n _ ∙ b.four;
    current = λ m t a h u. current m t a (Memᴰ.cases_cons h) u (ℕ_discrete m n);
    listed = λ o h. let k = past-kind (omega arith) h in Memᴰ.cast (same o k) (b.listed o k);
    known = λ p h. let k = b.known p h in (k.0, Memᴰ.tail k.1, same k.0 k.1 ∙ k.2);
    opened = λ v h. let k = b.opened v h in (k.0, active_since one_more k.1);
  }
    where
      before : Sound C l
      before = sound-past S (back now)

      fresh : (t : ℕ) (a : Task) → l ∋ begin n t a → t < s
      fresh t a h = (justified S now).fresh t a h

      same_begin : {d t : ℕ} {a : Task} → begin d t a ≡ begin n s x → (d ≡ n) × (t ≡ s)
      same_begin c = (cc, cc)

      -- what ended before keeps its date of begin
      same : (o : Op) → l ∋ finish o → told (noted b.begins n s i) b.ends o ≡ told b.begins b.ends o
      same o h =
          let e = begun-before b.dates n s x fresh o.desk o.try o.task (finish_begun before h).1 in
          λ j. dated o (e j) (b.ends o.desk o.try)

      current : (m t : ℕ) (a : Task) → (begin m t a ≡ begin n s x) ⊎ (l ∋ begin m t a) → (Done (begin n s x ∷ l) m t → ⊥) → Dec (m ≡ n)
          → told_at (set ts n (record { task = x; begun = i })) m ≡ record { task = a; begun = noted b.begins n s i m t }
      current m t a (inl c) u d =
          let e : m ≡ n = cc in
          let f : t ≡ s = cc in
          let g : x ≡ a = cc in
          let z = noted_here b.begins n s i e f in
          rw e (get_or-set_same ts n (record { task = x; begun = i }) _ (omega (arith, b.four))) ∙ (λ j. record { task = g j; begun = sym z j })
      current m t a (inr h) u (yes e) = absurd (u (done_more (subst (λ (z : ℕ). Done l z t) (sym e) ((justified S now).idle t a (subst (λ (z : ℕ). l ∋ begin z t a) e h)))))
      current m t a (inr h) u (no f) =
          let z = begun-before b.dates n s x fresh m t a h in
          get_or-set_other ts n m (record { task = x; begun = i }) _ f ∙ b.current m t a h (λ d. u (done_more d)) ∙ (λ j. record { task = a; begun = sym z j })

  -- ---- the operation o ends with the pair p

  pub book_end : {l : Log} (o : Op) (p : Pair) → Sound C (finish o ∷ l) → o.stamp ≡ num p.stamp → o.value ≡ p.value → Small p
      → Book C l i ts ops vs
      → Book C (finish o ∷ l) (suc i) ts (ops ++ operation ts o.desk i (event_of o.task) p ∷ []) vs
  book_end {l} o p S es ev small b = record {
    begins = b.begins;
    ends = noted b.ends o.desk o.try i;
    dates = dates_finish b.dates o b.late;
    late = omega arith;
    lasting = record {
      first = λ d t a h. b.lasting.first d t a (past-kind (omega arith) h);
      lasted = λ q h. ⊎_elim (b.lasting.lasted q) (λ k. subst (λ (x : Operation). (0 < x.begun) × (x.begun < x.ended)) (sym (Memᴰ.eq_of_singleton k)) lasted) (Memᴰ.append_cases ops h);
    };
    four = b.four;
    current = λ n t a h u. b.current n t a (past-kind (omega arith) h) (λ d. u (done_more d));
    listed = λ q h. listed q (Memᴰ.cases_cons h);
    known = λ q h. known q (Memᴰ.append_cases ops h);
    opened = λ v h. let k = b.opened v h in (k.0, active_since one_more k.1);
  }
    where
      before : Sound C l
      before = sound-past S (back now)

      settled : l ∋ settle o
      settled = (justified S now).settled

      -- it had not ended
      open_still : Done l o.desk o.try → ⊥
      open_still d =
          let e = settle_once before (finish_begun before d.1).0 settled d.2 d.3 in
          (justified S now).once (subst (λ (q : Op). l ∋ finish q) e d.1)

      others : (q : Op) → l ∋ finish q → told b.begins (noted b.ends o.desk o.try i) q ≡ told b.begins b.ends q
      others q h =
          let e = noted_other b.ends o.desk o.try i q.desk q.try (λ x y. open_still (q, h, x, y)) in
          λ j. dated q (b.begins q.desk q.try) (e j)

      begun : l ∋ begin o.desk o.try o.task
      begun = let w = why before settled in past_has (back w.past) w.is.begun

      last : told_at ts o.desk ≡ record { task = o.task; begun = b.begins o.desk o.try }
      last = b.current o.desk o.try o.task begun open_still

      lasted : (0 < (told_at ts o.desk).begun) × ((told_at ts o.desk).begun < i)
      lasted = rw last (b.lasting.first o.desk o.try o.task begun, b.dates.began o.desk o.try o.task begun)

      this : told b.begins (noted b.ends o.desk o.try i) o ≡ operation ts o.desk i (event_of o.task) p
      this =
          let c = last in
          let e = noted_here b.ends o.desk o.try i {e = o.desk} {u = o.try} refl refl in
          let k = ap (λ (x : ℕ). event_at x o.task) e ∙ event_at_lem i o.task b.late in
          let f : pair_of o.stamp o.value ≡ p = (λ j. pair_of (es j) (ev j)) ∙ pair_back p small in
          λ j. record { desk = o.desk; task = (sym c j).task; begun = (sym c j).begun; ended = e j; event = k j; pair = f j }

      listed : (q : Op) → (finish q ≡ finish o) ⊎ (l ∋ finish q)
          → told b.begins (noted b.ends o.desk o.try i) q ∈ (ops ++ operation ts o.desk i (event_of o.task) p ∷ [])
      listed q (inl c) =
          let e : q ≡ o = cc in
          Memᴰ.append_right ops (Memᴰ.head (ap (told b.begins (noted b.ends o.desk o.try i)) e ∙ this))
      listed q (inr h) = Memᴰ.append_left (operation ts o.desk i (event_of o.task) p ∷ []) (Memᴰ.cast (others q h) (b.listed q h))

      known : (q : Operation) → (q ∈ ops) ⊎ (q ∈ (operation ts o.desk i (event_of o.task) p ∷ []))
          → (r : Op) × ((finish o ∷ l) ∋ finish r) × (told b.begins (noted b.ends o.desk o.try i) r ≡ q)
      known q (inl h) = let k = b.known q h in (k.0, Memᴰ.tail k.1, others k.0 k.1 ∙ k.2)
      known q (inr h) = (o, Memᴰ.head refl, this ∙ sym (Memᴰ.eq_of_singleton h))

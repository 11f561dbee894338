-- The two theorems on a history that has the facts of `Facts.antt`:
--   `passed`    a raised sequence that passes over a view b binds all that is proposed and raised in b, and b was never opened;
--   `one_chain` any two entered views are comparable.
-- Both by one induction on sizes: the comparison of x and y has the measure |x| + |y|, and what holds at b the measure 2 |b|.
-- Assumes nothing.
use mathlib.Core.Path.{◌≡◌, sym, subst, ◌∙◌}
use mathlib.Core.Logic.{◌⊎◌, inl, inr}
use mathlib.Core.List.{List}
use Prim.Native.Nat.{ℕ, zero, suc, ◌+◌, ◌≤◌, ◌<◌}
use native.Mathlib.Omega.{arith}
use lib.Count.{ones}
use Rattle.views.proofs.Sets.{Inside, inside_grows, inside_irrefl, inside_trans}
use Rattle.safety.proofs.Sequences.{◌⊆◌, Comparable, same, inner, outer, Above, Least, Nested, Chain, single_least, above_least, above_inside, above_not, without_nested}
use Rattle.safety.proofs.Facts.{History, Opened, at_start, alone, Origin, entry, timer, Arrival, start, through, Facts}

module _ (H : History) where
  -- q was raised in a, and passes over b: b lies after a, and before all of q
  pub record Passes (a b : ℕ) (q : List ℕ) : Type 0 where
    pub raised : H.Raised a q
    pub after : Inside a b
    pub before : Above b q

  -- that is, b lies before the least view of q
  pub passes_least : {a b l : ℕ} {q : List ℕ} → H.Raised a q → Inside a b → Inside b l → Least l q → Passes a b q
  passes_least r i j t = record { raised = r; after = i; before = above_least j t }

  -- so b is bound by q
  pub record Bound (b : ℕ) (q : List ℕ) : Type 0 where
    pub proposals : (p : List ℕ) → H.Proposed b p → q ⊆ p
    pub raised : (r : List ℕ) → H.Raised b r → q ⊆ r
    pub unopened : Opened H b → ⊥

  -- both theorems, below the measure n
  record Known (n : ℕ) : Type 0 where
    comparable : {x y : ℕ} → H.Entered x → H.Entered y → ones x + ones y < n → Comparable x y
    bound : {a b : ℕ} {q : List ℕ} → Passes a b q → ones b + ones b < n → Bound b q

module _ (H : History) (F : Facts H) where
  -- the start is inside every other view that is entered
  start_first : (n : ℕ) {v : ℕ} → ones v < n → H.Entered v → (H.start ≡ v) ⊎ Inside H.start v
  start_first zero l e = absurd (omega arith)
  start_first (suc n) {v} l e = go (λ u h e. start_first n h e) (F.arrival e)
    where
      further : {o : ℕ} → Inside o v → (H.start ≡ o) ⊎ Inside H.start o → Inside H.start v
      further i (inl e) = subst (λ (x : ℕ). Inside x v) (sym e) i
      further i (inr j) = inside_trans j i

      go : ((u : ℕ) → ones u < n → H.Entered u → (H.start ≡ u) ⊎ Inside H.start u) → Arrival H v → (H.start ≡ v) ⊎ Inside H.start v
      go ih (start e) = inl (sym e)
      go ih (through r t) = let i = F.above r v t.has in inr (further i (ih _ (omega (arith, inside_grows i)) (F.entered r)))

  module _ (n : ℕ) (K : Known H n) where
    -- two raised sequences, each wholly above the view in which the other was raised
    nested : {a b : ℕ} {p q : List ℕ} → H.Raised a p → H.Raised b q → Above a q → Above b p → ones a + ones a < n → ones b + ones b < n → Nested p q
    nested {a} {b} {p} {q} r s h k l m = go (K.comparable (F.entered r) (F.entered s) (omega arith))
      where
        go : Comparable a b → Nested p q
        go (same e) = F.chain b p q (subst (λ (x : ℕ). H.Raised x p) e r) s
        go (inner i) = inl ((K.bound (record { raised = r; after = i; before = k }) m).raised q s)
        go (outer i) = inr ((K.bound (record { raised = s; after = i; before = h }) l).raised p r)

    -- ---- at a view b that q passes over
    module _ {a b : ℕ} {q : List ℕ} (s : Passes H a b q) (m : ones b + ones b ≤ n) where
      -- every raised sequence that begins with b goes on with q
      carried : {o : ℕ} {r : List ℕ} → H.Raised o r → Least b r → q ⊆ r
      carried {o} {r} h t = go (nested s.raised h (above_least s.after t) (above_inside i s.before) (omega (arith, inside_grows s.after)) (omega (arith, inside_grows i)))
        where
          i : Inside o b
          i = F.above h b t.has

          go : Nested q r → q ⊆ r
          go (inl k) = k
          go (inr k) = absurd (inside_irrefl (s.before b (k b t.has)))

      unopened : Opened H b → ⊥
      unopened (at_start e) = go (start_first (suc (ones a)) (omega arith) (F.entered s.raised))
        where
          go : (H.start ≡ a) ⊎ Inside H.start a → ⊥
          go (inl d) = s.after.other (sym (e ∙ d))
          go (inr i) = inside_irrefl (inside_trans s.after (subst (λ (x : ℕ). Inside x a) (sym e) i))
      unopened (alone h t) =
          let f = F.sequence s.raised in
          above_not s.before f.has (t.only f.first (carried h (single_least t) f.first f.has))

      -- so a proposal of b's is what entering b left of such a sequence
      proposal : {p : List ℕ} → Origin H b p → q ⊆ p
      proposal (entry h t w) v k = w.kept v (carried h t v k) (above_not s.before k)
      proposal (timer o) v k = absurd (unopened o)

      proposals : {p p' : List ℕ} → Origin H b p → Origin H b p' → Nested p p'
      proposals (timer o) d = absurd (unopened o)
      proposals (entry h t w) (timer o) = absurd (unopened o)
      proposals (entry h t w) (entry h' t' w') =
          let i = F.above h b t.has in
          let i' = F.above h' b t'.has in
          without_nested w w' (nested h h' (above_least i t') (above_least i' t) (omega (arith, inside_grows i)) (omega (arith, inside_grows i')))

      is_bound : Bound H b q
      is_bound =
          let chain : Chain (H.Proposed b) = λ p p' h h'. proposals (F.origin h) (F.origin h') in
          record {
            proposals = λ p h. proposal (F.origin h);
            raised = λ r h v k. let g = F.agreed b chain r h in g.2 v (proposal (F.origin g.1) v k);
            unopened = unopened;
          }

    -- ---- two entered views
    module _ {x y : ℕ} (m : ones x + ones y ≤ n) where
      -- entered through p and q, each raised in a view inside both
      through_both : {a b : ℕ} {p q : List ℕ} → H.Raised a p → Least x p → H.Raised b q → Least y q → Inside a y → Inside b x → Comparable x y
      through_both {a} {b} {p} {q} r s r' s' i j =
          let i' = F.above r x s.has in
          let j' = F.above r' y s'.has in
          go (nested r r' (above_least i s') (above_least j s) (omega (arith, inside_grows i, inside_grows i')) (omega (arith, inside_grows j, inside_grows j')))
        where
          go : Nested p q → Comparable x y
          go (inl k) = (F.sequence r').nested x y (k x s.has) s'.has
          go (inr k) = (F.sequence r).nested x y s.has (k y s'.has)

      arrived : H.Entered x → H.Entered y → Arrival H x → Arrival H y → Comparable x y
      arrived e f (start d) v = go (start_first (suc (ones y)) (omega arith) f)
        where
          go : (H.start ≡ y) ⊎ Inside H.start y → Comparable x y
          go (inl c) = same (d ∙ c)
          go (inr i) = inner (subst (λ (z : ℕ). Inside z y) (sym d) i)
      arrived e f (through r s) (start d) = go (start_first (suc (ones x)) (omega arith) e)
        where
          go : (H.start ≡ x) ⊎ Inside H.start x → Comparable x y
          go (inl c) = same (sym (d ∙ c))
          go (inr i) = outer (subst (λ (z : ℕ). Inside z x) (sym d) i)
      arrived e f (through {o = a} r s) (through {o = b} r' s') =
          let i = F.above r x s.has in
          let j = F.above r' y s'.has in
          go i j (K.comparable (F.entered r) f (omega (arith, inside_grows i))) (K.comparable (F.entered r') e (omega (arith, inside_grows j)))
        where
          go : Inside a x → Inside b y → Comparable a y → Comparable b x → Comparable x y
          go i j (same c) d = outer (subst (λ (z : ℕ). Inside z x) c i)
          go i j (outer c) d = outer (inside_trans c i)
          go i j (inner c) (same d) = inner (subst (λ (z : ℕ). Inside z y) d j)
          go i j (inner c) (outer d) = inner (inside_trans d j)
          go i j (inner c) (inner d) = through_both r s r' s' c d

  known : (n : ℕ) → Known H n
  known zero = record { comparable = λ {x} {y} e f l. absurd (omega arith); bound = λ {a} {b} {q} s l. absurd (omega arith) }
  known (suc n) =
      let K = known n in
      record {
        comparable = λ {x} {y} e f l. arrived n K (omega arith) e f (F.arrival e) (F.arrival f);
        bound = λ {a} {b} {q} s l. is_bound n K s (omega arith);
      }

  -- THEOREM 1: where a raised sequence q passes over b, q binds b
  pub passed : {a b : ℕ} {q : List ℕ} → Passes H a b q → Bound H b q
  passed {b = b} s = (known (suc (ones b + ones b))).bound s (omega arith)

  -- THEOREM 2: any two entered views are comparable
  pub one_chain : {x y : ℕ} → H.Entered x → H.Entered y → Comparable x y
  one_chain {x} {y} e f = (known (suc (ones x + ones y))).comparable e f (omega arith)

  -- and the start is the least of them
  pub start_least : {v : ℕ} → H.Entered v → (H.start ≡ v) ⊎ Inside H.start v
  start_least {v} e = start_first (suc (ones v)) (omega arith) e

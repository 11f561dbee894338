-- Demand 3 holds of document 01's worked example: the statement has an instance with a write and a read in it. Assumes nothing.
use mathlib.Core.Path.{◌≡◌, refl, sym, ap, ◌∙◌}
use mathlib.Core.Logic.{◌⊎◌, inl, inr}
use mathlib.Core.Bool.{true, true≢false}
use mathlib.Core.List.Memᴰ
use mathlib.Core.List.{List, [], ◌∷◌}
use Prim.Native.Nat.{ℕ, ◌<◌}
use native.Mathlib.Omega.{arith}
use lib.Dec.{lit<}
use Rattle.views.proofs.Truth.{contrary}
use Rattle.rules.specs.Sets.{within}
use Rattle.rules.specs.Stamps.{Pair, sign, compared, greater}
use Rattle.rules.specs.Steps.{Step}
use Rattle.rules.specs.History.{reading, writing, Operation, ended_in, told_in, operations, unfinished_in, unfinished, opened_in, open_views}
use Rattle.rules.specs.Demand3.{ended, ◌∈◌, is_read, event_of, Belongs, returned, latest, Next, first, next, Demand3}
use Rattle.rules.specs.Examples.{recorded}
use Rattle.rules.specs.Overlap.{READ, WRITE, DELIVER}

abbrev steps : List Step
steps = WRITE 0 77 ∷ DELIVER 0 ∷ DELIVER 0 ∷ DELIVER 0 ∷ DELIVER 0 ∷ READ 1 ∷ DELIVER 0 ∷ DELIVER 0 ∷ DELIVER 0 ∷ []

abbrev pair : Pair
pair = record { stamp = record { count = 1; desk = 0 }; value = 77 }

abbrev wrote : Operation
wrote = record { desk = 0; task = writing 77; begun = 1; ended = 5; event = 3; pair = pair }

abbrev had : Operation
had = record { desk = 1; task = reading; begun = 6; ended = 8; event = 2; pair = pair }

ops : operations 1 steps ≡ wrote ∷ had ∷ []
unfolding recorded operations ended_in
ops = refl

open_writes : unfinished 1 steps ≡ []
unfolding recorded unfinished unfinished_in told_in
open_writes = refl

views : open_views 1 steps ≡ 1 ∷ []
unfolding recorded open_views opened_in
views = refl

one_view : (u : ℕ) → u ∈ open_views 1 steps → u ≡ 1
one_view u m = Memᴰ.eq_of_singleton (rw views at m)

swap : (o : Operation) → o ∈ operations 1 steps → o ∈ (had ∷ wrote ∷ [])
swap o m = go (Memᴰ.cases_cons (rw ops at m))
  where
    go : (o ≡ wrote) ⊎ (o ∈ (had ∷ [])) → o ∈ (had ∷ wrote ∷ [])
    go (inl e) = Memᴰ.tail (Memᴰ.head e)
    go (inr h) = Memᴰ.head (Memᴰ.eq_of_singleton h)

complete : (o : Operation) → Belongs 1 steps o → o ∈ (had ∷ wrote ∷ [])
complete o (ended m) = swap o m
complete o (returned m n r e) = absurd (Memᴰ.not-nil (rw open_writes at m))

back : (o : Operation) → (o ≡ had) ⊎ (o ∈ (wrote ∷ [])) → o ∈ operations 1 steps
back o (inl e) = rw ops (Memᴰ.tail (Memᴰ.head e))
back o (inr h) = rw ops (Memᴰ.head (Memᴰ.eq_of_singleton h))

apart : had.desk ≡ wrote.desk → ⊥
apart e = omega arith

differ : had ≡ wrote → ⊥
differ e = apart (ap (λ (o : Operation). o.desk) e)

last : Next had (wrote ∷ [])
unfolding latest greater compared sign
last =
    record {
      once = λ m. differ (Memᴰ.eq_of_singleton m);
      timely = λ p m b. let e : p.begun ≡ 1 = ap (λ (o : Operation). o.begun) (Memᴰ.eq_of_singleton m) in omega (arith, b.1);
      returns = λ r. refl;
      wrote = λ x e. absurd (true≢false (ap is_read e));
      rises = λ p m. ap (λ (o : Operation). greater o.pair.stamp pair.stamp) (Memᴰ.eq_of_singleton m);
    }

only : Next wrote []
unfolding latest
only =
    record {
      once = λ m. Memᴰ.not-nil m;
      timely = λ p m b. Memᴰ.not-nil m;
      returns = λ r. absurd (contrary r refl);
      wrote = λ x e. cc;
      rises = λ p m. absurd (Memᴰ.not-nil m);
    }

pub demand3_worked : Demand3 1 steps
demand3_worked =
    record {
      nested = λ u v mu mv. inl (both_one u v (one_view u mu) (one_view v mv));
      lasted = λ o m. lasted o (Memᴰ.cases_cons (rw ops at m));
      events = λ o m. events o (Memᴰ.cases_cons (rw ops at m));
      single = λ o p m n d b. single o p (Memᴰ.cases_cons (rw ops at m)) (Memᴰ.cases_cons (rw ops at n)) d;
      over = λ o p m n d b. Memᴰ.not-nil (rw open_writes at n);
      order = had ∷ wrote ∷ [];
      complete = complete;
      sound = λ o m. ended (back o (Memᴰ.cases_cons m));
      ordered = next last (next only first);
    }
  where
    lasted : (o : Operation) → (o ≡ wrote) ⊎ (o ∈ (had ∷ [])) → (0 < o.begun) × (o.begun < o.ended)
    lasted o (inl e) = rw e (lit< tt, lit< tt)
    lasted o (inr h) = rw (Memᴰ.eq_of_singleton h) (lit< tt, lit< tt)

    events : (o : Operation) → (o ≡ wrote) ⊎ (o ∈ (had ∷ [])) → o.event ≡ event_of o.task
    events o (inl e) = rw e
    events o (inr h) = rw (Memᴰ.eq_of_singleton h)

    -- the two are of different desks
    single : (o p : Operation) → (o ≡ wrote) ⊎ (o ∈ (had ∷ [])) → (p ≡ wrote) ⊎ (p ∈ (had ∷ [])) → o.desk ≡ p.desk → o ≡ p
    single o p (inl e) (inl f) d = e ∙ sym f
    single o p (inl e) (inr h) d = absurd (apart (sym (rw (e, Memᴰ.eq_of_singleton h) at d)))
    single o p (inr h) (inl e) d = absurd (apart (rw (e, Memᴰ.eq_of_singleton h) at d))
    single o p (inr h) (inr k) d = Memᴰ.eq_of_singleton h ∙ sym (Memᴰ.eq_of_singleton k)

    both_one : (u v : ℕ) → u ≡ 1 → v ≡ 1 → within u v ≡ true
    both_one u v eu ev = rw (eu, ev)

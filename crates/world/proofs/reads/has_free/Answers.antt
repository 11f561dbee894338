-- `world::reads::has_free` meets its contract. Assumes nothing.
use mathlib.Core.Path.{◌≡◌, refl, ap, ◌∙◌}
use mathlib.Core.List.{List}
use mathlib.Core.Logic.{⊎_elim}
use Prim.Native.Nat.{ℕ}
use native.Mathlib.Omega.{arith}
use lib.Dec.{eqb, leb}
use lib.ListN.{length, take}
use lib.Seq.{length-take-le, take_all}
use borrow.Author.Rules.{rules}
use borrow.Author.Tests.{tests, leb-true, leb-false, eq-eqb, ne_eqb}
use Rattle.std.proofs.lemmas.Iterator.{YieldsList-from_range, YieldsList-from_take}
use Rattle.std.proofs.lemmas.Iterator.Consumers.{YieldsList-at, YieldsList-from_filter, count_from_yields_List}
use Rattle.views.proofs.Truth.{decided}
use Rattle.world.specs.Commits.{free_row}
use Rattle.world.proofs.Places.{rows_counted}
use Rattle.world.proofs.reads.has_free.Goals as goal

-- n are taken only where there are n
taken : (n : ℕ) (ys : List ℕ) → eqb (length (take n ys)) n ≡ leb n (length ys)
taken n ys =
    ⊎_elim (λ e. let h = leb-true n (length ys) e in rw (e, length-take-le n ys h) (eq-eqb n n refl))
    (λ e. let h = leb-false n (length ys) e in rw (e, take_all n ys (omega arith)) (ne_eqb (length ys) n (λ z. omega arith)))
    (decided (leb n (length ys)))

pub returns : goal.returns
returns c =
    ap (λ (k : ℕ). eqb k c.args.n)
    (count_from_yields_List c.take.result c.count.result c.count.ensures.ran
    (YieldsList-from_take c.args.n
    (YieldsList-at c.take.ensures.source
    (YieldsList-from_filter _ (free_row c.args.w.now) (YieldsList-from_range 0 256 256 (cc) (omega arith)) c.filter.ensures.closure
    (λ x r q k. search (rules, tests))))
    c.take.ensures.count))
    ∙ taken c.args.n _ ∙ ap (leb c.args.n) (rows_counted c.args.w.now 256)

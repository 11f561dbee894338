-- The rules at one generator: Propose, Proposal, Converged. A generator is changed and sends. Assumes nothing.
use Rattle.std.specs.Prelude.{Bool, not, List, [], ◌∷◌, ◌++◌, ℕ, ◌+◌, ◌*◌, eqb, set, replicate, if◌then◌else◌, ◌&&◌}
use Rattle.rules.specs.Sets.{none, lacks, same, least, heard, reaches}
use Rattle.rules.specs.Messages.{Sending, proposal, converged, install, to_members, to_both}
use Rattle.rules.specs.State.{Generator}

unfoldable pub fresh : ℕ → Generator
fresh v = record { view = v; own = []; converged = []; raised = []; proposals = replicate 8 []; convergences = replicate 8 [] }

-- the generator for v; one that is absent is fresh
unfoldable pub generator_for : ℕ → List Generator → Generator
generator_for v [] = fresh v
generator_for v (g ∷ gs) = if eqb g.view v then g else generator_for v gs

-- put back at its place; one that was absent takes the lowest free place
unfoldable pub put_generator : Generator → List Generator → List Generator
put_generator g [] = g ∷ []
put_generator g (h ∷ hs) = if eqb h.view g.view then g ∷ hs else h ∷ put_generator g hs

pub record Turn : Type 0 where
  pub next : Generator
  pub sendings : List Sending

-- ---- "Propose q for v: if v's generator has an empty own sequence, it becomes q and goes as proposal to all members of v, oneself too; else nothing."

unfoldable pub with_own : Generator → List ℕ → Generator
with_own g q = record { view = g.view; own = q; converged = g.converged; raised = g.raised; proposals = g.proposals; convergences = g.convergences }

unfoldable pub proposes : Generator → List ℕ → Turn
proposes g q =
    if none g.own
    then record { next = with_own g q; sendings = to_members g.view (proposal g.view q) ∷ [] }
    else record { next = g; sendings = [] }

-- ---- who agrees

abbrev pub one_if : Bool → ℕ
one_if b = if b then 1 else 0

-- the mask of those whose last note is q
unfoldable pub agreeing : List (List ℕ) → List ℕ → ℕ
agreeing [] q = 0
agreeing (n ∷ ns) q = agreeing ns q * 2 + one_if (same n q)

-- "a quorum of v's last noted proposals equal own"
abbrev pub agree : ℕ → List (List ℕ) → List ℕ → Bool
agree v notes q = reaches v (agreeing notes q)

-- ---- Proposal: "note it for the sender. If q has a view that own lacks: [..] Send the new own to all members." What own becomes is `heard` (views).

unfoldable pub hears : Generator → ℕ → List ℕ → Turn
hears g from q =
    record {
      next = record { view = g.view; own = heard g.own g.converged q; converged = g.converged; raised = g.raised; proposals = set g.proposals from q; convergences = g.convergences };
      sendings = if lacks q g.own then to_members g.view (proposal g.view (heard g.own g.converged q)) ∷ [] else [];
    }

-- "Then, if own differs from converged and a quorum of v's last noted proposals equal own, converged becomes own and goes out to all members."
unfoldable pub settles : Generator → Turn
settles g =
    if not (same g.own g.converged) && agree g.view g.proposals g.own
    then record {
      next = record { view = g.view; own = g.own; converged = g.own; raised = g.raised; proposals = g.proposals; convergences = g.convergences };
      sendings = to_members g.view (converged g.view g.own) ∷ [];
    }
    else record { next = g; sendings = [] }

unfoldable pub proposal_heard : Generator → ℕ → List ℕ → Turn
proposal_heard g from q =
    let one = hears g from q in
    let two = settles one.next in
    record { next = two.next; sendings = one.sendings ++ two.sendings }

-- ---- "Converged(v, q): note it. If a quorum's last notes equal q and q is not the last raised, raise it:
-- install(v, least(q), q) goes to all who are members of v or of least(q)."

unfoldable pub notes_converged : Generator → ℕ → List ℕ → Generator
notes_converged g from q = record { view = g.view; own = g.own; converged = g.converged; raised = g.raised; proposals = g.proposals; convergences = set g.convergences from q }

unfoldable pub raises : Generator → List ℕ → Generator
raises g q = record { view = g.view; own = g.own; converged = g.converged; raised = q; proposals = g.proposals; convergences = g.convergences }

unfoldable pub converged_heard : Generator → ℕ → List ℕ → Turn
converged_heard g from q =
    let h = notes_converged g from q in
    if agree g.view h.convergences q && not (same q g.raised)
    then record { next = raises h q; sendings = to_both g.view (least q) (install g.view (least q) q) ∷ [] }
    else record { next = h; sendings = [] }

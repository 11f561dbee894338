-- The lines are those of the rules' printed record. Assumes nothing.
use mathlib.Core.Path.{◌≡◌, refl}
use mathlib.Core.List.{List, ◌∷◌, [], ◌++◌}
use Prim.Native.Nat.{ℕ}
use Rattle.rules.specs.State.{start}
use Rattle.rules.specs.Sending.{waiting_in}
use Rattle.rules.specs.declared.Step.{Step}
use Rattle.rules.specs.Steps.{Outcome, report}
use Rattle.rules.specs.Runs.{outcomes, last_world, sum, sent_by, delivered_by, dropped_by, answer, fields, step_line, step_lines, printed, start_of, end_of}
use Rattle.record.specs.Lines.{step_of}

pub printed-is : (mask : ℕ) (ks : List Step) → let os = outcomes (start mask) ks in
    start_of mask
    ++ (step_lines 1 os ++ end_of (sum sent_by os) (sum delivered_by os) (sum dropped_by os) (waiting_in (last_world (start mask) ks).places))
    ≡ printed mask ks
unfolding printed
printed-is mask ks = refl

pub step-line-is : (i : ℕ) (o : Outcome) (event who count desk last : ℕ)
    → fields (report o).event (report o).who ≡ event ∷ who ∷ count ∷ desk ∷ last ∷ []
    → step_of i (answer o) event who count desk last ≡ step_line i o
step-line-is i o event who count desk last e = rw e

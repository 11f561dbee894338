-- What `start` and one step do to a lent buffer: the answer, and every byte of the buffer afterwards. Assumes nothing.
use Rattle.std.specs.Prelude.{List, ℕ, eqb, leb, length, if◌then◌else◌}
use Rattle.rules.specs.Messages.{Refusal, bad_world, bad_step, number}
use Rattle.rules.specs.State.{start}
use Rattle.rules.specs.declared.Step.{Step}
use Rattle.rules.specs.Steps.{Report, no_report, Outcome, refusal, done, stepped}
use Rattle.layout.specs.Layout.{world_width}
use Rattle.layout.specs.Image.{image, world_at, good_bytes}

-- the answer's number, what is reported, and the buffer
pub record Lent : Type 0 where
  pub answer : ℕ
  pub report : Report
  pub buffer : List ℕ

-- "All but 0 report event 0 with zero fields and change nothing."
abbrev pub kept : Refusal → List ℕ → Lent
kept x b = record { answer = number x; report = no_report; buffer = b }

abbrev pub left : List ℕ → Outcome → Lent
left b (refusal x) = kept x b
left b (done w e sent delivered dropped) = record { answer = 0; report = e; buffer = image w }

-- BAD WORLD: "world not good"
unfoldable pub lent_step : List ℕ → Step → Lent
lent_step b k = if good_bytes b then left b (stepped (world_at b) k) else kept bad_world b

-- BAD WORLD: "at a start, wrong length"; BAD STEP: "start mask 0". A mask above 255 is no mask of relays either.
unfoldable pub lent_start : List ℕ → ℕ → Lent
lent_start b mask =
    if eqb (length b) world_width
    then (if eqb mask 0 then kept bad_step b else if leb 256 mask then kept bad_step b else record { answer = 0; report = no_report; buffer = image (start mask) })
    else kept bad_world b

-- The public functions on which demands 1 and 2 are stated: a program is what they answer and leave in the lent buffers, for whatever they are handed.
-- `Promised` is what their sources promise, word for word (checks/total compares them). What a slice cannot hold, the code is never handed:
-- docs/DECISIONS.md, 46.
-- Assumes nothing.
use Rattle.std.specs.Prelude.{◌≡◌, List, Option, Result, ℕ}
use Rattle.rules.specs.declared.Refusal.{Refusal}
use Rattle.rules.specs.declared.Step.{Step}
use Rattle.layout.specs.Lent.{lent_start, lent_step}
use Rattle.rules.specs.Sheets.{number}
use Rattle.sheet.specs.declared.Sheet.{Sheet}
use Rattle.sheet.specs.Reading.{check_of, taken_at}
use Rattle.sheet.specs.Writing.{ruled, ruled_size, buffer_of, number_of, size_of}
use Rattle.world.specs.declared.Answer.{Answer}
use Rattle.rehearsal.specs.declared.Rehearsed.{Rehearsed}
use Rattle.world.specs.Answer.{lent_of}
use Rattle.rehearsal.specs.Playing.{rehearse_answer, world_left, record_left}

pub record Code : Type 0 where
  -- world::step and world::start: the answer, and the world's buffer afterwards
  pub step : (w : List ℕ) (k : Step) → Answer
  pub step_world : (w : List ℕ) (k : Step) → List ℕ
  pub start : (w : List ℕ) (mask : ℕ) → Answer
  pub start_world : (w : List ℕ) (mask : ℕ) → List ℕ
  -- sheet::check, and sheet::reader::read_at: one step, and the position past it, if one is left
  pub check : (b : List ℕ) → Result Sheet Refusal
  pub read_at : (sheet : List ℕ) (at : ℕ) → Option (Step × ℕ)
  -- sheet::write: the answer, and the buffer afterwards
  pub write : (buf : List ℕ) (mask : ℕ) (kinds ids values : List ℕ) → Result ℕ Refusal
  pub write_buf : (buf : List ℕ) (mask : ℕ) (kinds ids values : List ℕ) → List ℕ
  -- rehearsal::rehearse: the answer, and both buffers afterwards
  pub rehearse : (sheet world out : List ℕ) → Rehearsed
  pub rehearse_world : (sheet world out : List ℕ) → List ℕ
  pub rehearse_out : (sheet world out : List ℕ) → List ℕ

pub record Promised (c : Code) : Type 0 where
  pub step_kept : (w : List ℕ) (k : Step) → lent_of (c.step w k) (c.step_world w k) ≡ lent_step w k
  pub start_kept : (w : List ℕ) (mask : ℕ) → lent_of (c.start w mask) (c.start_world w mask) ≡ lent_start w mask
  pub check_kept : (b : List ℕ) → c.check b ≡ check_of b
  pub read_at_kept : (sheet : List ℕ) (at : ℕ) → c.read_at sheet at ≡ taken_at sheet at
  pub write_answer : (buf : List ℕ) (mask : ℕ) (kinds ids values : List ℕ)
      → (number_of (c.write buf mask kinds ids values) ≡ number (ruled buf mask kinds ids values))
      × (size_of (c.write buf mask kinds ids values) ≡ ruled_size buf mask kinds ids values)
  pub write_left : (buf : List ℕ) (mask : ℕ) (kinds ids values : List ℕ)
      → c.write_buf buf mask kinds ids values ≡ buffer_of buf (ruled buf mask kinds ids values)
  pub rehearse_answer_lem : (sheet world out : List ℕ) → c.rehearse sheet world out ≡ rehearse_answer sheet world out
  pub rehearse_last : (sheet world out : List ℕ) → c.rehearse_world sheet world out ≡ world_left sheet world out
  pub rehearse_printed : (sheet world out : List ℕ) → c.rehearse_out sheet world out ≡ record_left sheet world out

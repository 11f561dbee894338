-- What a rehearsal leaves in the lent buffers: of one step, of all steps, and of a whole sheet. Assumes nothing.
use Rattle.std.specs.Prelude.{◌≡◌, ◌&&◌, List, [], ◌∷◌, ◌++◌, ℕ, ◌+◌, eqb, ltb, length, get_or, drop, if◌then◌else◌}
use Rattle.rules.specs.State.{World}
use Rattle.rules.specs.declared.Step.{Step}
use Rattle.rules.specs.Steps.{DELIVER, DROP}
use Rattle.rules.specs.Runs.{outcomes, sum, delivered_by, dropped_by, line, step_lines, printed, longest, bad_of}
use Rattle.record.specs.Lines.{laid, past}
use Rattle.world.specs.Tracing.{Ruling, bad_world, bad_sheet, no_room, runs, ruling, refused_by, world_by, answer_column, columns_at}
use Rattle.rehearsal.specs.declared.Tally.{Tally}
use Rattle.rehearsal.specs.declared.Rehearsed.{Rehearsed}

-- 1 where a step of this kind is accepted and is of that kind
abbrev pub moved : ℕ → ℕ → ℕ → ℕ
moved answer kind that = if eqb answer 0 && eqb kind that then 1 else 0

-- the line of this number, of the row at `row` of a trace: l is the record before it, written from `at` on; out is the record's buffer after it.
-- "6 DELIVER place, 7 DROP place"
pub record Lined (rows : List ℕ) (row kind number at : ℕ) (l out : List ℕ) (r : Tally) : Type 0 where
  pub line : (r.at ≡ past at (line (number ∷ columns_at rows row))) × (out ≡ laid l at (line (number ∷ columns_at rows row)))
  pub delivered : r.delivered ≡ moved (get_or rows (row + answer_column) 0) kind DELIVER
  pub dropped : r.dropped ≡ moved (get_or rows (row + answer_column) 0) kind DROP

-- l begins with the bytes of b
pub record Begins (l b : List ℕ) : Type 0 where
  pub rest : List ℕ
  pub whole : l ≡ b ++ rest

-- the lines of the steps ks of W
pub record AllLined (W : World) (ks : List Step) (at : ℕ) (l out : List ℕ) (r : Tally) : Type 0 where
  pub lines : (r.at ≡ past at (step_lines 1 (outcomes W ks))) × (out ≡ laid l at (step_lines 1 (outcomes W ks)))
  pub delivered : r.delivered ≡ sum delivered_by (outcomes W ks)
  pub dropped : r.dropped ≡ sum dropped_by (outcomes W ks)

-- ---- a sheet b, run in the world's buffer w, with its record in out

-- NO ROOM: room for less than the longest record of as many steps
unfoldable pub decided : List ℕ → List ℕ → List ℕ → Ruling
decided b w out = ruling longest b w out

-- the record that is laid: "For BAD SHEET it prints `bad 9` only", where that fits whole
abbrev pub record_by : ℕ → Ruling → List ℕ
record_by room bad_world = []
record_by room bad_sheet = if ltb room (length bad_of) then [] else bad_of
record_by room no_room = []
record_by room (runs mask ks) = printed mask ks

-- the refusal, if it is one, and how many bytes of a record stand in out
unfoldable pub answer_by : List ℕ → Ruling → Rehearsed
answer_by out x = record { refused = refused_by x; length = length (record_by (length out) x) }

-- the record at the front; the bytes past it stay
unfoldable pub laid_by : List ℕ → Ruling → List ℕ
laid_by out x = record_by (length out) x ++ drop (length (record_by (length out) x)) out

unfoldable pub rehearse_answer : List ℕ → List ℕ → List ℕ → Rehearsed
rehearse_answer b w out = answer_by out (decided b w out)

unfoldable pub world_left : List ℕ → List ℕ → List ℕ → List ℕ
world_left b w out = world_by w (decided b w out)

unfoldable pub record_left : List ℕ → List ℕ → List ℕ → List ℕ
record_left b w out = laid_by out (decided b w out)

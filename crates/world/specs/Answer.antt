-- What an answer of the code says: document 01's number, and the event with who it is about. Assumes nothing.
use Rattle.std.specs.Prelude.{List, ◌∷◌, ℕ, Result, Ok, Err}
use Rattle.rules.specs.Messages.{opened, read_done, write_done}
use Rattle.rules.specs.Steps.{no_report}
use Rattle.rules.specs.Steps as rules
use Rattle.rules.specs.Coded.{number_of}
use Rattle.rules.specs.declared.Refusal.{Refusal}
use Rattle.layout.specs.Lent.{Lent}
use Rattle.rules.specs.Runs.{fields}
use Rattle.world.specs.declared.Answer.{Answer}
use Rattle.world.specs.declared.Report.{Report}
use Rattle.world.specs.declared.Report.TheVariants.{Nothing, Opened, ReadDone, WriteDone}

-- "who is the relay for event 1, the desk 0 to 3 for events 2 and 3"
unfoldable pub report_of : Report → rules.Report
report_of Nothing = no_report
report_of (Opened relay view) = record { event = opened view; who = relay }
report_of (ReadDone desk pair) = record { event = read_done pair; who = desk }
report_of (WriteDone desk pair) = record { event = write_done pair; who = desk }

-- an answer, and the buffer after it
unfoldable pub lent_of : Answer → List ℕ → Lent
lent_of a b = record { answer = a.number; report = report_of a.report; buffer = b }

-- the answer that stands for what was done, or for a refusal: document 01's number, and nothing reported
unfoldable pub answer_of : Result Report Refusal → Answer
answer_of (Ok r) = record { number = 0; report = r }
answer_of (Err x) = record { number = number_of x; report = Nothing }

-- what was done, or a refusal, and the buffer after it
unfoldable pub done_of : Result Report Refusal → List ℕ → Lent
done_of (Ok r) b = record { answer = 0; report = report_of r; buffer = b }
done_of (Err x) b = record { answer = number_of x; report = no_report; buffer = b }

-- "answer, event, who, stamp count, stamp desk [..], and value (events 2, 3) or view (event 1), zeros where none"
unfoldable pub columns : Answer → List ℕ
columns a = a.number ∷ fields (report_of a.report).event (report_of a.report).who

-- done
abbrev pub accepted : rules.Report → List ℕ → Lent
accepted e b = record { answer = 0; report = e; buffer = b }

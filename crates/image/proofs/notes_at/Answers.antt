-- `image::notes_at` meets its contract: the sequences before i are read. Assumes nothing.
use mathlib.Core.Path.{refl, ap, ◌∙◌}
use mathlib.Core.List.{List}
use Rattle.rows.proofs.Laws.{fill_none, fill_more, fill_all}
use Rattle.views.specs.declared.Sequence.{Sequence}
use Rattle.state.specs.declared.Notes.{Notes}
use Rattle.image.specs.Parts.{notes_row_at}
use Rattle.image.proofs.Ends.{alike_end, notes_alike}
use Rattle.image.proofs.notes_at.Goals as goal

abbrev notes : List Sequence → Notes
notes of = record { of = of }

pub loop-i-init : goal.loop-i-init
loop-i-init c = fill_none refl

pub loop-i-preserved : goal.loop-i-preserved
loop-i-preserved c = fill_more c.loop-i.invariant c.loop-i-test.true c.sequence_at.ensures

pub returns : goal.returns
unfolding notes_row_at
returns c = ap notes (fill_all c.loop-i.invariant c.loop-i-test.false) ∙ notes_alike (alike_end c.args.s.now c.args.at _ c.min-a.ensures)

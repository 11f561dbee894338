-- `world::reads::transfer_seated` meets its contract. Assumes nothing.
use mathlib.Core.Path.{sym, ◌∙◌}
use borrow.Author.Rules.{rules}
use borrow.Author.Tests.{ne_eqb}
use Rattle.world.proofs.Lists.{by_option}
use Rattle.world.proofs.Put.{moved_seated, stays_seated, moves_found}
use Rattle.world.proofs.reads.transfer_seated.Goals as goal

pub returns-then-part-read_u16 : goal.returns-then-part-read_u16
returns-then-part-read_u16 c =
    rw (ne_eqb _ _ c.if-part-read_u16.true)
    (moved_seated c.args.w.now c.requires c.args.s.number c.args.s.is_relay c.args.part
    (λ e. c.if-part-read_u16.true (e ∙ sym (rw c.row-at.ensures at c.read_u16.ensures))))

pub returns-else-part-read_u16 : goal.returns-else-part-read_u16
returns-else-part-read_u16 c =
    let same = c.if-part-read_u16.false ∙ rw c.row-at.ensures at c.read_u16.ensures in
    by_option c.args.part.transfer c.is_none_or.ensures
    (λ e t. t ∙ stays_seated c.args.w.now c.requires c.args.s.number c.args.s.is_relay c.args.part same e)
    (λ t e q. search (rules, moves_found c.args.w.now c.requires c.args.s.number c.args.s.is_relay c.args.part same t e))

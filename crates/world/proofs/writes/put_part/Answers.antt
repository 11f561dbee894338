-- `world::writes::put_part` meets its contract. Assumes nothing.
use mathlib.Core.Path.{◌≡◌, sym, ap, ◌∙◌}
use Rattle.std.specs.Prelude.{None}
use Rattle.std.specs.Option.{MatchOption}
use Rattle.std.proofs.lemmas.Option.{MatchOption-at_some}
use Rattle.views.proofs.Truth.{contrary}
use Rattle.rules.specs.State.{Relay, with_relay}
use Rattle.layout.specs.Layout.{generators_begin}
use Rattle.layout.specs.Image.{image, world_at}
use Rattle.world.specs.Commits.{Found, ends_view}
use Rattle.world.proofs.Put.{head_written, none_written, some_written, seated_found}
use Rattle.world.proofs.writes.put_part.Goals.{in-Some, in-None}
use Rattle.world.proofs.writes.put_part.Goals as goal

pub returns-in_default : goal.returns-in_default
returns-in_default c g h =
    c.put_head.ensures
    ∙ rw (c.row-at.ensures, c.put_transfers.ensures h) (head_written c.args.w.now c.requires c.args.s.number c.args.s.is_relay c.args.part)
    ∙ ap (λ (r : Relay). image (with_relay (world_at c.args.w.now) c.args.s.number r))
    (none_written c.args.w.now c.requires c.args.s.number c.args.s.is_relay c.args.part c.in_default.is)

-- it has its seat
pub returns-in_default-seat : goal.returns-in_default-seat
returns-in_default-seat c g h =
    let looked : MatchOption c.args.part.generator (c.match-part.seat ≡ None)
    (λ x. Found 8 (ends_view c.args.w.now (generators_begin c.args.s.number) x.view) c.match-part.seat) =
    elim c.match-part.branch [
      | in-Some w ↦ rw (w.in-Some.is, w.seat-is) (rw c.row-at.ensures at w.generator_seat-seat.ensures)
      | in-None w ↦ rw w.in-None.is w.seat-is
    ] in
    let f = rw c.in_default-seat.is at (MatchOption-at_some _ _ c.in-Some-generator.g c.in-Some-generator.is looked) in
    absurd (contrary g (sym (seated_found c.args.w.now c.requires c.args.s.number c.args.s.is_relay c.args.part
    c.in-Some-generator.g c.in-Some-generator.is None f)))

pub returns : goal.returns
returns c g h =
    let looked : MatchOption c.args.part.generator (c.match-part.seat ≡ None)
    (λ x. Found 8 (ends_view c.args.w.now (generators_begin c.args.s.number) x.view) c.match-part.seat) =
    elim c.match-part.branch [
      | in-Some w ↦ rw (w.in-Some.is, w.seat-is) (rw c.row-at.ensures at w.generator_seat-seat.ensures)
      | in-None w ↦ rw w.in-None.is w.seat-is
    ] in
    let f = rw c.in-Some-seat.is at (MatchOption-at_some _ _ c.in-Some-generator.g c.in-Some-generator.is looked) in
    c.put_generator.ensures
    ∙ rw (c.put_head.ensures, c.put_transfers.ensures h, c.row-at.ensures, head_written c.args.w.now c.requires c.args.s.number c.args.s.is_relay c.args.part)
    (some_written c.args.w.now c.requires c.args.s.number c.args.s.is_relay c.args.part c.in-Some-generator.g c.in-Some-generator.is c.in-Some-seat.i f.0 f.1)

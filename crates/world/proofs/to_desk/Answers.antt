-- `world::to_desk` meets its contract. Assumes nothing.
use mathlib.Core.Path.{◌≡◌, sym, ap, ◌∙◌}
use borrow.Author.Rules.{rules}
use Prim.Native.Nat.{◌+◌, ◌-◌, ◌<◌}
use native.Mathlib.Omega.{arith}
use Rattle.rules.specs.State.{no_desk, desk_at}
use Rattle.rules.specs.declared.Desk.{Desk}
use Rattle.rules.specs.Desks.{desk_hears}
use Rattle.layout.specs.Image.{world_at}
use Rattle.state.specs.Meaning.{body_of, message_of}
use Rattle.state.specs.Plans.{planned}
use Rattle.locality.proofs.Few.{desk_few}
use Rattle.world.specs.Commits.{row_of}
use Rattle.world.proofs.Commit.{desk_row}
use Rattle.world.proofs.Good.{desk_at_lem}
use Rattle.world.proofs.Routes.{held-delivered, to-desk-left}
use Rattle.world.proofs.to_desk.Goals as goal

pub returns : goal.returns
unfolding message_of
returns c =
    let m = message_of c.args.m in
    let n = c.args.m.to - 8 in
    let d = desk_at (world_at c.args.w.now) n in
    let x = body_of c.args.m.body in
    let ask = desk_hears n d c.args.m.from x in
    let low : n < 4 = omega (arith, c.requires.1.1.0, c.requires.1.1.1) in
    let back : 8 + n ≡ c.args.m.to = omega (arith, c.requires.1.1.0) in
    let is : c.desk_at-desk.result ≡ d =
    rw (c.row_of.ensures ∙ ap row_of (sym back) ∙ desk_row n) at c.desk_at-desk.ensures ∙ sym (desk_at_lem c.args.w.now n low) in
    c.desk_commits.ensures 1 ask (c.hears.ensures ∙ ap (λ (e : Desk). planned no_desk (desk_hears n e c.args.m.from x)) is) (desk_few n d c.args.m.from x)
    (held-delivered c.args.w.now c.requires.0 c.args.p (search rules) m c.requires.1.0)
    ∙ to-desk-left c.args.w.now c.requires.0 c.args.p (search rules) m c.requires.1.1.0

-- `world::step_good` meets its contract. Assumes nothing.
use mathlib.Core.Path.{refl, sym, ◌∙◌}
use Rattle.std.proofs.lemmas.Result.{err_from_is_err_and, MatchResult-at_ok, MatchResult-at_err}
use Rattle.rules.specs.Messages.{bad_step}
use Rattle.rules.specs.declared.Refusal.TheVariants.{BadStep}
use Rattle.world.proofs.Commit.{refused_kept}
use Rattle.world.proofs.Routes.{kind_tells, other_kind, told_valued, bad-left}
use Rattle.world.proofs.step_good.Goals as goal

pub returns-in_err-kind : goal.returns-in_err-kind
returns-in_err-kind c =
    let told = MatchResult-at_err _ _ _ (sym c.try_from.ensures ∙ c.in_err-kind.was) (kind_tells c.args.k) in
    let p = err_from_is_err_and c.from_residual.result c.from_residual.ensures.1 in
    rw (p.1, p.2, told.0) (refused_kept BadStep bad_step c.args.w.now refl) ∙ bad-left c.args.w.now c.requires c.args.k told.1

pub returns-then-is_stray : goal.returns-then-is_stray
returns-then-is_stray c =
    let told = MatchResult-at_ok _ _ _ (sym c.try_from.ensures ∙ c.in_ok-kind.was) (kind_tells c.args.k) in
    let stray = c.is_stray.ensures.stray c.if-is_stray.true in
    refused_kept BadStep bad_step c.args.w.now refl
    ∙ bad-left c.args.w.now c.requires c.args.k (told_valued c.args.k (λ e. stray.0 (other_kind _ (sym told ∙ e))) stray.1)

pub acts-requires : goal.acts-requires
acts-requires c =
    let told = MatchResult-at_ok _ _ _ (sym c.try_from.ensures ∙ c.in_ok-kind.was) (kind_tells c.args.k) in
    record { good = c.requires; kind = told; value = c.is_stray.ensures.allowed c.if-is_stray.false }

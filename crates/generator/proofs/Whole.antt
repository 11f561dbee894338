-- At a good generator a row cuts nothing off: there the Proposal rule in rows is the Proposal rule. Assumes nothing.
use mathlib.Core.Path.{◌≡◌}
use mathlib.Core.Bool.{true}
use mathlib.Core.List.{List}
use Prim.Native.Nat.{ℕ, ◌≤◌}
use lib.ListN.{length}
use lib.Seq.{take_all}
use Rattle.views.proofs.Sets.{member_not_empty}
use Rattle.views.proofs.Merge.{heard_fits}
use Rattle.rules.specs.Sets.{heard, above}
use Rattle.rules.specs.State.{Generator}
use Rattle.rules.specs.Generators.{with_own, hears, proposal_heard}
use Rattle.rules.specs.WellFormed.{good_generator}
use Rattle.rules.proofs.Generators.{gen_facts}
use Rattle.generator.specs.Heard.{merged_in_row, hears_in_row, heard_in_row}

module _ (s : ℕ) (g : Generator) (good : good_generator s g ≡ true) (q : List ℕ) (kept : above g.view q ≡ true) where
  fits : length (heard g.own g.converged q) ≤ 15
  fits =
      let h = gen_facts s g good in
      heard_fits g.view g.own g.converged q h.small (member_not_empty g.view s h.owner) h.own h.converged kept h.contained

  pub in_row_whole : (from : ℕ) → heard_in_row g from q ≡ proposal_heard g from q
  unfolding merged_in_row hears_in_row heard_in_row proposal_heard hears with_own
  in_row_whole from = rw (take_all 15 (heard g.own g.converged q) fits)

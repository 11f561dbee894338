-- `sheet::is_blank` meets its contract. Assumes nothing.
use Rattle.std.proofs.Common.{rules, tests, ◌∙◌}
use Rattle.std.proofs.lemmas.Iterator.{YieldsList-from_slice}
use Rattle.std.proofs.lemmas.Iterator.Search.{all_from_yields_List}
use Rattle.rows.specs.Tests.{all_zero}
use Rattle.rules.specs.Sheets.{version1}
use Rattle.sheet.proofs.Fronts.{blank_lem}
use Rattle.sheet.proofs.is_blank.Goals as goal

pub returns : goal.returns
returns c =
    let chunks = YieldsList-from_slice _ (c.iter.ensures.rest ∙ c.as_chunks.ensures.front) in
    all_from_yields_List (λ step. all_zero step 2 2) _ _ _ c.all.ensures.ran chunks (λ x b q k. search (rules, tests)) ∙ blank_lem version1 _ _

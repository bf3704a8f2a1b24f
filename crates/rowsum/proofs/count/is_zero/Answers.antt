-- `rowsum::count::is_zero` meets its contract.
use Rattle.std.proofs.Common.{◌∙◌, eqb, rules, tests}
use Rattle.std.proofs.lemmas.Iterator.{YieldsList-from_slice}
use Rattle.std.proofs.lemmas.Iterator.Search.{all_from_yields_List}
use Rattle.text.specs.Elements.{all_elements}
use Rattle.rowsum.proofs.count.is_zero.Goals as goal

pub returns : goal.returns
returns c =
    let sum = c.args.sum.now in
    all_from_yields_List (λ b. eqb b 0) _ _ _ c.all.ensures.ran (YieldsList-from_slice sum cc) (λ x b q k. search (rules, tests))
    ∙ all_elements (λ b. eqb b 0) sum

-- `hex_words::digits::all_hex` meets its contract.
use Rattle.std.proofs.Common.{◌∙◌, rules, tests}
use Rattle.std.proofs.lemmas.Iterator.{YieldsList-from_slice}
use Rattle.std.proofs.lemmas.Iterator.Search.{all_from_yields_List}
use Rattle.text.specs.Elements.{all_elements}
use Rattle.hex_words.specs.Digits.{is_hex}
use Rattle.hex_words.proofs.digits.all_hex.Goals as goal

pub returns : goal.returns
returns c =
    let w = c.args.w.now in
    all_from_yields_List is_hex _ _ _ c.all.ensures.ran (YieldsList-from_slice w cc) (λ x b q k. search (rules, tests)) ∙ all_elements is_hex w

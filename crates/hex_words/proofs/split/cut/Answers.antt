-- `hex_words::split::cut` meets its contract.
use Rattle.std.proofs.Common.{◌≡◌, rules, tests}
use Rattle.std.proofs.lemmas.Iterator.{YieldsList-from_slice, IsFirst-from_position}
use Rattle.hex_words.specs.Words.{cut_found}
use Rattle.hex_words.proofs.split.cut.Goals as goal

pub returns : goal.returns
returns c =
    let line = c.args.line.now in
    rw c.unwrap_or.ensures
    (cut_found line c.position.result
    (IsFirst-from_position _ _ _ (λ b. b ≡ 32) (λ b. b ≡ 32 → ⊥) c.position.ensures.ran (YieldsList-from_slice line cc)
    (λ x q k. search (rules, tests)) (λ x q k. search (rules, tests))))

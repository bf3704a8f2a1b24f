-- `text::put_fitted` meets its contract.
use Rattle.std.proofs.Common.{rules}
use Rattle.text.specs.Room.{fits, unfitted}
use Rattle.text.proofs.put_fitted.Goals as goal

pub returns-then-out-word : goal.returns-then-out-word
returns-then-out-word c =
    let p = unfitted _ _ c.if-out-word.true in
    record { value = p.0; out_after = p.1 }

pub returns : goal.returns
returns c =
    let p = fits _ _ _ _ c.if-out-word.false c.put_word.ensures.wrote in
    record { value = p.0; out_after = search rules }

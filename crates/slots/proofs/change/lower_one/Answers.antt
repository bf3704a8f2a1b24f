-- `slots::change::lower_one` meets its contract. Its facts are named, not sought: a search reads every place of the code.
use mathlib.Core.Path.{◌∙◌}
use Rattle.slots.specs.Turns.{lower_hit, lower_miss}
use Rattle.slots.proofs.change.lower_one.Goals as goal

pub returns-then-rank-old : goal.returns-then-rank-old
returns-then-rank-old c =
    let put-be = c.put_be in
    let if1 = c.if-rank-old in
    let be = c.be-old in
    let slot_at = c.slot_at-at in
    put-be.ensures ∙ lower_hit _ _ _ _ _ _ slot_at.ensures.0 be.ensures.0 if1.true

pub returns-else-rank-old : goal.returns-else-rank-old
returns-else-rank-old c = lower_miss _ _ _ _ _ _ c.slot_at-at.ensures.0 c.be-old.ensures.0 c.if-rank-old.false

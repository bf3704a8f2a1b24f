-- `slots::change::release` meets its contract. Its facts are named, not sought: a search reads every place of the code.
use Rattle.slots.specs.Turns.{released_by}
use Rattle.slots.proofs.change.release.Goals as goal

pub returns : goal.returns
returns c =
    let lower = c.lower in
    let put-at = c.put_at in
    let be = c.be-rank in
    let slot_at = c.slot_at-at in
    released_by _ _ _ _ _ _ _ slot_at.ensures.0 be.ensures.0 put-at.ensures lower.ensures

-- `slots::change::drop_one` meets its contract. Its facts are named, not sought: a search reads every place of the code.
use mathlib.Core.Path.{◌∙◌}
use Rattle.slots.specs.Turns.{drop_hit, drop_miss}
use Rattle.slots.proofs.change.drop_one.Goals as goal

pub returns-then-r-drive : goal.returns-then-r-drive
returns-then-r-drive c = c.release.ensures ∙ drop_hit _ _ _ _ _ c.read_slot-r.ensures.0 c.if-r-drive.true

pub returns-else-r-drive : goal.returns-else-r-drive
returns-else-r-drive c = drop_miss _ _ _ _ _ c.read_slot-r.ensures.0 c.if-r-drive.false

-- `slots::change::drop_drive` meets its contract.
use Rattle.std.proofs.Common.{◌∙◌, arith}
use Rattle.slots.specs.Turns.{dropped_none, dropped_more, dropped_done}
use Rattle.slots.proofs.change.drop_drive.Goals as goal

pub loop-i-init : goal.loop-i-init
loop-i-init c = dropped_none _ _ _

pub loop-i-preserved : goal.loop-i-preserved
loop-i-preserved c = c.drop_one.ensures ∙ dropped_more _ _ _ _ _ c.loop-i.invariant

pub returns : goal.returns
returns c = dropped_done _ _ _ _ _ c.loop-i.invariant (omega arith) (omega arith)

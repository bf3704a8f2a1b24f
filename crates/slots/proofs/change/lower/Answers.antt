-- `slots::change::lower` meets its contract.
use Rattle.std.proofs.Common.{◌∙◌, arith}
use Rattle.slots.specs.Turns.{lowered_none, lowered_more, lowered_done}
use Rattle.slots.proofs.change.lower.Goals as goal

pub loop-i-init : goal.loop-i-init
loop-i-init c = lowered_none _ _ _

pub loop-i-preserved : goal.loop-i-preserved
loop-i-preserved c = c.lower_one.ensures ∙ lowered_more _ _ _ _ _ c.loop-i.invariant

pub returns : goal.returns
returns c = lowered_done _ _ _ _ _ c.loop-i.invariant (omega arith) (omega arith)

-- `rowsum::count::count_rows` meets its contract.
use Rattle.std.proofs.Common.{arith, rules}
use Rattle.rowsum.specs.Tally.{counted_none}
use Rattle.rowsum.proofs.count.count_rows.Goals as goal

pub loop-row-init : goal.loop-row-init
loop-row-init c = (search rules, counted_none _ _, λ n e. absurd (omega (arith, e)))

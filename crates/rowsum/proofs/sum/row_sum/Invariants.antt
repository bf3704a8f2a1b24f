-- `rowsum::sum::row_sum` meets its contract. The loop's invariant: the drives below drive are XORed into zeros.
use Rattle.std.proofs.Common.{◌≡◌, length, replicate}
use Rattle.octets.specs.Xor.{◌⊻◌}
use Rattle.sums.specs.Row.{summed_to}
use Rattle.rowsum.proofs.sum.row_sum.Given as goal

abbrev pub invariant-loop-drive : goal.invariant-loop-drive
invariant-loop-drive l =
    let g = l.shelf.g in
    (length l.sum ≡ g.l) × (l.sum ≡ replicate g.l 0 ⊻ summed_to l.shelf.image.now g l.row l.drive)

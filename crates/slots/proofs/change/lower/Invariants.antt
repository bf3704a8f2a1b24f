-- `slots::change::lower` meets its contract. The loop's invariant: the image is as after the slots passed.
use Rattle.std.proofs.Common.{◌≡◌}
use Rattle.slots.specs.Change.{lowered}
use Rattle.slots.proofs.change.lower.Given as goal

abbrev pub invariant-loop-i : goal.invariant-loop-i
invariant-loop-i l = l.image ≡ lowered l.g l.rank l.i l.initial.image

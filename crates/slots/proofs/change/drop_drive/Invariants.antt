-- `slots::change::drop_drive` meets its contract. The loop's invariant: the image is as after the slots passed.
use Rattle.std.proofs.Common.{◌≡◌}
use Rattle.slots.specs.Change.{dropped_to}
use Rattle.slots.proofs.change.drop_drive.Given as goal

abbrev pub invariant-loop-i : goal.invariant-loop-i
invariant-loop-i l = l.image ≡ dropped_to l.g l.drive l.i l.initial.image

-- `slots::find::newest` meets its contract. The loop's invariant: best is the best of the slots passed.
use Rattle.std.proofs.Common.{◌≡◌}
use Rattle.slots.specs.Find.{best_of}
use Rattle.slots.proofs.find.newest.Given as goal

abbrev pub invariant-loop-i : goal.invariant-loop-i
invariant-loop-i l = l.best ≡ best_of l.shelf.image.now l.shelf.g l.drive l.block.0 l.i

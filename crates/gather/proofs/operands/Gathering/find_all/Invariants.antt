-- The places found so far, in `gather::operands::Gathering::find_all`.
use Rattle.std.proofs.Common.{◌≡◌}
use Rattle.gather.specs.Starts.{starts_over}
use Rattle.gather.proofs.operands.Gathering.find_all.Given as goal

abbrev pub invariant-loop-i : goal.invariant-loop-i
invariant-loop-i l = l.places ≡ starts_over l.self.shelf.image.now l.self.shelf.g l.self.job.sum.came l.self.sent.now l.initial.places l.i

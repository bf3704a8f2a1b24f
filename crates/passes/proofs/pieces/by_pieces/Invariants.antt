-- The state of the image before each piece, in `passes::by_pieces`.
use Rattle.std.proofs.Common.{◌≡◌}
use Rattle.passes.specs.Pieces.{reached}
use Rattle.passes.proofs.pieces.by_pieces.Given as goal

abbrev pub invariant-loop-o : goal.invariant-loop-o
invariant-loop-o g l = l.image ≡ reached g.met.P.Piecewise.laws l.p l.initial.image l.o

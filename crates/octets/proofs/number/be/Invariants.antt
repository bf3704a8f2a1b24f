-- `octets::number::be` meets its contract. The loop's invariant: v is the number in the bytes passed.
use mathlib.Core.Path.{◌≡◌}
use Rattle.octets.specs.Number.{be}
use Rattle.octets.proofs.number.be.Given as goal

abbrev pub invariant-loop-x : goal.invariant-loop-x
invariant-loop-x g l = l.v ≡ be l.x-index l.xs l.at

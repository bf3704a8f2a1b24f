-- `passes::xor_parts` meets its contract. Both loops' invariant: what acc has, with the XOR of the parts left, is the XOR of all.
use mathlib.Core.Path.{◌≡◌}
use Prim.Native.Nat.{◌+◌}
use lib.ListN.{length, drop}
use Rattle.octets.specs.Xor.{◌⊻◌}
use Rattle.octets.specs.Operands.{xor_all}
use Rattle.passes.specs.Parts.{parts_at, Within}
use Rattle.passes.proofs.xor_parts.Given as goal

abbrev pub invariant-loop-left : goal.invariant-loop-left
invariant-loop-left l =
    (l.acc ⊻ xor_all (parts_at l.xs l.left l.o (length l.fn.acc)) ≡ xor_all (parts_at l.xs l.places l.o (length l.fn.acc)))
    × Within l.xs l.left (l.o + length l.fn.acc)

abbrev pub decreases-loop-left : goal.decreases-loop-left
decreases-loop-left l = length l.left

abbrev pub invariant-loop-p : goal.invariant-loop-p
invariant-loop-p l =
    l.acc ⊻ xor_all (parts_at l.xs (drop l.p-index l.p-items) l.o (length l.fn.acc)) ≡ xor_all (parts_at l.xs l.places l.o (length l.fn.acc))

-- `octets::xor_two_into` meets its contract. The loop's invariant is that of `xor_into`, with the XOR of the two for src.
use mathlib.Core.Path.{◌≡◌}
use lib.ListN.{take}
use Rattle.octets.specs.Xor.{◌⊻◌}
use Rattle.octets.proofs.xor_two_into.Given as goal

abbrev pub invariant-loop-i : goal.invariant-loop-i
invariant-loop-i l = l.dst ≡ l.initial.dst ⊻ take l.i (l.a ⊻ l.b)

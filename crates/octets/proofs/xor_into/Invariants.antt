-- `octets::xor_into` meets its contract. The loop's invariant: dst is what it was, XORed with the first i bytes of src.
use mathlib.Core.Path.{◌≡◌}
use lib.ListN.{take}
use Rattle.octets.specs.Xor.{◌⊻◌}
use Rattle.octets.proofs.xor_into.Given as goal

abbrev pub invariant-loop-i : goal.invariant-loop-i
invariant-loop-i l = l.dst ≡ l.initial.dst ⊻ take l.i l.src

-- `octets::xor_over` meets its contract. The loop's invariant: dst is what it was, with the first i bytes of the XOR written over its
-- front.
use mathlib.Core.Path.{◌≡◌}
use lib.ListN.{take}
use Rattle.octets.specs.Put.{put}
use Rattle.octets.specs.Xor.{◌⊻◌}
use Rattle.octets.proofs.xor_over.Given as goal

abbrev pub invariant-loop-i : goal.invariant-loop-i
invariant-loop-i l = l.dst ≡ put l.initial.dst 0 (take l.i (l.a ⊻ l.b))

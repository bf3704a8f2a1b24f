-- `octets::xor_eight_over` meets its contract. The loop's invariant is that of `xor_over`, with the XOR of the eight for that of the two.
use mathlib.Core.Path.{◌≡◌}
use lib.ListN.{length, take}
use Rattle.octets.specs.Put.{put}
use Rattle.octets.specs.Operands.{xor_all}
use Rattle.octets.specs.Eight.{eight_parts}
use Rattle.octets.proofs.xor_eight_over.Given as goal

abbrev pub invariant-loop-i : goal.invariant-loop-i
invariant-loop-i l = l.dst ≡ put l.initial.dst 0 (take l.i (xor_all (eight_parts l.xs l.a l.b l.c l.d l.e l.f l.g l.h (length l.initial.dst))))

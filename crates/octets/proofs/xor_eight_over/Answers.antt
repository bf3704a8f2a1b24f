-- `octets::xor_eight_over` meets its contract. The loop's invariant is that of `xor_over`, with the XOR of the eight for that of the two.
use mathlib.Core.Path.{sym, ap, ◌∙◌}
use native.Mathlib.Numerals.{add-one}
use native.Mathlib.Omega.{arith}
use lib.ListN.{length}
use lib.Seq.{take_all}
use Rattle.octets.specs.Put.{put, put_nil, put_whole}
use Rattle.octets.specs.PutPut.{put_more}
use Rattle.octets.specs.Operands.{xor_all}
use Rattle.octets.specs.Eight.{eight_parts, eight_byte, eight_long}
use Rattle.octets.proofs.xor_eight_over.Goals as goal

pub loop-i-init : goal.loop-i-init
loop-i-init c = sym (put_nil _ _)

pub loop-i-preserved : goal.loop-i-preserved
loop-i-preserved c =
    let a = c.args in
    let n = length a.dst.now in
    let long = eight_long a.xs.now a.a a.b a.c a.d a.e a.f a.g a.h n c.requires in
    rw (c.loop-i.invariant, add-one, ← eight_byte a.xs.now a.a a.b a.c a.d a.e a.f a.g a.h n c.loop-i.i (omega arith))
    (put_more a.dst.now (xor_all (eight_parts a.xs.now a.a a.b a.c a.d a.e a.f a.g a.h n)) c.loop-i.i (omega (arith, long)))

pub returns : goal.returns
returns c =
    let a = c.args in
    let n = length a.dst.now in
    let v = xor_all (eight_parts a.xs.now a.a a.b a.c a.d a.e a.f a.g a.h n) in
    let long = eight_long a.xs.now a.a a.b a.c a.d a.e a.f a.g a.h n c.requires in
    c.loop-i.invariant
    ∙ ap (put a.dst.now 0) (take_all c.loop-i.i v (omega (arith, long)))
    ∙ put_whole a.dst.now v (omega (arith, long))

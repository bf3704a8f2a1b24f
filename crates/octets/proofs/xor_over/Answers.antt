-- `octets::xor_over` meets its contract.
use Rattle.std.proofs.Common.{sym, ap, ◌∙◌, add-one, arith, take_all}
use Rattle.octets.specs.Put.{put, put_nil, put_whole}
use Rattle.octets.specs.PutPut.{put_more}
use Rattle.octets.specs.Xor.{◌⊻◌, get_or_xor, length_xor_le}
use Rattle.octets.proofs.xor_over.Goals as goal

pub loop-i-init : goal.loop-i-init
loop-i-init c = sym (put_nil _ _)

pub loop-i-preserved : goal.loop-i-preserved
loop-i-preserved c =
    let a = c.args in
    let long = length_xor_le a.a.now a.b.now (omega arith) in
    rw (c.loop-i.invariant, add-one, ← get_or_xor a.a.now a.b.now c.loop-i.i)
    (put_more a.dst.now (a.a.now ⊻ a.b.now) c.loop-i.i (omega (arith, long)))

pub returns : goal.returns
returns c =
    let a = c.args in
    let long = length_xor_le a.a.now a.b.now (omega arith) in
    c.loop-i.invariant
    ∙ ap (put a.dst.now 0) (take_all c.loop-i.i (a.a.now ⊻ a.b.now) (omega (arith, long)))
    ∙ put_whole a.dst.now (a.a.now ⊻ a.b.now) (omega (arith, long))

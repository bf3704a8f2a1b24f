-- `text::Page::put_hexadecimal` meets its contract.
use Rattle.std.proofs.Common.{arith, add-one}
use Rattle.text.specs.Hexadecimal.{hexadecimal, hexadecimal_more}
use Rattle.text.specs.Page.{writes_none, writes_then}
use Rattle.text.proofs.Page.put_hexadecimal.Goals as goal

pub loop-b-init : goal.loop-b-init
unfolding hexadecimal
loop-b-init c = (omega arith, writes_none _)

pub loop-b-preserved : goal.loop-b-preserved
loop-b-preserved c =
    let bytes = c.args.bytes.now in
    let i = c.loop-b.b-index in (
      omega (arith, c.put_byte.ensures.wrote.ends, c.put_byte-in-loop-b.ensures.wrote.ends),
      rw (add-one i, hexadecimal_more bytes i (omega arith), ← c.hex_digit.ensures, ← c.hex_digit-in-loop-b.ensures)
          (writes_then (writes_then c.loop-b.invariant.1 c.put_byte.ensures) c.put_byte-in-loop-b.ensures),
    )

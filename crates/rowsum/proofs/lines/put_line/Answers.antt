-- `rowsum::lines::put_line` meets its contract.
use Rattle.std.proofs.Common.{arith}
use Rattle.text.specs.Hexadecimal.{length_hexadecimal}
use Rattle.text.specs.Page.{writes_then}
use Rattle.rowsum.specs.Listing.{row_line}
use Rattle.rowsum.proofs.lines.put_line.Goals as goal

pub put_word-requires-2 : goal.put_word-requires-2
put_word-requires-2 c = omega (arith, length_hexadecimal c.args.sum.now)

pub returns : goal.returns
unfolding row_line
returns c =
    writes_then (writes_then (writes_then c.put_field.ensures c.put_word.ensures) c.put_hexadecimal.ensures) c.put_word-2.ensures

-- `rowsum::lines::put_head` meets its contract.
use Rattle.text.specs.Page.{writes_then}
use Rattle.rowsum.specs.Listing.{head_line}
use Rattle.rowsum.proofs.lines.put_head.Goals as goal

pub returns : goal.returns
unfolding head_line
returns c =
    writes_then (writes_then (writes_then (writes_then c.put_field.ensures c.put_field-2.ensures) c.put_field-3.ensures) c.put_field-4.ensures)
    c.put_word.ensures

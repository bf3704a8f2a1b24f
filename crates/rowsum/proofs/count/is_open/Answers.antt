-- `rowsum::count::is_open` meets its contract.
use mathlib.Core.Path.{◌∙◌, ap}
use mathlib.Core.Bool.{not}
use borrow.Author.Rules.{rules}
use Rattle.rowsum.specs.Sum.{open_is}
use Rattle.rowsum.proofs.count.is_open.Goals as goal

pub returns : goal.returns
returns c =
    let is_zero = c.is_zero in
    let args = c.args in
    let row-sum = c.row_sum in
    (ap not is_zero.ensures ∙ open_is args.shelf.image.now args.shelf.g args.row _ row-sum.ensures (search rules), row-sum.ensures)

-- `rowsum::count::with_row` meets its contract.
use mathlib.Core.Path.{sym, ◌∙◌}
use Rattle.rowsum.specs.Turns.{length_line}
use Rattle.rowsum.specs.Tally.{counted_shut, counted_open}
use Rattle.rowsum.proofs.count.with_row.Goals as goal

pub returns-then-not-is_open-clause-counted : goal.returns-then-not-is_open-clause-counted
returns-then-not-is_open-clause-counted c =
    let args = c.args in
    counted_shut args.shelf.image.now args.shelf.g args.row _ _ c.requires.counted_before (sym c.is_open.ensures.0 ∙ c.if-not-is_open.true)

pub returns-clause-counted : goal.returns-clause-counted
returns-clause-counted c =
    let args = c.args in
    let o = sym c.is_open.ensures.0 ∙ c.if-not-is_open.false in
    let n = length_line args.shelf.image.now args.shelf.g args.row args.shelf.framed c.requires.within.0 o in
    counted_open args.shelf.image.now args.shelf.g args.row _ _ _ c.requires.counted_before o (c.row_length-n.ensures.0 ∙ sym n) c.row_length-n.ensures.1

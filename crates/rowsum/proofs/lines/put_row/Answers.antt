-- `rowsum::lines::put_row` meets its contract.
use mathlib.Core.Path.{sym, ap, ◌∙◌}
use native.Mathlib.Omega.{arith}
use lib.ListN.{length}
use Rattle.sums.specs.Length.{length_sum}
use Rattle.text.specs.Page.{writes_none}
use Rattle.rowsum.specs.Turns.{line_shut, line_open, length_line}
use Rattle.rowsum.proofs.lines.put_row.Goals as goal

pub returns-then-not-is_open-clause-wrote : goal.returns-then-not-is_open-clause-wrote
returns-then-not-is_open-clause-wrote c =
    let args = c.args in
    rw (line_shut args.shelf.image.now args.shelf.g args.row (sym c.is_open.ensures.0 ∙ c.if-not-is_open.true)) (writes_none _)

pub put_line-requires : goal.put_line-requires
put_line-requires c =
    let s = c.args.shelf.image.now in
    let g = c.args.shelf.g in
    let row = c.args.row in
    let o = sym c.is_open.ensures.0 ∙ c.if-not-is_open.false in
    let n = ap length c.is_open.ensures.1 ∙ length_sum s g row c.args.shelf.framed c.requires.within.0 in
    omega (arith, c.requires.room, length_line s g row c.args.shelf.framed c.requires.within.0 o, n)

pub returns-clause-wrote : goal.returns-clause-wrote
returns-clause-wrote c =
    let args = c.args in
    let o = sym c.is_open.ensures.0 ∙ c.if-not-is_open.false in
    rw (line_open args.shelf.image.now args.shelf.g args.row o, ← c.is_open.ensures.1) c.put_line.ensures

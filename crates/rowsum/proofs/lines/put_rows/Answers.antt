-- `rowsum::lines::put_rows` meets its contract.
use Rattle.std.proofs.Common.{◌+◌, ◌∙◌, ap, arith, rules}
use Rattle.sums.specs.Row.{row_sum}
use Rattle.text.specs.Page.{writes_none, writes_then}
use Rattle.rowsum.specs.Turns.{rows_none, rows_more, length_rows_more, rows_grow}
use Rattle.rowsum.proofs.lines.put_rows.Goals as goal

pub loop-row-init : goal.loop-row-init
loop-row-init c = (search rules, rw rows_none (writes_none _), λ n e. absurd (omega (arith, e)))

pub put_row-requires-clause-room : goal.put_row-requires-clause-room
put_row-requires-clause-room c =
    let s = c.args.shelf.image.now in
    let g = c.args.shelf.g in
    let row = c.loop-row.row in
    let grows = rows_grow s g g.b (row + 1) (omega arith) in
    omega (arith, c.requires.room, c.loop-row.invariant.1.wrote.ends, length_rows_more s g row, grows)

pub loop-row-preserved : goal.loop-row-preserved
loop-row-preserved c =
    let put-row = c.put_row in (
      search rules,
      rw rows_more (writes_then c.loop-row.invariant.1 put-row.ensures.wrote),
      λ n e. put-row.ensures.sum_after ∙ ap (row_sum _ _) (omega (arith, e)),
    )

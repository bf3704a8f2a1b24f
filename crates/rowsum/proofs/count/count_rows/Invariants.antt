-- `rowsum::count::count_rows` meets its contract. The loop's invariant: the rows below row are counted, and the last one's sum stands in sum.
use Rattle.std.proofs.Common.{◌≡◌, ℕ, ◌+◌, length}
use Rattle.sums.specs.Row.{row_sum}
use Rattle.rowsum.specs.Tally.{Counted}
use Rattle.rowsum.proofs.count.count_rows.Given as goal

abbrev pub invariant-loop-row : goal.invariant-loop-row
invariant-loop-row l =
    let s = l.shelf.image.now in
    let g = l.shelf.g in
    (length l.sum ≡ g.l) × Counted s g l.row l.tally.rows l.tally.bytes × ((n : ℕ) → n + 1 ≡ l.row → l.sum ≡ row_sum s g n)

-- `rowsum::lines::put_rows` meets its contract. The loop's invariant: the lines of the rows below row are written, and the last one's sum stands in sum.
use Rattle.std.proofs.Common.{◌≡◌, ℕ, ◌+◌, length}
use Rattle.sums.specs.Row.{row_sum}
use Rattle.text.specs.Page.{Writes}
use Rattle.rowsum.specs.Turns.{row_text}
use Rattle.rowsum.proofs.lines.put_rows.Given as goal

abbrev pub invariant-loop-row : goal.invariant-loop-row
invariant-loop-row l =
    let s = l.shelf.image.now in
    let g = l.shelf.g in
    (length l.sum ≡ g.l) × Writes (row_text s g l.row) l.initial.page l.page × ((n : ℕ) → n + 1 ≡ l.row → l.sum ≡ row_sum s g n)

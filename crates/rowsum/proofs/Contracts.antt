-- What the contracts of this crate's inner functions say of the outcome: a private module is not seen from outside, so it is passed on here, for the laws of `one_outcome`.
use borrow.Fn.Kinds.{Out}
use Rattle.rowsum.proofs as rowsum

abbrev pub is_open : Out 2 rowsum.count.is_open.Kinds.ps rowsum.count.is_open.Kinds.r
is_open = rowsum.count.is_open.Reads.Post

abbrev pub head_length : Out 0 rowsum.count.head_length.Kinds.ps rowsum.count.head_length.Kinds.r
head_length = rowsum.count.head_length.Reads.Post

abbrev pub count_rows : Out 2 rowsum.count.count_rows.Kinds.ps rowsum.count.count_rows.Kinds.r
count_rows = rowsum.count.count_rows.Reads.Post

abbrev pub put_shelf : Out 3 rowsum.lines.put_shelf.Kinds.ps rowsum.lines.put_shelf.Kinds.r
put_shelf = rowsum.lines.put_shelf.Reads.Post

abbrev pub row_sum : Out 2 rowsum.sum.row_sum.Kinds.ps rowsum.sum.row_sum.Kinds.r
row_sum = rowsum.sum.row_sum.Reads.Post

-- What the contracts of this crate's inner functions say of the outcome: a private module is not seen from outside, so it is passed on here, for the laws of `one_outcome`.
use borrow.Fn.Kinds.{Out}
use Rattle.decide_list.proofs as decide_list

abbrev pub listed : Out 1 decide_list.list.listed.Kinds.ps decide_list.list.listed.Kinds.r
listed = decide_list.list.listed.Reads.Post

abbrev pub placed : Out 1 decide_list.sources.placed.Kinds.ps decide_list.sources.placed.Kinds.r
placed = decide_list.sources.placed.Reads.Post

-- What the contracts of this crate's inner functions say of the outcome: a private module is not seen from outside, so it is passed on here, for the laws of `one_outcome`.
use borrow.Fn.Kinds.{Out}
use Rattle.decide_one.proofs as decide_one

abbrev pub limited : Out 1 decide_one.plain.limited.Kinds.ps decide_one.plain.limited.Kinds.r
limited = decide_one.plain.limited.Reads.Post

-- What the contracts of this crate's inner functions say of the outcome: a private module is not seen from outside, so it is passed on here, for the laws of `one_outcome`.
use borrow.Fn.Kinds.{Out}
use Rattle.decide.proofs as decide

abbrev pub each : Out 1 decide.each.each.Kinds.ps decide.each.each.Kinds.r
each = decide.each.each.Reads.Post

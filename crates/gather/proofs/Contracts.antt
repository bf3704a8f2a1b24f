-- What the contracts of this crate's inner functions say of the outcome: a private module is not seen from outside, so it is passed on here, for the laws of `one_outcome`.
use borrow.Fn.Kinds.{Out}
use Rattle.gather.proofs as gather

abbrev pub start : Out 3 gather.operands.Gathering.start.Kinds.ps gather.operands.Gathering.start.Kinds.r
start = gather.operands.Gathering.start.Reads.Post

abbrev pub find_all : Out 4 gather.operands.Gathering.find_all.Kinds.ps gather.operands.Gathering.find_all.Kinds.r
find_all = gather.operands.Gathering.find_all.Reads.Post

abbrev pub seed : Out 4 gather.operands.Gathering.seed.Kinds.ps gather.operands.Gathering.seed.Kinds.r
seed = gather.operands.Gathering.seed.Reads.Post

abbrev pub xor_rest : Out 4 gather.operands.Gathering.xor_rest.Kinds.ps gather.operands.Gathering.xor_rest.Kinds.r
xor_rest = gather.operands.Gathering.xor_rest.Reads.Post

abbrev pub xor_int : Out 2 gather.operands.xor_int.Kinds.ps gather.operands.xor_int.Kinds.r
xor_int = gather.operands.xor_int.Reads.Post

-- What the contracts of this crate's inner functions say of the outcome: a private module is not seen from outside, so it is passed on here, for the laws of `one_outcome`.
use borrow.Fn.Kinds.{Out}
use Rattle.act.proofs as act

abbrev pub entry_of : Out 1 act.keep.entry_of.Kinds.ps act.keep.entry_of.Kinds.r
entry_of = act.keep.entry_of.Reads.Post

abbrev pub read : Out 2 act.moves.read.Kinds.ps act.moves.read.Kinds.r
read = act.moves.read.Reads.Post

abbrev pub write : Out 2 act.moves.write.Kinds.ps act.moves.write.Kinds.r
write = act.moves.write.Reads.Post

abbrev pub xpwrite : Out 2 act.moves.xpwrite.Kinds.ps act.moves.xpwrite.Kinds.r
xpwrite = act.moves.xpwrite.Reads.Post

abbrev pub xdread : Out 2 act.moves.xdread.Kinds.ps act.moves.xdread.Kinds.r
xdread = act.moves.xdread.Reads.Post

abbrev pub pass_on : Out 2 act.pass.pass_on.Kinds.ps act.pass.pass_on.Kinds.r
pass_on = act.pass.pass_on.Reads.Post

abbrev pub mix : Out 3 act.pass.mix.Kinds.ps act.pass.mix.Kinds.r
mix = act.pass.mix.Reads.Post

abbrev pub write_data : Out 2 act.pass.write_data.Kinds.ps act.pass.write_data.Kinds.r
write_data = act.pass.write_data.Reads.Post

abbrev pub rebuild : Out 2 act.rebuild.rebuild.Kinds.ps act.rebuild.rebuild.Kinds.r
rebuild = act.rebuild.rebuild.Reads.Post

abbrev pub regenerate : Out 2 act.rebuild.regenerate.Kinds.ps act.rebuild.regenerate.Kinds.r
regenerate = act.rebuild.regenerate.Reads.Post

abbrev pub couple : Out 2 act.xdwrite.couple.Kinds.ps act.xdwrite.couple.Kinds.r
couple = act.xdwrite.couple.Reads.Post

abbrev pub retain : Out 2 act.xdwrite.retain.Kinds.ps act.xdwrite.retain.Kinds.r
retain = act.xdwrite.retain.Reads.Post

abbrev pub xdwriteread : Out 3 act.xdwrite.xdwriteread.Kinds.ps act.xdwrite.xdwriteread.Kinds.r
xdwriteread = act.xdwrite.xdwriteread.Reads.Post

-- `gather::operands::Gathering::xor_rest` calls itself with one source fewer, so its measure is how many are left.
use Rattle.gather.proofs.operands.Gathering.+xor_rest.Given as goal

abbrev pub decreases-xor_rest : goal.decreases-xor_rest
decreases-xor_rest l = l.left

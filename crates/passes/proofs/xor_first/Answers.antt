-- `passes::xor_first` meets its contract.
use Rattle.std.proofs.Common.{◌∙◌, arith}
use Rattle.passes.specs.Steps.{one_part, eight_parts_lem}
use Rattle.passes.proofs.xor_first.Goals as goal

pub returns-in-len8-up : goal.returns-in-len8-up
returns-in-len8-up c = (eight_parts_lem _ _ _ _ _ c.xor_eight_over.ensures, omega arith, c.in-len8-up.len_at_least)

pub returns : goal.returns
returns c = (c.copy_from.ensures ∙ one_part _ _ _ _ 0, omega arith, c.requires.1)

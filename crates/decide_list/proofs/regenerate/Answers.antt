-- `decide_list::regenerate` meets its contract.
use Rattle.decide_list.specs.Stages.{regenerate_of}
use Rattle.decide_list.proofs.regenerate.Goals as goal

pub returns : goal.returns
unfolding regenerate_of
returns c = c.fields.ensures

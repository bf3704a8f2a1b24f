-- `decide_list::rebuild` meets its contract.
use Rattle.std.proofs.Common.{◌∙◌}
use Rattle.decide_list.specs.Stages.{rebuild_of}
use Rattle.decide_list.proofs.rebuild.Goals as goal

pub returns : goal.returns
unfolding rebuild_of
returns c = c.fields.ensures ∙ rw c.unbounded.ensures

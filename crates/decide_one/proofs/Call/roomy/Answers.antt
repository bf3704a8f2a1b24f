-- `decide_one::Call::roomy` meets its contract.
use mathlib.Core.Path.{◌∙◌}
use Rattle.decide_one.specs.Stages.{roomy_verdict}
use Rattle.decide_one.proofs.Call.roomy.Goals as goal

pub returns : goal.returns
unfolding roomy_verdict
returns c = c.check.ensures ∙ rw c.bytes.ensures

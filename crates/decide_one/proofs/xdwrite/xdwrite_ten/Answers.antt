-- `decide_one::xdwrite::xdwrite_ten` meets its contract.
use mathlib.Core.Path.{◌∙◌}
use Rattle.std.proofs.Common.{false, ap₂}
use Rattle.meaning.specs.Runs.{run_decides, run_passes}
use Rattle.slots.specs.Find.{empty_slot}
use Rattle.decide_one.specs.Stages.{retained_of, xdwrite_ten_of}
use Rattle.decide_one.specs.Laws.{at_most}
use Rattle.decide_one.proofs.xdwrite.xdwrite_ten.Goals as goal

pub returns-in_err-limited : goal.returns-in_err-limited
unfolding xdwrite_ten_of
returns-in_err-limited c = run_decides _ _ _ _ c.from_residual.ensures.1 c.in_err-limited.ensures ∙ at_most _ _ _ _ _ c.bytes.ensures

pub returns : goal.returns
unfolding xdwrite_ten_of
returns c = run_passes _ _ _ c.in_ok-limited.ensures (c.retained.ensures ∙ ap₂ (λ x y. retained_of (empty_slot c.args.call.shelf.image.now c.args.call.shelf.g) x false y) c.span.ensures c.disable.ensures) ∙ at_most _ _ _ _ _ c.bytes.ensures

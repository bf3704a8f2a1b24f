-- `decide_two::check_10` meets its contract.
use mathlib.Core.Path.{◌∙◌}
use Rattle.std.proofs.Common.{ap₂}
use Rattle.meaning.specs.Runs.{decides, passes}
use Rattle.sense.specs.declared.Answer.TheVariants.{Good}
use Rattle.meaning.specs.Decision.{go}
use Rattle.meaning.specs.declared.Act.TheVariants.{Couple}
use Rattle.decide_two.specs.Stages.{check_10_of}
use Rattle.decide_two.proofs.check_10.Goals as goal

pub returns-in_err-check : goal.returns-in_err-check
unfolding check_10_of
returns-in_err-check c = decides _ _ _ _ _ c.from_residual.ensures.1 c.in_err-check.ensures

pub returns-in_err-check-2 : goal.returns-in_err-check-2
unfolding check_10_of
returns-in_err-check-2 c = passes _ _ _ c.in_ok-check.ensures (decides _ _ _ _ _ c.from_residual-in_err-check-2.ensures.1 c.in_err-check-2.ensures)

pub returns : goal.returns
unfolding check_10_of
returns c = passes _ _ _ c.in_ok-check.ensures (passes _ _ _ c.in_ok-check-2.ensures (c.accept.ensures ∙ ap₂ (λ x y. go (Couple x (record { drive = c.args.j; block = c.args.call.command.spot; count = c.args.call.command.count }) y) Good) c.span.ensures c.mirror.ensures))

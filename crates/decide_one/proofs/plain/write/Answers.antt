-- `decide_one::plain::write` meets its contract.
use mathlib.Core.Path.{◌∙◌}
use Rattle.std.proofs.Common.{ap}
use Rattle.meaning.specs.Runs.{run_decides, run_passes}
use Rattle.sense.specs.declared.Answer.TheVariants.{Good}
use Rattle.meaning.specs.declared.Act.TheVariants.{Write}
use Rattle.meaning.specs.Decision.{go}
use Rattle.decide_one.specs.Stages.{write_of}
use Rattle.decide_one.specs.Laws.{unlimited}
use Rattle.decide_one.proofs.plain.write.Goals as goal

pub returns-in_err-limited : goal.returns-in_err-limited
unfolding write_of
returns-in_err-limited c = run_decides _ _ _ _ c.from_residual.ensures.1 c.in_err-limited.ensures ∙ unlimited _ _ _ _ _ _ c.bytes.ensures

pub returns : goal.returns
unfolding write_of
returns c = run_passes _ _ _ c.in_ok-limited.ensures (c.accept.ensures ∙ ap (λ x. go (Write x) Good) c.span.ensures) ∙ unlimited _ _ _ _ _ _ c.bytes.ensures

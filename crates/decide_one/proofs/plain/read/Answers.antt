-- `decide_one::plain::read` meets its contract.
use mathlib.Core.Path.{◌∙◌}
use Rattle.std.proofs.Common.{Ok, ap, refl}
use Rattle.meaning.specs.Runs.{run_decides, run_passes}
use Rattle.sense.specs.declared.Answer.TheVariants.{Good}
use Rattle.meaning.specs.declared.Act.TheVariants.{Read}
use Rattle.meaning.specs.Decision.{go}
use Rattle.decide_one.specs.Stages.{read_of}
use Rattle.decide_one.specs.Laws.{roomy_stands, unlimited}
use Rattle.decide_one.proofs.plain.read.Goals as goal

pub returns-in_err-limited : goal.returns-in_err-limited
unfolding read_of
returns-in_err-limited c = run_decides _ _ _ _ c.from_residual.ensures.1 c.in_err-limited.ensures ∙ unlimited _ _ _ _ _ _ refl

pub returns-in_err-roomy : goal.returns-in_err-roomy
unfolding read_of
returns-in_err-roomy c = run_passes _ _ _ c.in_ok-limited.ensures (run_decides _ _ _ _ c.from_residual-in_err-roomy.ensures.1 c.in_err-roomy.ensures ∙ roomy_stands _ _ (Ok tt) _ _) ∙ unlimited _ _ _ _ _ _ refl

pub returns : goal.returns
unfolding read_of
returns c = run_passes _ _ _ c.in_ok-limited.ensures (run_passes _ _ _ c.in_ok-roomy.ensures (c.accept.ensures ∙ ap (λ x. go (Read x) Good) c.span.ensures) ∙ roomy_stands _ _ (Ok tt) _ _) ∙ unlimited _ _ _ _ _ _ refl

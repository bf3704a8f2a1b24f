-- `decide_one::xdwrite::xdwriteread` meets its contract.
use mathlib.Core.Path.{◌∙◌}
use Rattle.std.proofs.Common.{Ok, ap₂}
use Rattle.meaning.specs.Runs.{run_decides, run_passes}
use Rattle.sense.specs.declared.Answer.TheVariants.{Good}
use Rattle.meaning.specs.declared.Act.TheVariants.{XdWriteRead}
use Rattle.meaning.specs.Decision.{go}
use Rattle.decide_one.specs.Stages.{xdwriteread_of}
use Rattle.decide_one.specs.Laws.{at_most, roomy_stands}
use Rattle.decide_one.proofs.xdwrite.xdwriteread.Goals as goal

pub returns-in_err-limited : goal.returns-in_err-limited
unfolding xdwriteread_of
returns-in_err-limited c = run_decides _ _ _ _ c.from_residual.ensures.1 c.in_err-limited.ensures ∙ at_most _ _ _ _ _ c.bytes.ensures

pub returns-in_err-roomy : goal.returns-in_err-roomy
unfolding xdwriteread_of
returns-in_err-roomy c = run_passes _ _ _ c.in_ok-limited.ensures (run_decides _ _ _ _ c.from_residual-in_err-roomy.ensures.1 c.in_err-roomy.ensures ∙ roomy_stands _ _ (Ok tt) _ _) ∙ at_most _ _ _ _ _ c.bytes.ensures

pub returns : goal.returns
unfolding xdwriteread_of
returns c = run_passes _ _ _ c.in_ok-limited.ensures (run_passes _ _ _ c.in_ok-roomy.ensures (c.accept.ensures ∙ ap₂ (λ x y. go (XdWriteRead x y) Good) c.span.ensures c.disable.ensures) ∙ roomy_stands _ _ (Ok tt) _ _) ∙ at_most _ _ _ _ _ c.bytes.ensures

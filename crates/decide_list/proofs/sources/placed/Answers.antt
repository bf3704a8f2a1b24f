-- `decide_list::sources::placed` meets its contract.
use mathlib.Core.Path.{◌∙◌}
use Rattle.meaning.specs.Runs.{decides}
use Rattle.decide_list.specs.Stages.{rebuilt_of, placed_of}
use Rattle.meaning.specs.Runs.{passes}
use Rattle.decide_list.proofs.sources.placed.Goals as goal

pub returns-then-keep : goal.returns-then-keep
unfolding placed_of
returns-then-keep c = rw c.if-keep.true (passes _ _ _ c.in_ok-check.ensures c.regenerated.ensures)

pub returns : goal.returns
unfolding placed_of rebuilt_of
returns c = rw c.if-keep.false (passes _ _ _ c.in_ok-check.ensures (c.sourced.ensures ∙ rw (c.span.ensures, c.sum_of.ensures)))

pub returns-in_err-check : goal.returns-in_err-check
unfolding placed_of
returns-in_err-check c = decides _ _ _ _ _ c.from_residual.ensures.1 c.in_err-check.ensures

-- `decide_list::list::listed` meets its contract.
use Rattle.std.proofs.Common.{ltb-false}
use Rattle.meaning.specs.Runs.{decides, passes}
use Rattle.meaning.specs.Runs.{passed}
use Rattle.decide_list.specs.Stages.{list_sized_of}
use Rattle.decide_list.proofs.list.listed.Goals as goal

pub headed-requires : goal.headed-requires
headed-requires c = (c.requires, ltb-false _ _ (passed _ _ _ c.in_ok-check-2.ensures))

pub returns-in_err-check : goal.returns-in_err-check
unfolding list_sized_of
returns-in_err-check c = decides _ _ _ _ _ c.from_residual.ensures.1 c.in_err-check.ensures

pub returns-in_err-check-2 : goal.returns-in_err-check-2
unfolding list_sized_of
returns-in_err-check-2 c = passes _ _ _ c.in_ok-check.ensures (decides _ _ _ _ _ c.from_residual-in_err-check-2.ensures.1 c.in_err-check-2.ensures)

pub returns : goal.returns
unfolding list_sized_of
returns c = passes _ _ _ c.in_ok-check.ensures (passes _ _ _ c.in_ok-check-2.ensures (c.headed.ensures))

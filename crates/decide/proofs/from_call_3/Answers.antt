-- `decide::from_call_3` meets its contract.
use Rattle.std.proofs.Common.{arith, ◌∙◌}
use Rattle.std.proofs.lemmas.Bool.{eqb-false}
use Rattle.meaning.specs.Runs.{decides, passed}
use Rattle.decide.specs.Joined.{call_3_on}
use Rattle.decide.specs.Stages.{from_call_3}
use Rattle.decide.proofs.from_call_3.Goals as goal

pub returns-in_err-check : goal.returns-in_err-check
unfolding from_call_3
returns-in_err-check c = decides _ _ _ _ _ c.from_residual.ensures.1 c.in_err-check.ensures

pub byte-requires : goal.byte-requires
byte-requires c = let z = eqb-false _ _ (passed _ _ _ c.in_ok-check.ensures) in omega arith

pub returns : goal.returns
returns c = c.from_check_2.ensures ∙ call_3_on _ _ _ _ _ _ _ _ _ c.byte.ensures.0 c.op_of-op.ensures (eqb-false _ _ (passed _ _ _ c.in_ok-check.ensures))

-- `decide::decide` meets its contract.
use Rattle.std.proofs.Common.{Err, ap, sym, ◌∙◌}
use Rattle.meaning.specs.Decision.{stop}
use Rattle.meaning.specs.Checks.{decide_of}
use Rattle.decide.specs.Called.{called_drive, called_refused}
use Rattle.decide.specs.Joined.{decide_on}
use Rattle.decide.proofs.decide.Goals as goal

pub returns-in-Err : goal.returns-in-Err
unfolding decide_of
returns-in-Err c = ap Err c.at.ensures ∙ called_refused _ _ stop _ _ (sym c.called.ensures ∙ c.in-Err.is)

pub invariant_of-from_call_3 : goal.invariant_of-from_call_3
invariant_of-from_call_3 c = record { framed = (called_drive _ _ c.in-Ok.g c.in-Ok.t (sym c.in-Ok.ensures)).frame }

pub from_call_3-requires : goal.from_call_3-requires
from_call_3-requires c = (called_drive _ _ c.in-Ok.g c.in-Ok.t (sym c.in-Ok.ensures)).inside

pub returns-in-Ok : goal.returns-in-Ok
returns-in-Ok c = c.from_call_3.ensures ∙ decide_on _ _ _ _ _ _ _ (called_drive _ _ c.in-Ok.g c.in-Ok.t (sym c.in-Ok.ensures))

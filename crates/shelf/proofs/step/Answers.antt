-- `shelf::step` meets its contract.
use mathlib.Core.Path.{sym, ◌∙◌}
use Rattle.geometry.specs.Frame.{framed_long}
use Rattle.grants.specs.Granted.{granted}
use Rattle.meaning.specs.Stepped.{stopped, went}
use Rattle.shelf.specs.Licensed.{licensed}
use Rattle.shelf.proofs.step.Goals as goal

pub read-g-requires : goal.read-g-requires
read-g-requires c = framed_long _ (granted _ _ _ _ _ _ _ (sym c.decide.ensures ∙ c.in-Ok.is)).valid.framed_fine

pub carry_out-count-requires : goal.carry_out-count-requires
carry_out-count-requires c = licensed _ _ _ _ _ _ _ _ c.read-g.ensures (sym c.decide.ensures ∙ c.in-Ok.is)

pub returns-in-Err : goal.returns-in-Err
returns-in-Err c = stopped _ _ _ _ _ _ _ _ _ (sym c.decide.ensures ∙ c.in-Err.is) c.outcome_of.ensures

pub returns-in-Ok : goal.returns-in-Ok
returns-in-Ok c =
    let done = c.carry_out-count.ensures in
    went _ _ _ _ _ _ _ _ _ _ _ _ (sym c.decide.ensures ∙ c.in-Ok.is) c.read-g.ensures done.0 done.1 done.2 c.outcome_of-in-Ok.ensures

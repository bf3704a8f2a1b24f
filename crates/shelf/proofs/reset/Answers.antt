-- `shelf::reset` meets its contract.
use mathlib.Core.Path.{sym, ◌∙◌}
use Rattle.decide.specs.Called.{called_drive}
use Rattle.shelf.specs.Opened.{reset_refused, reset_done}
use Rattle.shelf.proofs.reset.Goals as goal

pub drop_drive-requires : goal.drop_drive-requires
drop_drive-requires c = (called_drive _ _ c.in-Ok.g c.in-Ok.i (sym c.in-Ok.ensures)).frame

pub returns-in-Err : goal.returns-in-Err
returns-in-Err c = reset_refused _ _ _ (sym c.called.ensures ∙ c.in-Err.is)

pub returns-in-Ok : goal.returns-in-Ok
returns-in-Ok c = reset_done _ _ _ _ (called_drive _ _ c.in-Ok.g c.in-Ok.i (sym c.in-Ok.ensures)) _ c.drop_drive.ensures

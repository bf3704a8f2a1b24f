-- `shelf::mark` meets its contract.
use mathlib.Core.Path.{sym, ◌∙◌}
use native.Mathlib.Omega.{arith}
use Rattle.decide.specs.Called.{called_drive}
use Rattle.shelf.specs.Opened.{mark_refused, mark_state, mark_done}
use Rattle.shelf.proofs.mark.Goals as goal

pub returns-then-state-gt1 : goal.returns-then-state-gt1
returns-then-state-gt1 c =
    let t = called_drive _ _ c.in-Ok.g c.in-Ok.i (sym c.in-Ok.ensures) in
    mark_state _ _ _ _ t _ c.if-state-gt1.true

pub mark-requires : goal.mark-requires
mark-requires c =
    let t = called_drive _ _ c.in-Ok.g c.in-Ok.i (sym c.in-Ok.ensures) in
    (t.frame, t.inside, omega (arith, c.if-state-gt1.false))

pub returns-in-Err : goal.returns-in-Err
returns-in-Err c = mark_refused _ _ _ (sym c.called.ensures ∙ c.in-Err.is) _

pub returns-else-state-gt1 : goal.returns-else-state-gt1
returns-else-state-gt1 c =
    let t = called_drive _ _ c.in-Ok.g c.in-Ok.i (sym c.in-Ok.ensures) in
    mark_done _ _ _ _ t _ c.if-state-gt1.false _ c.mark.ensures

-- `shelf_c::shelf_step` meets its contract.
use native.Mathlib.Omega.{arith}
use Rattle.shelf_c.specs.Interface.{fits_count}
use Rattle.shelf_c.proofs.shelf_step.Goals as goal

pub overflow_cast-count : goal.overflow_cast-count
overflow_cast-count c = omega (arith, fits_count _ _ _ _ _ _ _ _ c.step-outcome.ensures)

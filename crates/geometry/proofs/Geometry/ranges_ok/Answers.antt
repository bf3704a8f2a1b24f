-- `geometry::Geometry::ranges_ok` meets its contract.
use Rattle.folds.specs.Every.{every_joined}
use Rattle.geometry.proofs.Geometry.ranges_ok.Goals as goal

pub returns : goal.returns
returns c = every_joined _ _

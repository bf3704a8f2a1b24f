-- `geometry::Geometry::offsets_ok` meets its contract.
use Rattle.folds.specs.Every.{every_joined}
use Rattle.geometry.proofs.Geometry.offsets_ok.Goals as goal

pub returns : goal.returns
returns c = every_joined _ _

-- `geometry::Geometry::slot_at` meets its contract.
use Rattle.std.proofs.Common.{refl, arith}
use Rattle.geometry.specs.Header.{slot_at}
use Rattle.geometry.specs.Places.{slot_before_media}
use Rattle.geometry.proofs.Geometry.slot_at.Goals as goal

pub returns : goal.returns
unfolding slot_at
returns c = (refl, omega (arith, slot_before_media c.args.self c.args.i c.requires.0 c.requires.1))

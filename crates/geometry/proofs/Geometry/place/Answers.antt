-- `geometry::Geometry::place` meets its contract.
use Rattle.std.proofs.Common.{refl}
use Rattle.geometry.specs.Header.{place}
use Rattle.geometry.specs.Places.{place_in}
use Rattle.geometry.proofs.Geometry.place.Goals as goal

pub returns : goal.returns
unfolding place
returns c = (refl, place_in c.args.self c.args.drive c.args.block.0 c.requires.0.ranges c.requires.1 c.requires.2)

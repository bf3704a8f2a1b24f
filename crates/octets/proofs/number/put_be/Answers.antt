-- `octets::number::put_be` meets its contract.
use Rattle.std.proofs.Common.{ap, ◌∙◌}
use Rattle.octets.specs.Put.{put}
use Rattle.octets.proofs.number.put_be.Goals as goal

pub returns : goal.returns
returns g c = c.put_at.ensures ∙ ap (put c.args.xs.now c.args.at) c.to_be.ensures

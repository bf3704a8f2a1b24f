-- `act::rebuild::rebuild` meets its contract.
use Rattle.act.specs.Rebuild.{rebuild_ready}
use Rattle.act.proofs.rebuild.rebuild.Goals as goal

pub gather-requires : goal.gather-requires
gather-requires c =
    let pre = c.requires in rebuild_ready _ _ _ _ _ pre.0 pre.1.0 pre.1.1 _ c.byte.ensures.0 c.byte.ensures.1 _ c.place.ensures.0

-- `act::rebuild::regenerate` meets its contract.
use Rattle.act.specs.Rebuild.{regenerate_ready}
use Rattle.act.proofs.rebuild.regenerate.Goals as goal

pub gather-requires : goal.gather-requires
gather-requires c =
    let pre = c.requires in
    regenerate_ready _ _ _ _ _ pre.0 pre.1.0 pre.1.1 _ c.byte.ensures.0 c.byte.ensures.1 c.args.i _ _ c.place.ensures.0 c.slot_at-at.ensures.0 pre.1.2 pre.1.3

-- `act::xdwrite::retain` meets its contract.
use Rattle.act.specs.Xdwrite.{retain_passable}
use Rattle.act.proofs.xdwrite.retain.Goals as goal

pub pass_on-requires : goal.pass_on-requires
pass_on-requires c =
    let pre = c.requires in
    retain_passable _ _ _ c.args.i _ c.args.ndisc _ _ _ pre.1.1 c.place-from.ensures.0 c.slot_at-at.ensures.0 pre.0 pre.1.0 pre.1.2 pre.1.3

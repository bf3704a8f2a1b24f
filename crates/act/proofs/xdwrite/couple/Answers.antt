-- `act::xdwrite::couple` meets its contract.
use Rattle.act.specs.Xdwrite.{couple_passable}
use Rattle.act.proofs.xdwrite.couple.Goals as goal

pub pass_on-requires : goal.pass_on-requires
pass_on-requires c =
    let pre = c.requires in
    couple_passable _ _ _ _ _ _ _ _ pre.1.2 pre.1.4 c.place-from.ensures.0 c.place-to.ensures.0 pre.0 pre.1.0 pre.1.1 pre.1.3

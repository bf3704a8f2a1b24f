-- `act::xdwrite::xdwriteread` meets its contract.
use Rattle.act.specs.Xdwrite.{xdwriteread_by}
use Rattle.act.proofs.xdwrite.xdwriteread.Goals as goal

pub returns : goal.returns
returns c =
    let pre = c.requires in
    xdwriteread_by _ _ _ _ pre.1.1 pre.1.2 _ c.args.disable _ _ _ c.place-at.ensures.0 c.mix.ensures c.write_data.ensures

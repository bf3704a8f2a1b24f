-- `slots::find::pick` meets its contract.
use Rattle.std.proofs.Common.{◌≡◌, rules}
use Rattle.slots.specs.Find.{top_of}
use Rattle.slots.specs.Turns.{better_not, better_newer}
use Rattle.slots.proofs.find.pick.Goals as goal

pub returns-then-r-drive : goal.returns-then-r-drive
returns-then-r-drive c =
    let top : c.map_or-top.result ≡ top_of c.args.best = search rules in
    better_newer _ _ _ _ _ (rw (top, c.eq.ensures) at c.if-r-drive.true)

pub returns-else-r-drive : goal.returns-else-r-drive
returns-else-r-drive c =
    let top : c.map_or-top.result ≡ top_of c.args.best = search rules in
    better_not _ _ _ _ _ (rw (top, c.eq.ensures) at c.if-r-drive.false)

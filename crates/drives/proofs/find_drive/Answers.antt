-- `drives::find_drive` meets its contract.
use Rattle.std.proofs.Common.{eqb, rules, tests, refl}
use Rattle.folds.proofs.Chain.{found_below}
use Rattle.drives.specs.Table.{address_of, drive_of}
use Rattle.drives.proofs.find_drive.Goals as goal

pub returns : goal.returns
unfolding drive_of
returns c =
    let shelf = c.args.shelf in
    found_below (λ k. eqb (address_of shelf.image.now shelf.g k) c.args.a.0) _ _ _ _ c.find.ensures.ran refl (λ x b q k. search (rules, tests))

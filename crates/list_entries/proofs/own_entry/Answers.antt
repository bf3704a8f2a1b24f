-- `list_entries::own_entry` meets its contract.
use Rattle.std.proofs.Common.{rules, tests, refl}
use Rattle.folds.proofs.Chain.{found_below}
use Rattle.drives.specs.Table.{source_drive}
use Rattle.command.specs.Command.{source_of}
use Rattle.meaning.specs.Sources.{is_at, own_entry}
use Rattle.list_entries.proofs.own_entry.Goals as goal

pub returns : goal.returns
unfolding own_entry
returns c =
    let shelf = c.args.shelf in
    found_below (λ i. is_at c.args.t (source_drive shelf.image.now shelf.g c.args.came (source_of c.args.sent.now i).address.0)) _ _ _ _ c.find.ensures.ran refl
    (λ x b q k. search (rules, tests))

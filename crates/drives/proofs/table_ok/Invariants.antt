-- `drives::table_ok` meets its contract. The loop's invariant: ok says whether the entries passed are right, and their addresses are kept.
use Rattle.std.proofs.Common.{◌≡◌, length}
use Rattle.octets.specs.New.{Begins}
use Rattle.folds.specs.Every.{every}
use Rattle.folds.specs.All.{all_below}
use Rattle.rules.specs.Must.{tests_of}
use Rattle.drives.specs.Table.{address_of, entry_musts}
use Rattle.drives.proofs.table_ok.Given as goal

abbrev pub invariant-loop-i : goal.invariant-loop-i
invariant-loop-i l =
    (l.ok ≡ all_below l.i (λ j. every (tests_of (entry_musts l.shelf.image.now l.shelf.g j))))
    × (length l.kept ≡ 32)
    × Begins l.kept (address_of l.shelf.image.now l.shelf.g) l.i

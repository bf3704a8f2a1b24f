-- `list_entries::first_bad` meets its contract. The outer loop's invariant: the entries left decide; the inner one's: none of the drives passed has
-- the entry's address.
use mathlib.Core.Path.{◌≡◌}
use Prim.Native.Nat.{◌≤◌, ◌-◌}
use lib.Dec.{eqb}
use Rattle.std.specs.Prelude.{None}
use Rattle.folds.specs.Least.{least_below}
use Rattle.drives.specs.declared.Came.{Came}
use Rattle.drives.specs.Table.{address_of}
use Rattle.meaning.specs.Sources.{first_bad}
use Rattle.list_entries.proofs.first_bad.Given as goal

abbrev pub invariant-loop-k : goal.invariant-loop-k
invariant-loop-k l = (l.k ≤ l.table) × (least_below l.k (λ j. eqb (address_of l.shelf.image.now l.shelf.g j) l.source.address.0) ≡ None)

abbrev pub decreases-loop-k : goal.decreases-loop-k
decreases-loop-k l = l.table - l.k

abbrev pub invariant-entries : goal.invariant-entries
invariant-entries l = (l.i ≤ l.n) × ((a : Came) → first_bad l.shelf.image.now l.shelf.g a l.sent l.count 0 l.n ≡ first_bad l.shelf.image.now l.shelf.g a l.sent l.count l.i (l.n - l.i))

abbrev pub decreases-entries : goal.decreases-entries
decreases-entries l = l.n - l.i

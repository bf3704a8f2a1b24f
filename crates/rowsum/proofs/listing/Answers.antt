-- `rowsum::listing` meets its contract.
use Rattle.std.specs.Borrow.{Bor}
use Rattle.std.specs.Prelude.{List, ℕ}
use Rattle.std.proofs.Common.{ap₂}
use Rattle.geometry.specs.declared.Geometry.{Geometry}
use Rattle.text.specs.Lines.{written}
use Rattle.rowsum.specs.Listing.{shelf_lines}
use Rattle.rowsum.specs.Whole.{text_shelf, text_none}
use Rattle.rowsum.proofs.listing.Goals as goal

pub returns-in-None : goal.returns-in-None
returns-in-None c =
    let none = text_none c.args.image.now c.in-None.ensures in
    record { value = rw none c.put_fitted.ensures.value; out_after = rw none c.put_fitted.ensures.out_after }

pub returns-in-Some : goal.returns-in-Some
returns-in-Some c =
    let seen = c.in-Some.ensures in
    let text = ap₂ (λ (i : Bor (List ℕ)) (g : Geometry). written (shelf_lines i.now g)) seen.1 seen.2 in
    let shelf = text_shelf c.args.image.now seen.0 in
    record { value = rw (shelf, ← text) c.list_shelf.ensures.value; out_after = rw (shelf, ← text) c.list_shelf.ensures.out_after }

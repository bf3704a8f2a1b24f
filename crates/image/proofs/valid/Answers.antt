-- `image::valid` meets its contract.
use Rattle.std.specs.Borrow.{Bor}
use Rattle.std.specs.Prelude.{List, ℕ}
use Rattle.std.proofs.Common.{sym, ap₂, ◌∙◌}
use Rattle.folds.specs.Every.{every, fails}
use Rattle.folds.specs.Tests.{cond_self}
use Rattle.geometry.specs.declared.Geometry.{Geometry}
use Rattle.drives.specs.Table.{table_ok}
use Rattle.slots.specs.Slots.{slots_ok}
use Rattle.image.proofs.Shelf.{valid_is}
use Rattle.image.proofs.valid.Goals as goal

pub returns-in_default : goal.returns-in_default
returns-in_default c = sym (valid_is _ ∙ fails _ 0 c.in_default.ensures)

pub returns-then-not-table_ok : goal.returns-then-not-table_ok
returns-then-not-table_ok c =
    let seen = c.in-Some.ensures in
    let table = c.table_ok.ensures ∙ ap₂ (λ (i : Bor (List ℕ)) (g : Geometry). table_ok i.now g) seen.1 seen.2 in
    sym (valid_is _ ∙ fails _ 1 (sym table ∙ c.if-not-table_ok.true))

pub returns : goal.returns
unfolding every
returns c =
    let seen = c.in-Some.ensures in
    let table = c.table_ok.ensures ∙ ap₂ (λ (i : Bor (List ℕ)) (g : Geometry). table_ok i.now g) seen.1 seen.2 in
    let slots = c.slots_ok.ensures ∙ ap₂ (λ (i : Bor (List ℕ)) (g : Geometry). slots_ok i.now g) seen.1 seen.2 in
    slots ∙ sym (valid_is _ ∙ rw (seen.0, sym table ∙ c.if-not-table_ok.false) (cond_self _))

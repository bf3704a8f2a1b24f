-- `slots::find::empty_slot` meets its contract.
use Rattle.std.proofs.Common.{not, rules, tests, refl}
use Rattle.folds.proofs.Chain.{found_below}
use Rattle.slots.specs.Record.{slot_of, is_used}
use Rattle.slots.specs.Find.{empty_slot}
use Rattle.slots.proofs.find.empty_slot.Goals as goal

pub returns : goal.returns
unfolding empty_slot
returns c =
    let shelf = c.args.shelf in
    found_below (λ k. not (is_used (slot_of shelf.image.now shelf.g k))) _ _ _ _ c.find.ensures.ran refl (λ x b q k. search (rules, tests))

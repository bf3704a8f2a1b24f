-- `image::shelf_in` meets its contract.
use Rattle.std.proofs.Common.{◌∙◌, sym}
use Rattle.image.proofs.Shelf.{valid_long, valid_framed}
use Rattle.image.proofs.shelf_in.Goals as goal

pub read-g-requires : goal.read-g-requires
read-g-requires c = valid_long _ (sym c.valid.ensures ∙ c.if-not-valid.false)

pub invariant_of-result : goal.invariant_of-result
invariant_of-result c = record { framed = valid_framed _ _ (sym c.valid.ensures ∙ c.if-not-valid.false) c.read-g.ensures }

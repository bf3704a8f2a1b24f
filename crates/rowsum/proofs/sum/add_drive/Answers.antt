-- `rowsum::sum::add_drive` meets its contract.
use mathlib.Core.Path.{sym, ap, ◌∙◌}
use mathlib.Core.Bool.{Bool, cond}
use mathlib.Core.List.{[]}
use native.Mathlib.Omega.{arith}
use Rattle.octets.specs.Xor.{◌⊻◌, xor_nil}
use Rattle.geometry.specs.Places.{block_room}
use Rattle.sums.specs.Row.{block_in}
use Rattle.rowsum.proofs.sum.add_drive.Goals as goal

pub returns-then-not-counted : goal.returns-then-not-counted
returns-then-not-counted c =
    let args = c.args in
    let block = block_in args.shelf.image.now args.shelf.g args.row args.drive in
    let not-counted = sym c.counted.ensures ∙ c.if-not-counted.true in
    sym (ap (λ (t : Bool). args.sum.now ⊻ cond t block []) not-counted ∙ xor_nil _)

pub xor_from-requires : goal.xor_from-requires
xor_from-requires c =
    let args = c.args in
    let pre = c.requires in
    omega (arith, block_room args.shelf.image.now args.shelf.g args.drive args.row args.shelf.framed pre.1 pre.0, c.place.ensures.0, pre.2)

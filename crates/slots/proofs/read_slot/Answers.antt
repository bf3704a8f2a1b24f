-- `slots::read_slot` meets its contract. Its facts are named, not sought: a search reads every place of the code.
use Rattle.slots.specs.RecordLaws.{record_room, read_back}
use Rattle.slots.proofs.read_slot.Goals as goal

pub returns : goal.returns
returns c =
    let at = c.slot_at-at in
    let shelf = c.args.shelf in
    read_back shelf.image.now shelf.g c.args.i at.result _ at.ensures.0 (record_room _ _ at.result shelf.framed at.ensures.1)
    c.be.ensures c.byte.ensures c.byte-2.ensures c.be-2.ensures c.be-3.ensures c.be-4.ensures

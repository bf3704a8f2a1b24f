-- `rowsum::lines::put_shelf` meets its contract.
use native.Mathlib.Omega.{arith}
use Rattle.std.proofs.Common.{rules}
use Rattle.text.specs.Room.{fits, unfitted}
use Rattle.rowsum.specs.Turns.{length_head}
use Rattle.rowsum.specs.Tally.{shelf_long, shelf_wrote}
use Rattle.rowsum.proofs.lines.put_shelf.Goals as goal

pub returns-then-out-head_length : goal.returns-then-out-head_length
returns-then-out-head_length c =
    let tally = c.count_rows-tally.ensures in
    let long = shelf_long c.args.shelf.image.now c.args.shelf.g _ _ tally.counted in
    let p = unfitted _ _ (omega (arith, c.if-out-head_length.true, c.head_length.ensures.0, long)) in
    record { sum_after = tally.sum_after; value = p.0; out_after = p.1 }

pub put_rows-requires-clause-room : goal.put_rows-requires-clause-room
put_rows-requires-clause-room c =
    let tally = c.count_rows-tally.ensures in
    let long = length_head c.args.shelf.g c.count_rows-tally.result.rows in
    omega (arith, c.if-out-head_length.false, c.head_length.ensures.0, long, c.put_head.ensures.wrote.ends, tally.counted.bytes_are)

pub returns : goal.returns
returns c =
    let tally = c.count_rows-tally.ensures in
    let long = shelf_long c.args.shelf.image.now c.args.shelf.g _ _ tally.counted in
    let wrote = shelf_wrote c.args.shelf.image.now c.args.shelf.g _ _ _ _ _ _ _ tally.counted c.put_head.ensures.wrote c.put_rows.ensures.wrote.wrote in
    let p = fits _ _ _ _ (omega (arith, c.if-out-head_length.false, c.head_length.ensures.0, long)) wrote in
    record { sum_after = c.put_rows.ensures.sum_after; value = p.0; out_after = search rules }

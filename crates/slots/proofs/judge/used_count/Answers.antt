-- `slots::judge::used_count` meets its contract.
use Rattle.std.proofs.Common.{arith, rules, tests}
use Rattle.folds.specs.Count.{count_le}
use Rattle.folds.proofs.Chain.{counted_below}
use Rattle.slots.specs.Record.{slot_of, is_used}
use Rattle.slots.proofs.judge.used_count.Goals as goal

pub returns : goal.returns
returns c =
    let shelf = c.args.shelf in
    let used = λ (i : _). is_used (slot_of shelf.image.now shelf.g i) in
    let count =
    counted_below used shelf.g.s c.filter.result _ c.count.ensures.ran c.filter.ensures.source c.filter.ensures.closure (λ x b q k. search (rules, tests)) in
    (count, omega (arith, count, count_le used shelf.g.s, shelf.framed.placed.ranges.s_high))

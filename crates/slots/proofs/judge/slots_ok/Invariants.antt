-- `slots::judge::slots_ok` meets its contract. The loop's invariant: ok says whether the slots passed are right, and their ranks are kept.
use Rattle.std.proofs.Common.{◌≡◌, length}
use Rattle.octets.specs.New.{Begins}
use Rattle.folds.specs.All.{all_below}
use Rattle.slots.specs.Record.{slot_of}
use Rattle.slots.specs.Slots.{slot_ok, rank_in, new_rank}
use Rattle.slots.proofs.judge.slots_ok.Given as goal

abbrev pub invariant-loop-i : goal.invariant-loop-i
invariant-loop-i l =
    let f = slot_of l.shelf.image.now l.shelf.g in
    (l.ok ≡ all_below l.i (λ j. slot_ok l.shelf.g l.k (new_rank f j) (f j))) × (length l.kept ≡ 16) × Begins l.kept (λ j. rank_in (f j)) l.i

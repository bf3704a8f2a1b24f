-- `rowsum::sum::row_sum` meets its contract.
use Rattle.std.proofs.Common.{◌≡◌, ◌∙◌, ℕ, ap, arith, length, replicate, rules}
use Rattle.std.proofs.lemmas.List.{length-replicate}
use Rattle.octets.specs.Xor.{◌⊻◌}
use Rattle.sums.specs.Row.{summed_to, row_sum}
use Rattle.rowsum.specs.Sum.{sum_start, sum_more}
use Rattle.rowsum.proofs.sum.row_sum.Goals as goal

pub loop-drive-init : goal.loop-drive-init
loop-drive-init c =
    let args = c.args in
    let z = c.fill_zero.ensures ∙ ap (λ (k : ℕ). replicate k 0) c.requires.1 in
    (ap length z ∙ length-replicate args.shelf.g.l 0, z ∙ sum_start args.shelf.image.now args.shelf.g args.row _)

pub loop-drive-preserved : goal.loop-drive-preserved
loop-drive-preserved c =
    let args = c.args in
    (search rules, c.add_drive.ensures ∙ sum_more args.shelf.image.now args.shelf.g args.row _ _ c.loop-drive.drive c.loop-drive.invariant.1)

pub returns : goal.returns
unfolding row_sum
returns c =
    let s = c.args.shelf.image.now in
    let g = c.args.shelf.g in
    let e : c.loop-drive.drive ≡ g.d = omega arith in
    c.loop-drive.invariant.1 ∙ ap (λ (k : ℕ). replicate g.l 0 ⊻ summed_to s g c.args.row k) e

-- `drives::table_ok` meets its contract.
use Rattle.std.proofs.Common.{ℕ, ◌&&◌, sym, ap, ap₂, ◌∙◌, arith, leb, get_or, refl, not-suc-le-zero}
use Rattle.octets.specs.New.{new_is, begins_more}
use Rattle.folds.specs.Every.{every_joined}
use Rattle.folds.specs.All.{all_none, all_turn, all_end}
use Rattle.drives.specs.Table.{table_ok}
use Rattle.drives.proofs.table_ok.Goals as goal

pub loop-i-init : goal.loop-i-init
loop-i-init c = (sym (all_none _), refl, λ i l. absurd (not-suc-le-zero l))

pub loop-i-preserved : goal.loop-i-preserved
loop-i-preserved c =
    let kept = c.keep_new-new in
    let own = c.address.ensures.0 in
    let inv = c.loop-i.invariant in
    let state = ap (λ (k : ℕ). leb k 1) (c.byte-state.ensures.0 ∙ ap (λ (k : ℕ). get_or c.args.shelf.image.now k 0) c.entry_at.ensures.0) in
    let new = kept.ensures.0 ∙ new_is c.loop-i.kept _ _ _ inv.2 own in (
      all_turn _ _ _ _ inv.0 (ap₂ ◌&&◌ state new ∙ every_joined _ _),
      kept.auto.kept ∙ inv.1,
      begins_more c.loop-i.kept _ _ _ inv.2 own _ (omega (arith, inv.1, c.args.shelf.framed.placed.ranges.d_high)) kept.ensures.1,
    )

pub returns : goal.returns
unfolding table_ok
returns c = all_end _ _ _ _ c.loop-i.invariant.0 (omega arith) (omega arith)

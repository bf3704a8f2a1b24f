-- `slots::judge::slots_ok` meets its contract.
use Rattle.std.proofs.Common.{ℕ, refl, sym, ap, ap₂, ◌∙◌, arith, not-suc-le-zero}
use Rattle.octets.specs.New.{new_is, begins_more}
use Rattle.folds.specs.All.{all_below, all_none, all_turn, all_end}
use Rattle.slots.specs.Record.{slot_of}
use Rattle.slots.specs.Slots.{slot_ok, rank_in, new_rank, slots_ok}
use Rattle.slots.proofs.judge.slots_ok.Goals as goal

pub loop-i-init : goal.loop-i-init
loop-i-init c = (sym (all_none _), refl, λ i l. absurd (not-suc-le-zero l))

pub loop-i-preserved : goal.loop-i-preserved
loop-i-preserved c =
    let shelf = c.args.shelf in
    let kept = c.keep_new-new in
    let inv = c.loop-i.invariant in
    let r = c.read_slot-r.ensures.0 in
    let rank = c.rank_in.ensures.0 ∙ ap rank_in r in
    let new = kept.ensures.0 ∙ new_is c.loop-i.kept _ _ _ inv.2 rank in (
      all_turn _ _ _ _ inv.0 (c.slot_ok-ok.ensures ∙ ap₂ (slot_ok shelf.g c.used_count-k.result) new r),
      kept.auto.kept ∙ inv.1,
      begins_more c.loop-i.kept _ _ _ inv.2 rank _ (omega (arith, inv.1, shelf.framed.placed.ranges.s_high)) kept.ensures.1,
    )

pub returns : goal.returns
unfolding slots_ok
returns c =
    let g = c.args.shelf.g in
    let f = slot_of c.args.shelf.image.now g in
    all_end _ _ _ _ c.loop-i.invariant.0 (omega arith) (omega arith)
    ∙ ap (λ (k : ℕ). all_below g.s (λ i. slot_ok g k (new_rank f i) (f i))) c.used_count-k.ensures.0

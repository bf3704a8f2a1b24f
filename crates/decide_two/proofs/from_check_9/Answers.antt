-- `decide_two::from_check_9` meets its contract.
use Rattle.std.proofs.Common.{Err, ap, sym, ◌∙◌}
use Rattle.meaning.specs.Runs.{missing}
use Rattle.decide_two.specs.Laws.{check_9_slot, check_9_at, check_9_none}
use Rattle.decide_two.proofs.from_check_9.Goals as goal

pub returns-then-sec-eq3 : goal.returns-then-sec-eq3
returns-then-sec-eq3 c =
    c.retained.ensures ∙ check_9_slot _ _ _ _ _ _ _ _ (sym c.sec.ensures.0 ∙ c.if-sec-eq3.true) c.span.ensures c.mirror.ensures c.ndisc.ensures

pub returns-in_err-i : goal.returns-in_err-i
returns-in_err-i c =
    missing _ _ _ _ c.from_residual.ensures.1 c.in_err-i.ensures.value
    ∙ ap Err c.at.ensures
    ∙ check_9_none _ _ _ _ _ _ c.sec.ensures.0 c.if-sec-eq3.false c.in_err-i.ensures.ok_part

pub is_failed-requires : goal.is_failed-requires
is_failed-requires c = c.requires _ c.in_ok-i.ensures.ok_part

pub returns : goal.returns
returns c = c.check_10.ensures ∙ check_9_at _ _ _ _ _ _ c.sec.ensures.0 c.if-sec-eq3.false _ _ c.in_ok-i.ensures.ok_part c.is_failed.ensures

-- `decide_one::newest::matched` meets its contract.
use Rattle.std.proofs.Common.{Ok, Err, ap, sym, ◌∙◌}
use Rattle.results.specs.Best.{newest_at}
use Rattle.sense.specs.declared.Answer.TheVariants.{Good}
use Rattle.meaning.specs.declared.Act.TheVariants.{XdRead}
use Rattle.meaning.specs.Decision.{go}
use Rattle.meaning.specs.Runs.{missing, decides, passes, run_decides, run_passes}
use Rattle.decide_one.specs.Stages.{matched_of, answered_of}
use Rattle.decide_one.specs.Laws.{roomy_stands}
use Rattle.decide_one.proofs.newest.matched.Goals as goal

pub returns-in_err-i : goal.returns-in_err-i
unfolding matched_of
returns-in_err-i c =
    missing _ _ _ _ c.from_residual.ensures.1 c.in_err-i.ensures.value ∙ ap Err c.at.ensures ∙ rw (sym c.newest-found.ensures ∙ c.in_err-i.ensures.ok_part)

pub read_slot-held-requires : goal.read_slot-held-requires
read_slot-held-requires c = (newest_at _ _ _ _ _ (sym c.newest-found.ensures ∙ c.in_ok-i.ensures.ok_part)).inside

pub returns-in_err-check : goal.returns-in_err-check
unfolding matched_of answered_of
returns-in_err-check c =
    rw (sym c.newest-found.ensures ∙ c.in_ok-i.ensures.ok_part, ← c.read_slot-held.ensures.0) (decides _ _ _ _ _ c.from_residual-in_err-check.ensures.1 c.in_err-check.ensures)

pub returns-in_err-roomy : goal.returns-in_err-roomy
unfolding matched_of answered_of
returns-in_err-roomy c =
    rw (sym c.newest-found.ensures ∙ c.in_ok-i.ensures.ok_part, ← c.read_slot-held.ensures.0)
    (passes _ _ _ c.in_ok-check.ensures (run_decides _ _ _ _ c.from_residual-in_err-roomy.ensures.1 c.in_err-roomy.ensures ∙ roomy_stands _ _ (Ok tt) _ _))

pub returns : goal.returns
unfolding matched_of answered_of
returns c =
    rw (sym c.newest-found.ensures ∙ c.in_ok-i.ensures.ok_part, ← c.read_slot-held.ensures.0)
    (passes _ _ _ c.in_ok-check.ensures (run_passes _ _ _ c.in_ok-roomy.ensures (c.accept.ensures ∙ ap (λ x. go (XdRead x c.in_ok-i.i) Good) c.span.ensures) ∙ roomy_stands _ _ (Ok tt) _ _))

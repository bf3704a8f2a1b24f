-- `decide::from_check_2` meets its contract.
use Rattle.std.proofs.Common.{Err, ap, sym, ◌∙◌, eqb-true}
use Rattle.std.proofs.lemmas.Bool.{not-false}
use borrow.Author.Tests.{eq-eqb, ne_eqb}
use Rattle.meaning.specs.Runs.{decides, passes, passed}
use Rattle.decide.specs.Stages.{from_check_2}
use Rattle.decide.specs.Joined.{check_2_on}
use Rattle.decide.proofs.from_check_2.Goals as goal

pub returns-then-size-eq0 : goal.returns-then-size-eq0
unfolding from_check_2
returns-then-size-eq0 c = ap Err c.at.ensures ∙ rw (← c.size_of-size.ensures, eq-eqb _ 0 c.if-size-eq0.true)

pub returns-in_err-check : goal.returns-in_err-check
unfolding from_check_2
returns-in_err-check c = rw (← c.size_of-size.ensures, ne_eqb _ 0 c.if-size-eq0.false) (decides _ _ _ _ _ c.from_residual.ensures.1 c.in_err-check.ensures)

pub returns-in_err-check-2 : goal.returns-in_err-check-2
unfolding from_check_2
returns-in_err-check-2 c =
    rw (← c.size_of-size.ensures, ne_eqb _ 0 c.if-size-eq0.false, ← c.is_failed-failed.ensures)
    (passes _ _ _ c.in_ok-check.ensures (decides _ _ _ _ _ c.from_residual-in_err-check-2.ensures.1 c.in_err-check-2.ensures))

pub decode-command-requires : goal.decode-command-requires
decode-command-requires c = (eqb-true _ _ (not-false _ (passed _ _ _ c.in_ok-check.ensures)) ∙ c.size_of-size.ensures, λ e. c.if-size-eq0.false (c.size_of-size.ensures ∙ e))

pub returns : goal.returns
returns c =
    c.each.ensures
    ∙ check_2_on _ _ _ _ _ _ _ _ _ c.decode-command.ensures.0 (λ e. c.if-size-eq0.false (c.size_of-size.ensures ∙ e))
    (eqb-true _ _ (not-false _ (passed _ _ _ c.in_ok-check.ensures)) ∙ c.size_of-size.ensures) (sym c.is_failed-failed.ensures ∙ passed _ _ _ c.in_ok-check-2.ensures)

-- `decide_two::xdwrite` meets its contract.
use mathlib.Core.Path.{refl, sym, ◌∙◌}
use borrow.Author.Tests.{eq-eqb, ne_eqb}
use Rattle.folds.proofs.Least.{at_nothing}
use Rattle.drives.specs.Lookup.{drive_inside}
use Rattle.meaning.specs.Runs.{decides, passes}
use Rattle.decide_two.specs.Stages.{xdwrite_of}
use Rattle.decide_two.proofs.xdwrite.Goals as goal

pub returns-in_err-check : goal.returns-in_err-check
unfolding xdwrite_of
returns-in_err-check c = rw (← c.sec-sec.ensures.0) (decides _ _ _ _ _ c.from_residual.ensures.1 c.in_err-check.ensures)

pub limited-requires : goal.limited-requires
limited-requires c = λ j e. absurd (at_nothing e refl)

pub returns-then-sec-eq3 : goal.returns-then-sec-eq3
unfolding xdwrite_of
returns-then-sec-eq3 c = rw (← c.sec-sec.ensures.0, eq-eqb _ 3 c.if-sec-eq3.true) (passes _ _ _ c.in_ok-check.ensures c.limited.ensures)

pub returns-in_err-check-2 : goal.returns-in_err-check-2
unfolding xdwrite_of
returns-in_err-check-2 c =
    rw (← c.sec-sec.ensures.0, ne_eqb _ 3 c.if-sec-eq3.false, ← c.ndisc.ensures)
    (passes _ _ _ c.in_ok-check.ensures (decides _ _ _ _ _ c.from_residual-in_err-check-2.ensures.1 c.in_err-check-2.ensures))

pub limited-requires-2 : goal.limited-requires-2
limited-requires-2 c = λ j e. (drive_inside _ _ _ j (sym c.find_secondary-there.ensures ∙ e)).0

pub returns : goal.returns
unfolding xdwrite_of
returns c =
    rw (← c.sec-sec.ensures.0, ne_eqb _ 3 c.if-sec-eq3.false, ← c.ndisc.ensures)
    (passes _ _ _ c.in_ok-check.ensures (passes _ _ _ c.in_ok-check-2.ensures (c.limited-2.ensures ∙ rw (c.is_at.ensures, c.find_secondary-there.ensures))))

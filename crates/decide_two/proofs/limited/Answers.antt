-- `decide_two::limited` meets its contract.
use Rattle.meaning.specs.Runs.{decides, passes}
use Rattle.decide_two.specs.Stages.{limited_of}
use Rattle.decide_two.proofs.limited.Goals as goal

pub returns-in_err-check : goal.returns-in_err-check
unfolding limited_of
returns-in_err-check c = decides _ _ _ _ _ c.from_residual.ensures.1 c.in_err-check.ensures

pub returns-in_err-check-2 : goal.returns-in_err-check-2
unfolding limited_of
returns-in_err-check-2 c = passes _ _ _ c.in_ok-check.ensures (decides _ _ _ _ _ c.from_residual-in_err-check-2.ensures.1 c.in_err-check-2.ensures)

pub returns-in_err-check-3 : goal.returns-in_err-check-3
unfolding limited_of
returns-in_err-check-3 c = passes _ _ _ c.in_ok-check.ensures (passes _ _ _ c.in_ok-check-2.ensures (decides _ _ _ _ _ c.from_residual-in_err-check-3.ensures.1 c.in_err-check-3.ensures))

pub returns-in_err-check-4 : goal.returns-in_err-check-4
unfolding limited_of
returns-in_err-check-4 c = rw (← c.bytes-due.ensures) (passes _ _ _ c.in_ok-check.ensures (passes _ _ _ c.in_ok-check-2.ensures (passes _ _ _ c.in_ok-check-3.ensures (decides _ _ _ _ _ c.from_residual-in_err-check-4.ensures.1 c.in_err-check-4.ensures))))

pub returns-in_err-check-5 : goal.returns-in_err-check-5
unfolding limited_of
returns-in_err-check-5 c = rw (← c.bytes-due.ensures) (passes _ _ _ c.in_ok-check.ensures (passes _ _ _ c.in_ok-check-2.ensures (passes _ _ _ c.in_ok-check-3.ensures (passes _ _ _ c.in_ok-check-4.ensures (decides _ _ _ _ _ c.from_residual-in_err-check-5.ensures.1 c.in_err-check-5.ensures)))))

pub returns-in_err-check-6 : goal.returns-in_err-check-6
unfolding limited_of
returns-in_err-check-6 c = rw (← c.bytes-due.ensures) (passes _ _ _ c.in_ok-check.ensures (passes _ _ _ c.in_ok-check-2.ensures (passes _ _ _ c.in_ok-check-3.ensures (passes _ _ _ c.in_ok-check-4.ensures (passes _ _ _ c.in_ok-check-5.ensures (decides _ _ _ _ _ c.from_residual-in_err-check-6.ensures.1 c.in_err-check-6.ensures))))))

pub returns : goal.returns
unfolding limited_of
returns c = rw (← c.bytes-due.ensures) (passes _ _ _ c.in_ok-check.ensures (passes _ _ _ c.in_ok-check-2.ensures (passes _ _ _ c.in_ok-check-3.ensures (passes _ _ _ c.in_ok-check-4.ensures (passes _ _ _ c.in_ok-check-5.ensures (passes _ _ _ c.in_ok-check-6.ensures (c.from_check_9.ensures)))))))

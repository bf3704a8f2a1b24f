-- `decide_list::fields` meets its contract.
use mathlib.Core.Path.{◌∙◌}
use Rattle.std.proofs.Common.{eqb-true}
use Rattle.std.proofs.lemmas.Bool.{not-false}
use Rattle.meaning.specs.Runs.{decides, passes}
use Rattle.command.specs.Sent.{list_fits}
use Rattle.meaning.specs.Runs.{passed}
use Rattle.decide_list.specs.Stages.{fields_of, counted_of}
use Rattle.decide_list.proofs.fields.Goals as goal

pub listed-requires : goal.listed-requires
listed-requires c = list_fits _ _ _ (eqb-true _ _ (not-false _ (passed _ _ _ c.in_ok-check-6.ensures)) ∙ c.list_bytes-due.ensures)

pub returns-in_err-check : goal.returns-in_err-check
unfolding fields_of counted_of
returns-in_err-check c = rw (← c.list_sec-sec.ensures.0, ← c.list_bytes-due.ensures) (decides _ _ _ _ _ c.from_residual.ensures.1 c.in_err-check.ensures)

pub returns-in_err-check-2 : goal.returns-in_err-check-2
unfolding fields_of counted_of
returns-in_err-check-2 c = rw (← c.list_sec-sec.ensures.0, ← c.list_bytes-due.ensures) (passes _ _ _ c.in_ok-check.ensures (decides _ _ _ _ _ c.from_residual-in_err-check-2.ensures.1 c.in_err-check-2.ensures))

pub returns-in_err-check-3 : goal.returns-in_err-check-3
unfolding fields_of counted_of
returns-in_err-check-3 c = rw (← c.list_sec-sec.ensures.0, ← c.list_bytes-due.ensures) (passes _ _ _ c.in_ok-check.ensures (passes _ _ _ c.in_ok-check-2.ensures (decides _ _ _ _ _ c.from_residual-in_err-check-3.ensures.1 c.in_err-check-3.ensures)))

pub returns-in_err-check-4 : goal.returns-in_err-check-4
unfolding fields_of counted_of
returns-in_err-check-4 c = rw (← c.list_sec-sec.ensures.0, ← c.list_bytes-due.ensures) (passes _ _ _ c.in_ok-check.ensures (passes _ _ _ c.in_ok-check-2.ensures (passes _ _ _ c.in_ok-check-3.ensures (decides _ _ _ _ _ c.from_residual-in_err-check-4.ensures.1 c.in_err-check-4.ensures))))

pub returns-in_err-check-5 : goal.returns-in_err-check-5
unfolding fields_of counted_of
returns-in_err-check-5 c = rw (← c.list_sec-sec.ensures.0, ← c.list_bytes-due.ensures) (passes _ _ _ c.in_ok-check.ensures (passes _ _ _ c.in_ok-check-2.ensures (passes _ _ _ c.in_ok-check-3.ensures (passes _ _ _ c.in_ok-check-4.ensures (decides _ _ _ _ _ c.from_residual-in_err-check-5.ensures.1 c.in_err-check-5.ensures)))))

pub returns-in_err-check-6 : goal.returns-in_err-check-6
unfolding fields_of counted_of
returns-in_err-check-6 c = rw (← c.list_sec-sec.ensures.0, ← c.list_bytes-due.ensures) (passes _ _ _ c.in_ok-check.ensures (passes _ _ _ c.in_ok-check-2.ensures (passes _ _ _ c.in_ok-check-3.ensures (passes _ _ _ c.in_ok-check-4.ensures (passes _ _ _ c.in_ok-check-5.ensures (decides _ _ _ _ _ c.from_residual-in_err-check-6.ensures.1 c.in_err-check-6.ensures))))))

pub returns : goal.returns
unfolding fields_of counted_of
returns c = rw (← c.list_sec-sec.ensures.0, ← c.list_bytes-due.ensures) (passes _ _ _ c.in_ok-check.ensures (passes _ _ _ c.in_ok-check-2.ensures (passes _ _ _ c.in_ok-check-3.ensures (passes _ _ _ c.in_ok-check-4.ensures (passes _ _ _ c.in_ok-check-5.ensures (passes _ _ _ c.in_ok-check-6.ensures (c.listed.ensures)))))))

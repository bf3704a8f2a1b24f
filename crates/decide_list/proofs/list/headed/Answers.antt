-- `decide_list::list::headed` meets its contract.
use Rattle.std.proofs.Common.{arith, eqb-true}
use Rattle.std.proofs.lemmas.Bool.{not-false}
use Rattle.meaning.specs.Runs.{decides, passes}
use Rattle.meaning.specs.Runs.{passed}
use Rattle.decide_list.specs.Stages.{headed_of}
use Rattle.decide_list.proofs.list.headed.Goals as goal

pub owned-requires : goal.owned-requires
owned-requires c = let e = eqb-true _ _ (not-false _ (passed _ _ _ c.in_ok-check.ensures)) in omega (arith, e, c.requires.0)

pub returns-in_err-check : goal.returns-in_err-check
unfolding headed_of
returns-in_err-check c = rw (← c.byte-n.ensures.0, ← c.byte-kind.ensures.0, ← c.be-zeros.ensures.0) (decides _ _ _ _ _ c.from_residual.ensures.1 c.in_err-check.ensures)

pub returns-in_err-check-2 : goal.returns-in_err-check-2
unfolding headed_of
returns-in_err-check-2 c = rw (← c.byte-n.ensures.0, ← c.byte-kind.ensures.0, ← c.be-zeros.ensures.0) (passes _ _ _ c.in_ok-check.ensures (decides _ _ _ _ _ c.from_residual-in_err-check-2.ensures.1 c.in_err-check-2.ensures))

pub returns-in_err-check-3 : goal.returns-in_err-check-3
unfolding headed_of
returns-in_err-check-3 c = rw (← c.byte-n.ensures.0, ← c.byte-kind.ensures.0, ← c.be-zeros.ensures.0) (passes _ _ _ c.in_ok-check.ensures (passes _ _ _ c.in_ok-check-2.ensures (decides _ _ _ _ _ c.from_residual-in_err-check-3.ensures.1 c.in_err-check-3.ensures)))

pub returns-in_err-check-4 : goal.returns-in_err-check-4
unfolding headed_of
returns-in_err-check-4 c = rw (← c.byte-n.ensures.0, ← c.byte-kind.ensures.0, ← c.be-zeros.ensures.0) (passes _ _ _ c.in_ok-check.ensures (passes _ _ _ c.in_ok-check-2.ensures (passes _ _ _ c.in_ok-check-3.ensures (decides _ _ _ _ _ c.from_residual-in_err-check-4.ensures.1 c.in_err-check-4.ensures))))

pub returns : goal.returns
unfolding headed_of
returns c = rw (← c.byte-n.ensures.0, ← c.byte-kind.ensures.0, ← c.be-zeros.ensures.0) (passes _ _ _ c.in_ok-check.ensures (passes _ _ _ c.in_ok-check-2.ensures (passes _ _ _ c.in_ok-check-3.ensures (passes _ _ _ c.in_ok-check-4.ensures (c.owned.ensures)))))

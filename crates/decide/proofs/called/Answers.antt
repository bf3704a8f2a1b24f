-- `decide::called` meets its contract.
use Rattle.std.proofs.Common.{sym, ◌∙◌}
use Rattle.std.proofs.lemmas.Option.{MatchOption-at_some, MatchOption-at_none}
use Rattle.meaning.specs.Runs.{missing}
use Rattle.decide.specs.Called.{called_bad, called_none, called_at}
use Rattle.decide.proofs.called.Goals as goal

pub returns-in_err-shelf : goal.returns-in_err-shelf
returns-in_err-shelf c = missing _ _ _ _ c.from_residual.ensures.1 c.in_err-shelf.ensures.value ∙ called_bad _ _ (MatchOption-at_none _ _ c.in_err-shelf.ensures.ok_part c.shelf_in.ensures)

pub returns-in_err-t : goal.returns-in_err-t
returns-in_err-t c =
    let is = MatchOption-at_some _ _ _ c.in_ok-shelf.ensures.ok_part c.shelf_in.ensures in
    missing _ _ _ _ c.from_residual-in_err-t.ensures.1 c.in_err-t.ensures.value
    ∙ called_none _ _ is.0 _ is.2 (rw (← is.1) (sym c.find_target.ensures ∙ c.in_err-t.ensures.ok_part))

pub returns : goal.returns
returns c =
    let is = MatchOption-at_some _ _ _ c.in_ok-shelf.ensures.ok_part c.shelf_in.ensures in
    called_at _ _ is.0 _ is.2 _ (rw (← is.1) (sym c.find_target.ensures ∙ c.in_ok-t.ensures.ok_part))

-- `slots::judge::used_ok` meets its contract.
use Rattle.folds.specs.Every.{every_joined}
use Rattle.slots.proofs.judge.used_ok.Goals as goal

pub returns : goal.returns
returns c = every_joined _ _

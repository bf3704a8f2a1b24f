-- `slots::find::newest` meets its contract.
use Rattle.std.proofs.Common.{◌≡◌, ◌∙◌, arith, rules}
use Rattle.std.specs.Option.{option_map}
use Rattle.slots.specs.declared.Best.{Best}
use Rattle.slots.specs.Turns.{best_none, best_more, best_done}
use Rattle.slots.proofs.find.newest.Goals as goal

pub loop-i-init : goal.loop-i-init
loop-i-init c = best_none _ _ _ _

pub loop-i-preserved : goal.loop-i-preserved
loop-i-preserved c = c.pick-best.ensures ∙ best_more _ _ _ _ _ _ _ c.loop-i.invariant c.read_slot.ensures.0

pub returns : goal.returns
returns c =
    let slot : c.map.result ≡ option_map (λ (x : Best). x.slot) c.loop-i.best = search rules in
    slot ∙ best_done _ _ _ _ _ _ c.loop-i.invariant (omega arith) (omega arith)

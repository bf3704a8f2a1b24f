-- `octets::new::keep_new` meets its contract.
use Rattle.std.proofs.Common.{ℕ, ◌<◌, not, eqb, sym, refl, ap, arith, length-take, get_or-take}
use Rattle.folds.specs.All.{all_none, all_turn, all_end}
use Rattle.octets.proofs.new.keep_new.Goals as goal

pub loop-k-init : goal.loop-k-init
loop-k-init c = sym (all_none _)

pub loop-k-preserved : goal.loop-k-preserved
loop-k-preserved c =
    let a = c.args in
    let i = c.loop-k.k-index in
    let l : i < a.n = omega (arith, length-take a.n a.kept.now) in
    all_turn _ _ _ _ c.loop-k.invariant (ap (λ (k : ℕ). not (eqb k a.x)) (get_or-take a.n a.kept.now i 0 l))

pub returns : goal.returns
returns c =
    let long = length-take c.args.n c.args.kept.now in
    (all_end _ _ _ _ c.loop-k.invariant (omega (arith, long)) (omega (arith, long)), refl)

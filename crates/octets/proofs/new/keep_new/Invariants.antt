-- `octets::new::keep_new` meets its contract. The loop's invariant: new says whether x is none of the numbers passed.
use mathlib.Core.Path.{◌≡◌}
use Rattle.octets.specs.New.{new_to}
use Rattle.octets.proofs.new.keep_new.Given as goal

abbrev pub invariant-loop-k : goal.invariant-loop-k
invariant-loop-k l = l.new ≡ new_to l.fn.kept l.k-index l.x

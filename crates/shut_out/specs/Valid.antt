-- A `valid` that always answers the same, yes or no, is not the contract's.
use Rattle.std.specs.Prelude.{Bool, true, false, ◌≡◌, set}
use Rattle.std.proofs.Common.{true≢false, sym, ◌∙◌}
use Rattle.image.specs.Valid.{valid_image}
use Rattle.image.specs.Bench.{bench}
use Rattle.image.proofs.Bench.{bench_valid, spoilt_not}

-- it refuses everything: the bench shelf
pub refusing_not : false ≡ valid_image bench → ⊥
refusing_not h = true≢false (sym (h ∙ bench_valid))

-- it accepts everything: a state of 2
pub accepting_not : true ≡ valid_image (set bench 36 2) → ⊥
accepting_not h = true≢false (h ∙ spoilt_not.1)

-- it answers its first call, and then the same again
pub first_call_only_not : (x : Bool) → x ≡ valid_image bench → x ≡ valid_image (set bench 36 2) → ⊥
first_call_only_not x h k = true≢false (sym (h ∙ bench_valid) ∙ k ∙ spoilt_not.1)

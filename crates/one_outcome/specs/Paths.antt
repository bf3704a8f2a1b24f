-- 02, A11: "the faster path is proved equal to the plain one". Of REBUILD and REGENERATE: for one image, geometry, job and data-out bytes
-- the two paths ask the same, and leave the same image whatever the sources are.
use Rattle.std.specs.Prelude.{◌≡◌, refl}
use borrow.Fn.Kinds.{In}
use Rattle.gather.proofs as gather
use Rattle.one_outcome.specs.Only.{Alike, one_equation}

pub paths_ask_the_same : ◌≡◌ {A = In 2 gather.in_turn.Kinds.ps} gather.in_turn.Reads.Pre gather.at_once.Reads.Pre
paths_ask_the_same = refl

pub paths_leave_the_same : Alike gather.in_turn.Reads.Post gather.at_once.Reads.Post (λ _ _ s. s.0.now)
paths_leave_the_same = one_equation

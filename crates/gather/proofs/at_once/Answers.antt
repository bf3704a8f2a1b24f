-- `gather::at_once` meets its contract.
use Rattle.std.proofs.Common.{arith, refl, take}
use Rattle.gather.specs.Pieces.{AllKnown}
use Rattle.gather.specs.AtOnce.{known_none, known_some}
use Rattle.gather.proofs.at_once.Goals as goal
use Rattle.gather.proofs.at_once.Goals.{in-Some, in_default}

pub by_pieces-requires : goal.by_pieces-requires
by_pieces-requires c =
    let few = c.requires.readable.listed.few in
    let known : AllKnown c.args.image.now c.args.g c.args.sent.now c.args.job (take c.match-job.n c.match-job.places) =
    elim c.match-job.branch [
      | in-Some w ↦ rw (w.n-is, w.places-is) (known_some _ _ _ _ _ _ (omega (arith, few)) c.find_all.ensures _ w.in-Some.is)
      | in_default w ↦ rw (w.n-is, w.places-is) (known_none _ _ _ _ _ _ (omega (arith, few)) c.find_all.ensures w.in_default.is)
    ] in
    ((c.requires, known), refl, refl)

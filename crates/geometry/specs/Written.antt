-- A write over blocks of one drive leaves the blocks of the others.
use Rattle.std.specs.Prelude.{◌≡◌, List, ℕ, ◌+◌, ◌*◌, ◌≤◌, length}
use Rattle.std.proofs.Common.{inl, inr, ⊎_elim, arith}
use Rattle.octets.specs.Part.{part}
use Rattle.octets.specs.Put.{put}
use Rattle.octets.specs.PutPut.{part_put_apart}
use Rattle.folds.specs.Cases.{apart}
use Rattle.geometry.specs.declared.Geometry.{Geometry}
use Rattle.geometry.specs.Header.{place}
use Rattle.geometry.specs.Places.{place_before}

-- ys over n blocks of drive d from block b on; k bytes of n' blocks of drive e from block b' on
pub other_drive : (s : List ℕ) (g : Geometry) (d e b b' n n' k : ℕ) (ys : List ℕ) → (e ≡ d → ⊥) → b + n ≤ g.b → b' + n' ≤ g.b → length ys ≤ n * g.l → k ≤ n' * g.l
    → part (put s (place g d b) ys) (place g e b') k ≡ part s (place g e b') k
other_drive s g d e b b' n n' k ys ne h h' l l' =
    part_put_apart s (place g d b) ys (place g e b') k
    (⊎_elim (λ lt. inl (omega (arith, place_before g e d b' b n' lt h'))) (λ lt. inr (omega (arith, place_before g d e b b' n lt h))) (apart e d ne))

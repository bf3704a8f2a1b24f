-- A valid image has just one length: cut off, or with a byte more, it is no shelf.
use Rattle.std.specs.Prelude.{◌≡◌, true, false, List, ℕ, ◌<◌, length}
use Rattle.std.proofs.Common.{sym, ap, ◌∙◌, le_refl, ne_eqb}
use Rattle.std.proofs.lemmas.Bool.{lt-leb}
use Rattle.octets.specs.Part.{part}
use Rattle.folds.specs.Every.{fails}
use Rattle.geometry.specs.Header.{geometry_of, framed_ok, end_of}
use Rattle.geometry.specs.Frame.{framed_exact}
use Rattle.geometry.specs.Kept.{front_geometry}
use Rattle.image.specs.Valid.{valid_image}
use Rattle.image.proofs.Shelf.{valid_is, shelf}

-- shorter than a header, the empty string included
pub short_not : (s : List ℕ) → length s < 32 → valid_image s ≡ false
unfolding framed_ok
short_not s h = valid_is s ∙ fails _ 0 (fails _ 0 (lt-leb 32 (length s) h))

-- the same header, another length
pub other_length_not : (s t : List ℕ) → valid_image s ≡ true → part t 0 32 ≡ part s 0 32 → (length t ≡ length s → ⊥) → valid_image t ≡ false
unfolding framed_ok
other_length_not s t v e ne =
    let n : length s ≡ end_of (geometry_of s) = framed_exact s (shelf s v).framed_fine in
    let q : geometry_of t ≡ geometry_of s = front_geometry t s 32 e (le_refl 32) in
    valid_is t ∙ fails _ 0 (fails _ 3 (ne_eqb (length t) (end_of (geometry_of t)) (λ p. ne (p ∙ ap end_of q ∙ sym n))))

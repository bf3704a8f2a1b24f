-- XDWRITE's bytes, piece by piece.
use Rattle.std.specs.Prelude.{ℕ, ◌+◌, ◌≤◌, ◌≡◌, refl, Bool, true, false}
use Rattle.std.proofs.Common.{arith, ap₂, ◌∙◌}
use Rattle.std.proofs.Math.Path.{sym, ap}
use mathlib.Core.List.{List}
use Rattle.std.proofs.Math.ListN.{length}
use Rattle.octets.specs.Part.{part, length_part, part_part}
use Rattle.octets.specs.Put.{put, length_put}
use Rattle.octets.specs.PutPut.{part_put_above}
use Rattle.octets.specs.Pieces.{part_ahead}
use Rattle.octets.specs.Xor.{◌⊻◌, part_xor, xor_commutes}
use Rattle.meaning.specs.Acts.{mixed, laid}
use Rattle.meaning.specs.Lengths.{length_laid, length_mixed}
use Rattle.act.specs.declared.pass.Pass.{Pass}
use Rattle.act.specs.Pass.{laid_of, laid_piece, Passable}

-- ---- a piece of the whole

mixed_part : (mirror : Bool) (xs ys : List ℕ) (o k : ℕ) → part (mixed mirror xs ys) o k ≡ mixed mirror (part xs o k) (part ys o k)
mixed_part true xs ys o k = refl
mixed_part false xs ys o k = part_xor xs ys o k

laid_part : (adds : Bool) (xs ys : List ℕ) (o k : ℕ) → part (laid adds xs ys) o k ≡ laid adds (part xs o k) (part ys o k)
laid_part true xs ys o k = part_xor xs ys o k
laid_part false xs ys o k = refl

pub piece_of : (s sent : List ℕ) (p : Pass) (o k : ℕ) → o + k ≤ length sent → part (laid_of s sent p) o k ≡ laid_piece s sent p o k
piece_of s sent p o k h =
    let n = length sent in
    laid_part p.adds (part s p.to n) (mixed p.mirror sent (part s p.from n)) o k
    ∙ ap₂ (laid p.adds) (part_part s p.to n o k h)
    (mixed_part p.mirror sent (part s p.from n) o k ∙ ap (mixed p.mirror (part sent o k)) (part_part s p.from n o k h))

-- ---- lengths

module _ (s sent : List ℕ) (p : Pass) (h : Passable s sent p) where
  pub laid_of_length : length (laid_of s sent p) ≡ length sent
  laid_of_length =
      let n = length sent in
      let f : length (part s p.from n) ≡ n = length_part s p.from n h.from_in in
      let t : length (part s p.to n) ≡ n = length_part s p.to n h.to_in in
      let m : length (mixed p.mirror sent (part s p.from n)) ≡ n = length_mixed p.mirror sent (part s p.from n) f in
      length_laid p.adds (part s p.to n) (mixed p.mirror sent (part s p.from n)) (omega arith) ∙ m

  pub laid_of_short : length (laid_of s sent p) ≤ length sent
  laid_of_short = omega (arith, laid_of_length)

  -- ---- what is written to the front of the range

  module _ (ys : List ℕ) where
    pub still_passable : Passable (put s p.to ys) sent p
    still_passable =
        let l : length (put s p.to ys) ≡ length s = length_put s p.to ys in
        record { from_in = omega (arith, h.from_in); to_in = omega (arith, h.to_in); apart = h.apart }

    -- what is not yet passed on stands as it was
    pub laid_ahead : (o k : ℕ) → length ys ≤ o → o + k ≤ length sent → part (laid_of (put s p.to ys) sent p) o k ≡ part (laid_of s sent p) o k
    laid_ahead o k l le =
        piece_of (put s p.to ys) sent p o k le
        ∙ ap₂ (λ (x y : List ℕ). laid p.adds x (mixed p.mirror (part sent o k) y))
        (part_put_above s p.to ys (p.to + o) k (omega arith))
        (part_ahead s p.to (length sent) o k ys le l p.from h.apart)
        ∙ sym (piece_of s sent p o k le)

-- ---- the code's own piece

pub fill_plain : (s sent : List ℕ) (p : Pass) (o k : ℕ) → o + k ≤ length sent → p.adds ≡ false → (acc : List ℕ)
    → acc ≡ mixed p.mirror (part sent o k) (part s (p.from + o) k) → acc ≡ part (laid_of s sent p) o k
fill_plain s sent p o k h e acc ae =
    ae ∙ ap (λ (b : Bool). laid b (part s (p.to + o) k) (mixed p.mirror (part sent o k) (part s (p.from + o) k))) (sym e) ∙ sym (piece_of s sent p o k h)

pub fill_adds : (s sent : List ℕ) (p : Pass) (o k : ℕ) → o + k ≤ length sent → p.adds ≡ true → (acc out : List ℕ)
    → acc ≡ mixed p.mirror (part sent o k) (part s (p.from + o) k) → out ≡ acc ⊻ part s (p.to + o) k → out ≡ part (laid_of s sent p) o k
fill_adds s sent p o k h e acc out ae oe =
    oe
    ∙ xor_commutes acc (part s (p.to + o) k)
    ∙ ap (◌⊻◌ (part s (p.to + o) k)) ae
    ∙ ap (λ (b : Bool). laid b (part s (p.to + o) k) (mixed p.mirror (part sent o k) (part s (p.from + o) k))) (sym e)
    ∙ sym (piece_of s sent p o k h)

-- Bytes that go to a range of an image piece by piece, and what must hold of them.
use Rattle.std.specs.Prelude.{◌≡◌, ℕ, ◌+◌, ◌≤◌, List, length}
use Rattle.std.proofs.Common.{sym, ap, ap₂, ◌∙◌, arith}
use Rattle.octets.specs.Part.{part, length_part_le, part_whole}
use Rattle.octets.specs.Put.{put, put_nil}
use Rattle.octets.specs.Pieces.{put_parts}

-- a range lies in the image, and what is written to the front of it changes neither that nor what is yet to be written
pub record PieceLaws {M : Type 0} (to size : M → ℕ) (Fits : M → List ℕ → Type 0) (whole : M → List ℕ → List ℕ) : Type 0 where
  pub inside : (p : M) (s : List ℕ) → Fits p s → to p + size p ≤ length s
  pub short : (p : M) (s : List ℕ) → Fits p s → length (whole p s) ≤ size p
  pub fits : (p : M) (s ys : List ℕ) → Fits p s → length ys ≤ size p → Fits p (put s (to p) ys)
  pub ahead : (p : M) (s ys : List ℕ) (o k : ℕ) → Fits p s → length ys ≤ o → o + k ≤ size p → part (whole p (put s (to p) ys)) o k ≡ part (whole p s) o k

-- ---- the first o bytes are in their place

module _ {M : Type 0} {to size : M → ℕ} {Fits : M → List ℕ → Type 0} {whole : M → List ℕ → List ℕ} (laws : PieceLaws to size Fits whole) (p : M) (s : List ℕ) where
  unfoldable pub reached : ℕ → List ℕ
  reached o = put s (to p) (part (whole p s) 0 o)

  pub reached_none : s ≡ reached 0
  unfolding reached part
  reached_none = sym (put_nil s (to p))

  module _ (f : Fits p s) (o : ℕ) (t : List ℕ) (e : t ≡ reached o) where
    pub reached_fits : o ≤ size p → Fits p t
    unfolding reached
    reached_fits h = rw e (laws.fits p s (part (whole p s) 0 o) f (omega (arith, length_part_le (whole p s) 0 o)))

    -- the next k bytes, of which there are m then
    pub reached_more : (at k m : ℕ) (acc u : List ℕ) → at ≡ to p → m ≡ o + k → m ≤ size p → acc ≡ part (whole p t) o k → u ≡ put t (at + o) acc → u ≡ reached m
    unfolding reached
    reached_more at k m acc u te me h ae ue =
        let n : o + k ≤ size p = omega arith in
        let ys = part (whole p s) 0 o in
        ue
        ∙ ap₂ (λ (a : ℕ) (x : List ℕ). put x (a + o) acc) te e
        ∙ ap (put (put s (to p) ys) (to p + o)) (ae ∙ ap (λ (x : List ℕ). part (whole p x) o k) e ∙ laws.ahead p s ys o k f (length_part_le (whole p s) 0 o) n)
        ∙ put_parts s (to p) (whole p s) o k
        ∙ ap reached (sym me)

    pub reached_all : (at : ℕ) → at ≡ to p → size p ≤ o → t ≡ put s at (whole p s)
    unfolding reached
    reached_all at te h = e ∙ ap₂ (put s) (sym te) (part_whole (whole p s) o (omega (arith, laws.short p s f)))

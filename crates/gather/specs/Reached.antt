-- What stands there when the first o bytes of the XOR are in their place: no proof needs it, since `passes` says it of any bytes that go
-- piece by piece. It holds of pieces of any length, beyond the range's end too.
use Rattle.std.specs.Prelude.{ℕ, ◌+◌, ◌≤◌, ◌≡◌, List, length}
use Rattle.std.proofs.Common.{arith, sym, ap, ◌∙◌}
use Rattle.octets.specs.Part.{part, length_part_le, part_whole}
use Rattle.octets.specs.Put.{put, put_nil}
use Rattle.octets.specs.Pieces.{put_parts}
use Rattle.geometry.specs.declared.Geometry.{Geometry}
use Rattle.gather.specs.declared.Job.{Job}
use Rattle.gather.specs.Job.{size, summed, Ready}
use Rattle.gather.specs.Pieces.{AllKnown}
use Rattle.gather.specs.Turns.{summed_kept, fits, known_kept}
use Rattle.gather.specs.Whole.{summed_short}

module _ (s : List ℕ) (g : Geometry) (sent : List ℕ) (j : Job) where
  unfoldable pub reached : ℕ → List ℕ
  reached o = put s j.to (part (summed s g sent j) 0 o)

  pub reached_none : s ≡ reached 0
  unfolding reached part
  reached_none = sym (put_nil s j.to)

  module _ (r : Ready s g sent j) (o : ℕ) (t : List ℕ) (e : t ≡ reached o) (h : o ≤ size g j) where
    short : length (part (summed s g sent j) 0 o) ≤ size g j
    short = omega (arith, length_part_le (summed s g sent j) 0 o)

    pub reached_ready : Ready t g sent j
    unfolding reached
    reached_ready = rw e (fits s g sent j r (part (summed s g sent j) 0 o) short)

    pub reached_known : (places : List ℕ) → AllKnown s g sent j places → AllKnown t g sent j places
    unfolding reached
    reached_known places f = rw e (known_kept s g sent j r (part (summed s g sent j) 0 o) short places f)

    pub reached_more : (k : ℕ) (u : List ℕ) → u ≡ put t (j.to + o) (part (summed t g sent j) o k) → u ≡ reached (o + k)
    unfolding reached
    reached_more k u ue =
        let v = summed s g sent j in
        ue
        ∙ ap (λ (x : List ℕ). put x (j.to + o) (part (summed x g sent j) o k)) e
        ∙ ap (λ (x : List ℕ). put (put s j.to (part v 0 o)) (j.to + o) (part x o k)) (summed_kept s g sent j r (part v 0 o) short)
        ∙ put_parts s j.to v o k

    pub reached_all : size g j ≤ o → t ≡ put s j.to (summed s g sent j)
    unfolding reached
    reached_all k = e ∙ ap (put s j.to) (part_whole (summed s g sent j) o (omega (arith, summed_short s g sent j r.readable)))

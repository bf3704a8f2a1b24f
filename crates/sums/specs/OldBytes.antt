-- Over adjoining rows whose sums are zero, the XOR of every other drive's blocks is the bytes of the drive left out.
use Rattle.std.specs.Prelude.{ℕ, ◌+◌, ◌*◌, ◌≤◌, ◌<◌, ◌≡◌, length, replicate}
use Rattle.std.proofs.Common.{arith, sym, ap, ◌∙◌}
use Rattle.std.proofs.Math.Path.{refl, ap₂}
use mathlib.Core.List.{List, [], ◌∷◌, map, Permᴰ}
use Rattle.octets.specs.Part.{part, length_part, part_part}
use Rattle.octets.specs.Pieces.{block_inside, blocks_ext}
use Rattle.octets.specs.Operands.{xor_all, Long, length_xor_all, parts_of, part_xor_all}
use Rattle.folds.specs.Each.{EachIs, each_map, perm_length, perm_each}
use Rattle.geometry.specs.declared.Geometry.{Geometry}
use Rattle.geometry.specs.Header.{place, blocks_at}
use Rattle.geometry.specs.Frame.{Framed}
use Rattle.geometry.specs.Places.{Range, place_on, range_long}
use Rattle.sums.specs.Row.{block_in, row_sum}
use Rattle.sums.specs.Length.{length_block}
use Rattle.sums.specs.Others.{others, Other, others_each, length_others, left_out}

-- a sum of zeros in each of the n rows from row b on
abbrev pub ZeroSums : List ℕ → Geometry → ℕ → ℕ → Type 0
ZeroSums m g b n = (r : ℕ) → b ≤ r → r < b + n → row_sum m g r ≡ replicate g.l 0

module _ (m : List ℕ) (g : Geometry) (f : Framed m g) (b n : ℕ) where
  -- drive e's blocks of these rows
  abbrev rows : ℕ → List ℕ
  rows e = blocks_at m g e b n

  row_of : (k : ℕ) → k < n → (e : ℕ) → part (rows e) (k * g.l) g.l ≡ block_in m g (b + k) e
  row_of k l e =
      part_part m (place g e b) (n * g.l) (k * g.l) g.l (block_inside k n g.l l) ∙ ap (λ (q : ℕ). part m q g.l) (sym (place_on g e b k))

  parts_are : (k : ℕ) → k < n → (es : List ℕ) → parts_of (k * g.l) g.l (map rows es) ≡ map (block_in m g (b + k)) es
  unfolding parts_of
  parts_are k l [] = refl
  parts_are k l (e ∷ es) = ap₂ (λ (x : List ℕ) (xs : List (List ℕ)). x ∷ xs) (row_of k l e) (parts_are k l es)

  all_of : (k : ℕ) → k < n → (es : List ℕ) → part (xor_all (map rows es)) (k * g.l) g.l ≡ xor_all (map (block_in m g (b + k)) es)
  all_of k l es = part_xor_all (map rows es) (k * g.l) g.l ∙ ap xor_all (parts_are k l es)

  module _ (d : ℕ) (w : Range g d b n) where
    pub length_rows : (e : ℕ) → e < g.d → length (rows e) ≡ n * g.l
    length_rows e l = range_long m g e b n f (record { drive_in = l; range_in = w.range_in })

    long_rows : (es : List ℕ) → EachIs (Other g.d d) es → Long (n * g.l) (map rows es)
    long_rows = each_map rows (Other g.d d) (λ (x : List ℕ). length x ≡ n * g.l) (λ e o. length_rows e o.0)

    length_xor_rows : (es : List ℕ) → Permᴰ es (others g.d d) → EachIs (Other g.d d) es → length (xor_all (map rows es)) ≡ n * g.l
    length_xor_rows [] p h =
        let z : ◌≡◌ {A = ℕ} 0 (length (others g.d d)) = perm_length p in
        absurd (omega (arith, length_others g.d d w.drive_in, f.placed.ranges.d_low))
    length_xor_rows (e ∷ es) p h = length_xor_all (n * g.l) (rows e) (map rows es) (long_rows (e ∷ es) h)

    pub old_bytes : (es : List ℕ) → Permᴰ es (others g.d d) → ZeroSums m g b n → xor_all (map rows es) ≡ rows d
    old_bytes es p zero_sums =
        let lx = length_xor_rows es p (perm_each (Other g.d d) p (others_each g.d d)) in
        blocks_ext g.l (xor_all (map rows es)) (rows d) n lx (length_rows d w.drive_in)
        (λ k l. let la : length (part (xor_all (map rows es)) (k * g.l) g.l) ≡ g.l = length_part (xor_all (map rows es)) (k * g.l) g.l (omega (arith, block_inside k n g.l l)) in
        all_of k l es
        ∙ left_out m g (b + k) d es w.drive_in p (zero_sums (b + k) (omega arith) (omega arith))
        (length_block m g (b + k) f (omega (arith, w.range_in)) d w.drive_in) (sym (ap length (all_of k l es)) ∙ la)
        ∙ sym (row_of k l d))

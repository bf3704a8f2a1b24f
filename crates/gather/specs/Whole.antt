-- The XOR of a job: how long it is, and its pieces.
use Prim.Native.Nat.{ℕ, zero, suc, ◌+◌, ◌*◌, ◌≤◌, ◌<◌}
use Rattle.std.proofs.Common.{not-suc-le-zero, arith, ◌∙◌}
use Rattle.std.specs.Prelude.{◌≡◌, Bool, length, Option, Some, None}
use Rattle.std.proofs.Math.Path.{sym, ap}
use Rattle.std.proofs.Math.Bool.{true, false, cond}
use mathlib.Core.List.{List, [], ◌∷◌, ◌++◌}
use Rattle.octets.specs.Part.{part, length_part, length_part_le, part_part, part_nil}
use Rattle.octets.specs.Xor.{◌⊻◌, length_xor, xor_regroups, part_xor}
use Rattle.octets.specs.Operands.{xor_all, xor_all_one, xor_all_append}
use Rattle.geometry.specs.declared.Geometry.{Geometry}
use Rattle.command.specs.Command.{source_of}
use Rattle.meaning.specs.Acts.{start_of, source_blocks, sources_from, int_data, gathered}
use Rattle.meaning.proofs.Lengths.{gathered_long}
use Rattle.gather.specs.declared.Job.{Job}
use Rattle.gather.specs.Job.{size, own_blocks, summed, Readable}
use Rattle.gather.specs.Pieces.{entries_from, in_image, int_piece}

module _ (s : List ℕ) (g : Geometry) (sent : List ℕ) (j : Job) (r : Readable s g sent j) where
  -- ---- lengths

  pub length_entry : (i : ℕ) → i < j.sources → length (source_blocks s g j.sum.came sent j.count i) ≡ size g j
  length_entry i l = length_part s (start_of s g j.sum.came (source_of sent i)) (size g j) (r.inside i l)

  -- the XOR of the sources left is no shorter than one of them
  pub entries_long : (i left : ℕ) → 1 ≤ left → i + left ≤ j.sources → size g j ≤ length (xor_all (entries_from s g sent j i left))
  unfolding xor_all sources_from
  entries_long i zero some h = absurd (not-suc-le-zero some)
  entries_long i (suc left) some h =
      omega (arith, length_xor (source_blocks s g j.sum.came sent j.count i) (xor_all (entries_from s g sent j (i + 1) left)), length_entry i (omega arith))

  length_gathered : length (gathered s g sent j.count j.sum) ≡ size g j
  length_gathered =
      let same = r.counted in
      gathered_long s g sent j.count j.sum (omega (arith, r.some_source)) (λ e l. length_entry e (omega arith)) (λ q. omega (arith, r.exact q))

  own_short : (own : Option ℕ) → length (own_blocks s own (size g j)) ≤ size g j
  own_short (Some from) = length_part_le s from (size g j)
  own_short None = omega arith

  pub summed_short : length (summed s g sent j) ≤ size g j
  unfolding summed
  summed_short =
      omega (arith, length_xor (own_blocks s j.own (size g j)) (gathered s g sent j.count j.sum), own_short j.own, length_gathered)

  -- ---- what lies in the image, and the intermediate data

  summed_is : summed s g sent j ≡ in_image s g sent j ⊻ xor_all (int_data g sent j.count j.sources j.sum.int)
  unfolding summed in_image gathered
  summed_is =
      let own = own_blocks s j.own (size g j) in
      let xs = entries_from s g sent j 0 j.sources in
      let ys = int_data g sent j.count j.sources j.sum.int in
      ap (λ (n : ℕ). own ⊻ xor_all (entries_from s g sent j 0 n ++ int_data g sent j.count n j.sum.int)) (sym r.counted)
      ∙ ap (◌⊻◌ own) (xor_all_append xs ys)
      ∙ sym (xor_regroups own (xor_all xs) (xor_all ys))

  module _ (o k : ℕ) (h : o + k ≤ size g j) where
    int_part : (at : ℕ) (int : Bool) → part (xor_all (cond int (part sent at (size g j) ∷ []) [])) o k ≡ cond int (part sent (at + o) k) []
    unfolding xor_all
    int_part at false = part_nil o k
    int_part at true = ap (λ (x : List ℕ). part x o k) (xor_all_one (part sent at (size g j))) ∙ part_part sent at (size g j) o k h

    -- a piece of the XOR is the XOR of the pieces
    pub piece_is : part (summed s g sent j) o k ≡ part (in_image s g sent j) o k ⊻ int_piece j.sum.int sent (8 + 8 * j.sources + o) k
    unfolding int_piece
    piece_is =
        ap (λ (x : List ℕ). part x o k) summed_is
        ∙ part_xor (in_image s g sent j) (xor_all (int_data g sent j.count j.sources j.sum.int)) o k
        ∙ ap (◌⊻◌ (part (in_image s g sent j) o k)) (int_part (8 + 8 * j.sources) j.sum.int)

    -- what lies in the image, and then the intermediate data
    pub piece_done : (a b : List ℕ) → a ≡ part (in_image s g sent j) o k → b ≡ a ⊻ int_piece j.sum.int sent (8 + 8 * j.sources + o) k
        → b ≡ part (summed s g sent j) o k
    piece_done a b ae be = be ∙ ap (λ (x : List ℕ). x ⊻ int_piece j.sum.int sent (8 + 8 * j.sources + o) k) ae ∙ sym piece_is

-- The plain path: how the code goes on from source entry to source entry.
use Prim.Native.Nat.{ℕ, zero, suc, ◌+◌, ◌-◌, ◌≤◌}
use native.Mathlib.Omega.{arith}
use Rattle.std.specs.Prelude.{◌≡◌, refl, Bool, true, false, length, take, drop, Option, Some, None}
use Rattle.std.proofs.Math.Path.{sym, ap, ap₂}
use Rattle.std.proofs.Common.{◌∙◌}
use mathlib.Core.List.{List}
use Rattle.octets.specs.Part.{part, length_part, part_part, part_nil}
use Rattle.octets.specs.Xor.{◌⊻◌, xor_nil, nil_xor, xor_regroups, zeros_xor, part_xor}
use Rattle.octets.specs.Operands.{xor_all}
use Rattle.geometry.specs.declared.Geometry.{Geometry}
use Rattle.command.specs.Command.{source_of}
use Rattle.meaning.specs.Acts.{start_of, source_blocks, sources_from}
use Rattle.gather.specs.declared.Job.{Job}
use Rattle.gather.specs.Job.{size, own_blocks, Readable}
use Rattle.gather.specs.Pieces.{entries_from, in_image, seed_piece, int_piece}
use Rattle.gather.specs.Whole.{entries_long}

-- ---- the intermediate data

module _ (acc : List ℕ) (int : Bool) (sent : List ℕ) (at o k : ℕ) where
  pub int_none : int ≡ false → acc ≡ acc ⊻ int_piece int sent (at + o) k
  unfolding int_piece
  int_none e = rw e (sym (xor_nil acc))

  -- `&sent[at..]`, from its byte o on
  pub int_add : (b : List ℕ) → int ≡ true → o + k ≤ length sent - at
      → b ≡ acc ⊻ part (take (length sent - at) (drop at sent)) o k → b ≡ acc ⊻ int_piece int sent (at + o) k
  unfolding int_piece part
  int_add b t h e = e ∙ rw t (ap (◌⊻◌ acc) (part_part sent at (length sent - at) o k h))

-- ---- the sources

module _ (s : List ℕ) (g : Geometry) (sent : List ℕ) (j : Job) (o k : ℕ) where
  -- none is left
  pub rest_end : (i left : ℕ) (acc : List ℕ) → left ≡ 0 → acc ≡ acc ⊻ part (xor_all (entries_from s g sent j i left)) o k
  unfolding sources_from xor_all
  rest_end i left acc e = rw e (rw part_nil (sym (xor_nil acc)))

  -- one of them, then the others
  pub rest_more : (i left at : ℕ) (acc a b : List ℕ) → o + k ≤ size g j → (left ≡ 0 → ⊥) → at ≡ start_of s g j.sum.came (source_of sent i)
      → a ≡ acc ⊻ part s (at + o) k → length a ≡ k → b ≡ a ⊻ part (xor_all (entries_from s g sent j (i + 1) (left - 1))) o (length a)
      → b ≡ acc ⊻ part (xor_all (entries_from s g sent j i left)) o k
  unfolding sources_from xor_all
  rest_more i zero at acc a b h some pe ae l be = absurd (some refl)
  rest_more i (suc left) at acc a b h some pe ae l be =
      let start = start_of s g j.sum.came (source_of sent i) in
      let rest = xor_all (entries_from s g sent j (i + 1) left) in
      let one : suc left - 1 ≡ left = omega arith in
      let blocks : part (source_blocks s g j.sum.came sent j.count i) o k ≡ part s (start + o) k = part_part s start (size g j) o k h in
      be
      ∙ ap₂ (λ (m n : ℕ). a ⊻ part (xor_all (entries_from s g sent j (i + 1) m)) o n) one l
      ∙ ap (λ (y : List ℕ). y ⊻ part rest o k) (ae ∙ ap (λ (p : ℕ). acc ⊻ part s (p + o) k) pe ∙ ap (◌⊻◌ acc) (sym blocks))
      ∙ xor_regroups acc (part (source_blocks s g j.sum.came sent j.count i) o k) (part rest o k)
      ∙ ap (◌⊻◌ acc) (sym (part_xor (source_blocks s g j.sum.came sent j.count i) rest o k))

-- ---- all of them: zeros are no operand

module _ (s : List ℕ) (g : Geometry) (sent : List ℕ) (j : Job) (r : Readable s g sent j) (o k : ℕ) (h : o + k ≤ size g j) where
  seed_is : (v : List ℕ) (own : Option ℕ) → size g j ≤ length v → seed_piece s own o k ⊻ part v o k ≡ part (own_blocks s own (size g j) ⊻ v) o k
  unfolding seed_piece
  seed_is v (Some from) l =
      ap (λ (x : List ℕ). x ⊻ part v o k) (sym (part_part s from (size g j) o k h)) ∙ sym (part_xor (part s from (size g j)) v o k)
  seed_is v None l = zeros_xor (part v o k) k (omega (arith, length_part v o k (omega arith))) ∙ ap (λ (x : List ℕ). part x o k) (sym (nil_xor v))

  pub in_turn_lem : (a b : List ℕ) → a ≡ seed_piece s j.own o k → length a ≡ k
      → b ≡ a ⊻ part (xor_all (entries_from s g sent j 0 j.sources)) o (length a) → b ≡ part (in_image s g sent j) o k
  unfolding in_image
  in_turn_lem a b ae l be =
      let v = xor_all (entries_from s g sent j 0 j.sources) in
      be
      ∙ ap₂ (λ (x : List ℕ) (n : ℕ). x ⊻ part v o n) ae l
      ∙ seed_is v j.own (entries_long s g sent j r 0 j.sources r.some_source (omega arith))

-- Every other drive once: where a row's sum is zero, the XOR of their blocks is the block of the one left out.
use Prim.Native.Nat.{ℕ, zero, suc, ◌≤◌, ◌<◌}
use Rattle.std.proofs.Common.{not-suc-le-zero, arith, sym, ap₂, ◌∙◌, eq-eqb, ne_eqb}
use Rattle.std.specs.Prelude.{true, false, cond, ◌≡◌, eqb, length, replicate}
use Rattle.std.proofs.Math.Path.{refl, ap}
use Rattle.std.proofs.Math.Logic.{⊎_elim}
use mathlib.Core.List.Permᴰ
use mathlib.Core.List.{List, [], ◌∷◌, map, Permᴰ}
use Rattle.std.proofs.lemmas.Bool.{eqb-false}
use Rattle.octets.specs.Xor.{◌⊻◌, length_xor, xor_commutes, xor_swaps, xor_cancels, zeros_xor}
use Rattle.octets.specs.Operands.{xor_all, xor_all_perm}
use Rattle.folds.specs.Cases.{either, last_or_below}
use Rattle.folds.specs.Each.{EachIs, each_implies}
use Rattle.geometry.specs.declared.Geometry.{Geometry}
use Rattle.sums.specs.Counts.{added_block}
use Rattle.sums.specs.Row.{block_in, summed_to, row_sum}

-- the drives below n but drive d
abbrev pub others : ℕ → ℕ → List ℕ
others zero d = []
others (suc n) d = cond (eqb n d) (others n d) (n ∷ others n d)

-- another drive of a shelf of n
abbrev pub Other : ℕ → ℕ → ℕ → Type 0
Other n d e = (e < n) × (e ≡ d → ⊥)

pub others_each : (n d : ℕ) → EachIs (Other n d) (others n d)
others_each zero d = tt
others_each (suc n) d =
    let rest = each_implies (Other n d) (Other (suc n) d) (λ e o. (omega (arith, o.0), o.1)) (others n d) (others_each n d) in
    ⊎_elim (λ (t : eqb n d ≡ true). rw t rest) (λ (t : eqb n d ≡ false). rw t ((omega arith, eqb-false n d t), rest)) (either (eqb n d))

length_all : (n d : ℕ) → n ≤ d → length (others n d) ≡ n
length_all zero d l = refl
length_all (suc n) d l = rw (ne_eqb n d (λ q. omega arith)) (ap suc (length_all n d (omega arith)))

pub length_others : (n d : ℕ) → d < n → suc (length (others n d)) ≡ n
length_others zero d l = absurd (not-suc-le-zero l)
length_others (suc n) d l =
    ⊎_elim (λ (q : d ≡ n). rw (eq-eqb n d (sym q)) (ap suc (length_all n d (omega arith))))
    (λ (h : d < n). rw (ne_eqb n d (λ q. omega arith)) (ap suc (length_others n d h)))
    (last_or_below l)

-- ---- the XOR of the others' blocks

module _ (m : List ℕ) (g : Geometry) (r : ℕ) where
  abbrev all : List ℕ → List ℕ
  all es = xor_all (map (block_in m g r) es)

  below : (n d : ℕ) → n ≤ d → summed_to m g r n ≡ all (others n d)
  unfolding summed_to xor_all
  below zero d l = refl
  below (suc n) d l =
      rw (ne_eqb n d (λ q. omega arith))
      (ap₂ ◌⊻◌ (below n d (omega arith)) (added_block m g r n) ∙ xor_commutes (all (others n d)) (block_in m g r n))

  above : (n d : ℕ) → d < n → summed_to m g r n ≡ all (others n d) ⊻ block_in m g r d
  unfolding summed_to xor_all
  above zero d l = absurd (not-suc-le-zero l)
  above (suc n) d l =
      ⊎_elim
      (λ (q : d ≡ n). rw (eq-eqb n d (sym q)) (ap₂ ◌⊻◌ (below n d (omega arith)) (added_block m g r n ∙ ap (block_in m g r) (sym q))))
      (λ (h : d < n). rw (ne_eqb n d (λ q. omega arith))
      (ap₂ ◌⊻◌ (above n d h) (added_block m g r n)
      ∙ xor_swaps (all (others n d)) (block_in m g r d) (block_in m g r n)
      ∙ ap (λ (o : List ℕ). o ⊻ block_in m g r d) (xor_commutes (all (others n d)) (block_in m g r n))))
      (last_or_below l)

  sum_split : (d : ℕ) → d < g.d → row_sum m g r ≡ replicate g.l 0 ⊻ (all (others g.d d) ⊻ block_in m g r d)
  unfolding row_sum
  sum_split d l = ap (◌⊻◌ (replicate g.l 0)) (above g.d d l)

  -- a zero sum, every other drive once in any order
  pub left_out : (d : ℕ) (es : List ℕ) → d < g.d → Permᴰ es (others g.d d) → row_sum m g r ≡ replicate g.l 0
      → length (block_in m g r d) ≡ g.l → length (all es) ≡ g.l → all es ≡ block_in m g r d
  left_out d es l p z lb la =
      let e : all es ≡ all (others g.d d) = xor_all_perm (Permᴰ.map (block_in m g r) p) in
      let both = all es ⊻ block_in m g r d in
      let whole : both ≡ replicate g.l 0 =
      sym (zeros_xor both g.l (omega (arith, length_xor (all es) (block_in m g r d))))
      ∙ ap (λ (o : List ℕ). replicate g.l 0 ⊻ (o ⊻ block_in m g r d)) e
      ∙ sym (sum_split d l)
      ∙ z in
      sym (xor_cancels (all es) (block_in m g r d) (omega arith))
      ∙ ap (λ (o : List ℕ). o ⊻ block_in m g r d) whole
      ∙ zeros_xor (block_in m g r d) g.l (omega arith)

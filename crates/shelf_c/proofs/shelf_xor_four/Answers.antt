-- `shelf_c::shelf_xor_four` meets its contract: the equation of the leaf with four operands, over the front that all have.
use mathlib.Core.Path.{◌≡◌, sym, ap, ap₂, ◌∙◌}
use mathlib.Core.List.{List, [], ◌∷◌, ◌++◌}
use mathlib.Core.Logic.{◌⊎◌, inl, inr}
use Prim.Native.Nat.{ℕ, ◌≤◌, min}
use native.Mathlib.Omega.{arith}
use lib.ListN.{length, take, drop}
use Rattle.octets.specs.Part.{part}
use Rattle.octets.specs.Xor.{◌⊻◌, xor_commutes, xor_regroups}
use Rattle.octets.specs.Operands.{xor_all, parts_of}
use Rattle.shelf_c.specs.Blocks.{common, front_all, xored_all}
use Rattle.shelf_c.proofs.shelf_xor_four.Goals as goal

-- the order of the first two does not matter
in_order : (into a b c d s l : List ℕ) → ((s ≡ a) × (l ≡ b)) ⊎ ((s ≡ b) × (l ≡ a)) → xored_all into (s ∷ l ∷ c ∷ d ∷ []) ≡ xored_all into (a ∷ b ∷ c ∷ d ∷ [])
unfolding common xor_all
in_order into a b c d s l (inl (p, q)) = rw (p, q)
in_order into a b c d s l (inr (p, q)) =
    let r = c ⊻ (d ⊻ []) in
    let k = min (length c) (min (length d) (length into)) in
    let bytes : s ⊻ (l ⊻ r) ≡ l ⊻ (s ⊻ r) = sym (xor_regroups s l r) ∙ ap (λ (v : List ℕ). v ⊻ r) (xor_commutes s l) ∙ xor_regroups l s r in
    let long : min (length s) (min (length l) k) ≡ min (length l) (min (length s) k) = omega arith in
    ap₂ (λ (v : List ℕ) (n : ℕ). into ⊻ part v 0 n) bytes long ∙ rw (p, q)

-- the tests leave as many bytes as all have
all_have : (into s l c d : List ℕ) (two three n : ℕ) → length s ≤ length l → two ≡ min (length d) (length into) → three ≡ min (length c) two
    → n ≡ min (length s) three → n ≡ common into (s ∷ l ∷ c ∷ d ∷ [])
unfolding common
all_have into s l c d two three n h e f g = omega arith

xored_by : (into a b c d s l out : List ℕ) (two three n : ℕ) → length s ≤ length l → ((s ≡ a) × (l ≡ b)) ⊎ ((s ≡ b) × (l ≡ a))
    → two ≡ min (length d) (length into) → three ≡ min (length c) two → n ≡ min (length s) three
    → out ≡ take n into ⊻ xor_all (parts_of 0 n (s ∷ l ∷ c ∷ d ∷ [])) → out ++ drop n into ≡ xored_all into (a ∷ b ∷ c ∷ d ∷ [])
xored_by into a b c d s l out two three n h o e f g x =
    let four = s ∷ l ∷ c ∷ d ∷ [] in
    front_all into four out n x
    ∙ ap (λ (k : ℕ). into ⊻ part (xor_all four) 0 k) (all_have into s l c d two three n h e f g)
    ∙ in_order into a b c d s l o

pub returns : goal.returns
unfolding part parts_of
returns c =
    let a = c.args in
    let first = c.shorter_first in
    xored_by a.into.now a.a.now a.b.now a.c.now a.d.now first.result.0.now first.result.1.now _ _ _ _ first.ensures.shorter first.ensures.both
    c.least-two.ensures c.least-three.ensures c.least-n.ensures c.xor_four_into.ensures

-- Ranges that adjoin: what each of them has, all blocks have.
use Rattle.std.specs.Prelude.{ℕ, ◌+◌, ◌*◌, ◌≤◌, ◌<◌, ◌⊎◌, ◌≡◌}
use Rattle.std.proofs.Common.{add-mul, arith, inl, inr, ⊎_elim, ap, subst, ◌∙◌}
use mathlib.Core.List.Permᴰ
use mathlib.Core.List.{List, [], ◌∷◌, map, Permᴰ}
use Rattle.folds.specs.Cases.{order}
use Rattle.folds.specs.Each.{EachIs, each_back, each_map, perm_each}
use Rattle.divided.specs.InParts.{Extent, Adjoining}
use Rattle.divided.specs.Adjoin.{Within, OnBytes}

adjoining_within : (o n : ℕ) (ps : List Extent) → Adjoining o n ps → (o ≤ n) × EachIs (Within n) ps
adjoining_within o n [] e = (omega arith, tt)
adjoining_within o n (p ∷ ps) (e, h) = let w = adjoining_within (o + p.count) n ps h in (omega (arith, w.0), (omega (arith, w.0), w.1))

-- what holds up to the end of each holds up to the end of all
pub adjoining_end : (P : ℕ → Type 0) (o n : ℕ) (ps : List Extent) → Adjoining o n ps → EachIs (λ p. P (p.from + p.count)) ps → (o ≡ n) ⊎ P n
adjoining_end P o n [] e h = inl e
adjoining_end P o n (p ∷ ps) (e, a) h =
    ⊎_elim (λ z. inr (subst P (ap (λ (k : ℕ). k + p.count) e ∙ z) h.0)) (λ z. inr z) (adjoining_end P (o + p.count) n ps a h.1)

adjoining_bytes : (P : ℕ → Type 0) (l o n : ℕ) (ps : List Extent) → Adjoining o n ps → EachIs (OnBytes P l) ps → (j : ℕ) → o * l ≤ j → j < n * l → P j
adjoining_bytes P l o n [] e h j lo hi = absurd (let z : o * l ≡ n * l = ap (λ (k : ℕ). k * l) e in omega arith)
adjoining_bytes P l o n (p ∷ ps) (e, a) h j lo hi =
    let z : p.from * l ≡ o * l = ap (λ (k : ℕ). k * l) e in
    ⊎_elim (λ i. h.0 j (omega arith) (omega arith))
    (λ i. adjoining_bytes P l (o + p.count) n ps a h.1 j (omega (arith, add-mul o p.count l)) hi)
    (order j (o * l + p.count * l))

-- ---- of things that have a range, in whatever order ps they stand

module _ (n : ℕ) {C : Type 0} (range : C → Extent) (ps qs : List C) (order : Permᴰ qs ps) (adjoin : Adjoining 0 n (map range qs)) where
  pub all_within : EachIs (λ p. Within n (range p)) ps
  all_within = each_back range (Within n) _ (λ p h. h) ps (perm_each (Within n) (Permᴰ.symm (Permᴰ.map range order)) (adjoining_within 0 n (map range qs) adjoin).1)

  pub all_bytes : (P : ℕ → Type 0) (l : ℕ) → EachIs (λ p. OnBytes P l (range p)) ps → (j : ℕ) → j < n * l → P j
  all_bytes P l h j i = adjoining_bytes P l 0 n (map range qs) adjoin (each_map range (λ p. OnBytes P l (range p)) (OnBytes P l) (λ p q. q) qs (perm_each _ order h)) j (omega arith) i

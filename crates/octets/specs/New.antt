-- A number that none of those before it is, and the list in which those are kept.
use Rattle.std.specs.Prelude.{ℕ, ◌+◌, ◌<◌, List, Bool, not, ◌≡◌, eqb, length, get_or, set}
use Rattle.std.proofs.Common.{add-one, arith, ⊎_elim, ap₂, ◌∙◌, get_or-set_same, get_or-set_other}
use Rattle.folds.specs.Cases.{last_or_below}
use Rattle.folds.specs.All.{all_below, all_ext}

-- x is none of the first n numbers of xs
abbrev pub new_to : List ℕ → ℕ → ℕ → Bool
new_to xs n x = all_below n (λ i. not (eqb (get_or xs i 0) x))

-- xs begins with the first n values of f
abbrev pub Begins : List ℕ → (ℕ → ℕ) → ℕ → Type 0
Begins xs f n = (i : ℕ) → i < n → get_or xs i 0 ≡ f i

module _ (xs : List ℕ) (f : ℕ → ℕ) (n x : ℕ) (h : Begins xs f n) (e : x ≡ f n) where
  pub new_is : new_to xs n x ≡ all_below n (λ i. not (eqb (f i) (f n)))
  new_is = all_ext _ _ n (λ i l. ap₂ (λ (a b : ℕ). not (eqb a b)) (h i l) e)

  pub begins_more : (ys : List ℕ) → n < length xs → ys ≡ set xs n x → Begins ys f (n + 1)
  begins_more ys l q i li =
      rw q
      (⊎_elim (λ (s : i ≡ n). rw s (get_or-set_same xs n x 0 l ∙ e)) (λ k. get_or-set_other xs n i x 0 (λ (s : i ≡ n). omega arith) ∙ h i k)
      (last_or_below (rw add-one at li)))

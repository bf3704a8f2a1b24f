-- A test of every element of a list, as an iterator's `all` goes through them, and as `all_below` counts them.
use Rattle.std.specs.Prelude.{ℕ, zero, suc, Bool, ◌&&◌, List, [], ◌∷◌, ◌≡◌, refl, length, get_or}
use Rattle.std.specs.List.{list_all}
use Rattle.std.proofs.Common.{sym, ap, ◌∙◌}
use Rattle.std.proofs.Math.Bool.{and-true, and_assoc}
use Rattle.folds.specs.All.{all_below}

all_front : (n : ℕ) (p : ℕ → Bool) → all_below (suc n) p ≡ (p 0 && all_below n (λ j. p (suc j)))
unfolding all_below
all_front zero p = sym (and-true (p 0))
all_front (suc n) p = ap (λ (b : Bool). b && p (suc n)) (all_front n p) ∙ and_assoc (p 0) (all_below n (λ j. p (suc j))) (p (suc n))

pub all_elements : (p : ℕ → Bool) (xs : List ℕ) → list_all p xs ≡ all_below (length xs) (λ j. p (get_or xs j 0))
unfolding all_below
all_elements p [] = refl
all_elements p (x ∷ xs) = ap (λ (b : Bool). p x && b) (all_elements p xs) ∙ sym (all_front (length xs) (λ j. p (get_or (x ∷ xs) j 0)))

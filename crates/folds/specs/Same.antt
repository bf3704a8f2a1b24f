-- Whether two lists are one.
use Rattle.std.specs.Prelude.{ℕ, Bool, true, ◌&&◌, List, ◌≡◌, refl, eqb, length, get_or}
use Rattle.std.proofs.Math.Bool.{and-eq-true_iff}
use Rattle.std.proofs.Common.{ext_get_or, eqb-true, eq-eqb}
use Rattle.folds.specs.All.{all_below, all_at, all_intro}

-- of one length, and the same number at every place
unfoldable pub same_list : List ℕ → List ℕ → Bool
same_list xs ys = eqb (length xs) (length ys) && all_below (length xs) (λ j. eqb (get_or xs j 0) (get_or ys j 0))

pub same_list_lem : (xs ys : List ℕ) → same_list xs ys ≡ true → xs ≡ ys
unfolding same_list
same_list_lem xs ys h =
    let both = (and-eq-true_iff (eqb (length xs) (length ys)) (all_below (length xs) (λ j. eqb (get_or xs j 0) (get_or ys j 0)))).0 h in
    ext_get_or 0 xs ys (eqb-true _ _ both.0) (λ i l. eqb-true _ _ (all_at (λ j. eqb (get_or xs j 0) (get_or ys j 0)) (length xs) i both.1 l))

pub same_self : (xs : List ℕ) → same_list xs xs ≡ true
unfolding same_list
same_self xs =
    (and-eq-true_iff (eqb (length xs) (length xs)) (all_below (length xs) (λ j. eqb (get_or xs j 0) (get_or xs j 0)))).1
    (eq-eqb (length xs) (length xs) refl, all_intro (λ j. eqb (get_or xs j 0) (get_or xs j 0)) (length xs) (λ i l. eq-eqb (get_or xs i 0) (get_or xs i 0) refl))

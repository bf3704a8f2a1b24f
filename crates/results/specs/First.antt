-- The first element of a list that passes a test, and the rest of the list.
use Rattle.std.specs.Prelude.{◌≡◌, Bool, true, false, cond, leb, Option, Some, None, option_map}
use Rattle.std.proofs.Math.Path.{refl, ap}
use Rattle.std.proofs.Common.{sym, ◌∙◌}
use Rattle.std.proofs.Math.Logic.{⊎_elim}
use mathlib.Core.List.{List, [], ◌∷◌, map, Memᴰ}
use Rattle.folds.specs.Cases.{either, none_apart, some_same}

module _ {A : Type 0} where
  unfoldable pub first_of : (A → Bool) → List A → Option A
  first_of p [] = None
  first_of p (x ∷ xs) = cond (p x) (Some x) (first_of p xs)

  -- all but the first that passes
  unfoldable pub sans_first : (A → Bool) → List A → List A
  sans_first p [] = []
  sans_first p (x ∷ xs) = cond (p x) xs (x ∷ sans_first p xs)

-- of 1, 3 and 2, the first that is at least 2
first_of_lem : first_of (leb 2) (1 ∷ 3 ∷ 2 ∷ []) ≡ Some 3
unfolding first_of
first_of_lem = refl

module _ {A : Type 0} (p : A → Bool) where
  pub first_hit : (x : A) (xs : List A) → p x ≡ true → first_of p (x ∷ xs) ≡ Some x
  unfolding first_of
  first_hit x xs h = rw h

  pub first_miss : (x : A) (xs : List A) → p x ≡ false → first_of p (x ∷ xs) ≡ first_of p xs
  unfolding first_of
  first_miss x xs h = rw h

  pub sans_hit : (x : A) (xs : List A) → p x ≡ true → sans_first p (x ∷ xs) ≡ xs
  unfolding sans_first
  sans_hit x xs h = rw h

  pub sans_miss : (x : A) (xs : List A) → p x ≡ false → sans_first p (x ∷ xs) ≡ x ∷ sans_first p xs
  unfolding sans_first
  sans_miss x xs h = rw h

  -- none passes
  pub first_none : (xs : List A) → ((x : A) → Memᴰ x xs → p x ≡ false) → first_of p xs ≡ None
  unfolding first_of
  first_none [] h = refl
  first_none (x ∷ xs) h = first_miss x xs (h x (Memᴰ.head refl)) ∙ first_none xs (λ y m. h y (Memᴰ.tail m))

  -- what is found passes
  pub first_passes : (xs : List A) (y : A) → first_of p xs ≡ Some y → p y ≡ true
  unfolding first_of
  first_passes [] y e = absurd (none_apart y e)
  first_passes (x ∷ xs) y e =
      ⊎_elim (λ t. ap p (sym (some_same x y (sym (first_hit x xs t) ∙ e))) ∙ t)
      (λ q. first_passes xs y (sym (first_miss x xs q) ∙ e))
      (either (p x))

-- the same of a list's images, where the tests agree
module _ {A B : Type 0} (f : A → B) (p : B → Bool) (q : A → Bool) where
  pub first_map : (xs : List A) → ((x : A) → Memᴰ x xs → p (f x) ≡ q x) → first_of p (map f xs) ≡ option_map f (first_of q xs)
  unfolding first_of
  first_map [] h = refl
  first_map (x ∷ xs) h =
      let e : p (f x) ≡ q x = h x (Memᴰ.head refl) in
      ⊎_elim (λ t. first_hit p (f x) (map f xs) (e ∙ t) ∙ ap (option_map f) (sym (first_hit q x xs t)))
      (λ t. first_miss p (f x) (map f xs) (e ∙ t) ∙ first_map xs (λ y m. h y (Memᴰ.tail m)) ∙ ap (option_map f) (sym (first_miss q x xs t)))
      (either (q x))

  pub sans_map : (xs : List A) → ((x : A) → Memᴰ x xs → p (f x) ≡ q x) → sans_first p (map f xs) ≡ map f (sans_first q xs)
  unfolding sans_first
  sans_map [] h = refl
  sans_map (x ∷ xs) h =
      let e : p (f x) ≡ q x = h x (Memᴰ.head refl) in
      ⊎_elim (λ t. sans_hit p (f x) (map f xs) (e ∙ t) ∙ ap (map f) (sym (sans_hit q x xs t)))
      (λ t. sans_miss p (f x) (map f xs) (e ∙ t)
      ∙ ap (λ (r : List B). f x ∷ r) (sans_map xs (λ y m. h y (Memᴰ.tail m)))
      ∙ ap (map f) (sym (sans_miss q x xs t)))
      (either (q x))

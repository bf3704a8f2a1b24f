-- The elements of a list that pass a test.
use Rattle.std.specs.Prelude.{◌≡◌, Bool, true, false, cond}
use Rattle.std.proofs.Math.Path.{refl, ap₂}
use Rattle.std.proofs.Common.{sym, ap, ◌∙◌}
use mathlib.Core.List.{List, [], ◌∷◌, map, Memᴰ}
use Rattle.folds.specs.Cases.{on_test}

module _ {A : Type 0} where
  -- those that pass, in order
  unfoldable pub keeping : (A → Bool) → List A → List A
  keeping p [] = []
  keeping p (x ∷ xs) = cond (p x) (x ∷ keeping p xs) (keeping p xs)

  module _ (p : A → Bool) where
    pub keep_none : keeping p [] ≡ []
    unfolding keeping
    keep_none = refl

    pub keep_hit : (x : A) (xs : List A) → p x ≡ true → keeping p (x ∷ xs) ≡ x ∷ keeping p xs
    unfolding keeping
    keep_hit x xs h = rw h

    pub keep_miss : (x : A) (xs : List A) → p x ≡ false → keeping p (x ∷ xs) ≡ keeping p xs
    unfolding keeping
    keep_miss x xs h = rw h

    -- all pass
    pub keep_all : (xs : List A) → ((x : A) → Memᴰ x xs → p x ≡ true) → keeping p xs ≡ xs
    keep_all [] h = keep_none
    keep_all (x ∷ xs) h =
        keep_hit x xs (h x (Memᴰ.head refl)) ∙ ap (λ (r : List A). x ∷ r) (keep_all xs (λ y m. h y (Memᴰ.tail m)))

-- leaving out before what is left out after changes nothing
pub keep_keep : {A B : Type 0} (f : A → B) (p : B → Bool) (q : A → Bool) (xs : List A) → ((x : A) → q x ≡ false → p (f x) ≡ false)
    → keeping p (map f (keeping q xs)) ≡ keeping p (map f xs)
unfolding keeping
keep_keep f p q [] h = refl
keep_keep {A} {B} f p q (x ∷ xs) h =
    let rest : keeping p (map f (keeping q xs)) ≡ keeping p (map f xs) = keep_keep f p q xs h in
    on_test (λ (r : List A). keeping p (map f r) ≡ keeping p (map f (x ∷ xs))) (q x)
    (λ t. ap (λ (r : List B). cond (p (f x)) (f x ∷ r) r) rest) (λ e. rest ∙ sym (keep_miss p (f x) (map f xs) (h x e)))

-- two functions that agree on the elements of a list, and on those of them that pass
module _ {A B : Type 0} (f g : A → B) where
  pub map_same : (xs : List A) → ((x : A) → Memᴰ x xs → f x ≡ g x) → map f xs ≡ map g xs
  map_same [] h = refl
  map_same (x ∷ xs) h = ap₂ (λ (y : B) (r : List B). y ∷ r) (h x (Memᴰ.head refl)) (map_same xs (λ y m. h y (Memᴰ.tail m)))

  pub map_keeping : (p : A → Bool) (xs : List A) → ((x : A) → Memᴰ x xs → p x ≡ true → f x ≡ g x)
      → map f (keeping p xs) ≡ map g (keeping p xs)
  unfolding keeping
  map_keeping p [] h = refl
  map_keeping p (x ∷ xs) h =
      let rest : map f (keeping p xs) ≡ map g (keeping p xs) = map_keeping p xs (λ y m. h y (Memᴰ.tail m)) in
      on_test (λ (r : List A). map f r ≡ map g r) (p x) (λ t. ap₂ (λ (y : B) (r : List B). y ∷ r) (h x (Memᴰ.head refl) t) rest) (λ e. rest)

-- What each element of a list has.
use Rattle.std.specs.Prelude.{ℕ, zero, suc, ◌<◌, ◌≡◌, refl, length, get_or}
use Rattle.std.proofs.Common.{not-suc-le-zero, arith, sym, ap, subst, ◌∙◌}
use mathlib.Core.List.{List, [], ◌∷◌, ◌++◌, map, Memᴰ, Permᴰ}

module _ {A : Type 0} where
  -- each element has P, as nested pairs
  abbrev pub EachIs : (A → Type 0) → List A → Type 0
  EachIs P [] = Unit {0}
  EachIs P (x ∷ xs) = P x × EachIs P xs

  module _ (P : A → Type 0) where
    -- the element at place i, and one that is known to be there
    pub each_at : (xs : List A) (x : A) → EachIs P xs → (i : ℕ) → i < length xs → P (get_or xs i x)
    each_at [] x h i l = absurd (not-suc-le-zero l)
    each_at (y ∷ ys) x h zero l = h.0
    each_at (y ∷ ys) x h (suc i) l = each_at ys x h.1 i (omega arith)

    pub each_mem : (xs : List A) → EachIs P xs → (x : A) → Memᴰ x xs → P x
    each_mem [] h x m = elim m [ ]
    each_mem (y ∷ ys) h x (Memᴰ.head e) = subst P (sym e) h.0
    each_mem (y ∷ ys) h x (Memᴰ.tail m) = each_mem ys h.1 x m

    pub each_append : (xs ys : List A) → EachIs P xs → EachIs P ys → EachIs P (xs ++ ys)
    each_append [] ys h k = k
    each_append (x ∷ xs) ys h k = (h.0, each_append xs ys h.1 k)

    pub each_both : (xs ys : List A) → EachIs P (xs ++ ys) → EachIs P xs × EachIs P ys
    each_both [] ys h = (tt, h)
    each_both (x ∷ xs) ys h = let q = each_both xs ys h.1 in ((h.0, q.0), q.1)

    -- what has P has Q
    pub each_implies : (Q : A → Type 0) → ((x : A) → P x → Q x) → (xs : List A) → EachIs P xs → EachIs Q xs
    each_implies Q e [] h = tt
    each_implies Q e (x ∷ xs) h = (e x h.0, each_implies Q e xs h.1)

-- what has P goes to what has Q, and what goes to what has P has Q
pub each_map : {A B : Type 0} (f : A → B) (P : A → Type 0) (Q : B → Type 0) → ((x : A) → P x → Q (f x)) → (xs : List A) → EachIs P xs → EachIs Q (map f xs)
each_map f P Q e [] h = tt
each_map f P Q e (x ∷ xs) h = (e x h.0, each_map f P Q e xs h.1)

pub each_back : {A B : Type 0} (f : A → B) (P : B → Type 0) (Q : A → Type 0) → ((x : A) → P (f x) → Q x) → (xs : List A) → EachIs P (map f xs) → EachIs Q xs
each_back f P Q e [] h = tt
each_back f P Q e (x ∷ xs) h = (e x h.0, each_back f P Q e xs h.1)

-- ---- in another order

module _ {A : Type 0} where
  pub perm_length : {xs ys : List A} → Permᴰ xs ys → length xs ≡ length ys
  perm_length Permᴰ.nil = refl
  perm_length (Permᴰ.cons e p) = ap suc (perm_length p)
  perm_length (Permᴰ.swap d e) = refl
  perm_length (Permᴰ.trans p q) = perm_length p ∙ perm_length q

  pub perm_each : (P : A → Type 0) {xs ys : List A} → Permᴰ xs ys → EachIs P ys → EachIs P xs
  perm_each P Permᴰ.nil h = tt
  perm_each P (Permᴰ.cons e p) h = (subst P (sym e) h.0, perm_each P p h.1)
  perm_each P (Permᴰ.swap d e) h = (subst P (sym d) h.1.0, (subst P (sym e) h.0, h.1.1))
  perm_each P (Permᴰ.trans p q) h = perm_each P p (perm_each P q h)

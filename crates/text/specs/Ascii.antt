-- Text in a list of bytes, and the bytes that it lacks.
use Rattle.std.specs.Prelude.{ℕ, Bool, true, false, not, ◌&&◌, ◌≡◌, refl, eqb}
use Prim.Native.Char.{code}
use Prim.Native.String.{String, [] as end, ◌∷◌ as ◌then◌}
use Rattle.std.proofs.Math.Bool.{and-eq-true_iff}
use mathlib.Core.List.{List, [], ◌∷◌, ◌++◌, head-eq_of_cons-eq, tail-eq_of_cons-eq}
use Rattle.std.proofs.Common.{sym, ap₂}
use Rattle.std.proofs.lemmas.Bool.{eqb-false, not-true}

-- the code of each character
abbrev pub ascii : String → List ℕ
ascii end = []
ascii (c then s) = code c ∷ ascii s

-- the byte b does not occur in xs
unfoldable pub lacks : ℕ → List ℕ → Bool
lacks b [] = true
lacks b (x ∷ xs) = not (eqb x b) && lacks b xs

pub lacks_cons : (b x : ℕ) (xs : List ℕ) → lacks b (x ∷ xs) ≡ true → (eqb x b ≡ false) × (lacks b xs ≡ true)
unfolding lacks
lacks_cons b x xs h = let both = (and-eq-true_iff (not (eqb x b)) (lacks b xs)).0 h in (not-true (eqb x b) both.0, both.1)

pub lacks_append : (b : ℕ) (xs ys : List ℕ) → lacks b xs ≡ true → lacks b ys ≡ true → lacks b (xs ++ ys) ≡ true
unfolding lacks
lacks_append b [] ys h k = k
lacks_append b (x ∷ xs) ys h k = let w = lacks_cons b x xs h in rw w.0 (lacks_append b xs ys w.1 k)

-- two texts that are one: what stands before the first b, and what after it
pub cut_unique : (b : ℕ) (xs ys us vs : List ℕ) → lacks b xs ≡ true → lacks b ys ≡ true → xs ++ b ∷ us ≡ ys ++ b ∷ vs → (xs ≡ ys) × (us ≡ vs)
cut_unique b [] [] us vs h k e = (refl, tail-eq_of_cons-eq e)
cut_unique b [] (y ∷ ys) us vs h k e = absurd (eqb-false y b (lacks_cons b y ys k).0 (sym (head-eq_of_cons-eq e)))
cut_unique b (x ∷ xs) [] us vs h k e = absurd (eqb-false x b (lacks_cons b x xs h).0 (head-eq_of_cons-eq e))
cut_unique b (x ∷ xs) (y ∷ ys) us vs h k e =
    let r = cut_unique b xs ys us vs (lacks_cons b x xs h).1 (lacks_cons b y ys k).1 (tail-eq_of_cons-eq e) in
    (ap₂ (λ (a : ℕ) (l : List ℕ). a ∷ l) (head-eq_of_cons-eq e) r.0, r.1)

-- The case splits that proofs go by.
use Rattle.std.specs.Prelude.{ℕ, suc, ◌≤◌, ◌<◌, Bool, true, false, cond, ◌≡◌, refl, ◌⊎◌, ltb, eqb, Some, None, unwrap_or, is_none}
use Rattle.std.proofs.Common.{true≢false, ap, le_of_suc-le-suc, eq-or-lt_of_le, arith, sym, inl, inr, ⊎_elim, ltb-true, ltb-false, eqb-true}
use Rattle.std.proofs.lemmas.Bool.{eqb-false}

pub either : (b : Bool) → (b ≡ true) ⊎ (b ≡ false)
either true = inl refl
either false = inr refl

-- the two ways that a test goes
pub on_test : {A : Type 0} (P : A → Type 0) (b : Bool) {x y : A} → (b ≡ true → P x) → (b ≡ false → P y) → P (cond b x y)
on_test P true hit miss = hit refl
on_test P false hit miss = miss refl

pub order : (a b : ℕ) → (a < b) ⊎ (b ≤ a)
order a b = ⊎_elim (λ t. inl (ltb-true a b t)) (λ f. inr (ltb-false a b f)) (either (ltb a b))

pub same : (a b : ℕ) → (a ≡ b) ⊎ (a ≡ b → ⊥)
same a b = ⊎_elim (λ t. inl (eqb-true a b t)) (λ f. inr (eqb-false a b f)) (either (eqb a b))

-- two numbers that differ
pub apart : (a b : ℕ) → (a ≡ b → ⊥) → (a < b) ⊎ (b < a)
apart a b differ = ⊎_elim (λ l. inl l) (λ l. inr (omega arith)) (order a b)

-- a number below n + 1 is n, or below n
pub last_or_below : {n j : ℕ} → j < suc n → (j ≡ n) ⊎ (j < n)
last_or_below l = eq-or-lt_of_le (le_of_suc-le-suc l)

-- two tests that imply each other are one
pub agree : (a b : Bool) → (a ≡ true → b ≡ true) → (b ≡ true → a ≡ true) → a ≡ b
agree true b to from = sym (to refl)
agree false true to from = from refl
agree false false to from = refl

-- what two options hold is one where they are one, and nothing is not something
pub some_same : {A : Type 0} (x y : A) → Some x ≡ Some y → x ≡ y
some_same x y e = ap (λ o. unwrap_or o x) e

pub none_apart : {A : Type 0} (y : A) → None ≡ Some y → ⊥
none_apart y e = true≢false (ap is_none e)

-- What must hold, each test with the place where it is seen: as rules, the first that fails decides.
use Prim.Native.Nat.{ℕ, zero, suc}
use mathlib.Core.List.{List, [], ◌∷◌, ◌++◌}
use Rattle.std.specs.Prelude.{Bool, not, ◌&&◌, ◌≡◌}
use Rattle.std.proofs.Math.Bool.{true, false, cond}
use Rattle.std.proofs.Math.Path.{refl, ap}
use Rattle.std.proofs.Common.{◌∙◌}
use Rattle.folds.specs.Every.{every}
use Rattle.folds.specs.All.{all_below}
use Rattle.rules.specs.Rule.{Rule, rule, first}

pub data Must (P : Type 0) : Type 0 where
  must : P → Bool → Must P

module _ {P : Type 0} where
  abbrev pub tests_of : List (Must P) → List Bool
  tests_of [] = []
  tests_of (must w t ∷ xs) = t ∷ tests_of xs

  -- a rule applies where its test fails
  abbrev pub broken : List (Must P) → List (Rule P (Unit {0}))
  broken [] = []
  broken (must w t ∷ xs) = rule 1 w (not t) tt ∷ broken xs

  -- those of each number below n, one after the other
  abbrev pub each_below : ℕ → (ℕ → List (Must P)) → List (Must P)
  each_below zero f = []
  each_below (suc n) f = each_below n f ++ f n

  -- none applies: every test holds
  pub none_broken : (xs : List (Must P)) → first (λ n w a. false) (broken xs) true ≡ every (tests_of xs)
  unfolding every
  none_broken [] = refl
  none_broken (must w true ∷ xs) = none_broken xs
  none_broken (must w false ∷ xs) = refl

  pub every_either : (b : Bool) (xs ys : List (Must P)) → every (tests_of (cond b xs ys)) ≡ cond b (every (tests_of xs)) (every (tests_of ys))
  every_either true xs ys = refl
  every_either false xs ys = refl

  pub every_both : (xs ys : List (Must P)) → every (tests_of (xs ++ ys)) ≡ cond (every (tests_of xs)) (every (tests_of ys)) false
  unfolding every
  every_both [] ys = refl
  every_both (must w true ∷ xs) ys = every_both xs ys
  every_both (must w false ∷ xs) ys = refl

  pub every_below : (n : ℕ) (f : ℕ → List (Must P)) → every (tests_of (each_below n f)) ≡ all_below n (λ i. every (tests_of (f i)))
  unfolding every all_below
  every_below zero f = refl
  every_below (suc n) f = every_both (each_below n f) (f n) ∙ as_and (every (tests_of (each_below n f))) ∙ ap (λ (b : Bool). b && every (tests_of (f n))) (every_below n f)
    where
      as_and : (b : Bool) → cond b (every (tests_of (f n))) false ≡ (b && every (tests_of (f n)))
      as_and true = refl
      as_and false = refl

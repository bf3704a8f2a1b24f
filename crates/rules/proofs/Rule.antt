-- Laws of lists of rules, of which the first that applies decides.
use Rattle.std.specs.Prelude.{ℕ, zero, suc, ◌<◌, List, [], ◌∷◌, ◌++◌, true, false, cond, ◌≡◌, refl, length, get_or}
use Rattle.std.proofs.Common.{arith, ap}
use Rattle.folds.specs.Each.{each_both}
use Rattle.rules.specs.Rule.{Rule, rule, applies, which, AllPass, stops, first}

module _ {P A : Type 0} where
  -- every rule before the one that decides passes
  pub earlier : (rs : List (Rule P A)) (x : Rule P A) (i : ℕ) → i < which rs → applies (get_or rs i x) ≡ false
  earlier [] x i h = absurd (omega (arith, h))
  earlier (rule n w true a ∷ rs) x i h = absurd (omega (arith, h))
  earlier (rule n w false a ∷ rs) x zero h = refl
  earlier (rule n w false a ∷ rs) x (suc i) h = earlier rs x i (omega (arith, h))

  -- of lists joined none applies where none does of either
  pub pass_both : (rs ss : List (Rule P A)) → AllPass (rs ++ ss) → AllPass rs × AllPass ss
  pass_both rs ss p = each_both (λ r. applies r ≡ false) rs ss p

-- stop makes a decision of a rule that applies
module _ {P A D : Type 0} (stop : ℕ → P → A → D) where
  -- lists joined end to end are stages
  pub first_append : (rs ss : List (Rule P A)) (d : D) → first stop (rs ++ ss) d ≡ first stop rs (first stop ss d)
  first_append [] ss d = refl
  first_append (rule n w b a ∷ rs) ss d = ap (cond b (stop n w a)) (first_append rs ss d)

  -- the rule that decides applies, and its answer is the decision
  pub decides : (rs : List (Rule P A)) (x : Rule P A) (d : D) → which rs < length rs
      → (applies (get_or rs (which rs) x) ≡ true) × (first stop rs d ≡ stops stop (get_or rs (which rs) x))
  decides [] x d h = absurd (omega (arith, h))
  decides (rule n w true a ∷ rs) x d h = (refl, refl)
  decides (rule n w false a ∷ rs) x d h = decides rs x d (omega (arith, h))

  -- where none applies, none decides
  pub none_decides : (rs : List (Rule P A)) (d : D) → AllPass rs → first stop rs d ≡ d
  none_decides [] d h = refl
  none_decides (rule n w b a ∷ rs) d h = rw h.0 (none_decides rs d h.1)

  -- a decision that is no stop: every rule has passed
  pub passed : (rs : List (Rule P A)) (d e : D) → ((n : ℕ) (w : P) (a : A) → stop n w a ≡ e → ⊥) → first stop rs d ≡ e → AllPass rs × (d ≡ e)
  passed [] d e never h = (tt, h)
  passed (rule n w true a ∷ rs) d e never h = absurd (never n w a h)
  passed (rule n w false a ∷ rs) d e never h = let r = passed rs d e never h in ((refl, r.0), r.1)

-- two decisions by one list: what holds of both stops, and of d and e where no rule applies, holds of the two
pub first_both : {P A D E : Type 0} (stop : ℕ → P → A → D) (halt : ℕ → P → A → E) (Q : D → E → Type 0) (rs : List (Rule P A)) (d : D) (e : E)
    → ((n : ℕ) (w : P) (a : A) → Q (stop n w a) (halt n w a)) → (AllPass rs → Q d e) → Q (first stop rs d) (first halt rs e)
first_both stop halt Q [] d e h k = k tt
first_both stop halt Q (rule n w true a ∷ rs) d e h k = h n w a
first_both stop halt Q (rule n w false a ∷ rs) d e h k = first_both stop halt Q rs d e h (λ p. k (refl, p))

-- what holds of every stop, and of d where no rule applies, holds of the decision
pub first_cases : {P A D : Type 0} (stop : ℕ → P → A → D) (Q : D → Type 0) (rs : List (Rule P A)) (d : D)
    → ((n : ℕ) (w : P) (a : A) → Q (stop n w a)) → (AllPass rs → Q d) → Q (first stop rs d)
first_cases stop Q rs d h k = first_both stop stop (λ x y. Q x) rs d d h k

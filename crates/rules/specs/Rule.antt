-- "The first that applies decides": lists of rules, over any type of place, answer and decision.
use Rattle.std.specs.Prelude.{ℕ, suc, List, [], ◌∷◌, Bool, true, false, cond, ◌≡◌, refl}
use Rattle.folds.specs.Each.{EachIs}

-- a check: its number, the place where it is seen, whether it applies, what it then answers
pub data Rule (P A : Type 0) : Type 0 where
  rule : ℕ → P → Bool → A → Rule P A

module _ {P A : Type 0} where
  abbrev pub applies : Rule P A → Bool
  applies (rule n w b a) = b

  -- the place in the list of the first that applies
  abbrev pub which : List (Rule P A) → ℕ
  which [] = 0
  which (rule n w b a ∷ rs) = cond b 0 (suc (which rs))

  -- no rule applies
  abbrev pub AllPass : List (Rule P A) → Type 0
  AllPass rs = EachIs (λ r. applies r ≡ false) rs

-- stop makes a decision of a rule that applies
module _ {P A D : Type 0} (stop : ℕ → P → A → D) where
  abbrev pub stops : Rule P A → D
  stops (rule n w b a) = stop n w a

  -- the first that applies decides, and where none does the decision is d
  abbrev pub first : List (Rule P A) → D → D
  first [] d = d
  first (rule n w b a ∷ rs) d = cond b (stop n w a) (first rs d)

-- of rules 1 to 3 the last two apply, and 2 decides
second : first (λ (n : ℕ) (w a : Bool). n) (rule 1 true false true ∷ rule 2 true true true ∷ rule 3 true true true ∷ []) 0 ≡ 2
second = refl

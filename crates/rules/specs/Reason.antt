-- Why a list of rules decided as it did: the rule that a stop names applies, and no rule before it does.
use Rattle.std.specs.Prelude.{ℕ, ◌<◌, List, true, false, ◌≡◌, length, get_or}
use Rattle.rules.specs.Rule.{Rule, rule, applies}

-- rule n, seen at w, with answer a stands at a place of the list and applies, and none before it does
pub record Reason {P A : Type 0} (rs : List (Rule P A)) (n : ℕ) (w : P) (a : A) : Type 0 where
  pub place : ℕ
  pub there : place < length rs
  pub itself : (x : Rule P A) → get_or rs place x ≡ rule n w true a
  pub before : (x : Rule P A) (i : ℕ) → i < place → applies (get_or rs i x) ≡ false

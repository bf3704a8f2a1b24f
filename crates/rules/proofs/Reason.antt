-- Why a list of rules decided as it did: the rule that a stop names applies, and no rule before it does.
use Rattle.std.specs.Prelude.{ℕ, ◌<◌, List, [], ◌∷◌, true, false, ◌≡◌, refl, ◌⊎◌, length, get_or}
use Rattle.std.proofs.Common.{arith, sym, ◌∙◌, inl, inr, ⊎_elim}
use Rattle.rules.specs.Rule.{Rule, rule, applies, which, AllPass, stops, first}
use Rattle.rules.proofs.Rule.{earlier, decides, none_decides}
use Rattle.rules.specs.Reason.{Reason}

-- some rule applies, or none does
some_or_none : {P A : Type 0} (rs : List (Rule P A)) → (which rs < length rs) ⊎ AllPass rs
some_or_none [] = inr tt
some_or_none (rule n w true a ∷ rs) = inl (omega arith)
some_or_none (rule n w false a ∷ rs) = ⊎_elim (λ l. inl (omega (arith, l))) (λ p. inr (refl, p)) (some_or_none rs)

module _ {P A D : Type 0} (stop : ℕ → P → A → D)
    (apart : (n n' : ℕ) (w w' : P) (a a' : A) → stop n w a ≡ stop n' w' a' → (n ≡ n') × (w ≡ w') × (a ≡ a')) where
  rule_is : (q : Rule P A) (n : ℕ) (w : P) (a : A) → applies q ≡ true → stops stop q ≡ stop n w a → q ≡ rule n w true a
  rule_is (rule n' w' b a') n w a h e = let s = apart n' n w' w a' a e in rw (s.0, s.1, s.2, h)

  -- a stop names its reason, where the decision behind the list is none
  pub reason : (rs : List (Rule P A)) (d : D) (n : ℕ) (w : P) (a : A) → (AllPass rs → d ≡ stop n w a → ⊥) → first stop rs d ≡ stop n w a → Reason rs n w a
  reason rs d n w a never e =
      ⊎_elim
      (λ l. record {
        place = which rs;
        there = l;
        itself = λ x. let q = decides stop rs x d l in rule_is (get_or rs (which rs) x) n w a q.0 (sym q.1 ∙ e);
        before = λ x i h. earlier rs x i h;
      })
      (λ p. absurd (never p (sym (none_decides stop rs d p) ∙ e)))
      (some_or_none rs)

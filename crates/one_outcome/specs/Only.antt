-- What it means that a contract allows one outcome only.
use Rattle.std.specs.Prelude.{◌≡◌}
use Rattle.std.proofs.Common.{sym, ap₂, ◌∙◌}

infixr 40 ◌&◌
infixr 40 ◌and◌
-- two things that a view reads
abbrev pub ◌&◌ : {A B : Type 0} → A → B → A × B
x & y = (x, y)

pub ◌and◌ : {A B : Type 0} {x x' : A} {y y' : B} → x ≡ x' → y ≡ y' → (x & y) ≡ (x' & y')
p and q = ap₂ ◌&◌ p q

-- For lifetimes κs: what a contract says of arguments, result and parameters at exit; what is read of an outcome, the latter two; a term of the arguments alone.
module _ {L : Type 0} where
  abbrev pub Contract : (A R S : L → Type 0) → Type 1
  Contract A R S = (κs : L) → A κs → R κs → S κs → Type 0

  abbrev pub View : (R S T : L → Type 0) → Type 0
  View R S T = (κs : L) → R κs → S κs → T κs

  abbrev pub Term : (A T : L → Type 0) → Type 0
  Term A T = (κs : L) → A κs → T κs

module _ {L : Type 0} {A R S T : L → Type 0} where
  -- any two outcomes that the contract allows for the same arguments read the same; s.0 is the first parameter at exit, s.1.0 the second
  pub record Only (Post : Contract A R S) (v : View R S T) : Type 0 where
    pub same : (κs : L) (a : A κs) (r r' : R κs) (s s' : S κs) → Post κs a r s → Post κs a r' s' → v κs r s ≡ v κs r' s'

  -- and any two that two contracts allow
  pub record Alike (Post Post' : Contract A R S) (v : View R S T) : Type 0 where
    pub same : (κs : L) (a : A κs) (r r' : R κs) (s s' : S κs) → Post κs a r s → Post' κs a r' s' → v κs r s ≡ v κs r' s'

  module _ {v : View R S T} {f : Term A T} where
    -- for a contract that gives an equation to a term of the arguments alone
    pub from : {Post : Contract A R S} → ((κs : L) (a : A κs) (r : R κs) (s : S κs) → Post κs a r s → v κs r s ≡ f κs a) → Only Post v
    from h = record { same = λ κs a r r' s s' p q. h κs a r s p ∙ sym (h κs a r' s' q) }

    -- for one that is an equation
    pub equation : Only (λ κs a r s. v κs r s ≡ f κs a) v
    equation = from (λ κs a r s p. p)

    -- for two that are the same equation
    pub one_equation : Alike (λ κs a r s. v κs r s ≡ f κs a) (λ κs a r s. v κs r s ≡ f κs a) v
    one_equation = record { same = λ κs a r r' s s' p q. p ∙ sym q }

    -- for one that is an equation with a bound beside it
    pub bounded : {B : Contract A R S} → Only (λ κs a r s. (v κs r s ≡ f κs a) × B κs a r s) v
    bounded = from (λ κs a r s p. p.0)

-- for one that is two equations
pub both : {L : Type 0} {A R S T U : L → Type 0} {v : View R S T} {f : Term A T} {w : View R S U} {g : Term A U}
    → Only (λ κs a r s. (v κs r s ≡ f κs a) × (w κs r s ≡ g κs a)) (λ κs r s. v κs r s & w κs r s)
both = from (λ κs a r s p. p.0 and p.1)

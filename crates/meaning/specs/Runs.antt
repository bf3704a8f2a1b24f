-- How a run of checks goes: one that applies decides, and one that passes leaves the decision to what comes after it.
use Rattle.std.specs.Prelude.{ℕ, List, [], ◌∷◌, Bool, true, false, cond, Option, Some, None, ◌≡◌, refl, Result, Ok, Err, IsErrAnd, ok_or}
use Rattle.std.proofs.Common.{arith, ap, ◌∙◌}
use Rattle.std.proofs.lemmas.Result.{err_from_is_err_and}
use Rattle.rules.specs.Rule.{rule, first}
use Rattle.meaning.specs.declared.Stop.{Stop}
use Rattle.meaning.specs.Decision.{Run, stop}
use Rattle.meaning.specs.Checks.{Check}

-- ---- as the code goes: r is returned

module _ {A E : Type 0} where
  -- the exit of a `?` returns what stopped
  pub exits : (r : Result A E) (x : E) → IsErrAnd r (λ y. y ≡ x) → r ≡ Err x
  exits r x h = let p = err_from_is_err_and r h in p.1 ∙ ap Err p.2

  -- a search that found nothing
  pub missing : {B : Type 0} (o : Option B) (e x : E) (r : Result A E) → IsErrAnd r (λ y. y ≡ x) → ◌≡◌ {A = Result B E} (Err x) (ok_or o e) → r ≡ Err e
  missing None e x r h q = let z : x ≡ e = cc in exits r x h ∙ ap Err z
  missing (Some b) e x r h q = let z : ◌≡◌ {A = ℕ} 0 1 = cc in absurd (omega arith)

-- a check that passed does not apply
pub passed : (b : Bool) (e : Stop) (u : Unit {0}) → ◌≡◌ {A = Run} (Ok u) (cond b (Err e) (Ok tt)) → b ≡ false
passed true e u q = let z : ◌≡◌ {A = ℕ} 0 1 = cc in absurd (omega arith)
passed false e u q = refl

module _ {A : Type 0} where
  -- where none applies d stands
  abbrev pub stands : Run → Result A Stop → Result A Stop
  stands (Ok u) d = d
  stands (Err e) d = Err e

  pub stands_first : (rs : List Check) (v : Run) (d : Result A Stop) → stands (first stop rs v) d ≡ first stop rs (stands v d)
  stands_first [] v d = refl
  stands_first (rule n w true a ∷ rs) v d = refl
  stands_first (rule n w false a ∷ rs) v d = stands_first rs v d

pub stands_twice : {A : Type 0} (u v : Run) (d : Result A Stop) → stands (stands u v) d ≡ stands u (stands v d)
stands_twice (Err e) v d = refl
stands_twice (Ok u) v d = refl

module _ {A : Type 0} where
  -- a check
  pub decides : (b : Bool) (e x : Stop) (r rest : Result A Stop) → IsErrAnd r (λ y. y ≡ x) → ◌≡◌ {A = Run} (Err x) (cond b (Err e) (Ok tt)) → r ≡ cond b (Err e) rest
  decides true e x r rest h q = let z : x ≡ e = cc in exits r x h ∙ ap Err z
  decides false e x r rest h q = let z : ◌≡◌ {A = ℕ} 0 1 = cc in absurd (omega arith)

  pub passes : (b : Bool) (e : Stop) (u : Unit {0}) {r rest : Result A Stop} → ◌≡◌ {A = Run} (Ok u) (cond b (Err e) (Ok tt)) → r ≡ rest → r ≡ cond b (Err e) rest
  passes true e u q h = let z : ◌≡◌ {A = ℕ} 0 1 = cc in absurd (omega arith)
  passes false e u q h = h

  -- a run
  pub run_decides : (v : Run) (d : Result A Stop) (x : Stop) (r : Result A Stop) → IsErrAnd r (λ y. y ≡ x) → ◌≡◌ {A = Run} (Err x) v → r ≡ stands v d
  run_decides v d x r h q = exits r x h ∙ ap (λ (w : Run). stands w d) q

  pub run_passes : (v : Run) (d : Result A Stop) (u : Unit {0}) {r : Result A Stop} → ◌≡◌ {A = Run} (Ok u) v → r ≡ d → r ≡ stands v d
  run_passes v d u q h = h ∙ ap (λ (w : Run). stands w d) q

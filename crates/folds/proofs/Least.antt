-- Laws of the search for the lowest number below n that has a property.
use Prim.Native.Nat.{ℕ, zero, suc, ◌+◌, ◌≤◌, ◌<◌}
use Rattle.std.proofs.Common.{not-suc-le-zero, add-one, sym, ap₂, ◌∙◌, inl, inr}
use native.Mathlib.Omega.{arith}
use Rattle.std.specs.Prelude.{Bool, true, false, cond, ◌≡◌, ◌⊎◌, Option, Some, None}
use Rattle.std.proofs.Math.Path.{refl, ap}
use Rattle.std.proofs.Math.Logic.{⊎_elim}
use Rattle.folds.specs.Cases.{last_or_below}
use Rattle.folds.specs.Least.{or_else, least_below}

-- what is found is one thing
pub at_nothing : {f : Option ℕ} {i : ℕ} → f ≡ Some i → f ≡ None → ⊥
at_nothing p q = let z : ◌≡◌ {A = ℕ} 0 1 = cc in omega arith

pub at_same : {f : Option ℕ} {i j : ℕ} → f ≡ Some i → f ≡ Some j → i ≡ j
at_same p q = cc

-- what one more number found, taken apart
from_nothing : (f : Option ℕ) (b : Bool) (n : ℕ) → or_else f (cond b (Some n) None) ≡ None → (f ≡ None) × (b ≡ false)
from_nothing (Some k) b n e = absurd (at_nothing refl e)
from_nothing None true n e = absurd (at_nothing refl e)
from_nothing None false n e = (refl, refl)

from_at : (f : Option ℕ) (b : Bool) (n i : ℕ) → or_else f (cond b (Some n) None) ≡ Some i → (f ≡ Some i) ⊎ ((f ≡ None) × (b ≡ true) × (n ≡ i))
from_at (Some k) b n i e = inl e
from_at None true n i e = inr (refl, refl, at_same refl e)
from_at None false n i e = absurd (at_nothing e refl)

module _ (p : ℕ → Bool) where
  -- none below n has p
  pub least_none : (n : ℕ) → ((k : ℕ) → k < n → p k ≡ false) → least_below n p ≡ None
  unfolding least_below
  least_none zero h = refl
  least_none (suc n) h = rw (least_none n (λ k l. h k (omega arith)), h n (omega arith))

  -- i has p, and none below i
  pub least_at : (n i : ℕ) → i < n → ((k : ℕ) → k < i → p k ≡ false) → p i ≡ true → least_below n p ≡ Some i
  unfolding least_below
  least_at zero i l h e = absurd (not-suc-le-zero l)
  least_at (suc n) i l h e =
      ⊎_elim (λ q. rw (least_none n (λ k kn. h k (omega arith)), ap p (sym q) ∙ e) (ap Some (sym q))) (λ lt. rw (least_at n i lt h e)) (last_or_below l)

  -- i alone has p
  pub least_only : (n i : ℕ) → i < n → p i ≡ true → ((j : ℕ) → j < n → (j ≡ i → ⊥) → p j ≡ false) → least_below n p ≡ Some i
  least_only n i l h o = least_at n i l (λ k lk. o k (omega arith) (λ q. omega arith)) h

  -- nothing is found: none has p
  pub least_nothing : (n : ℕ) → least_below n p ≡ None → (k : ℕ) → k < n → p k ≡ false
  unfolding least_below
  least_nothing zero e k l = absurd (not-suc-le-zero l)
  least_nothing (suc n) e k l =
      let r = from_nothing (least_below n p) (p n) n e in
      ⊎_elim (λ q. ap p q ∙ r.1) (λ lt. least_nothing n r.0 k lt) (last_or_below l)

  -- what is found lies below n and has p
  pub least_inside : (n i : ℕ) → least_below n p ≡ Some i → (i < n) × (p i ≡ true)
  unfolding least_below
  least_inside zero i e = absurd (at_nothing e refl)
  least_inside (suc n) i e =
      ⊎_elim (λ h. let r = least_inside n i h in (omega arith, r.1)) (λ h. (omega arith, ap p (sym h.2) ∙ h.1)) (from_at (least_below n p) (p n) n i e)

  -- none below what is found has p
  pub least_lower : (n i : ℕ) → least_below n p ≡ Some i → (k : ℕ) → k < i → p k ≡ false
  unfolding least_below
  least_lower zero i e k l = absurd (at_nothing e refl)
  least_lower (suc n) i e k l =
      ⊎_elim (λ h. least_lower n i h k l) (λ h. least_nothing n h.0 k (omega arith)) (from_at (least_below n p) (p n) n i e)

  -- a loop that counts up: its start, a turn, and the two ways out
  pub least_start : least_below 0 p ≡ None
  unfolding least_below
  least_start = refl

  pub least_more : (i : ℕ) → least_below i p ≡ None → p i ≡ false → least_below (i + 1) p ≡ None
  unfolding least_below
  least_more i e h = rw (add-one, e, h)

  pub least_stop : (n i : ℕ) → i < n → least_below i p ≡ None → p i ≡ true → Some i ≡ least_below n p
  least_stop n i l e h = sym (least_at n i l (least_nothing i e) h)

  pub least_done : (n i : ℕ) → least_below i p ≡ None → i ≤ n → n ≤ i → None ≡ least_below n p
  least_done n i e h l = let q : i ≡ n = omega arith in sym (rw q at e)

-- two tests that agree below n
pub least_ext : (p q : ℕ → Bool) (n : ℕ) → ((i : ℕ) → i < n → p i ≡ q i) → least_below n p ≡ least_below n q
unfolding least_below
least_ext p q zero h = refl
least_ext p q (suc n) h = ap₂ (λ (f : Option ℕ) (b : Bool). or_else f (cond b (Some n) None)) (least_ext p q n (λ i l. h i (omega arith))) (h n (omega arith))

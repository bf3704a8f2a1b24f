-- Whether every number below n has a property.
use Prim.Native.Nat.{ℕ, zero, suc, ◌+◌, ◌≤◌, ◌<◌}
use Rattle.std.proofs.Common.{not-suc-le-zero, arith, sym, ap₂, ◌∙◌}
use Rattle.std.proofs.Math.Numerals.{add-one}
use Rattle.std.specs.Prelude.{Bool, true, false, ◌≡◌}
use Rattle.std.proofs.Math.Bool.{◌&&◌, and-eq-true_iff, and-false}
use Rattle.std.proofs.Math.Path.{refl, ap}
use Rattle.std.proofs.Math.Logic.{⊎_elim}
use Rattle.folds.specs.Cases.{last_or_below}

-- p holds of every number below n
unfoldable pub all_below : ℕ → (ℕ → Bool) → Bool
all_below zero p = true
all_below (suc n) p = all_below n p && p n

module _ (p : ℕ → Bool) where
  -- a loop that counts up: its start, and a turn
  pub all_none : all_below 0 p ≡ true
  unfolding all_below
  all_none = refl

  pub all_more : (i : ℕ) → all_below i p ≡ true → p i ≡ true → all_below (i + 1) p ≡ true
  unfolding all_below
  all_more i a h = rw add-one ((and-eq-true_iff (all_below i p) (p i)).1 (a, h))

  -- a loop that joins the tests by `&`: a turn, and the end
  pub all_turn : (i : ℕ) (ok b : Bool) → ok ≡ all_below i p → b ≡ p i → (ok && b) ≡ all_below (i + 1) p
  unfolding all_below
  all_turn i ok b e t = rw add-one (ap₂ ◌&&◌ e t)

  pub all_end : (n i : ℕ) (ok : Bool) → ok ≡ all_below i p → i ≤ n → n ≤ i → ok ≡ all_below n p
  all_end n i ok e h l = e ∙ ap (λ (k : ℕ). all_below k p) (omega arith)

  -- one that fails
  pub all_not : (n i : ℕ) → i < n → p i ≡ false → all_below n p ≡ false
  unfolding all_below
  all_not zero i l h = absurd (not-suc-le-zero l)
  all_not (suc n) i l h = ⊎_elim (λ e. ap (λ (b : Bool). all_below n p && b) (ap p (sym e) ∙ h) ∙ and-false (all_below n p)) (λ lt. rw (all_not n i lt h)) (last_or_below l)

  -- the two ways out of the loop
  pub all_stop : (n i : ℕ) → i < n → p i ≡ false → false ≡ all_below n p
  all_stop n i l h = sym (all_not n i l h)

  pub all_done : (n i : ℕ) → all_below i p ≡ true → i ≤ n → n ≤ i → true ≡ all_below n p
  all_done n i a h l = let e : i ≡ n = omega arith in sym (rw e at a)

  pub all_at : (n i : ℕ) → all_below n p ≡ true → i < n → p i ≡ true
  unfolding all_below
  all_at zero i a l = absurd (not-suc-le-zero l)
  all_at (suc n) i a l =
      let both = (and-eq-true_iff (all_below n p) (p n)).0 a in
      ⊎_elim (λ e. ap p e ∙ both.1) (λ lt. all_at n i both.0 lt) (last_or_below l)

  pub all_intro : (n : ℕ) → ((i : ℕ) → i < n → p i ≡ true) → all_below n p ≡ true
  unfolding all_below
  all_intro zero h = refl
  all_intro (suc n) h = (and-eq-true_iff (all_below n p) (p n)).1 (all_intro n (λ i l. h i (omega arith)), h n (omega arith))

-- two tests that agree below n
pub all_ext : (p q : ℕ → Bool) (n : ℕ) → ((i : ℕ) → i < n → p i ≡ q i) → all_below n p ≡ all_below n q
unfolding all_below
all_ext p q zero h = refl
all_ext p q (suc n) h = ap₂ (λ (a b : Bool). a && b) (all_ext p q n (λ i l. h i (omega arith))) (h n (omega arith))

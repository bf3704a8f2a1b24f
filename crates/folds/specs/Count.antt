-- How many numbers below n have a property.
use Prim.Native.Nat.{ℕ, zero, suc, ◌+◌, ◌≤◌, ◌<◌}
use Rattle.std.proofs.Common.{add-zero, not-suc-le-zero, add-one, true≢false, sym, ap, ap₂, ◌∙◌}
use native.Mathlib.Omega.{arith}
use Rattle.std.specs.Prelude.{Bool, true, false, cond, ◌≡◌}
use Rattle.std.proofs.Math.Path.{refl}
use Rattle.std.proofs.Math.Logic.{⊎_elim}
use mir.Val.{bool_byte}
use Rattle.folds.specs.Cases.{either, last_or_below}

-- how many numbers below n have p
unfoldable pub count_below : ℕ → (ℕ → Bool) → ℕ
count_below zero p = 0
count_below (suc n) p = count_below n p + cond (p n) 1 0

module _ (p : ℕ → Bool) where
  suc_hit : (n : ℕ) → p n ≡ true → count_below (suc n) p ≡ count_below n p + 1
  unfolding count_below
  suc_hit n h = rw h

  suc_miss : (n : ℕ) → p n ≡ false → count_below (suc n) p ≡ count_below n p
  unfolding count_below
  suc_miss n h = rw h (add-zero (count_below n p))

  -- a loop that counts up: its start, and a turn
  pub count_none : count_below 0 p ≡ 0
  unfolding count_below
  count_none = refl

  pub count_hit : (i : ℕ) → p i ≡ true → count_below (i + 1) p ≡ count_below i p + 1
  count_hit i h = rw (add-one i) (suc_hit i h)

  pub count_miss : (i : ℕ) → p i ≡ false → count_below (i + 1) p ≡ count_below i p
  count_miss i h = rw (add-one i) (suc_miss i h)

  pub count_done : (n i k : ℕ) → k ≡ count_below i p → i ≤ n → n ≤ i → k ≡ count_below n p
  count_done n i k e h l = e ∙ ap (λ (x : ℕ). count_below x p) (omega arith)

  pub count_le : (n : ℕ) → count_below n p ≤ n
  unfolding count_below
  count_le zero = omega arith
  count_le (suc n) = ⊎_elim (λ e. rw e (omega (arith, count_le n))) (λ e. rw e (omega (arith, count_le n))) (either (p n))

  -- a turn of a loop that adds the test that it made as a number
  pub count_turn : (i k : ℕ) (b : Bool) → k ≡ count_below i p → b ≡ p i → (k + bool_byte b ≤ i + 1) × (k + bool_byte b ≡ count_below (i + 1) p)
  count_turn i k true e t = let q = ap (λ (x : ℕ). x + 1) e ∙ sym (count_hit i (sym t)) in (omega (arith, q, count_le (i + 1)), q)
  count_turn i k false e t = let q = add-zero k ∙ e ∙ sym (count_miss i (sym t)) in (omega (arith, q, count_le (i + 1)), q)

  -- a count that is not 0: some number has p
  pub count_some : (n : ℕ) → 0 < count_below n p → (i : ℕ) × ((i < n) × (p i ≡ true))
  unfolding count_below
  count_some zero h = absurd (not-suc-le-zero h)
  count_some (suc n) h =
      ⊎_elim (λ e. (n, (omega arith, e)))
      (λ e. let r = count_some n (omega (arith, suc_miss n e)) in (r.0, (omega arith, r.1.1)))
      (either (p n))

  pub count_pos : (n i : ℕ) → i < n → p i ≡ true → 0 < count_below n p
  count_pos zero i l h = absurd (not-suc-le-zero l)
  count_pos (suc n) i l h =
      ⊎_elim (λ e. omega (arith, suc_hit n (ap p (sym e) ∙ h)))
      (λ lt. ⊎_elim (λ e. omega (arith, suc_hit n e)) (λ e. omega (arith, suc_miss n e, count_pos n i lt h)) (either (p n)))
      (last_or_below l)

  -- a count of at most 1: no two numbers have p
  pub count_unique : (n i j : ℕ) → count_below n p ≤ 1 → i < n → j < n → p i ≡ true → p j ≡ true → i ≡ j
  count_unique zero i j c li lj hi hj = absurd (not-suc-le-zero li)
  count_unique (suc n) i j c li lj hi hj =
      ⊎_elim (λ e. at_top e i li hi ∙ sym (at_top e j lj hj))
      (λ e. count_unique n i j (omega (arith, suc_miss n e)) (below e i li hi) (below e j lj hj) hi hj)
      (either (p n))
    where
      at_top : p n ≡ true → (m : ℕ) → m < suc n → p m ≡ true → m ≡ n
      at_top e m l h = ⊎_elim (λ q. q) (λ lt. omega (arith, suc_hit n e, count_pos n m lt h)) (last_or_below l)

      below : p n ≡ false → (m : ℕ) → m < suc n → p m ≡ true → m < n
      below e m l h = ⊎_elim (λ q. absurd (true≢false (sym h ∙ ap p q ∙ e))) (λ lt. lt) (last_or_below l)

  -- none has p
  pub count_zero : (n : ℕ) → ((i : ℕ) → i < n → p i ≡ false) → count_below n p ≡ 0
  unfolding count_below
  count_zero zero h = refl
  count_zero (suc n) h = suc_miss n (h n (omega arith)) ∙ count_zero n (λ i l. h i (omega arith))

  -- all have p
  pub count_all : (n : ℕ) → ((i : ℕ) → i < n → p i ≡ true) → count_below n p ≡ n
  unfolding count_below
  count_all zero h = refl
  count_all (suc n) h = rw (h n (omega arith), count_all n (λ i l. h i (omega arith))) (omega arith)

-- two tests that agree below n
pub count_ext : (p q : ℕ → Bool) (n : ℕ) → ((i : ℕ) → i < n → p i ≡ q i) → count_below n p ≡ count_below n q
unfolding count_below
count_ext p q zero h = refl
count_ext p q (suc n) h = ap₂ (λ (a : ℕ) (b : Bool). a + cond b 1 0) (count_ext p q n (λ i l. h i (omega arith))) (h n (omega arith))

-- one fewer: q is p but at x
pub count_gone : (p q : ℕ → Bool) (n x : ℕ) → x < n → p x ≡ true → q x ≡ false → ((j : ℕ) → j < n → (j ≡ x → ⊥) → q j ≡ p j) → count_below n p ≡ count_below n q + 1
unfolding count_below
count_gone p q zero x l px qx h = absurd (not-suc-le-zero l)
count_gone p q (suc n) x l px qx h =
    ⊎_elim
    (λ (e : x ≡ n). rw (ap p (sym e) ∙ px, ap q (sym e) ∙ qx, count_ext p q n (λ j lj. sym (h j (omega arith) (λ k. omega arith)))) (omega arith))
    (λ lt. rw (h n (omega arith) (λ k. omega arith)) (omega (arith, count_gone p q n x lt px qx (λ j lj k. h j (omega arith) k))))
    (last_or_below l)

-- just i has p
pub count_just : (p : ℕ → Bool) (n i : ℕ) → i < n → p i ≡ true → ((j : ℕ) → j < n → (j ≡ i → ⊥) → p j ≡ false) → count_below n p ≡ 1
count_just p n i l h o =
    let none : ℕ → Bool = (λ j. false) in
    count_gone p none n i l h refl (λ j lj q. sym (o j lj q)) ∙ ap (λ (k : ℕ). k + 1) (count_zero none n (λ j lj. refl))

-- As many numbers as values, no two with one value: each value is some number's.
use Rattle.std.specs.Prelude.{ℕ, zero, suc, ◌+◌, ◌≤◌, ◌<◌, Bool, true, false, ◌&&◌, ◌≡◌, ◌⊎◌, ltb, eqb}
use Rattle.std.proofs.Common.{not-suc-le-zero, arith, ap, sym, ◌∙◌, inl, inr, ⊎_elim, ltb-true, lt-ltb, le-ltb, eqb-true, eq-eqb}
use Rattle.std.proofs.Math.Bool.{and-eq-true_iff, and-false}
use Rattle.folds.specs.Cases.{order, agree, last_or_below}
use Rattle.folds.specs.Count.{count_below, count_some, count_pos, count_zero, count_ext, count_gone}

-- the numbers below s that have p have values r, no two the same
module _ (p : ℕ → Bool) (r : ℕ → ℕ) (s : ℕ) (apart : (i j : ℕ) → i < s → j < s → p i ≡ true → p j ≡ true → r i ≡ r j → i ≡ j) where
  -- a number with value n
  abbrev Hit : ℕ → Type 0
  Hit n = (i : ℕ) × ((i < s) × (p i ≡ true) × (r i ≡ n))

  hit_or_not : (n : ℕ) → Hit n ⊎ (Hit n → ⊥)
  hit_or_not n =
      let q : ℕ → Bool = (λ i. p i && eqb (r i) n) in
      ⊎_elim
      (λ l. let w = count_some q s l in
      let b = (and-eq-true_iff (p w.0) (eqb (r w.0) n)).0 w.1.1 in
      inl (w.0, (w.1.0, b.0, eqb-true _ _ b.1)))
      (λ l. inr (λ h. omega (arith, count_pos q s h.0 h.1.0 ((and-eq-true_iff (p h.0) (eqb (r h.0) n)).1 (h.1.1, eq-eqb _ _ h.1.2)))))
      (order 0 (count_below s q))

  -- how many have a value below b
  abbrev low : ℕ → ℕ → Bool
  low b i = p i && ltb (r i) b

  low_same : (b i : ℕ) → (p i ≡ true → r i ≡ b → ⊥) → low (suc b) i ≡ low b i
  low_same b i never =
      agree (low (suc b) i) (low b i)
      (λ e. let h = (and-eq-true_iff (p i) (ltb (r i) (suc b))).0 e in
      let l = ltb-true _ _ h.1 in
      (and-eq-true_iff (p i) (ltb (r i) b)).1 (h.0, lt-ltb _ _ (⊎_elim (λ q. absurd (never h.0 q)) (λ k. k) (last_or_below l))))
      (λ e. let h = (and-eq-true_iff (p i) (ltb (r i) b)).0 e in
      let l = ltb-true (r i) b h.1 in
      (and-eq-true_iff (p i) (ltb (r i) (suc b))).1 (h.0, lt-ltb (r i) (suc b) (omega arith)))

  missed : (b : ℕ) → (Hit b → ⊥) → count_below s (low (suc b)) ≡ count_below s (low b)
  missed b never = count_ext (low (suc b)) (low b) s (λ i l. low_same b i (λ u e. never (i, (l, u, e))))

  met : (b : ℕ) → Hit b → count_below s (low (suc b)) ≡ count_below s (low b) + 1
  met b (i, (l, u, e)) =
      count_gone (low (suc b)) (low b) s i l
      ((and-eq-true_iff (p i) (ltb (r i) (suc b))).1 (u, lt-ltb (r i) (suc b) (omega arith)))
      (rw u (le-ltb (r i) b (omega arith)))
      (λ j lj ne. sym (low_same b j (λ v q. ne (apart j i lj l v u (q ∙ sym e)))))

  none_low : (i : ℕ) → low zero i ≡ false
  none_low i = ap (λ (t : Bool). p i && t) (le-ltb (r i) 0 (omega arith)) ∙ and-false (p i)

  -- as many as there are values below b: each of these is met
  full : (b : ℕ) → (count_below s (low b) ≤ b) × (count_below s (low b) ≡ b → (n : ℕ) → n < b → Hit n)
  full zero = (omega (arith, count_zero (low zero) s (λ i l. none_low i)), λ e n l. absurd (not-suc-le-zero l))
  full (suc b) =
      let w = full b in
      ⊎_elim (λ h. (omega (arith, met b h, w.0), λ e n l. ⊎_elim (λ q. rw q h) (λ k. w.1 (omega (arith, met b h)) n k) (last_or_below l)))
      (λ h. (omega (arith, missed b h, w.0), λ e n l. absurd (omega (arith, missed b h, w.0))))
      (hit_or_not b)

  pub onto : ((i : ℕ) → i < s → p i ≡ true → r i < count_below s p) → (n : ℕ) → n < count_below s p → Hit n
  onto inside =
      let k = count_below s p in
      (full k).1
      (count_ext (low k) p s
      (λ i li. agree (low k i) (p i) (λ e. ((and-eq-true_iff (p i) (ltb (r i) k)).0 e).0) (λ u. (and-eq-true_iff (p i) (ltb (r i) k)).1 (u, lt-ltb _ _ (inside i li u)))))

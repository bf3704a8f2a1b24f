-- "higher ranks fall by one": a rank, and a slot's record.
use Rattle.std.specs.Prelude.{ℕ, suc, ◌+◌, ◌-◌, ◌≤◌, ◌<◌, cond, ◌≡◌, ltb}
use Rattle.std.proofs.Common.{arith, ⊎_elim, lt-ltb, le-ltb}
use Rattle.folds.specs.Cases.{order}
use Rattle.slots.specs.declared.Slot.{Slot}
use Rattle.slots.specs.RecordLaws.{ranked}

-- what rank a becomes where rank r goes
unfoldable pub lower_rank : ℕ → ℕ → ℕ
lower_rank r a = cond (ltb r a) (a - 1) a

-- all but the rank stays
abbrev pub lower_slot : ℕ → Slot → Slot
lower_slot r t = ranked (lower_rank r t.rank) t

-- which rank becomes n
unfoldable pub rank_before : ℕ → ℕ → ℕ
rank_before r n = cond (ltb n r) n (suc n)

module _ (r : ℕ) where
  pub lower_above : (a : ℕ) → r < a → lower_rank r a ≡ a - 1
  unfolding lower_rank
  lower_above a l = rw (lt-ltb r a l)

  pub lower_below : (a : ℕ) → a ≤ r → lower_rank r a ≡ a
  unfolding lower_rank
  lower_below a l = rw (le-ltb r a l)

  pub before_below : (n : ℕ) → n < r → rank_before r n ≡ n
  unfolding rank_before
  before_below n l = rw (lt-ltb n r l)

  pub before_above : (n : ℕ) → r ≤ n → rank_before r n ≡ suc n
  unfolding rank_before
  before_above n l = rw (le-ltb n r l)

  -- none becomes r where r goes, and the others as said
  pub before_other : (n : ℕ) → rank_before r n ≡ r → ⊥
  before_other n e = ⊎_elim (λ l. omega (arith, before_below n l)) (λ l. omega (arith, before_above n l)) (order n r)

  module _ (a : ℕ) (ne : a ≡ r → ⊥) where
    pub lower_before : (n : ℕ) → lower_rank r a ≡ n → a ≡ rank_before r n
    lower_before n e =
        ⊎_elim (λ l. let p = lower_above a l in let q = before_above n (omega arith) in omega arith)
        (λ l. let p = lower_below a l in let q = before_below n (omega arith) in omega arith)
        (order r a)

    pub before_lower : (n : ℕ) → a ≡ rank_before r n → lower_rank r a ≡ n
    before_lower n e =
        ⊎_elim (λ l. let q = before_below n l in let p = lower_below a (omega arith) in omega arith)
        (λ l. let q = before_above n l in let p = lower_above a (omega arith) in omega arith)
        (order n r)

    -- ranks of 1 to k become ranks of 1 to k - 1
    pub lower_in : (k : ℕ) → 1 ≤ r → r ≤ k + 1 → 1 ≤ a → a ≤ k + 1 → (1 ≤ lower_rank r a) × (lower_rank r a ≤ k)
    lower_in k hr kr ha ka =
        ⊎_elim (λ l. let p = lower_above a l in (omega arith, omega arith)) (λ l. let p = lower_below a l in (omega arith, omega arith)) (order r a)

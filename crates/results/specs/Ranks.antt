-- The slot of a rank, where the slots are right, and the list by age that these make.
use Rattle.std.specs.Prelude.{ℕ, zero, suc, ◌+◌, ◌<◌, true, false, ◌≡◌, refl, List, ◌∷◌}
use Rattle.std.proofs.Common.{add-one, arith, sym, ap, ap₂, ◌∙◌}
use Rattle.folds.specs.Least.{index}
use Rattle.folds.proofs.Least.{least_only, least_ext}
use Rattle.geometry.specs.declared.Geometry.{Geometry}
use Rattle.slots.specs.declared.Slot.{Slot}
use Rattle.slots.specs.Record.{is_used}
use Rattle.slots.specs.Slots.{used_in, has_rank}
use Rattle.slots.specs.Facts.{Right}
use Rattle.slots.specs.Ranks.{has_rank_lem, not_rank, ranked_some}
use Rattle.results.specs.Ages.{slot_ranked, ages_to}

-- the only slot of rank n
pub ranked_only : (g : Geometry) (f : ℕ → Slot) (n i : ℕ) → i < g.s → has_rank n (f i) ≡ true
    → ((j : ℕ) → j < g.s → (j ≡ i → ⊥) → has_rank n (f j) ≡ false) → slot_ranked g f n ≡ i
unfolding slot_ranked
ranked_only g f n i l h o = ap index (least_only (λ j. has_rank n (f j)) g.s i l h o)

-- the slot of rank n of f' is the one of rank m of f
pub ranked_same : (g : Geometry) (f f' : ℕ → Slot) (n m : ℕ)
    → ((j : ℕ) → j < g.s → has_rank n (f' j) ≡ has_rank m (f j)) → slot_ranked g f' n ≡ slot_ranked g f m
unfolding slot_ranked
ranked_same g f f' n m h = ap index (least_ext (λ j. has_rank n (f' j)) (λ j. has_rank m (f j)) g.s h)

module _ (g : Geometry) (f : ℕ → Slot) (h : Right g f) where
  -- the slot of a used slot's rank is that slot
  pub ranked_is : (i : ℕ) → i < g.s → is_used (f i) ≡ true → slot_ranked g f (f i).rank ≡ i
  ranked_is i l u =
      ranked_only g f (f i).rank i l (has_rank_lem (f i).rank (f i) u refl)
      (λ j lj ne. not_rank (f i).rank (f j) (λ uj e. ne (h.apart j i lj l uj u e)))

  -- each rank of 1 to k is some used slot's
  pub ranked_at : (n : ℕ) → n < used_in g f
      → (slot_ranked g f (suc n) < g.s) × (is_used (f (slot_ranked g f (suc n))) ≡ true) × ((f (slot_ranked g f (suc n))).rank ≡ suc n)
  ranked_at n l =
      let w = ranked_some g f h n l in
      let q : slot_ranked g f (suc n) ≡ w.0 = ap (slot_ranked g f) (sym (w.1.2 ∙ add-one n)) ∙ ranked_is w.0 w.1.0 w.1.1 in
      rw q (w.1.0, w.1.1, w.1.2 ∙ add-one n)

-- two lists by age with the same slots, and one with a rank more
pub ages_same : (g : Geometry) (f f' : ℕ → Slot) (n : ℕ)
    → ((m : ℕ) → m < n → slot_ranked g f' (suc m) ≡ slot_ranked g f (suc m)) → ages_to g f' n ≡ ages_to g f n
unfolding ages_to
ages_same g f f' zero h = refl
ages_same g f f' (suc n) h = ap₂ (λ (i : ℕ) (r : List ℕ). i ∷ r) (h n (omega arith)) (ages_same g f f' n (λ m l. h m (omega arith)))

pub ages_more : (g : Geometry) (f : ℕ → Slot) (n : ℕ) → ages_to g f (n + 1) ≡ slot_ranked g f (n + 1) ∷ ages_to g f n
unfolding ages_to
ages_more g f n = rw add-one

-- An empty slot takes a result at rank k + 1: the slots stay right, and it is the newest.
use Rattle.std.specs.Prelude.{ℕ, suc, ◌+◌, ◌≤◌, ◌<◌, true, false, ◌≡◌, List, ◌∷◌}
use Rattle.std.proofs.Common.{arith, true≢false, sym, ap, ap₂, ◌∙◌, ⊎_elim}
use Rattle.folds.specs.Cases.{same}
use Rattle.folds.specs.Count.{count_gone}
use Rattle.geometry.specs.declared.Geometry.{Geometry}
use Rattle.slots.specs.declared.Slot.{Slot}
use Rattle.slots.specs.Record.{is_used}
use Rattle.slots.specs.Slots.{used_in, has_rank}
use Rattle.slots.specs.Facts.{Used, Right}
use Rattle.slots.specs.Ranks.{has_rank_lem, not_rank, used_is, used_ranked}
use Rattle.results.specs.Ages.{ages_to, ages}
use Rattle.results.specs.Ranks.{ranked_only, ranked_same, ages_same, ages_more}
use Rattle.results.specs.Gain.{Gained}

module _ (g : Geometry) (f f' : ℕ → Slot) (x : ℕ) (h : Right g f) (c : Gained g f f' x) where
  new_used : is_used (f' x) ≡ true
  new_used = used_is g (used_in g f + 1) (f' x) c.new

  pub gain_count : used_in g f' ≡ used_in g f + 1
  gain_count =
      count_gone (λ i. is_used (f' i)) (λ i. is_used (f i)) g.s x c.inside new_used c.empty
      (λ j l ne. ap is_used (sym (c.rest j l ne)))

  -- a rank of 1 to k is the slot's that had it
  old_rank : (n : ℕ) → n ≤ used_in g f → (j : ℕ) → j < g.s → has_rank n (f' j) ≡ has_rank n (f j)
  old_rank n hn j l =
      ⊎_elim
      (λ e. rw e (not_rank n (f' x) (λ u t. omega (arith, c.top)) ∙ sym (not_rank n (f x) (λ u t. true≢false (sym u ∙ c.empty)))))
      (λ ne. ap (has_rank n) (c.rest j l ne))
      (same j x)

  -- rank k + 1 is no other's
  new_rank_lem : (j : ℕ) → j < g.s → (j ≡ x → ⊥) → has_rank (used_in g f + 1) (f' j) ≡ false
  new_rank_lem j l ne =
      ap (has_rank (used_in g f + 1)) (c.rest j l ne)
      ∙ not_rank (used_in g f + 1) (f j) (λ u e. let w = h.used j l u in omega arith)

  top_rank : has_rank (used_in g f + 1) (f' x) ≡ true
  top_rank = has_rank_lem (used_in g f + 1) (f' x) new_used c.top

  -- another that is used
  old_used : (j : ℕ) → j < g.s → (j ≡ x → ⊥) → is_used (f' j) ≡ true → Used g (used_in g f) (f' j)
  old_used j l ne u = let r = c.rest j l ne in rw r (h.used j l (ap is_used (sym r) ∙ u))

  pub gain_right : Right g f'
  gain_right =
      let k = used_in g f in
      record {
        used = λ j l u. rw gain_count
            (⊎_elim (λ e. rw e c.new) (λ ne. let w = old_used j l ne u in used_ranked g k (k + 1) (f' j).rank (f' j) w w.rank_low (omega arith)) (same j x));
        empty = λ j l u. ⊎_elim (λ e. absurd (true≢false (sym new_used ∙ ap (λ (i : ℕ). is_used (f' i)) (sym e) ∙ u)))
            (λ ne. let r = c.rest j l ne in r ∙ h.empty j l (ap is_used (sym r) ∙ u))
            (same j x);
        apart = λ i j li lj ui uj e. ⊎_elim
            (λ p. ⊎_elim (λ q. p ∙ sym q) (λ q. let w = old_used j lj q uj in omega (arith, c.top, ap (λ (y : ℕ). (f' y).rank) p)) (same j x))
            (λ p. ⊎_elim (λ q. let w = old_used i li p ui in omega (arith, c.top, ap (λ (y : ℕ). (f' y).rank) q))
            (λ q. let a = c.rest i li p in
            let b = c.rest j lj q in
            h.apart i j li lj (ap is_used (sym a) ∙ ui) (ap is_used (sym b) ∙ uj) (ap (λ (t : Slot). t.rank) (sym a) ∙ e ∙ ap (λ (t : Slot). t.rank) b))
            (same j x))
            (same i x);
      }

  pub gain_ages : ages g f' ≡ x ∷ ages g f
  gain_ages =
      let k = used_in g f in
      ap (ages_to g f') gain_count
      ∙ ages_more g f' k
      ∙ ap₂ (λ (i : ℕ) (r : List ℕ). i ∷ r) (ranked_only g f' (k + 1) x c.inside top_rank new_rank_lem)
      (ages_same g f f' k (λ m l. ranked_same g f f' (suc m) (suc m) (old_rank (suc m) l)))

-- A used slot is emptied and the higher ranks fall by one: the slots stay right, and the others keep their order.
use Prim.Native.Nat.{ℕ, zero, suc, ◌+◌, ◌≤◌, ◌<◌}
use Rattle.std.proofs.Common.{add-one, arith, sym, ◌∙◌, eq-eqb, ne_eqb}
use Rattle.std.specs.Prelude.{true, ◌≡◌, refl}
use Rattle.std.proofs.Math.Bool.{not}
use Rattle.std.proofs.lemmas.Bool.{false≢true}
use Rattle.std.proofs.Math.Path.{ap}
use Rattle.std.proofs.Math.Logic.{⊎_elim}
use mathlib.Core.List.{List, ◌∷◌}
use Rattle.folds.specs.Cases.{same, order, agree}
use Rattle.folds.specs.Count.{count_gone}
use Rattle.geometry.specs.declared.Geometry.{Geometry}
use Rattle.slots.specs.declared.Slot.{Slot}
use Rattle.slots.specs.Record.{is_used, zero_slot}
use Rattle.slots.specs.Slots.{used_in, has_rank}
use Rattle.slots.specs.Facts.{Used, Right}
use Rattle.slots.specs.Ranks.{has_rank_lem, rank_has, not_rank, used_ranked}
use Rattle.results.specs.Lists.{keep_none, keep_hit, keep_miss}
use Rattle.results.specs.Ages.{slot_ranked, ages_to, ages, without}
use Rattle.results.specs.Ranks.{ranked_is, ranked_at, ranked_same}
use Rattle.results.specs.Lower.{lower_rank, lower_slot, lower_below, lower_in}
use Rattle.results.specs.Lower.{rank_before, before_below, before_above, before_other, lower_before, before_lower}
use Rattle.results.specs.Gone.{Lost}

module _ (g : Geometry) (f f' : ℕ → Slot) (x : ℕ) (h : Right g f) (c : Lost g f f' x) where
  pub gone_count : used_in g f ≡ used_in g f' + 1
  gone_count =
      count_gone (λ i. is_used (f i)) (λ i. is_used (f' i)) g.s x c.inside c.used (ap is_used c.zeroed)
      (λ j l ne. ap is_used (c.rest j l ne))

  at_x : Used g (used_in g f) (f x)
  at_x = h.used x c.inside c.used

  other_rank : (j : ℕ) → j < g.s → (j ≡ x → ⊥) → is_used (f j) ≡ true → (f j).rank ≡ (f x).rank → ⊥
  other_rank j l ne u e = ne (h.apart j x l c.inside u c.used e)

  -- a slot that is used still
  gone_used : (j : ℕ) → j < g.s → is_used (f' j) ≡ true → (j ≡ x → ⊥) × (is_used (f j) ≡ true) × (f' j ≡ lower_slot (f x).rank (f j))
  gone_used j l u =
      let ne : j ≡ x → ⊥ = (λ e. false≢true (ap is_used (sym c.zeroed) ∙ ap (λ (i : ℕ). is_used (f' i)) (sym e) ∙ u)) in
      let r = c.rest j l ne in (ne, ap is_used (sym r) ∙ u, r)

  -- the rank that it had
  gone_rank : (j : ℕ) → j < g.s → is_used (f' j) ≡ true → (n : ℕ) → (f' j).rank ≡ n → (f j).rank ≡ rank_before (f x).rank n
  gone_rank j l u n e =
      let w = gone_used j l u in
      lower_before (f x).rank (f j).rank (other_rank j l w.0 w.1) n (ap (λ (t : Slot). t.rank) (sym w.2) ∙ e)

  -- the slot of rank n is the one that had the rank that becomes n
  moved : (n j : ℕ) → j < g.s → has_rank n (f' j) ≡ has_rank (rank_before (f x).rank n) (f j)
  moved n j l =
      let r = (f x).rank in
      let m = rank_before r n in
      ⊎_elim
      (λ e. rw e (not_rank n (f' x) (λ u t. false≢true (ap is_used (sym c.zeroed) ∙ u)) ∙ sym (not_rank m (f x) (λ u t. before_other r n (sym t)))))
      (λ ne. ap (has_rank n) (c.rest j l ne)
      ∙ agree (has_rank n (lower_slot r (f j))) (has_rank m (f j))
      (λ t. let b = rank_has n (lower_slot r (f j)) t in has_rank_lem m (f j) b.0 (lower_before r (f j).rank (other_rank j l ne b.0) n b.1))
      (λ t. let b = rank_has m (f j) t in has_rank_lem n (lower_slot r (f j)) b.0 (before_lower r (f j).rank (other_rank j l ne b.0) n b.1)))
      (same j x)

  pub gone_right : Right g f'
  gone_right =
      record {
        used = λ j l u. (let w = gone_used j l u in
            let v = at_x in
            let t = h.used j l w.1 in
            let n = lower_in (f x).rank (f j).rank (other_rank j l w.0 w.1) (used_in g f') v.rank_low (omega (arith, gone_count)) t.rank_low (omega (arith, gone_count)) in
            rw w.2 (used_ranked g (used_in g f) (used_in g f') (lower_rank (f x).rank (f j).rank) (f j) t n.0 n.1));
        empty = λ j l u. ⊎_elim (λ e. ap f' e ∙ c.zeroed)
            (λ ne. let r = c.rest j l ne in
            let z : f j ≡ zero_slot = h.empty j l (ap is_used (sym r) ∙ u) in
            r ∙ rw (z, lower_below (f x).rank 0 (omega arith)))
            (same j x);
        apart = λ i j li lj ui uj e.
            h.apart i j li lj (gone_used i li ui).1 (gone_used j lj uj).1 (gone_rank i li ui (f' j).rank e ∙ sym (gone_rank j lj uj (f' j).rank refl));
      }

  -- ---- by age

  -- a slot that keeps its place in the list: it had rank n + 1, which becomes m + 1
  passed : (m n : ℕ) (xs : List ℕ) → n < used_in g f → rank_before (f x).rank (suc m) ≡ suc n
      → without x (slot_ranked g f (suc n) ∷ xs) ≡ slot_ranked g f' (suc m) ∷ without x xs
  passed m n xs l e =
      let other : slot_ranked g f (suc n) ≡ x → ⊥ =
      (λ q. before_other (f x).rank (suc m) (e ∙ sym (ranked_at g f h n l).2 ∙ ap (λ (i : ℕ). (f i).rank) q)) in
      keep_hit _ _ _ (ap not (ne_eqb _ _ other))
      ∙ ap (λ (i : ℕ). i ∷ without x xs) (sym (ranked_same g f f' (suc m) _ (moved (suc m)) ∙ ap (slot_ranked g f) e))

  -- the lower ranks stay, rank r goes, the higher ranks fall
  low : (n : ℕ) → n < (f x).rank → without x (ages_to g f n) ≡ ages_to g f' n
  unfolding ages_to
  low zero l = keep_none _
  low (suc n) l =
      let v = at_x in
      passed n n _ (omega arith) (before_below (f x).rank (suc n) l) ∙ ap (λ (t : List ℕ). slot_ranked g f' (suc n) ∷ t) (low n (omega arith))

  here : (n : ℕ) → (f x).rank ≡ suc n → without x (ages_to g f (suc n)) ≡ ages_to g f' n
  unfolding ages_to
  here n e = keep_miss _ _ _ (ap not (eq-eqb _ _ (ap (slot_ranked g f) (sym e) ∙ ranked_is g f h x c.inside c.used))) ∙ low n (omega arith)

  high : (n : ℕ) → (f x).rank ≤ suc n → n < used_in g f → without x (ages_to g f (suc n)) ≡ ages_to g f' n
  unfolding ages_to
  high zero l lk = let v = at_x in here 0 (omega arith)
  high (suc n) l lk =
      ⊎_elim (λ b. here (suc n) (omega arith))
      (λ b. passed n (suc n) _ lk (before_above (f x).rank (suc n) b) ∙ ap (λ (t : List ℕ). slot_ranked g f' (suc n) ∷ t) (high n b (omega arith)))
      (order (suc n) (f x).rank)

  pub gone_ages : ages g f' ≡ without x (ages g f)
  gone_ages = let v = at_x in sym (rw (gone_count, add-one) (high (used_in g f') (omega (arith, gone_count)) (omega (arith, gone_count))))

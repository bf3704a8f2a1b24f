-- The slots by age are exactly the used slots, in descending rank, where the slots are right.
use Prim.Native.Nat.{ℕ, zero, suc, ◌+◌, ◌≤◌, ◌<◌}
use Rattle.std.proofs.Common.{not-suc-le-zero, sym, ◌∙◌}
use native.Mathlib.Omega.{arith}
use Rattle.std.specs.Prelude.{true, ◌≡◌, length, get_or}
use Rattle.std.proofs.Math.Path.{refl, ap}
use Rattle.std.proofs.Math.Logic.{⊎_elim}
use mathlib.Core.List.Memᴰ
use mathlib.Core.List.{Memᴰ}
use Rattle.folds.specs.Cases.{order}
use Rattle.geometry.specs.declared.Geometry.{Geometry}
use Rattle.slots.specs.declared.Slot.{Slot}
use Rattle.slots.specs.Record.{is_used}
use Rattle.slots.specs.Slots.{used_in}
use Rattle.slots.specs.Facts.{Right}
use Rattle.results.specs.Ages.{slot_ranked, ages_to, ages}
use Rattle.results.specs.Ranks.{ranked_is, ranked_at}
use Rattle.results.specs.Members.{Aged}

module _ (g : Geometry) (f : ℕ → Slot) (h : Right g f) where
  pub aged_in : (n i : ℕ) → n ≤ used_in g f → Memᴰ i (ages_to g f n) → Aged g f n i
  unfolding ages_to
  aged_in zero i l m = absurd (Memᴰ.not-nil m)
  aged_in (suc n) i l m =
      ⊎_elim
      (λ e. let w = ranked_at g f h n l in rw e (record { inside = w.0; used = w.1; high = omega (arith, w.2) }))
      (λ t. let w = aged_in n i (omega arith) t in record { inside = w.inside; used = w.used; high = omega arith })
      (Memᴰ.cases_cons m)

  pub in_aged : (n i : ℕ) → Aged g f n i → Memᴰ i (ages_to g f n)
  unfolding ages_to
  in_aged zero i w = absurd (let v = h.used i w.inside w.used in omega arith)
  in_aged (suc n) i w =
      ⊎_elim
      (λ l. let e : suc n ≡ (f i).rank = omega arith in Memᴰ.head (sym (ap (slot_ranked g f) e ∙ ranked_is g f h i w.inside w.used)))
      (λ l. Memᴰ.tail (in_aged n i (record { inside = w.inside; used = w.used; high = l })))
      (order n (f i).rank)

  -- an element is a used slot, and a used slot is an element
  pub ages_in : (i : ℕ) → Memᴰ i (ages g f) → (i < g.s) × (is_used (f i) ≡ true)
  ages_in i m = let w = aged_in (used_in g f) i (omega arith) m in (w.inside, w.used)

  pub in_ages : (i : ℕ) → i < g.s → is_used (f i) ≡ true → Memᴰ i (ages g f)
  in_ages i l u = let w = h.used i l u in in_aged (used_in g f) i (record { inside = l; used = u; high = w.rank_high })

  -- there are as many as used slots, and the one at place p has rank k - p: none stands twice, and the ranks fall
  length_to : (n : ℕ) → length (ages_to g f n) ≡ n
  unfolding ages_to
  length_to zero = refl
  length_to (suc n) = ap suc (length_to n)

  pub length_ages : length (ages g f) ≡ used_in g f
  length_ages = length_to (used_in g f)

  rank_to : (n p : ℕ) → n ≤ used_in g f → p < n → (f (get_or (ages_to g f n) p 0)).rank + p ≡ n
  unfolding ages_to
  rank_to zero p l lp = absurd (not-suc-le-zero lp)
  rank_to (suc n) zero l lp = omega (arith, (ranked_at g f h n l).2)
  rank_to (suc n) (suc p) l lp = omega (arith, rank_to n p (omega arith) (omega arith))

  pub ages_rank : (p : ℕ) → p < used_in g f → (f (get_or (ages g f) p 0)).rank + p ≡ used_in g f
  ages_rank p l = rank_to (used_in g f) p (omega arith) l

  pub ages_once : (p q : ℕ) → p < used_in g f → q < used_in g f → get_or (ages g f) p 0 ≡ get_or (ages g f) q 0 → p ≡ q
  ages_once p q lp lq e = omega (arith, ages_rank p lp, ages_rank q lq, ap (λ (i : ℕ). (f i).rank) e)

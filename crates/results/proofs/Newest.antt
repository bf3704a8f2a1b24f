-- XDREAD's answer: the newest retained on a drive with a block number is the first such in the list by age.
use Prim.Native.Nat.{ℕ, zero, suc, ◌≤◌, ◌<◌}
use Rattle.std.proofs.Common.{arith, ◌∙◌, eq-eqb, ne_eqb}
use Rattle.std.specs.Prelude.{Bool, true, ◌≡◌, refl, eqb, Option, Some, None, option_map}
use Rattle.std.proofs.Math.Bool.{not, true≢false}
use Rattle.std.proofs.Math.Path.{sym, ap}
use Rattle.std.proofs.Math.Logic.{⊎_elim}
use mathlib.Core.List.{List, ◌∷◌, map, Memᴰ}
use Rattle.folds.specs.Cases.{either, order, none_apart, some_same}
use Rattle.folds.specs.Every.{every, holds, every_of}
use Rattle.geometry.specs.declared.Geometry.{Geometry}
use Rattle.geometry.specs.Frame.{Framed}
use Rattle.slots.specs.declared.Slot.{Slot}
use Rattle.slots.specs.Record.{slot_of, is_used}
use Rattle.slots.specs.Slots.{used_in, slots_ok}
use Rattle.slots.specs.Facts.{Right, right}
use Rattle.slots.specs.Find.{wanted, newest_of}
use Rattle.slots.specs.Change.{released}
use Rattle.results.specs.Lists.{keep_hit, keep_miss, keep_all}
use Rattle.results.specs.First.{first_of, sans_first, first_hit, first_miss, first_none, first_passes, first_map, sans_hit, sans_miss, sans_map}
use Rattle.results.specs.Ages.{slot_ranked, ages_to, without}
use Rattle.results.specs.Ranks.{ranked_is, ranked_at}
use Rattle.results.proofs.Members.{aged_in, ages_in}
use Rattle.results.specs.Results.{Result, result_at, by_age, results}
use Rattle.results.specs.Best.{newest_at, newest_used, newest_nothing}
use Rattle.results.proofs.Release.{release_results}
use Rattle.results.specs.Newest.{wanted_at, answers}

-- ---- over slots

module _ (g : Geometry) (f : ℕ → Slot) (h : Right g f) (p : ℕ → Bool) where
  -- of those that pass, the one of the highest rank comes first
  first_aged : (i : ℕ) → i < g.s → is_used (f i) ≡ true → p i ≡ true → ((j : ℕ) → j < g.s → p j ≡ true → (f j).rank ≤ (f i).rank)
      → (n : ℕ) → (f i).rank ≤ n → n ≤ used_in g f → first_of p (ages_to g f n) ≡ Some i
  unfolding ages_to
  first_aged i l u pi most zero r ln = absurd (let w = h.used i l u in omega arith)
  first_aged i l u pi most (suc n) r ln =
      let w = ranked_at g f h n ln in
      ⊎_elim
      (λ b. let e : slot_ranked g f (suc n) ≡ i = ap (slot_ranked g f) (omega arith) ∙ ranked_is g f h i l u in
      first_hit p _ _ (ap p e ∙ pi) ∙ ap Some e)
      (λ b. ⊎_elim (λ t. absurd (omega (arith, most _ w.0 t, w.2)))
      (λ t. first_miss p _ _ t ∙ first_aged i l u pi most n b (omega arith))
      (either (p (slot_ranked g f (suc n)))))
      (order n (f i).rank)

  -- without what is found first, the list is without the first
  sans_aged : (i n : ℕ) → n ≤ used_in g f → first_of p (ages_to g f n) ≡ Some i → without i (ages_to g f n) ≡ sans_first p (ages_to g f n)
  unfolding ages_to first_of
  sans_aged i zero l e = absurd (none_apart i e)
  sans_aged i (suc n) l e =
      let x = slot_ranked g f (suc n) in
      let w = ranked_at g f h n l in
      ⊎_elim
      (λ t. let q : x ≡ i = some_same x i (sym (first_hit p x (ages_to g f n) t) ∙ e) in
      keep_miss (λ j. not (eqb j i)) x (ages_to g f n) (ap not (eq-eqb x i q))
      ∙ keep_all (λ j. not (eqb j i)) (ages_to g f n)
      (λ j here. let a = aged_in g f h n j (omega arith) here in ap not (ne_eqb j i (λ k. omega (arith, w.2, ap (λ (y : ℕ). (f y).rank) (k ∙ sym q)))))
      ∙ sym (sans_hit p x (ages_to g f n) t))
      (λ t. let d : first_of p (ages_to g f n) ≡ Some i = sym (first_miss p x (ages_to g f n) t) ∙ e in
      keep_hit (λ j. not (eqb j i)) x (ages_to g f n)
      (ap not (ne_eqb x i (λ q. true≢false (sym (first_passes p (ages_to g f n) i d) ∙ ap p (sym q) ∙ t))))
      ∙ ap (λ (r : List ℕ). x ∷ r) (sans_aged i n (omega arith) d)
      ∙ sym (sans_miss p x (ages_to g f n) t))
      (either (p x))

-- its own drive and block
pub answers_own : (r : Result) → answers r.drive r.block r ≡ true
answers_own r = every_of _ (eq-eqb r.drive r.drive refl, (eq-eqb r.block r.block refl, tt))

module _ (m : List ℕ) (g : Geometry) (ok : slots_ok m g ≡ true) (drive block : ℕ) where
  first_newest : (i : ℕ) → newest_of m g drive block ≡ Some i → first_of (wanted_at m g drive block) (by_age m g) ≡ Some i
  first_newest i e =
      let w = newest_at m g drive block i e in
      let u : is_used (slot_of m g i) ≡ true = holds _ 0 w.asked in
      let v = newest_used m g drive block ok i w in
      first_aged g (slot_of m g) (right m g ok) (wanted_at m g drive block) i w.inside u w.asked w.most (used_in g (slot_of m g))
      v.rank_high (omega arith)

  first_nothing : newest_of m g drive block ≡ None → first_of (wanted_at m g drive block) (by_age m g) ≡ None
  first_nothing e =
      first_none (wanted_at m g drive block) (by_age m g)
      (λ i here. newest_nothing m g drive block ok e i (ages_in g (slot_of m g) (right m g ok) i here).0)

  pub newest_first : newest_of m g drive block ≡ first_of (wanted_at m g drive block) (by_age m g)
  newest_first = by (newest_of m g drive block) refl
    where
      by : (o : Option ℕ) → newest_of m g drive block ≡ o → o ≡ first_of (wanted_at m g drive block) (by_age m g)
      by (Some i) e = sym (first_newest i e)
      by None e = sym (first_nothing e)

  -- a used slot is wanted where its result answers
  answers_is : (i : ℕ) → Memᴰ i (by_age m g) → answers drive block (result_at m g i) ≡ wanted drive block (slot_of m g i)
  unfolding result_at every
  answers_is i here = rw (ages_in g (slot_of m g) (right m g ok) i here).1

  first_result : first_of (answers drive block) (results m g) ≡ option_map (result_at m g) (first_of (wanted_at m g drive block) (by_age m g))
  unfolding results
  first_result = first_map (result_at m g) (answers drive block) (wanted_at m g drive block) (by_age m g) answers_is

  -- what XDREAD hands out is the first of the results that answers
  pub newest_result : (i : ℕ) → newest_of m g drive block ≡ Some i → first_of (answers drive block) (results m g) ≡ Some (result_at m g i)
  newest_result i e = first_result ∙ ap (option_map (result_at m g)) (first_newest i e)

  pub newest_missing : newest_of m g drive block ≡ None → first_of (answers drive block) (results m g) ≡ None
  newest_missing e = first_result ∙ ap (option_map (result_at m g)) (first_nothing e)

  -- and it alone goes
  pub newest_goes : Framed m g → (i : ℕ) → newest_of m g drive block ≡ Some i
      → results (released m g i) g ≡ sans_first (answers drive block) (results m g)
  unfolding results
  newest_goes f i e =
      let w = newest_at m g drive block i e in
      release_results m g f ok i w.inside (holds _ 0 w.asked)
      ∙ ap (map (result_at m g))
      (sans_aged g (slot_of m g) (right m g ok) (wanted_at m g drive block) i (used_in g (slot_of m g)) (omega arith) (first_newest i e))
      ∙ sym (sans_map (result_at m g) (answers drive block) (wanted_at m g drive block) (by_age m g) answers_is)

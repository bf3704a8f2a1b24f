-- An image is valid today where it was by 01: the rules in byte order refuse what the tests by groups refused.
use Rattle.std.specs.Prelude.{ℕ, ◌+◌, ◌-◌, ◌<◌, Bool, true, false, cond, List, [], ◌∷◌, ◌≡◌, refl}
use Rattle.std.proofs.Common.{arith, sym, ◌∙◌}
use borrow.Author.Tests.{eqb-true, eq-eqb}
use Rattle.folds.specs.Cases.{agree}
use Rattle.folds.specs.Every.{every, holds, every_of, every_ext}
use Rattle.folds.specs.All.{all_below, all_at, all_intro}
use Rattle.folds.specs.Count.{count_below, count_unique, count_just}
use Rattle.geometry.specs.declared.Geometry.{Geometry}
use Rattle.geometry.specs.Header.{geometry_of, framed_ok, slot_at}
use Rattle.drives.specs.Table.{table_ok}
use Rattle.slots.specs.declared.Slot.{Slot}
use Rattle.slots.specs.Record.{slot_of, is_used}
use Rattle.slots.specs.Slots.{slot_ok, used_count, has_rank, new_rank, slots_ok}
use Rattle.slots.specs.Facts.{used_facts, empty_is, Right, right, right_ok}
use Rattle.slots.specs.Ranks.{has_rank_lem, not_rank, ranked_some}
use Rattle.image.specs.Valid.{valid_image}
use Rattle.image.proofs.Shelf.{valid_is}
use Rattle.frozen.specs.Image as old

-- ---- the drive table

-- two tests of each number, together and one after the other
both_below : (p q : ℕ → Bool) (n : ℕ) → all_below n (λ i. every (p i ∷ q i ∷ [])) ≡ every (all_below n p ∷ all_below n q ∷ [])
both_below p q n =
    agree _ _
    (λ e. every_of _ (all_intro p n (λ i l. holds _ 0 (all_at _ n i e l)), (all_intro q n (λ i l. holds _ 1 (all_at _ n i e l)), tt)))
    (λ e. all_intro _ n (λ i l. every_of _ (all_at p n i (holds _ 0 e) l, (all_at q n i (holds _ 1 e) l, tt))))

-- ---- the slots

if_used : (b x x' y : Bool) → (x ≡ true → x' ≡ true) → cond b x y ≡ true → cond b x' y ≡ true
if_used true x x' y f e = f e
if_used false x x' y f e = e

module _ (m : List ℕ) where
  abbrev h : old.Header
  h = old.header_of m

  abbrev g : Geometry
  g = geometry_of m

  abbrev k : ℕ
  k = used_count m g

  abbrev f : ℕ → Slot
  f = slot_of m g

  abbrev old_ok : ℕ → Bool
  old_ok i = cond (old.used (old.slot m h i)) (old.used_right h (old.used_count m h) (old.slot m h i)) (old.empty_right (old.slot m h i))

  to_old : (i : ℕ) (new : Bool) → slot_ok g k new (f i) ≡ true → old_ok i ≡ true
  unfolding slot_of slot_at
  to_old i new =
      if_used (is_used (f i)) _ (old.used_right h (old.used_count m h) (old.slot m h i)) _
      (λ e. every_of _ (holds _ 3 e, (holds _ 4 e, (holds _ 5 e, (holds _ 6 e, (holds _ 7 e, (holds _ 8 e, (holds _ 9 e, (holds _ 0 e, (holds _ 1 e, tt))))))))))

  of_old : (i : ℕ) → old_ok i ≡ true → slot_ok g k true (f i) ≡ true
  unfolding slot_of slot_at
  of_old i =
      if_used (is_used (f i)) (old.used_right h (old.used_count m h) (old.slot m h i)) _ _
      (λ e. every_of _ (holds _ 7 e, (holds _ 8 e, (refl, (holds _ 0 e, (holds _ 1 e, (holds _ 2 e, (holds _ 3 e, (holds _ 4 e, (holds _ 5 e, (holds _ 6 e, tt)))))))))))

  -- "their ranks are 1 to k, each once"
  once : Right g f → (n : ℕ) → n < k → count_below g.s (λ i. has_rank (n + 1) (f i)) ≡ 1
  once r n l =
      let w = ranked_some g f r n l in
      count_just (λ i. has_rank (n + 1) (f i)) g.s w.0 w.1.0 (has_rank_lem (n + 1) (f w.0) w.1.1 w.1.2)
      (λ j lj ne. not_rank (n + 1) (f j) (λ u e. ne (r.apart j w.0 lj w.1.0 u w.1.1 (e ∙ sym w.1.2))))

  module _ (ok : (i : ℕ) → i < g.s → slot_ok g k true (f i) ≡ true) (each : (n : ℕ) → n < k → count_below g.s (λ i. has_rank (n + 1) (f i)) ≡ 1) where
    one_slot : (i j : ℕ) → i < g.s → j < g.s → is_used (f i) ≡ true → is_used (f j) ≡ true → (f i).rank ≡ (f j).rank → i ≡ j
    one_slot i j li lj ui uj e =
        let w = (used_facts g k true (f i) ui (ok i li)).0 in
        let n = (f i).rank - 1 in
        let r : (f i).rank ≡ n + 1 = omega arith in
        count_unique (λ a. has_rank (n + 1) (f a)) g.s i j (omega (arith, each n (omega arith))) li lj
        (has_rank_lem (n + 1) (f i) ui r) (has_rank_lem (n + 1) (f j) uj (omega arith))

    right_of : Right g f
    right_of =
        record {
          used = λ i l u. (used_facts g k true (f i) u (ok i l)).0;
          empty = λ i l u. empty_is g k true (f i) u (ok i l);
          apart = one_slot;
        }

  slots_alike : slots_ok m g ≡ old.slots_right m h (old.used_count m h)
  unfolding slots_ok slot_of slot_at
  slots_alike =
      agree _ _
      (λ e. every_of _ (
        all_intro old_ok g.s (λ i l. to_old i (new_rank f i) (all_at _ g.s i e l)),
        (all_intro _ k (λ n l. eq-eqb _ _ (once (right m g e) n l)), tt),
      ))
      (λ e. right_ok m g (right_of (λ i l. of_old i (all_at old_ok g.s i (holds _ 0 e) l)) (λ n l. eqb-true _ _ (all_at _ k n (holds _ 1 e) l))))

  pub valid_alike : valid_image m ≡ old.valid m
  unfolding framed_ok table_ok
  valid_alike = valid_is m ∙ every_ext _ _ (refl, (both_below _ _ g.d, (slots_alike, tt)))

-- What the slots' tests say, by name.
use Rattle.std.specs.Prelude.{◌≡◌, List, Bool, true, false, not, ℕ, ◌≤◌, ◌<◌, Some}
use Rattle.std.proofs.Common.{sym, ap, ◌∙◌, arith, leb-true, ltb-true, eqb-true, le-leb, lt-ltb, eq-eqb, ne_eqb}
use Rattle.std.proofs.Math.Logic.{⊎_elim}
use Rattle.std.proofs.lemmas.Bool.{eqb-false, not-true, not-false}
use Rattle.folds.specs.Cases.{either, same, apart as differ}
use Rattle.folds.specs.Every.{every, holds, every_of}
use Rattle.folds.specs.All.{all_at, all_intro}
use Rattle.folds.proofs.Least.{least_inside}
use Rattle.rules.specs.Must.{tests_of}
use Rattle.geometry.specs.declared.Geometry.{Geometry}
use Rattle.geometry.specs.Places.{Range}
use Rattle.slots.specs.declared.Slot.{Slot}
use Rattle.slots.specs.Record.{slot_of, zero_slot, is_used}
use Rattle.slots.specs.Find.{empty_slot}
use Rattle.slots.specs.Slots.{empty_musts, used_musts, slot_ok, used_in, rank_in, new_rank, slots_ok}

-- a slot can hold a result of that kind, of len blocks of the drive from the block on
pub record Fits (g : Geometry) (kind drive block len : ℕ) : Type 0 where
  pub kind_low : 1 ≤ kind
  pub kind_high : kind ≤ 2
  pub range : Range g drive block len
  pub len_low : 1 ≤ len
  pub len_high : len ≤ g.m

-- a used slot is right, among k results
pub record Used (g : Geometry) (k : ℕ) (r : Slot) : Type 0 where
  pub fits : Fits g r.kind r.drive r.block.0 r.len
  pub last_zero : r.last ≡ 0
  pub rank_low : 1 ≤ r.rank
  pub rank_high : r.rank ≤ k

module _ (g : Geometry) (k : ℕ) (new : Bool) (r : Slot) where
  pub used_facts : is_used r ≡ true → slot_ok g k new r ≡ true → Used g k r × (new ≡ true)
  used_facts u ok =
      let e : every (tests_of (used_musts g k new zero_slot r)) ≡ true = rw u at ok in (
        record {
          rank_low = leb-true _ _ (holds _ 0 e);
          rank_high = leb-true _ _ (holds _ 1 e);
          fits =
              record {
                kind_low = leb-true _ _ (holds _ 3 e);
                kind_high = leb-true _ _ (holds _ 4 e);
                range = record { drive_in = ltb-true _ _ (holds _ 5 e); range_in = leb-true _ _ (holds _ 8 e) };
                len_low = leb-true _ _ (holds _ 6 e);
                len_high = leb-true _ _ (holds _ 7 e);
              };
          last_zero = eqb-true _ _ (holds _ 9 e);
        },
        holds _ 2 e,
      )

  used_ok : is_used r ≡ true → Used g k r → new ≡ true → slot_ok g k new r ≡ true
  used_ok u h n =
      let w = h.fits in
      rw u
      (every_of (tests_of (used_musts g k new zero_slot r)) (
        le-leb _ _ h.rank_low,
        (
          le-leb _ _ h.rank_high,
          (
            n,
            (
              le-leb _ _ w.kind_low,
              (
                le-leb _ _ w.kind_high,
                (
                  lt-ltb _ _ w.range.drive_in,
                  (
                    le-leb _ _ w.len_low,
                    (le-leb _ _ w.len_high, (le-leb _ _ w.range.range_in, (eq-eqb _ _ h.last_zero, tt))),
                  ),
                ),
              ),
            ),
          ),
        ),
      ))

  -- an empty slot that is right is all zero, and the other way round
  pub empty_is : is_used r ≡ false → slot_ok g k new r ≡ true → r ≡ zero_slot
  empty_is u ok =
      let e : every (tests_of (empty_musts zero_slot r)) ≡ true = rw u at ok in
      let z0 : r.kind ≡ 0 = eqb-true _ _ (not-false _ u) in
      let z1 : r.rank ≡ 0 = eqb-true _ _ (holds _ 0 e) in
      let z2 : r.drive ≡ 0 = eqb-true _ _ (holds _ 1 e) in
      let z3 : r.len ≡ 0 = eqb-true _ _ (holds _ 2 e) in
      let z4 : r.block.0 ≡ 0 = eqb-true _ _ (holds _ 3 e) in
      let z5 : r.last ≡ 0 = eqb-true _ _ (holds _ 4 e) in
      rw (z0, z1, z2, z3, z4, z5)

  zero_ok : r ≡ zero_slot → slot_ok g k new r ≡ true
  unfolding every
  zero_ok e = rw e

-- ---- the slot that takes a result

pub empty_inside : (s : List ℕ) (g : Geometry) (i : ℕ) → empty_slot s g ≡ Some i → (i < g.s) × (is_used (slot_of s g i) ≡ false)
unfolding empty_slot
empty_inside s g i e = let r = least_inside (λ k. not (is_used (slot_of s g k))) g.s i e in (r.0, not-true _ r.1)

-- ---- all slots together

-- the slots f are right: k of them are used, with ranks of 1 to k, no two the same
pub record Right (g : Geometry) (f : ℕ → Slot) : Type 0 where
  pub used : (i : ℕ) → i < g.s → is_used (f i) ≡ true → Used g (used_in g f) (f i)
  pub empty : (i : ℕ) → i < g.s → is_used (f i) ≡ false → f i ≡ zero_slot
  pub apart : (i j : ℕ) → i < g.s → j < g.s → is_used (f i) ≡ true → is_used (f j) ≡ true → (f i).rank ≡ (f j).rank → i ≡ j

module _ (s : List ℕ) (g : Geometry) where
  abbrev f : ℕ → Slot
  f = slot_of s g

  at : slots_ok s g ≡ true → (i : ℕ) → i < g.s → slot_ok g (used_in g f) (new_rank f i) (f i) ≡ true
  unfolding slots_ok
  at ok i l = all_at _ g.s i ok l

  rank_in_lem : (i : ℕ) → is_used (f i) ≡ true → rank_in (f i) ≡ (f i).rank
  rank_in_lem i u = rw u

  new_at : slots_ok s g ≡ true → (i j : ℕ) → i < g.s → is_used (f i) ≡ true → is_used (f j) ≡ true → j < i → (f j).rank ≡ (f i).rank → ⊥
  new_at ok i j l u v lj e =
      eqb-false _ _ (not-true _ (all_at _ i j (used_facts g _ _ (f i) u (at ok i l)).1 lj)) (rank_in_lem j v ∙ e ∙ sym (rank_in_lem i u))

  pub right : slots_ok s g ≡ true → Right g f
  right ok =
      record {
        used = λ i l u. (used_facts g _ _ (f i) u (at ok i l)).0;
        empty = λ i l u. empty_is g _ _ (f i) u (at ok i l);
        apart = λ i j li lj ui uj e. ⊎_elim (λ q. q)
            (λ ne. ⊎_elim (λ l. absurd (new_at ok j i lj uj ui l e)) (λ l. absurd (new_at ok i j li ui uj l (sym e))) (differ i j ne))
            (same i j);
      }

  new_of : Right g f → (i : ℕ) → i < g.s → is_used (f i) ≡ true → new_rank f i ≡ true
  new_of h i l u =
      all_intro _ i
      (λ j lj. ap not (ne_eqb _ _ (λ e. ⊎_elim
      (λ v. let q = h.apart j i (omega arith) l v u (sym (rank_in_lem j v) ∙ e ∙ rank_in_lem i u) in omega arith)
      (λ v. let w = h.used i l u in
      let z : rank_in (f j) ≡ 0 = rw v in
      omega (arith, rank_in_lem i u))
      (either (is_used (f j))))))

  pub right_ok : Right g f → slots_ok s g ≡ true
  unfolding slots_ok
  right_ok h =
      all_intro _ g.s
      (λ i l. ⊎_elim (λ u. used_ok g _ _ (f i) u (h.used i l u) (new_of h i l u)) (λ u. zero_ok g _ _ (f i) (h.empty i l u)) (either (is_used (f i))))

-- All results of a drive go: the slots stay right, the results of the other drives stay in order, and no byte outside the slots' records
-- changes.
use Rattle.std.specs.Prelude.{ℕ, suc, ◌<◌, true, false, ◌≡◌, length}
use Rattle.std.proofs.Common.{not-suc-le-zero, arith, sym, ◌∙◌, ⊎_elim, eqb-true, eq-eqb, ne_eqb}
use Rattle.std.proofs.Math.Bool.{not, true≢false}
use Rattle.std.proofs.Math.Path.{refl, ap}
use mathlib.Core.List.Memᴰ
use mathlib.Core.List.{List, Memᴰ}
use Rattle.std.proofs.Math.Dec.{eqb}
use Rattle.std.proofs.lemmas.Bool.{not-false}
use Rattle.octets.specs.Part.{part}
use Rattle.folds.specs.Cases.{on_test, last_or_below}
use Rattle.folds.specs.Every.{holds, every_of, fails}
use Rattle.geometry.specs.declared.Geometry.{Geometry}
use Rattle.geometry.specs.Stores.{Store, stored, in_turn_keeps}
use Rattle.geometry.specs.Frame.{Framed, framed_same}
use Rattle.geometry.specs.Outside.{Outside}
use Rattle.slots.specs.Record.{slot_of}
use Rattle.slots.specs.Slots.{slots_ok}
use Rattle.slots.specs.Facts.{right}
use Rattle.slots.specs.Change.{released, of_drive, drop_stores, dropped_to, dropped}
use Rattle.results.specs.Lists.{keeping, keep_all, keep_keep}
use Rattle.results.proofs.Members.{ages_in}
use Rattle.results.specs.Results.{Result, result_at, by_age, results}
use Rattle.results.proofs.Release.{length_released, release_part, release_zeroed, release_slot, release_ok, release_results}
use Rattle.results.specs.Drop.{of_other}

-- t is s without some results of the drive, and its first n slots have none
record Emptied (s : List ℕ) (g : Geometry) (drive n : ℕ) (t : List ℕ) : Type 0 where
  as_long : length t ≡ length s
  ok : slots_ok t g ≡ true
  none : (j : ℕ) → j < n → of_drive drive (slot_of t g j) ≡ false
  others : keeping (of_other drive) (results t g) ≡ keeping (of_other drive) (results s g)

module _ (s : List ℕ) (g : Geometry) (f : Framed s g) (drive n : ℕ) (t : List ℕ) (l : n < g.s) (h : Emptied s g drive n t) where
  ft : Framed t g
  ft = framed_same s t g f h.as_long

  emptied_miss : of_drive drive (slot_of t g n) ≡ false → Emptied s g drive (suc n) t
  emptied_miss e =
      record {
        as_long = h.as_long;
        ok = h.ok;
        none = λ j lj. ⊎_elim (λ q. rw q e) (λ lt. h.none j lt) (last_or_below lj);
        others = h.others;
      }

  emptied_others : of_drive drive (slot_of t g n) ≡ true → keeping (of_other drive) (results (released t g n) g) ≡ keeping (of_other drive) (results t g)
  unfolding results result_at
  emptied_others e =
      ap (keeping (of_other drive)) (release_results t g ft h.ok n l (holds _ 0 e))
      ∙ keep_keep (result_at t g) (of_other drive) (λ i. not (eqb i n)) (by_age t g)
      (λ i q. ap not (ap (λ (j : ℕ). eqb (slot_of t g j).drive drive) (eqb-true i n (not-false _ q)) ∙ holds _ 1 e))

  emptied_hit : of_drive drive (slot_of t g n) ≡ true → Emptied s g drive (suc n) (released t g n)
  emptied_hit e =
      record {
        as_long = length_released t g n ∙ h.as_long;
        ok = release_ok t g ft h.ok n l (holds _ 0 e);
        none = λ j lj. ⊎_elim (λ q. ap (of_drive drive) (ap (slot_of (released t g n) g) q ∙ release_zeroed t g ft h.ok n l) ∙ fails _ 0 refl)
            (λ lt. ap (of_drive drive) (release_slot t g ft h.ok n l j (omega arith) (λ q. omega arith)) ∙ h.none j lt) (last_or_below lj);
        others = emptied_others e ∙ h.others;
      }

-- what each release keeps, all of them keep
drop_keeps : (s : List ℕ) (g : Geometry) (drive : ℕ) (P : List ℕ → Type 0) → ((t : List ℕ) (n : ℕ) → n < g.s → P t → P (released t g n)) → P s
    → P (dropped s g drive)
unfolding dropped dropped_to released
drop_keeps s g drive P keep =
    in_turn_keeps (drop_stores g drive) s (λ n t. P t) g.s
    (λ n t l h. on_test (λ (ws : List Store). P (stored t ws)) (of_drive drive (slot_of t g n)) (λ e. keep t n l h) (λ e. h))

pub length_dropped : (s : List ℕ) (g : Geometry) (drive : ℕ) → length (dropped s g drive) ≡ length s
length_dropped s g drive = drop_keeps s g drive (λ (t : List ℕ). length t ≡ length s) (λ t n l e. length_released t g n ∙ e) refl

pub drop_part : (s : List ℕ) (g : Geometry) (drive a m : ℕ) → Outside g a m → part (dropped s g drive) a m ≡ part s a m
drop_part s g drive a m o = drop_keeps s g drive (λ (t : List ℕ). part t a m ≡ part s a m) (λ t n l e. release_part t g n a m l o ∙ e) refl

module _ (s : List ℕ) (g : Geometry) (f : Framed s g) (ok : slots_ok s g ≡ true) (drive : ℕ) where
  all_emptied : Emptied s g drive g.s (dropped s g drive)
  unfolding dropped dropped_to released
  all_emptied =
      in_turn_keeps (drop_stores g drive) s (Emptied s g drive) g.s
      (λ n t l h. on_test (λ (ws : List Store). Emptied s g drive (suc n) (stored t ws)) (of_drive drive (slot_of t g n)) (emptied_hit s g f drive n t l h) (emptied_miss s g f drive n t l h))
      (record { as_long = refl; ok = ok; none = λ j lj. absurd (not-suc-le-zero lj); others = refl })

  pub drop_ok : slots_ok (dropped s g drive) g ≡ true
  drop_ok = all_emptied.ok

  no_more : (r : Result) → Memᴰ r (results (dropped s g drive) g) → of_other drive r ≡ true
  unfolding results result_at
  no_more r m =
      let t = dropped s g drive in
      let w = Memᴰ.of_map (result_at t g) (by_age t g) m in
      let b = ages_in g (slot_of t g) (right t g drop_ok) w.0 w.1 in
      rw (← w.2) (ap not (ne_eqb (slot_of t g w.0).drive drive
      (λ q. true≢false (sym (every_of _ (b.1, (eq-eqb _ _ q, tt))) ∙ all_emptied.none w.0 b.0))))

  -- "Hard reset drops all results of its drive; the others keep their order"
  pub drop_results : results (dropped s g drive) g ≡ keeping (of_other drive) (results s g)
  drop_results = sym (keep_all (of_other drive) (results (dropped s g drive) g) no_more) ∙ all_emptied.others

-- What the search over the slots finds: of those wanted, one of the highest rank.
use Prim.Native.Nat.{ℕ, zero, suc, ◌≤◌, ◌<◌}
use Rattle.std.proofs.Common.{not-suc-le-zero, arith, true≢false, sym, ap, ◌∙◌, ltb-true, lt-ltb}
use Rattle.std.specs.Prelude.{true, false, ◌≡◌, refl, List, [], ◌∷◌, Option, Some, None}
use Rattle.std.specs.Option.{option_map}
use Rattle.std.proofs.Math.Logic.{⊎_elim}
use Rattle.std.proofs.Math.Dec.{ltb}
use Rattle.folds.specs.Cases.{either, on_test, order, last_or_below, some_same, none_apart}
use Rattle.folds.specs.Every.{every, holds, every_of}
use Rattle.geometry.specs.declared.Geometry.{Geometry}
use Rattle.slots.specs.declared.Best.{Best}
use Rattle.slots.specs.Record.{slot_of}
use Rattle.slots.specs.Slots.{used_count, slots_ok}
use Rattle.slots.specs.Facts.{Used, right}
use Rattle.slots.specs.Find.{wanted, top_of, better, best_of, newest_of}

-- slot i is wanted, and no wanted slot has a higher rank
pub record Newest (s : List ℕ) (g : Geometry) (drive block i : ℕ) : Type 0 where
  pub inside : i < g.s
  pub asked : wanted drive block (slot_of s g i) ≡ true
  pub most : (j : ℕ) → j < g.s → wanted drive block (slot_of s g j) ≡ true → (slot_of s g j).rank ≤ (slot_of s g i).rank

-- b is the best of the first n slots
record BestIs (s : List ℕ) (g : Geometry) (drive block n : ℕ) (b : Option Best) : Type 0 where
  most : (j : ℕ) → j < n → wanted drive block (slot_of s g j) ≡ true → (slot_of s g j).rank ≤ top_of b
  some : (x : Best) → b ≡ Some x → (x.slot < n) × (wanted drive block (slot_of s g x.slot) ≡ true) × (x.rank ≡ (slot_of s g x.slot).rank)

module _ (s : List ℕ) (g : Geometry) (drive block : ℕ) where
  module _ (n : ℕ) (b : Option Best) (h : BestIs s g drive block n b) where
    best_hit : every (wanted drive block (slot_of s g n) ∷ ltb (top_of b) (slot_of s g n).rank ∷ []) ≡ true
        → BestIs s g drive block (suc n) (Some (record { slot = n; rank = (slot_of s g n).rank }))
    best_hit t =
        let above : top_of b < (slot_of s g n).rank = ltb-true _ _ (holds _ 1 t) in
        record {
          most = λ j l w. ⊎_elim (λ e. omega (arith, ap (λ (k : ℕ). (slot_of s g k).rank) e)) (λ lt. omega (arith, h.most j lt w)) (last_or_below l);
          some = λ x e. rw (← some_same _ _ e) (omega arith, holds _ 0 t, refl);
        }

    best_miss : every (wanted drive block (slot_of s g n) ∷ ltb (top_of b) (slot_of s g n).rank ∷ []) ≡ false → BestIs s g drive block (suc n) b
    best_miss t =
        record {
          most = λ j l w. ⊎_elim (λ e. last j e w) (λ lt. h.most j lt w) (last_or_below l);
          some = λ x e. let r = h.some x e in (omega (arith, r.0), r.1, r.2);
        }
      where
        last : (j : ℕ) → j ≡ n → wanted drive block (slot_of s g j) ≡ true → (slot_of s g j).rank ≤ top_of b
        last j e w =
            let v : wanted drive block (slot_of s g n) ≡ true = rw e at w in
            ⊎_elim (λ l. absurd (true≢false (sym (every_of _ (v, (lt-ltb _ _ l, tt))) ∙ t))) (λ l. rw e l) (order (top_of b) (slot_of s g n).rank)

  best_is : (n : ℕ) → BestIs s g drive block n (best_of s g drive block n)
  unfolding best_of better
  best_is zero = record { most = λ j l w. absurd (not-suc-le-zero l); some = λ x e. absurd (none_apart x e) }
  best_is (suc n) =
      let b = best_of s g drive block n in
      on_test (BestIs s g drive block (suc n)) (every (wanted drive block (slot_of s g n) ∷ ltb (top_of b) (slot_of s g n).rank ∷ []))
      (best_hit n b (best_is n)) (best_miss n b (best_is n))

  pub newest_at : (i : ℕ) → newest_of s g drive block ≡ Some i → Newest s g drive block i
  unfolding newest_of
  newest_at i e = at (best_of s g drive block g.s) refl e
    where
      at : (b : Option Best) → b ≡ best_of s g drive block g.s → option_map (λ (x : Best). x.slot) b ≡ Some i → Newest s g drive block i
      at None q e = absurd (none_apart i e)
      at (Some x) q e =
          let h : BestIs s g drive block g.s (Some x) = rw q (best_is g.s) in
          let r = h.some x refl in
          let p : x.slot ≡ i = some_same _ _ e in
          rw (← p) (record { inside = r.0; asked = r.1; most = λ j l w. omega (arith, h.most j l w, r.2) })

  -- a slot with a result's record
  pub newest_used : slots_ok s g ≡ true → (i : ℕ) → Newest s g drive block i → Used g (used_count s g) (slot_of s g i)
  newest_used ok i n = (right s g ok).used i n.inside (holds _ 0 n.asked)

  pub newest_nothing : slots_ok s g ≡ true → newest_of s g drive block ≡ None → (j : ℕ) → j < g.s → wanted drive block (slot_of s g j) ≡ false
  unfolding newest_of
  newest_nothing ok e j l = at (best_of s g drive block g.s) refl e
    where
      at : (b : Option Best) → b ≡ best_of s g drive block g.s → option_map (λ (x : Best). x.slot) b ≡ None → wanted drive block (slot_of s g j) ≡ false
      at (Some x) q e = absurd (none_apart _ (sym e))
      at None q e =
          let h : BestIs s g drive block g.s None = rw q (best_is g.s) in
          ⊎_elim (λ w. let u = (right s g ok).used j l (holds _ 0 w) in absurd (omega (arith, h.most j l w))) (λ w. w)
          (either (wanted drive block (slot_of s g j)))

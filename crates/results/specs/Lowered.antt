-- What the bytes become where higher ranks fall by one.
use Prim.Native.Nat.{ℕ, zero, suc, ◌+◌, ◌-◌, ◌^◌, ◌≤◌, ◌<◌}
use Rattle.std.proofs.Common.{not-suc-le-zero, arith, ◌∙◌, inl, inr}
use Rattle.std.specs.Prelude.{◌≡◌, ◌⊎◌, ltb}
use Rattle.std.proofs.Math.Path.{refl, ap}
use Rattle.std.proofs.Math.Logic.{⊎_elim}
use mathlib.Core.List.{List}
use Rattle.std.proofs.Math.ListN.{length}
use Rattle.octets.specs.Part.{part}
use Rattle.octets.specs.Put.{put, length_put}
use Rattle.octets.specs.PutPut.{part_put_apart}
use Rattle.octets.specs.Number.{to_be, length_to_be}
use Rattle.folds.specs.Cases.{either, on_test, last_or_below}
use Rattle.geometry.specs.declared.Geometry.{Geometry}
use Rattle.geometry.specs.Header.{slot_at}
use Rattle.geometry.specs.Stores.{Store, stored, in_turn_lem, in_turn_keeps}
use Rattle.geometry.specs.Frame.{Framed}
use Rattle.geometry.specs.Places.{slot_room}
use Rattle.geometry.specs.Outside.{Outside}
use Rattle.slots.specs.Record.{slot_of}
use Rattle.slots.specs.Change.{fall_stores, lower_one, lowered}
use Rattle.slots.specs.Stored.{slot_ranked_lem, slot_other}
use Rattle.results.specs.Lower.{lower_rank, lower_slot}

module _ (g : Geometry) (rank : ℕ) where
  -- ---- in one slot
  module _ (s : List ℕ) (i : ℕ) where
    -- its rank is written anew, or nothing is
    lower_is : (P : List ℕ → Type 0) → ((v : ℕ) → P (put s (slot_at g i) (to_be 4 v))) → P s → P (lower_one g rank i s)
    unfolding lower_one
    lower_is P hit miss = on_test (λ (ws : List Store). P (stored s ws)) (ltb rank (slot_of s g i).rank) (λ t. hit _) (λ t. miss)

    length_lower : length (lower_one g rank i s) ≡ length s
    length_lower = lower_is (λ (t : List ℕ). length t ≡ length s) (λ v. length_put s _ _) refl

    lower_part : (a n : ℕ) → (a + n ≤ slot_at g i) ⊎ (slot_at g i + 16 ≤ a) → part (lower_one g rank i s) a n ≡ part s a n
    lower_part a n o =
        lower_is (λ (t : List ℕ). part t a n ≡ part s a n)
        (λ v. part_put_apart s (slot_at g i) (to_be 4 v) a n (⊎_elim (λ l. inl l) (λ l. inr (omega (arith, length_to_be 4 v))) o)) refl

    lower_other : (j : ℕ) → (j ≡ i → ⊥) → slot_of (lower_one g rank i s) g j ≡ slot_of s g j
    lower_other j ne =
        lower_is (λ (t : List ℕ). slot_of t g j ≡ slot_of s g j) (λ v. slot_other s g i j (to_be 4 v) ne (omega (arith, length_to_be 4 v))) refl

    lower_slot_lem : slot_at g i + 16 ≤ length s → (slot_of s g i).rank < 2 ^ 32 → slot_of (lower_one g rank i s) g i ≡ lower_slot rank (slot_of s g i)
    unfolding lower_one lower_rank
    lower_slot_lem room small =
        ⊎_elim (λ h. rw h (slot_ranked_lem s g i room ((slot_of s g i).rank - 1) (omega arith))) (λ h. rw h) (either (ltb rank (slot_of s g i).rank))

  -- ---- in the first n slots
  module _ (s : List ℕ) where
    pub length_lowered : (n : ℕ) → length (lowered g rank n s) ≡ length s
    unfolding lowered lower_one
    length_lowered n = in_turn_keeps (fall_stores g rank) s (λ i t. length t ≡ length s) n (λ i t l e. length_lower t i ∙ e) refl

    pub lowered_part : (n a m : ℕ) → n ≤ g.s → Outside g a m → part (lowered g rank n s) a m ≡ part s a m
    unfolding lowered lower_one
    lowered_part n a m l o = in_turn_keeps (fall_stores g rank) s (λ i t. part t a m ≡ part s a m) n (λ i t li e. lower_part t i a m (o i (omega arith)) ∙ e) refl

    -- not reached yet
    lowered_above : (n j : ℕ) → n ≤ j → slot_of (lowered g rank n s) g j ≡ slot_of s g j
    unfolding lowered lower_one
    lowered_above n j =
        in_turn_keeps (fall_stores g rank) s (λ i t. i ≤ j → slot_of t g j ≡ slot_of s g j) n (λ i t l e h. lower_other t i j (λ q. omega arith) ∙ e (omega arith)) (λ h. refl)

    -- passed
    pub lowered_below : Framed s g → ((j : ℕ) → j < g.s → (slot_of s g j).rank < 2 ^ 32) → (n j : ℕ) → n ≤ g.s → j < n
        → slot_of (lowered g rank n s) g j ≡ lower_slot rank (slot_of s g j)
    unfolding lowered lower_one
    lowered_below f small zero j h l = absurd (not-suc-le-zero l)
    lowered_below f small (suc n) j h l =
        let t = lowered g rank n s in
        let q : slot_of t g n ≡ slot_of s g n = lowered_above n n (omega arith) in
        ap (λ (w : List ℕ). slot_of w g j) (in_turn_lem (fall_stores g rank) s n)
        ∙ ⊎_elim
        (λ e. rw e (lower_slot_lem t n (omega (arith, slot_room s g n f h, length_lowered n)) (rw q (small n h)) ∙ ap (lower_slot rank) q))
        (λ lt. lower_other t n j (λ e. omega arith) ∙ lowered_below f small n j (omega arith) lt)
        (last_or_below l)

-- What a write does to each row's sum.
use Rattle.std.specs.Prelude.{Bool, true, false, cond, ◌≡◌, List, [], length, replicate}
use Rattle.std.proofs.Math.Path.{refl, sym, ap, ap₂}
use Rattle.std.proofs.Common.{◌∙◌, not-suc-le-zero, arith}
use Rattle.std.proofs.Math.Logic.{⊎_elim}
use Prim.Native.Nat.{ℕ, zero, suc, ◌+◌, ◌-◌, ◌*◌, ◌≤◌, ◌<◌}
use Rattle.octets.specs.Part.{part, length_part, part_part}
use Rattle.octets.specs.Put.{put}
use Rattle.octets.specs.PutPut.{part_put_below, part_put_above, part_put_of}
use Rattle.octets.specs.Pieces.{block_inside}
use Rattle.octets.specs.Xor.{◌⊻◌, length_xor_le, xor_nil, xor_commutes, xor_regroups, xor_swaps, xor_cancels, part_xor}
use Rattle.folds.specs.Cases.{order, last_or_below}
use Rattle.geometry.specs.declared.Geometry.{Geometry}
use Rattle.geometry.specs.Header.{place, blocks_at}
use Rattle.geometry.specs.Frame.{Framed}
use Rattle.geometry.specs.Places.{Range, place_after_media, place_on, block_before, block_upto, range_room, range_long}
use Rattle.geometry.specs.Written.{other_drive}
use Rattle.drives.specs.Front.{front_put}
use Rattle.sums.specs.Counts.{SameCounts, same_counts}
use Rattle.sums.specs.Row.{counts, added, block_in, summed_to, row_sum}
use Rattle.sums.specs.Share.{share, share_in, share_below, share_past}

-- ---- from blocks to sums

module _ (s t : List ℕ) (g : Geometry) (r : ℕ) where
  same_to : (n : ℕ) → ((e : ℕ) → e < n → added t g r e ≡ added s g r e) → summed_to t g r n ≡ summed_to s g r n
  unfolding summed_to
  same_to zero h = refl
  same_to (suc n) h = ap₂ ◌⊻◌ (same_to n (λ e l. h e (omega arith))) (h n (omega arith))

  -- the same block of the same counted drive adds the same
  same_added : (e : ℕ) → counts t g e ≡ counts s g e → block_in t g r e ≡ block_in s g r e → added t g r e ≡ added s g r e
  same_added e c b = ap₂ (λ (x : Bool) (y : List ℕ). cond x y []) c b

  -- the same drives and the same blocks, the same sum
  pub sum_same : SameCounts t s g → ((e : ℕ) → e < g.d → block_in t g r e ≡ block_in s g r e) → row_sum t g r ≡ row_sum s g r
  unfolding row_sum
  sum_same c h = ap (◌⊻◌ (replicate g.l 0)) (same_to g.d (λ e l. same_added e (c e l) (h e l)))

  -- what one drive adds changes by δ
  module _ (d : ℕ) (δ : List ℕ) (own : added t g r d ≡ added s g r d ⊻ δ) where
    one_to : (n : ℕ) → d < n → ((e : ℕ) → e < n → (e ≡ d → ⊥) → added t g r e ≡ added s g r e) → summed_to t g r n ≡ summed_to s g r n ⊻ δ
    unfolding summed_to
    one_to zero l h = absurd (not-suc-le-zero l)
    one_to (suc n) l h =
        ⊎_elim
        (λ (q : d ≡ n).
        ap₂ ◌⊻◌ (same_to n (λ e le. h e (omega arith) (λ k. omega arith))) (rw q at own)
        ∙ sym (xor_regroups (summed_to s g r n) (added s g r n) δ))
        (λ lt.
        ap₂ ◌⊻◌ (one_to n lt (λ e le. h e (omega arith))) (h n (omega arith) (λ k. omega arith))
        ∙ xor_swaps (summed_to s g r n) δ (added s g r n))
        (last_or_below l)

    sum_one : d < g.d → ((e : ℕ) → e < g.d → (e ≡ d → ⊥) → added t g r e ≡ added s g r e) → row_sum t g r ≡ row_sum s g r ⊻ δ
    unfolding row_sum
    sum_one l h = ap (◌⊻◌ (replicate g.l 0)) (one_to g.d l h) ∙ sym (xor_regroups (replicate g.l 0) (summed_to s g r g.d) δ)

-- ---- a write over n blocks of drive d from block b on

module _ (s : List ℕ) (g : Geometry) (f : Framed s g) (d b n : ℕ) (w : Range g d b n) (ys : List ℕ) (long : length ys ≡ n * g.l) where
  abbrev at : ℕ
  at = place g d b

  abbrev old : List ℕ
  old = blocks_at s g d b n

  room : at + n * g.l ≤ length s
  room = range_room s g d b n f w

  length_old : length old ≡ n * g.l
  length_old = range_long s g d b n f w

  other_block : (r e : ℕ) → r < g.b → (e ≡ d → ⊥) → block_in (put s at ys) g r e ≡ block_in s g r e
  other_block r e l ne = other_drive s g d e b r n 1 g.l ys ne w.range_in (omega arith) (omega arith) (omega arith)

  own_below : (r : ℕ) → r < b → block_in (put s at ys) g r d ≡ block_in s g r d
  own_below r h = part_put_below s at ys (place g d r) g.l (block_before g d r b h)

  own_above : (r : ℕ) → b + n ≤ r → block_in (put s at ys) g r d ≡ block_in s g r d
  own_above r h =
      let e : place g d (b + n) ≡ at + n * g.l = place_on g d b n in
      part_put_above s at ys (place g d r) g.l (omega (arith, block_upto g d (b + n) r h))

  -- block r, counted from block b on
  inside : (r : ℕ) → r < b + n → b ≤ r → (r - b) * g.l + g.l ≤ n * g.l
  inside r k h = block_inside (r - b) n g.l (omega arith)

  at_row : (r : ℕ) → b ≤ r → place g d r ≡ at + (r - b) * g.l
  at_row r h = ap (place g d) (omega arith) ∙ place_on g d b (r - b)

  old_block : (r : ℕ) → b ≤ r → r < b + n → part old ((r - b) * g.l) g.l ≡ block_in s g r d
  old_block r h k =
      part_part s at (n * g.l) ((r - b) * g.l) g.l (inside r k h) ∙ ap (λ (q : ℕ). part s q g.l) (sym (at_row r h))

  new_block : (r : ℕ) → b ≤ r → r < b + n → block_in (put s at ys) g r d ≡ part ys ((r - b) * g.l) g.l
  new_block r h k =
      ap (λ (q : ℕ). part (put s at ys) q g.l) (at_row r h)
      ∙ part_put_of s at ys ((r - b) * g.l) g.l (omega (arith, room)) (omega (arith, inside r k h))

  own_in : (r : ℕ) → b ≤ r → r < b + n → block_in (put s at ys) g r d ≡ block_in s g r d ⊻ part (old ⊻ ys) ((r - b) * g.l) g.l
  own_in r h k =
      let i = (r - b) * g.l in
      let c = inside r k h in
      let u = part old i g.l in
      let v = part ys i g.l in
      let lu : length u ≡ g.l = length_part old i g.l (omega (arith, length_old)) in
      let lv : length v ≡ g.l = length_part ys i g.l (omega arith) in
      new_block r h k
      ∙ sym (xor_cancels v u (omega arith))
      ∙ xor_commutes (v ⊻ u) u
      ∙ ap₂ ◌⊻◌ (old_block r h k) (xor_commutes v u ∙ sym (part_xor old ys i g.l))

  own_block : (r : ℕ) → block_in (put s at ys) g r d ≡ block_in s g r d ⊻ share g b (old ⊻ ys) r
  own_block r =
      let none : (δ : List ℕ) → δ ≡ [] → block_in s g r d ≡ block_in s g r d ⊻ δ = (λ δ e. sym (ap (◌⊻◌ (block_in s g r d)) e ∙ xor_nil (block_in s g r d))) in
      let lo = length_xor_le old ys (omega (arith, length_old)) in
      ⊎_elim (λ h. own_below r h ∙ none _ (share_below g b (old ⊻ ys) r h))
      (λ h. ⊎_elim (λ k. own_in r h k ∙ ap (◌⊻◌ (block_in s g r d)) (sym (share_in g b (old ⊻ ys) r h)))
      (λ k. own_above r k ∙ none _ (share_past g b (old ⊻ ys) r n (omega (arith, length_old)) k))
      (order r (b + n)))
      (order r b)

  kept : SameCounts (put s at ys) s g
  kept = same_counts (put s at ys) s g (front_put s g at ys (omega (arith, place_after_media g d b, f.placed.slot_ends)))

  -- each row's sum changes by the old bytes and the new ones there, where the drive counts
  pub sum_put : (r : ℕ) → r < g.b → row_sum (put s at ys) g r ≡ row_sum s g r ⊻ cond (counts s g d) (share g b (old ⊻ ys) r) []
  sum_put r l =
      let own : added (put s at ys) g r d ≡ added s g r d ⊻ cond (counts s g d) (share g b (old ⊻ ys) r) [] =
      ap (λ (x : Bool). cond x (block_in (put s at ys) g r d) []) (kept d w.drive_in) ∙ pick (counts s g d) in
      sum_one s (put s at ys) g r d _ own w.drive_in (λ e le ne. same_added s (put s at ys) g r e (kept e le) (other_block r e l ne))
    where
      pick : (c : Bool) → cond c (block_in (put s at ys) g r d) [] ≡ cond c (block_in s g r d) [] ⊻ cond c (share g b (old ⊻ ys) r) []
      pick true = own_block r
      pick false = sym (xor_nil [])

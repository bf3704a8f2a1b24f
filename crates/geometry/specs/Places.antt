-- Where entries, slots and blocks lie, and that they do not meet.
use Rattle.std.specs.Prelude.{◌≡◌, List, length}
use Rattle.std.proofs.Math.Path.{ap}
use Rattle.std.proofs.Common.{◌∙◌, inl, inr, ⊎_elim, one-mul}
use Prim.Native.Nat.{ℕ, suc, ◌+◌, ◌*◌, ◌≤◌, ◌<◌}
use Rattle.std.proofs.Math.Nat.{mul-le-mul_right, suc-mul, add-mul}
use native.Mathlib.Omega.{arith}
use Rattle.octets.specs.Part.{length_part, Apart}
use Rattle.folds.specs.Cases.{apart}
use Rattle.geometry.specs.declared.Geometry.{Geometry}
use Rattle.geometry.specs.Header.{slot_size, end_of, slot_at, data_at, place, blocks_at}
use Rattle.geometry.specs.Frame.{InRange, Placed, Framed, slots_small, media_small, blocks_small}

-- ---- slots

-- slot i's room ends before slot j's record, where i comes before j
pub slot_before : (g : Geometry) (i j : ℕ) → i < j → slot_at g i + slot_size g ≤ slot_at g j
unfolding slot_at
slot_before g i j l = omega (arith, mul-le-mul_right (slot_size g) l, suc-mul i (slot_size g))

-- two slots do not meet
pub slots_apart : (g : Geometry) (i j : ℕ) → (i ≡ j → ⊥) → Apart (slot_at g i) (slot_at g j) (slot_size g)
slots_apart g i j ne = ⊎_elim (λ l. inl (slot_before g i j l)) (λ l. inr (slot_before g j i l)) (apart i j ne)

pub slot_after_front : (g : Geometry) (i : ℕ) → g.slots ≤ slot_at g i
unfolding slot_at
slot_after_front g i = omega arith

pub slot_inside : (g : Geometry) (i : ℕ) → i < g.s → slot_at g i + slot_size g ≤ g.slots + g.s * slot_size g
unfolding slot_at
slot_inside g i l = omega (arith, mul-le-mul_right (slot_size g) l, suc-mul i (slot_size g))

pub slot_before_media : (g : Geometry) (i : ℕ) → Placed g → i < g.s → slot_at g i + slot_size g ≤ g.media
slot_before_media g i p l = omega (arith, slot_inside g i l)

pub slot_room : (s : List ℕ) (g : Geometry) (i : ℕ) → Framed s g → i < g.s → slot_at g i + slot_size g ≤ length s
slot_room s g i f l = omega (arith, slot_before_media g i f.placed l, f.media_end)

-- how far a slot's offset can be
pub slot_offset : (g : Geometry) (i : ℕ) → InRange g → i < g.s → i * slot_size g ≤ 16777472
slot_offset g i r l = omega (arith, mul-le-mul_right (slot_size g) l, suc-mul i (slot_size g), slots_small g r)

-- n blocks at the front of a slot's data
pub data_ends : (g : Geometry) (i n : ℕ) → n ≤ g.m → data_at g i + n * g.l ≤ slot_at g i + slot_size g
data_ends g i n h = omega (arith, mul-le-mul_right g.l h)

-- and within the image
pub data_in : (s : List ℕ) (g : Geometry) (i n : ℕ) → Framed s g → i < g.s → n ≤ g.m → data_at g i + n * g.l ≤ length s
data_in s g i n f l h = omega (arith, slot_room s g i f l, data_ends g i n h)

-- ---- blocks

-- the n blocks of drive d from block b on are the drive's
pub record Range (g : Geometry) (d b n : ℕ) : Type 0 where
  pub drive_in : d < g.d
  pub range_in : b + n ≤ g.b

module _ (g : Geometry) where
  pub place_after_media : (d b : ℕ) → g.media ≤ place g d b
  unfolding place
  place_after_media d b = omega arith

  -- n blocks on
  pub place_on : (d b n : ℕ) → place g d (b + n) ≡ place g d b + n * g.l
  unfolding place
  place_on d b n =
      let a : (d * g.b + b + n) * g.l ≡ (d * g.b + b) * g.l + n * g.l = add-mul (d * g.b + b) n g.l in
      let e : d * g.b + (b + n) ≡ d * g.b + b + n = omega arith in
      ap (λ (k : ℕ). g.media + k * g.l) e ∙ omega arith

  -- block r of a drive ends before block q, and starts no later
  pub block_before : (d r q : ℕ) → r < q → place g d r + g.l ≤ place g d q
  unfolding place
  block_before d r q l =
      let h : suc (d * g.b + r) * g.l ≤ (d * g.b + q) * g.l = mul-le-mul_right g.l (omega arith) in
      omega (arith, suc-mul (d * g.b + r) g.l)

  pub block_upto : (d r q : ℕ) → r ≤ q → place g d r ≤ place g d q
  unfolding place
  block_upto d r q l =
      let h : (d * g.b + r) * g.l ≤ (d * g.b + q) * g.l = mul-le-mul_right g.l (omega arith) in
      omega arith

  -- a range of drive d ends before any block of a later drive
  pub place_before : (d e b b' n : ℕ) → d < e → b + n ≤ g.b → place g d b + n * g.l ≤ place g e b'
  unfolding place
  place_before d e b b' n h k =
      let m : suc d * g.b ≤ e * g.b = mul-le-mul_right g.b h in
      let s : suc d * g.b ≡ d * g.b + g.b = suc-mul d g.b in
      let r : (d * g.b + b + n) * g.l ≤ (e * g.b + b') * g.l = mul-le-mul_right g.l (omega arith) in
      let a : (d * g.b + b + n) * g.l ≡ (d * g.b + b) * g.l + n * g.l = add-mul (d * g.b + b) n g.l in
      omega arith

  -- and within the image
  pub place_ends : (d b n : ℕ) → Range g d b n → place g d b + n * g.l ≤ end_of g
  unfolding place
  place_ends d b n h =
      let m : suc d * g.b ≤ g.d * g.b = mul-le-mul_right g.b h.drive_in in
      let s : suc d * g.b ≡ d * g.b + g.b = suc-mul d g.b in
      let r : (d * g.b + b + n) * g.l ≤ g.d * g.b * g.l = mul-le-mul_right g.l (omega (arith, h.range_in)) in
      let a : (d * g.b + b + n) * g.l ≡ (d * g.b + b) * g.l + n * g.l = add-mul (d * g.b + b) n g.l in
      omega arith

  -- ranges of two drives do not meet
  pub places_apart : (d e b b' n : ℕ) → (d ≡ e → ⊥) → Range g d b n → Range g e b' n → Apart (place g d b) (place g e b') (n * g.l)
  places_apart d e b b' n ne h k =
      ⊎_elim (λ l. inl (place_before d e b b' n l h.range_in)) (λ l. inr (place_before e d b' b n l k.range_in)) (apart d e ne)

pub range_room : (s : List ℕ) (g : Geometry) (d b n : ℕ) → Framed s g → Range g d b n → place g d b + n * g.l ≤ length s
range_room s g d b n f h = omega (arith, place_ends g d b n h, f.media_end)

pub range_long : (s : List ℕ) (g : Geometry) (d b n : ℕ) → Framed s g → Range g d b n → length (blocks_at s g d b n) ≡ n * g.l
range_long s g d b n f h = length_part s (place g d b) (n * g.l) (range_room s g d b n f h)

-- one block
pub block_room : (s : List ℕ) (g : Geometry) (d b : ℕ) → Framed s g → d < g.d → b < g.b → place g d b + g.l ≤ length s
block_room s g d b f h k =
    omega (arith, range_room s g d b 1 f (record { drive_in = h; range_in = omega arith }), one-mul g.l)

-- how far a block's offset can be
module _ (g : Geometry) (d b : ℕ) (r : InRange g) (h : d < g.d) (k : b ≤ g.b) where
  rows : d * g.b + b ≤ g.d * g.b
  rows =
      let m : suc d * g.b ≤ g.d * g.b = mul-le-mul_right g.b h in
      let s : suc d * g.b ≡ d * g.b + g.b = suc-mul d g.b in
      omega arith

  pub rows_offset : d * g.b + b ≤ 2097152
  rows_offset = omega (arith, rows, blocks_small g r)

  pub place_offset : (d * g.b + b) * g.l ≤ 8589934592
  place_offset = omega (arith, mul-le-mul_right g.l rows, media_small g r)

  pub place_in : place g d b ≤ end_of g
  unfolding place
  place_in = omega (arith, mul-le-mul_right g.l rows)

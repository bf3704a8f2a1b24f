-- What the header's tests say, by name, and the bounds that follow.
use Rattle.std.specs.Prelude.{ℕ, ◌+◌, ◌*◌, ◌%◌, ◌≤◌, ◌<◌, List, [], ◌∷◌, ◌++◌, Bool, true, false, cond, ◌≡◌, length, leb, eqb}
use Rattle.std.proofs.Common.{mul-le-mul, arith, ap, ◌∙◌, leb-true, eqb-true}
use Rattle.folds.specs.Every.{every, holds}
use Rattle.rules.specs.Must.{Must, must, tests_of, every_both}
use Rattle.geometry.specs.declared.Geometry.{Geometry}
use Rattle.geometry.specs.Header.{geometry_of, Site, Length, range_musts, offset_musts, header_musts, ranges_ok, offsets_ok, framed_ok, stride, slot_size, table_end, slots_end, end_of}

pub record InRange (g : Geometry) : Type 0 where
  pub d_low : 2 ≤ g.d
  pub d_high : g.d ≤ 32
  pub b_low : 1 ≤ g.b
  pub b_high : g.b ≤ 65536
  pub l_low : 4 ≤ g.l
  pub l_high : g.l ≤ 4096
  pub l_four : g.l % 4 ≡ 0
  pub s_high : g.s ≤ 16
  pub m_low : 1 ≤ g.m
  pub m_high : g.m ≤ 256

-- the table ends before the slots, and these before the media
pub record Placed (g : Geometry) : Type 0 where
  pub ranges : InRange g
  pub header_ends : 32 ≤ g.table
  pub table_ends : g.table + stride g * g.d ≤ g.slots
  pub slot_ends : g.slots + g.s * slot_size g ≤ g.media
  pub media_low : g.media < 4294967296

-- and the media end within the image
pub record Framed (s : List ℕ) (g : Geometry) : Type 0 where
  pub placed : Placed g
  pub media_end : end_of g ≤ length s

pub in_range_lem : (g : Geometry) → ranges_ok g ≡ true → InRange g
in_range_lem g e =
    record {
      d_low = leb-true _ _ (holds _ 0 e);
      d_high = leb-true _ _ (holds _ 1 e);
      b_low = leb-true _ _ (holds _ 2 e);
      b_high = leb-true _ _ (holds _ 3 e);
      l_low = leb-true _ _ (holds _ 4 e);
      l_high = leb-true _ _ (holds _ 5 e);
      l_four = eqb-true _ _ (holds _ 6 e);
      s_high = leb-true _ _ (holds _ 7 e);
      m_low = leb-true _ _ (holds _ 8 e);
      m_high = leb-true _ _ (holds _ 9 e);
    }

-- ---- the products are small
module _ (g : Geometry) (r : InRange g) where
  pub slot_small : g.m * g.l ≤ 1048576
  slot_small = mul-le-mul r.m_high r.l_high

  pub slots_small : g.s * slot_size g ≤ 16777472
  slots_small = let h : slot_size g ≤ 1048592 = omega (arith, slot_small) in mul-le-mul r.s_high h

  pub blocks_small : g.d * g.b ≤ 2097152
  blocks_small = mul-le-mul r.d_high r.b_high

  pub media_small : g.d * g.b * g.l ≤ 8589934592
  media_small = mul-le-mul blocks_small r.l_high

-- ---- what the tests say

pub placed : (g : Geometry) → ranges_ok g ≡ true → offsets_ok g ≡ true → Placed g
placed g r e =
    let ranges = in_range_lem g r in
    let table : g.table ≡ 32 = eqb-true _ _ (holds _ 0 e) in
    let slots : g.slots ≡ table_end g = eqb-true _ _ (holds _ 1 e) in
    let media : g.media ≡ slots_end g = eqb-true _ _ (holds _ 2 e) in
    record { ranges = ranges; header_ends = omega arith; table_ends = omega arith; slot_ends = omega arith; media_low = omega (arith, slots_small g ranges) }

pub framed_long : (s : List ℕ) → framed_ok s ≡ true → 32 ≤ length s
unfolding framed_ok
framed_long s e = leb-true _ _ (holds _ 0 e)

-- nothing lies behind the media
pub framed_exact : (s : List ℕ) → framed_ok s ≡ true → length s ≡ end_of (geometry_of s)
unfolding framed_ok
framed_exact s e = eqb-true _ _ (holds _ 3 e)

pub framed : (s : List ℕ) → framed_ok s ≡ true → Framed s (geometry_of s)
unfolding framed_ok
framed s e =
    record { placed = placed (geometry_of s) (holds _ 1 e) (holds _ 2 e); media_end = let n : length s ≡ end_of (geometry_of s) = framed_exact s e in omega arith }

-- an image of the same length is framed too
pub framed_same : (s s' : List ℕ) (g : Geometry) → Framed s g → length s' ≡ length s → Framed s' g
framed_same s s' g f e = record { placed = f.placed; media_end = omega arith }

-- what must hold of the header and of the length, taken together
pub header_ok : (m : List ℕ) → every (tests_of (header_musts m)) ≡ framed_ok m
unfolding framed_ok every
header_ok m =
    let g = geometry_of m in
    let end : List (Must Site) = must Length (eqb (length m) (end_of g)) ∷ [] in
    ap (λ (b : Bool). cond (leb 32 (length m)) b false)
    (every_both (range_musts g) (offset_musts g ++ end) ∙ ap (λ (b : Bool). cond (ranges_ok g) b false) (every_both (offset_musts g) end))

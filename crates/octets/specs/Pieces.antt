-- Bytes written piece by piece, and compared block by block.
use Rattle.std.specs.Prelude.{◌≡◌, refl, Bool, true, false, leb, length}
use Rattle.std.proofs.Math.Path.{sym, ap, ap₂}
use Rattle.std.proofs.Common.{◌∙◌, inl, inr, ⊎_elim, mul-le-mul_right, arith, leb-true, leb-false}
use mathlib.Core.List.{List, ◌++◌}
use Prim.Native.Nat.{ℕ, zero, suc, ◌+◌, ◌*◌, ◌≤◌, ◌<◌}
use Rattle.std.proofs.Math.Nat.{zero-add, zero-mul, suc-mul}
use Rattle.octets.specs.Part.{part, Apart, length_part, part_whole, part_past, part_add, part_all}
use Rattle.octets.specs.Put.{put, put_nil}
use Rattle.octets.specs.PutPut.{part_put_apart, put_append}

-- ---- pieces

-- the first o bytes of ys written, and then the k bytes after them
pub put_parts : (xs : List ℕ) (at : ℕ) (ys : List ℕ) (o k : ℕ) → put (put xs at (part ys 0 o)) (at + o) (part ys o k) ≡ put xs at (part ys 0 (o + k))
put_parts xs at ys o k = by (leb o (length ys)) refl
  where
    by : (b : Bool) → leb o (length ys) ≡ b → put (put xs at (part ys 0 o)) (at + o) (part ys o k) ≡ put xs at (part ys 0 (o + k))
    by true e =
        let h : o ≤ length ys = leb-true o (length ys) e in
        let m : length (part ys 0 o) ≡ o = length_part ys 0 o (omega arith) in
        ap (λ (n : ℕ). put (put xs at (part ys 0 o)) (at + n) (part ys o k)) (sym m)
        ∙ sym (put_append xs at (part ys 0 o) (part ys o k))
        ∙ ap (λ (n : ℕ). put xs at (part ys 0 o ++ part ys n k)) (sym (zero-add o))
        ∙ ap (put xs at) (sym (part_add ys 0 o k))
    by false e =
        let h : length ys < o = leb-false o (length ys) e in
        ap (put (put xs at (part ys 0 o)) (at + o)) (part_past ys o k (omega arith))
        ∙ put_nil (put xs at (part ys 0 o)) (at + o)
        ∙ ap (put xs at) (part_whole ys o (omega arith) ∙ sym (part_whole ys (o + k) (omega arith)))

-- what is written over the first o of n bytes leaves what is yet to be read of n bytes elsewhere
pub part_ahead : (s : List ℕ) (to n o k : ℕ) (ys : List ℕ) → o + k ≤ n → length ys ≤ o → (a : ℕ) → Apart a to n → part (put s to ys) (a + o) k ≡ part s (a + o) k
part_ahead s to n o k ys h short a w = part_put_apart s to ys (a + o) k (⊎_elim (λ l. inl (omega arith)) (λ l. inr (omega arith)) w)

-- ---- blocks

-- block k of n blocks of l bytes lies inside them
pub block_inside : (k n l : ℕ) → k < n → k * l + l ≤ n * l
block_inside k n l h = omega (arith, mul-le-mul_right l h, suc-mul k l)

-- two lists of n blocks of l bytes that agree block by block
module _ (l : ℕ) (xs ys : List ℕ) where
  fronts : (n : ℕ) → ((k : ℕ) → k < n → part xs (k * l) l ≡ part ys (k * l) l) → part xs 0 (n * l) ≡ part ys 0 (n * l)
  unfolding part
  fronts zero h = let e : 0 * l ≡ 0 = zero-mul l in rw e
  fronts (suc n) h =
      let e : suc n * l ≡ n * l + l = suc-mul n l in
      let z : 0 + n * l ≡ n * l = zero-add (n * l) in
      let cut : (zs : List ℕ) → part zs 0 (suc n * l) ≡ part zs 0 (n * l) ++ part zs (n * l) l =
      (λ zs. ap (part zs 0) e ∙ part_add zs 0 (n * l) l ∙ ap (λ (k : ℕ). part zs 0 (n * l) ++ part zs k l) z) in
      cut xs ∙ ap₂ ◌++◌ (fronts n (λ k lk. h k (omega arith))) (h n (omega arith)) ∙ sym (cut ys)

  pub blocks_ext : (n : ℕ) → length xs ≡ n * l → length ys ≡ n * l → ((k : ℕ) → k < n → part xs (k * l) l ≡ part ys (k * l) l) → xs ≡ ys
  blocks_ext n hx hy h =
      sym (part_all xs) ∙ ap (part xs 0) hx ∙ fronts n h ∙ ap (part ys 0) (sym hy) ∙ part_all ys

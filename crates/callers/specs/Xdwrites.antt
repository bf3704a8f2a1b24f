-- XDWRITE, coupled with a secondary and retained, for a caller.
use Rattle.std.specs.Prelude.{ℕ, ◌+◌, ◌*◌, ◌/◌, ◌%◌, ◌≤◌, ◌<◌, Bool, true, false, not, ◌&&◌, cond, ◌≡◌, refl, List, [], ◌∷◌, eqb, length, Option, Some, is_none}
use Rattle.std.proofs.Common.{arith, sym, ap, ap₂, ◌∙◌, inl, inr, le-ltb, eq-eqb, ne_eqb}
use Rattle.std.specs.Int.Bits.{bit_and}
use Rattle.octets.specs.Xor.{◌⊻◌}
use Rattle.folds.specs.Least.{index}
use Rattle.geometry.specs.declared.Geometry.{Geometry}
use Rattle.geometry.specs.Header.{blocks_at}
use Rattle.geometry.specs.Frame.{Framed}
use Rattle.drives.specs.declared.Came.{Came}
use Rattle.drives.specs.Table.{secondary_of, failed}
use Rattle.slots.specs.Find.{empty_slot}
use Rattle.results.specs.Results.{results}
use Rattle.image.specs.Shelf.{shelf_frame}
use Rattle.sense.specs.declared.Answer.TheVariants.{Good}
use Rattle.command.specs.declared.Op.TheVariants.{XdWrite}
use Rattle.meaning.specs.declared.Act.TheVariants.{Couple, Retain}
use Rattle.meaning.specs.Decision.{go}
use Rattle.meaning.specs.Sources.{is_at}
use Rattle.meaning.specs.Acts.{over, result_of, passed_on, data_over}
use Rattle.meaning.specs.Step.{decided}
use Rattle.demands_one_two.specs.Effects.{result_in}
use Rattle.meaning.specs.Allowed.{Blocks, Filled, Limited, Free}
use Rattle.callers.specs.Bytes.{Together, sixteen_saying, xdwrite_cdb, xdwrite_says}
use Rattle.callers.specs.Does.{blocks, Does, Target}
use Rattle.callers.specs.Goes.{◌then◌, goes, does}
use Rattle.callers.specs.Results.{free_left}

-- byte 1: "bit 6 Mirror, 5 NDisc, 4 DPO, 3 FUA, 2-1 Sec Ctl", and no other bit
pub record XdwriteByte (flags : ℕ) (mirror ndisc : Bool) (sec : ℕ) : Type 0 where
  pub no_other : bit_and flags 0x81 ≡ 0
  pub mirror_is : eqb (flags / 64 % 2) 1 ≡ mirror
  pub ndisc_is : eqb (flags / 32 % 2) 1 ≡ ndisc
  pub sec_is : flags / 2 % 4 ≡ sec

pub together_not : (sec : ℕ) → Together sec → (eqb sec 1 ≡ false) × (eqb sec 3 ≡ false)
together_not sec (inl e) = rw e (refl, refl)
together_not sec (inr e) = rw e (refl, refl)

module _ (m : List ℕ) (g : Geometry) (a : Came) (t : ℕ) (h : Target m g a t) (b n : ℕ) (s r : List ℕ)
    (w : Blocks m g (blocks t b n)) (e : Filled g (blocks t b n) s) (most : Limited g (blocks t b n)) where
  f : Framed m g
  f = shelf_frame m g h.shelf

  few : n < 65536
  few = omega (arith, most, f.placed.ranges.m_high)

  -- a block of the shelf fits its bytes
  low : (c : ℕ) → c + n ≤ g.b → c < 4294967296
  low c l = omega (arith, f.placed.ranges.b_high)

  -- ---- "Sec Ctl 00 or 10: the result goes to the secondary at its block": address a', drive u, block c

  module _ (flags : ℕ) (mirror : Bool) (sec : ℕ) (z : XdwriteByte flags mirror false sec) (both : Together sec) (a' u c : ℕ) (found : secondary_of m g a a' ≡ Some u) (small : a' < 16777216)
      (v : Blocks m g (blocks u c n)) (other : t ≡ u → ⊥) where
    not_one : eqb (flags / 2 % 4) 1 ≡ false
    not_one = ap (λ (x : ℕ). eqb x 1) z.sec_is ∙ (together_not sec both).0

    not_three : eqb (flags / 2 % 4) 3 ≡ false
    not_three = ap (λ (x : ℕ). eqb x 3) z.sec_is ∙ (together_not sec both).1

    -- a test that is made where Sec Ctl is not 11
    tested : (x : Bool) → x ≡ false → (not (eqb (flags / 2 % 4) 3) && x) ≡ false
    tested x q = ap₂ (λ (u v : Bool). not u && v) not_three q

    pub coupled_does : Does m g a (xdwrite_cdb flags b n a' c) s r []
        (over (blocks u c n) (passed_on m g (blocks t b n) (blocks u c n) mirror s) ∷ over (blocks t b n) s ∷ []) (results m g)
    coupled_does =
        does m g h.shelf a (xdwrite_cdb flags b n a' c) s r (Couple (blocks t b n) (blocks u c n) mirror)
        (goes m g a t h (xdwrite_cdb flags b n a' c) s r XdWrite (sixteen_saying 0xC0 XdWrite a flags b n a' c) (Couple (blocks t b n) (blocks u c n) mirror)
        (xdwrite_says a flags b n a' c (low b w.range.range_in) few small (low c v.range.range_in))
        (ap (λ (x : ℕ). not (eqb x 0)) z.no_other
        then not_one
        then tested _ z.ndisc_is
        then le-ltb g.m n most
        then tested _ (ap (is_at t) found ∙ ne_eqb u t (λ q. other (sym q)))
        then refl
        then ap not (eq-eqb (length s) (n * g.l) e)
        then ne_eqb n 0 (λ q. omega (arith, w.some))
        then le-ltb g.b (b + n) w.range.range_in
        then ap (λ (x : Bool). x && is_none (empty_slot m g)) not_three
        then tested _ (ap is_none found)
        then tested _ (ap (λ (x : Option ℕ). failed m g (index x)) found ∙ v.present)
        then tested _ (le-ltb g.b (c + n) v.range.range_in)
        then tt)
        (ap (λ (x : Bool). cond x (go (Retain (blocks t b n) (index (empty_slot m g)) (eqb (flags / 64 % 2) 1) (eqb (flags / 32 % 2) 1)) Good)
        (go (Couple (blocks t b n) (blocks (index (secondary_of m g a a')) c n) (eqb (flags / 64 % 2) 1)) Good)) not_three
        ∙ ap₂ (λ (x : Option ℕ) (y : Bool). go (Couple (blocks t b n) (blocks (index x) c n) y) Good) found z.mirror_is))

  -- without Mirror, written out
  pub coupled_xors : (flags sec : ℕ) → XdwriteByte flags false false sec → Together sec → (a' u c : ℕ) → secondary_of m g a a' ≡ Some u → a' < 16777216
      → Blocks m g (blocks u c n) → (t ≡ u → ⊥)
      → Does m g a (xdwrite_cdb flags b n a' c) s r []
      (over (blocks u c n) (blocks_at m g u c n ⊻ (s ⊻ blocks_at m g t b n)) ∷ over (blocks t b n) s ∷ []) (results m g)
  coupled_xors flags sec z both a' u c found small v other = coupled_does flags false sec z both a' u c found small v other

  -- ---- "Sec Ctl 11: the result is retained"; the secondary's address a' and block c are not looked at

  retained_goes : (flags : ℕ) (mirror ndisc : Bool) → XdwriteByte flags mirror ndisc 3 → (a' c : ℕ) → a' < 16777216 → c < 4294967296 → (i : ℕ) → Free m g i
      → decided m a (xdwrite_cdb flags b n a' c) s r ≡ go (Retain (blocks t b n) i mirror ndisc) Good
  retained_goes flags mirror ndisc z a' c la lc i v =
      let three : eqb (flags / 2 % 4) 3 ≡ true = ap (λ (x : ℕ). eqb x 3) z.sec_is in
      let spared : (x : Bool) → (not (eqb (flags / 2 % 4) 3) && x) ≡ false = (λ x. ap (λ (y : Bool). not y && x) three) in
      goes m g a t h (xdwrite_cdb flags b n a' c) s r XdWrite (sixteen_saying 0xC0 XdWrite a flags b n a' c) (Retain (blocks t b n) i mirror ndisc)
      (xdwrite_says a flags b n a' c (low b w.range.range_in) few la lc)
      (ap (λ (x : ℕ). not (eqb x 0)) z.no_other
      then ap (λ (x : ℕ). eqb x 1) z.sec_is
      then spared _
      then le-ltb g.m n most
      then spared _
      then refl
      then ap not (eq-eqb (length s) (n * g.l) e)
      then ne_eqb n 0 (λ q. omega (arith, w.some))
      then le-ltb g.b (b + n) w.range.range_in
      then ap₂ (λ (x : Bool) (y : Option ℕ). x && is_none y) three v.takes
      then spared _
      then spared _
      then spared _
      then tt)
      (ap₂ (λ (x : Bool) (y : Option ℕ). cond x (go (Retain (blocks t b n) (index y) (eqb (flags / 64 % 2) 1) (eqb (flags / 32 % 2) 1)) Good)
      (go (Couple (blocks t b n) (blocks (index (secondary_of m g a a')) c n) (eqb (flags / 64 % 2) 1)) Good)) three v.takes
      ∙ ap₂ (λ (x y : Bool). go (Retain (blocks t b n) i x y) Good) z.mirror_is z.ndisc_is)

  -- where one more fits
  pub retained_does : length (results m g) < g.s → (flags : ℕ) (mirror ndisc : Bool) → XdwriteByte flags mirror ndisc 3 → (a' c : ℕ) → a' < 16777216 → c < 4294967296
      → Does m g a (xdwrite_cdb flags b n a' c) s r [] (data_over (blocks t b n) ndisc s)
      (result_in 1 (blocks t b n) (result_of m g (blocks t b n) mirror s) ∷ results m g)
  retained_does more flags mirror ndisc z a' c la lc =
      let v = free_left m g h.shelf more in
      does m g h.shelf a (xdwrite_cdb flags b n a' c) s r (Retain (blocks t b n) v.slot mirror ndisc) (retained_goes flags mirror ndisc z a' c la lc v.slot v.free)

  -- without Mirror and NDisc
  pub retained_xors : length (results m g) < g.s → (flags : ℕ) → XdwriteByte flags false false 3 → (a' c : ℕ) → a' < 16777216 → c < 4294967296
      → Does m g a (xdwrite_cdb flags b n a' c) s r [] (over (blocks t b n) s ∷ []) (result_in 1 (blocks t b n) (s ⊻ blocks_at m g t b n) ∷ results m g)
  retained_xors more flags z a' c la lc = retained_does more flags false false z a' c la lc

-- XDWRITE(10) and XDWRITEREAD(10), for a caller.
use Rattle.std.specs.Prelude.{◌<◌, ℕ, ◌*◌, ◌/◌, ◌%◌, Bool, true, false, eqb, ◌≡◌, refl, List, [], ◌∷◌, length, Option, is_none}
use Rattle.std.proofs.Common.{ap, ap₂, le-ltb}
use Rattle.std.specs.Int.Bits.{bit_and}
use Rattle.octets.specs.Xor.{◌⊻◌}
use Rattle.folds.specs.Least.{index}
use Rattle.geometry.specs.declared.Geometry.{Geometry}
use Rattle.geometry.specs.Header.{blocks_at}
use Rattle.geometry.specs.Frame.{Framed}
use Rattle.drives.specs.declared.Came.{Came}
use Rattle.results.specs.Results.{results}
use Rattle.image.specs.Shelf.{shelf_frame}
use Rattle.sense.specs.declared.Answer.TheVariants.{Good}
use Rattle.command.specs.declared.Op.TheVariants.{XdWriteTen, XdWriteRead}
use Rattle.meaning.specs.declared.Act.TheVariants.{Retain, XdWriteRead as ToXdWriteRead}
use Rattle.meaning.specs.Decision.{go}
use Rattle.meaning.specs.Acts.{over, data_over}
use Rattle.meaning.specs.Checks.{busy, room_rule}
use Rattle.demands_one_two.specs.Effects.{result_in}
use Rattle.meaning.specs.Allowed.{Blocks, Filled, Roomy, Limited}
use Rattle.callers.specs.Bytes.{ten_saying, xdwrite_ten_cdb, xdwriteread_cdb, codes_say}
use Rattle.callers.specs.Does.{blocks, Does, Target}
use Rattle.callers.specs.Goes.{◌then◌, goes, does}
use Rattle.callers.specs.Results.{free_left}
use Rattle.callers.specs.Limited.{limited_says, limited_passes}

-- byte 1: "bit 4 DPO and 3 FUA", "2 DISABLE WRITE", and no other bit
pub record DisableByte (flags : ℕ) (disable : Bool) : Type 0 where
  pub no_other : bit_and flags 0xE3 ≡ 0
  pub disable_is : eqb (flags / 4 % 2) 1 ≡ disable

module _ (m : List ℕ) (g : Geometry) (a : Came) (t : ℕ) (h : Target m g a t) (b n : ℕ) (s r : List ℕ)
    (w : Blocks m g (blocks t b n)) (e : Filled g (blocks t b n) s) (most : Limited g (blocks t b n))
    (flags : ℕ) (disable : Bool) (z : DisableByte flags disable) where
  f : Framed m g
  f = shelf_frame m g h.shelf

  -- "50h always retains", where one more fits
  pub xdwrite_ten_does : length (results m g) < g.s
      → Does m g a (xdwrite_ten_cdb flags b n) s r [] (data_over (blocks t b n) disable s) (result_in 1 (blocks t b n) (s ⊻ blocks_at m g t b n) ∷ results m g)
  xdwrite_ten_does more =
      let v = (free_left m g h.shelf more).free in
      let i = (free_left m g h.shelf more).slot in
      let k = ten_saying 0x50 XdWriteTen a flags b n in
      does m g h.shelf a (xdwrite_ten_cdb flags b n) s r (Retain (blocks t b n) i false disable)
      (goes m g a t h (xdwrite_ten_cdb flags b n) s r XdWriteTen k (Retain (blocks t b n) i false disable)
      (limited_says m g f t b n s w e most 0x50 XdWriteTen a flags codes_say.6 refl)
      (limited_passes m g f t b n s w e most 0x50 XdWriteTen a flags z.no_other (busy XdWriteTen m g k) (ap is_none v.takes then tt))
      (ap₂ (λ (x : Option ℕ) (y : Bool). go (Retain (blocks t b n) (index x) false y) Good) v.takes z.disable_is))

  -- 53h "puts the XOR in the receive room and counts it", "takes no slot"
  pub xdwriteread_does : Roomy g (blocks t b n) (length r)
      → Does m g a (xdwriteread_cdb flags b n) s r (s ⊻ blocks_at m g t b n) (data_over (blocks t b n) disable s) (results m g)
  xdwriteread_does fits =
      let k = ten_saying 0x53 XdWriteRead a flags b n in
      does m g h.shelf a (xdwriteread_cdb flags b n) s r (ToXdWriteRead (blocks t b n) disable)
      (goes m g a t h (xdwriteread_cdb flags b n) s r XdWriteRead k (ToXdWriteRead (blocks t b n) disable)
      (limited_says m g f t b n s w e most 0x53 XdWriteRead a flags codes_say.7 refl)
      (limited_passes m g f t b n s w e most 0x53 XdWriteRead a flags z.no_other (room_rule g k (length r))
      (le-ltb (length r) (n * g.l) fits then tt))
      (ap (λ (y : Bool). go (ToXdWriteRead (blocks t b n) y) Good) z.disable_is))

-- without DISABLE WRITE the data are the blocks, and with it nothing is written
module _ (m : List ℕ) (g : Geometry) (a : Came) (t : ℕ) (h : Target m g a t) (b n : ℕ) (s r : List ℕ)
    (w : Blocks m g (blocks t b n)) (e : Filled g (blocks t b n) s) (most : Limited g (blocks t b n)) (fits : Roomy g (blocks t b n) (length r)) where
  pub xdwriteread_writes : (flags : ℕ) → DisableByte flags false
      → Does m g a (xdwriteread_cdb flags b n) s r (s ⊻ blocks_at m g t b n) (over (blocks t b n) s ∷ []) (results m g)
  xdwriteread_writes flags z = xdwriteread_does m g a t h b n s r w e most flags false z fits

  pub xdwriteread_keeps : (flags : ℕ) → DisableByte flags true
      → Does m g a (xdwriteread_cdb flags b n) s r (s ⊻ blocks_at m g t b n) [] (results m g)
  xdwriteread_keeps flags z = xdwriteread_does m g a t h b n s r w e most flags true z fits

-- WRITE and XPWRITE, for a caller.
use Rattle.std.specs.Prelude.{ℕ, ◌+◌, ◌*◌, ◌<◌, not, ◌≡◌, refl, List, [], ◌∷◌, eqb, length}
use Rattle.std.proofs.Common.{arith, ap, le-ltb, eq-eqb, ne_eqb}
use Rattle.std.specs.Int.Bits.{bit_and}
use Rattle.octets.specs.Xor.{◌⊻◌}
use Rattle.geometry.specs.declared.Geometry.{Geometry}
use Rattle.geometry.specs.Header.{blocks_at}
use Rattle.geometry.specs.Frame.{Framed}
use Rattle.drives.specs.declared.Came.{Came}
use Rattle.results.specs.Results.{results}
use Rattle.image.specs.Shelf.{shelf_frame}
use Rattle.command.specs.declared.Op.TheVariants.{XpWrite, Write}
use Rattle.command.specs.Command.{op_of}
use Rattle.meaning.specs.declared.Act.TheVariants.{Write as ToWrite, XpWrite as ToXpWrite}
use Rattle.meaning.specs.Acts.{over}
use Rattle.meaning.specs.Allowed.{Blocks, Filled, Limited}
use Rattle.callers.specs.Bytes.{ten_saying, write_cdb, xpwrite_cdb, codes_say, ten_says}
use Rattle.callers.specs.Does.{blocks, Does, Target}
use Rattle.callers.specs.Goes.{◌then◌, goes, does}
use Rattle.callers.specs.Limited.{limited_says, limited_passes}

-- of byte 1 only "bit 4 DPO, 3 FUA" may be set
module _ (m : List ℕ) (g : Geometry) (a : Came) (t : ℕ) (h : Target m g a t) (b n : ℕ) (s r : List ℕ) (flags : ℕ) (z : bit_and flags 0xE7 ≡ 0)
    (w : Blocks m g (blocks t b n)) (e : Filled g (blocks t b n) s) where
  f : Framed m g
  f = shelf_frame m g h.shelf

  -- the block fits its bytes
  low : b < 4294967296
  low = omega (arith, f.placed.ranges.b_high, w.range.range_in)

  -- WRITE: the data are the blocks
  pub write_does : n < 65536 → Does m g a (write_cdb flags b n) s r [] (over (blocks t b n) s ∷ []) (results m g)
  write_does small =
      does m g h.shelf a (write_cdb flags b n) s r (ToWrite (blocks t b n))
      (goes m g a t h (write_cdb flags b n) s r Write (ten_saying 0x2A Write a flags b n) (ToWrite (blocks t b n))
      (ten_says 0x2A Write a flags b n codes_say.1 refl low small)
      (ap (λ (x : ℕ). not (eqb x 0)) z
      then refl
      then refl
      then ap not (eq-eqb (length s) (n * g.l) e)
      then ne_eqb n 0 (λ z. omega (arith, w.some))
      then le-ltb g.b (b + n) w.range.range_in
      then tt)
      refl)

  -- XPWRITE, by either code: the data are XORed into the blocks
  pub xpwrite_does : (code : ℕ) → op_of code ≡ XpWrite → Limited g (blocks t b n)
      → Does m g a (xpwrite_cdb code flags b n) s r [] (over (blocks t b n) (blocks_at m g t b n ⊻ s) ∷ []) (results m g)
  xpwrite_does code q most =
      does m g h.shelf a (xpwrite_cdb code flags b n) s r (ToXpWrite (blocks t b n))
      (goes m g a t h (xpwrite_cdb code flags b n) s r XpWrite (ten_saying code XpWrite a flags b n) (ToXpWrite (blocks t b n))
      (limited_says m g f t b n s w e most code XpWrite a flags q refl)
      (limited_passes m g f t b n s w e most code XpWrite a flags z [] tt)
      refl)

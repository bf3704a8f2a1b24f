-- READ and XDREAD, for a caller.
use Rattle.std.specs.Prelude.{ℕ, ◌+◌, ◌*◌, ◌<◌, not, ◌≡◌, refl, List, [], eqb, length, Option, Some, is_none}
use Rattle.std.proofs.Common.{arith, sym, ap, subst, ◌∙◌, le-ltb, eq-eqb, eqb-true, ne_eqb}
use Rattle.std.specs.Int.Bits.{bit_and}
use Rattle.octets.specs.Part.{part}
use Rattle.folds.specs.Every.{holds}
use Rattle.folds.specs.Least.{index}
use Rattle.geometry.specs.declared.Geometry.{Geometry}
use Rattle.geometry.specs.Header.{data_at, blocks_at}
use Rattle.geometry.specs.Frame.{Framed}
use Rattle.drives.specs.declared.Came.{Came}
use Rattle.slots.specs.Record.{slot_of}
use Rattle.results.specs.First.{first_of, sans_first}
use Rattle.results.specs.Results.{Result, results, result_at}
use Rattle.results.specs.Newest.{answers}
use Rattle.results.specs.Best.{newest_at, newest_used}
use Rattle.image.specs.Shelf.{shelf_frame}
use Rattle.command.specs.declared.Op.TheVariants.{Read, XdRead}
use Rattle.command.specs.Command.{op_of}
use Rattle.meaning.specs.declared.Act.TheVariants.{Read as ToRead, XdRead as ToXdRead}
use Rattle.meaning.specs.Decision.{go}
use Rattle.sense.specs.declared.Answer.TheVariants.{Good}
use Rattle.meaning.specs.Step.{decided}
use Rattle.meaning.specs.Allowed.{Blocks, Held, Roomy}
use Rattle.callers.specs.Bytes.{ten_saying, read_cdb, xdread_cdb, codes_say, ten_says}
use Rattle.callers.specs.Does.{blocks, Does, Target}
use Rattle.callers.specs.Goes.{◌then◌, goes, does}
use Rattle.callers.specs.Results.{newest_held}

module _ (m : List ℕ) (g : Geometry) (a : Came) (t : ℕ) (h : Target m g a t) (b n : ℕ) (r : List ℕ) (fits : Roomy g (blocks t b n) (length r)) where
  f : Framed m g
  f = shelf_frame m g h.shelf

  -- READ: the blocks go to the room's front; of byte 1 only "bit 4 DPO, 3 FUA" may be set
  pub read_does : (flags : ℕ) → bit_and flags 0xE7 ≡ 0 → n < 65536 → Blocks m g (blocks t b n) → Does m g a (read_cdb flags b n) [] r (blocks_at m g t b n) [] (results m g)
  read_does flags z small w =
      let most = f.placed.ranges.b_high in
      does m g h.shelf a (read_cdb flags b n) [] r (ToRead (blocks t b n))
      (goes m g a t h (read_cdb flags b n) [] r Read (ten_saying 0x28 Read a flags b n) (ToRead (blocks t b n))
      (ten_says 0x28 Read a flags b n codes_say.0 refl (omega (arith, w.range.range_in)) small)
      (ap (λ (x : ℕ). not (eqb x 0)) z
      then refl
      then refl
      then refl
      then ne_eqb n 0 (λ e. omega (arith, w.some))
      then le-ltb g.b (b + n) w.range.range_in
      then le-ltb (length r) (n * g.l) fits
      then tt)
      refl)

  -- XDREAD, by either code, of the result in slot i
  xdread_goes : (code : ℕ) → op_of code ≡ XdRead → (i : ℕ) → Held m g (blocks t b n) i → decided m a (xdread_cdb code b n) [] r ≡ go (ToXdRead (blocks t b n) i) Good
  xdread_goes code said i w =
      let most = f.placed.ranges.b_high in
      let small = f.placed.ranges.m_high in
      let q = newest_at m g t b i w.answers in
      let u = newest_used m g t b h.shelf.slots_fine i q in
      let at : (slot_of m g i).block.0 ≡ b = eqb-true _ _ (holds _ 2 q.asked) in
      goes m g a t h (xdread_cdb code b n) [] r XdRead (ten_saying code XdRead a 0 b n) (ToXdRead (blocks t b n) i)
      (ten_says code XdRead a 0 b n said refl (omega (arith, u.fits.range.range_in)) (omega (arith, w.limited)))
      (refl
      then refl
      then refl
      then refl
      then ap is_none w.answers
      then (ap (λ (x : Option ℕ). not (eqb (slot_of m g (index x)).len n)) w.answers ∙ ap not (eq-eqb (slot_of m g i).len n w.same_len))
      then le-ltb (length r) (n * g.l) fits
      then tt)
      (ap (λ (x : Option ℕ). go (ToXdRead (blocks t b n) (index x)) Good) w.answers)

-- XDREAD hands out the newest result of its drive at its block, and it alone is no longer retained
pub xdread_does : (m : List ℕ) (g : Geometry) (a : Came) (t : ℕ) → Target m g a t → (b : ℕ) (z : Result) → first_of (answers t b) (results m g) ≡ Some z
    → (r : List ℕ) → Roomy g (blocks t b z.len) (length r) → (code : ℕ) → op_of code ≡ XdRead
    → Does m g a (xdread_cdb code b z.len) [] r z.bytes [] (sans_first (answers t b) (results m g))
unfolding result_at
xdread_does m g a t h b z q r fits code said =
    let w = newest_held m g t b z h.shelf q in
    let i = w.slot in
    let c = xdread_cdb code b z.len in
    let e : part m (data_at g i) (z.len * g.l) ≡ z.bytes =
    ap (λ (k : ℕ). part m (data_at g i) (k * g.l)) (sym w.held.same_len) ∙ ap (λ (x : Result). x.bytes) w.its in
    subst (λ (ys : List ℕ). Does m g a c [] r ys [] (sans_first (answers t b) (results m g))) e
    (does m g h.shelf a c [] r (ToXdRead (blocks t b z.len) i) (xdread_goes m g a t h b z.len r fits code said i w.held))

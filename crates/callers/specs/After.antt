-- What a call leaves, in words of blocks, states and results: of every byte that a later call can see.
use Rattle.std.specs.Prelude.{ℕ, ◌+◌, ◌*◌, ◌≤◌, ◌<◌, ◌≡◌, refl, ◌⊎◌, List, [], ◌∷◌}
use Rattle.std.proofs.Common.{arith, sym, ap, ◌∙◌, inl, inr, ⊎_elim}
use Rattle.octets.specs.Part.{part}
use Rattle.octets.specs.Put.{put, length_put}
use Rattle.octets.specs.PutPut.{part_put}
use Rattle.octets.specs.Xor.{◌⊻◌, xor_nil}
use Rattle.folds.specs.Cases.{same, apart}
use Rattle.folds.specs.Each.{EachIs, each_implies}
use Rattle.geometry.specs.declared.Geometry.{Geometry}
use Rattle.geometry.specs.Header.{place}
use Rattle.geometry.specs.Stores.{stored}
use Rattle.geometry.specs.Frame.{Framed, framed_same}
use Rattle.geometry.specs.Places.{Range, range_room, place_on, block_upto, place_before, place_after_media}
use Rattle.drives.specs.Table.{state_of, address_of}
use Rattle.drives.specs.Front.{SameFront, state_same, address_same}
use Rattle.results.specs.Results.{Result, results}
use Rattle.sums.specs.Row.{row_sum}
use Rattle.image.specs.Shelf.{Shelf, shelf_frame}
use Rattle.meaning.specs.declared.Span.{Span}
use Rattle.meaning.specs.Acts.{span_at, blocks_of, Over, Effect, stores_in}
use Rattle.demands_one_two.specs.Effects.{written, Covers, Distinct, Fine}
use Rattle.demands_one_two.specs.Valid.{effect_shelf}
use Rattle.demands_one_two.specs.Beside.{OffSpan, off_slots, front_beside, written_beside, effect_media, effect_beside}
use Rattle.demands_one_two.specs.Retained.{afterwards, effect_results}
use Rattle.demands_one_two.specs.Sums.{moved, effect_sum}

-- blocks of a drive, all of them its own
abbrev pub InDrive : Geometry → Span → Type 0
InDrive g x = Range g x.drive x.block.0 x.count

-- no block is in both
abbrev pub Elsewhere : Span → Span → Type 0
Elsewhere x y = (x.drive ≡ y.drive → ⊥) ⊎ ((x.block.0 + x.count ≤ y.block.0) ⊎ (y.block.0 + y.count ≤ x.block.0))

-- image m became t: its drives have these states, the blocks ws were written and moved the rows' sums, the results rs are retained, and no
-- other block and no address has changed
pub record After (m t : List ℕ) (g : Geometry) (states : ℕ → ℕ) (ws : List Over) (rs : List Result) : Type 0 where
  pub shelf : Shelf t g
  pub state_is : (d : ℕ) → d < g.d → state_of t g d ≡ states d
  pub address_kept : (d : ℕ) → d < g.d → address_of t g d ≡ address_of m g d
  pub wrote : EachIs (λ w. blocks_of t g w.blocks ≡ w.bytes) ws
  pub kept : (x : Span) → InDrive g x → EachIs (λ w. Elsewhere x w.blocks) ws → blocks_of t g x ≡ blocks_of m g x
  pub retained : results t g ≡ rs
  pub sum_is : (r : ℕ) → r < g.b → row_sum t g r ≡ row_sum m g r ⊻ moved m g ws r

-- nothing has changed
pub after_none : (m : List ℕ) (g : Geometry) → Shelf m g → After m m g (state_of m g) [] (results m g)
after_none m g h = record { shelf = h; state_is = λ d l. refl; address_kept = λ d l. refl; wrote = tt; kept = λ x r o. refl; retained = refl; sum_is = λ r l. sym (xor_nil (row_sum m g r)) }

-- ---- an effect leaves that

module _ (g : Geometry) where
  -- bytes of blocks that are elsewhere
  off_blocks : (x y : Span) → InDrive g x → InDrive g y → Elsewhere x y → OffSpan g (span_at g x) (x.count * g.l) y
  off_blocks x y rx ry = ⊎_elim others (⊎_elim (λ l. ⊎_elim (λ e. inl (within x y e l)) others (same x.drive y.drive)) (λ l. ⊎_elim (λ e. inr (within y x (sym e) l)) others (same x.drive y.drive)))
    where
      before : (x y : Span) → InDrive g x → x.drive < y.drive → span_at g x + x.count * g.l ≤ span_at g y
      before x y r l = place_before g x.drive y.drive x.block.0 y.block.0 x.count l r.range_in

      -- of another drive
      others : (x.drive ≡ y.drive → ⊥) → OffSpan g (span_at g x) (x.count * g.l) y
      others ne = ⊎_elim (λ l. inl (before x y rx l)) (λ l. inr (before y x ry l)) (apart x.drive y.drive ne)

      -- of the same
      within : (x y : Span) → x.drive ≡ y.drive → x.block.0 + x.count ≤ y.block.0 → span_at g x + x.count * g.l ≤ span_at g y
      within x y e l =
          let p : place g x.drive y.block.0 ≡ place g y.drive y.block.0 = ap (λ (d : ℕ). place g d y.block.0) e in
          omega (arith, place_on g x.drive x.block.0 x.count, block_upto g x.drive (x.block.0 + x.count) y.block.0 l)

  off_all : (x : Span) → InDrive g x → (ws : List Over) → EachIs (Covers g) ws → EachIs (λ w. Elsewhere x w.blocks) ws
      → EachIs (λ w. OffSpan g (span_at g x) (x.count * g.l) w.blocks) ws
  off_all x r [] cs os = tt
  off_all x r (w ∷ ws) (c, cs) (o, os) = (off_blocks x w.blocks r c.range o, off_all x r ws cs os)

  written_wrote : (m : List ℕ) → Framed m g → (ws : List Over) → EachIs (Covers g) ws → Distinct ws → EachIs (λ w. blocks_of (written m g ws) g w.blocks ≡ w.bytes) ws
  written_wrote m f [] cs ds = tt
  written_wrote m f (w ∷ ws) (c, cs) (d, ds) =
      let x = w.blocks in
      let at = span_at g x in
      let t = put m at w.bytes in
      let room = range_room m g x.drive x.block.0 x.count f c.range in (
        written_beside g at (x.count * g.l) t ws cs
            (off_all x c.range ws cs (each_implies (λ v. x.drive ≡ v.blocks.drive → ⊥) (λ v. Elsewhere x v.blocks) (λ v ne. inl ne) ws d))
            ∙ ap (part t at) (sym c.exact)
            ∙ part_put m at w.bytes (omega (arith, c.exact)),
        written_wrote t (framed_same m t g f (length_put m at w.bytes)) ws cs ds,
      )

module _ (m : List ℕ) (g : Geometry) (h : Shelf m g) (room : ℕ) (e : Effect) (f : Fine m g room e) where
  abbrev t : List ℕ
  t = stored m (stores_in m g e)

  front : SameFront t m g
  front = effect_beside m g h 0 g.slots room e f (front_beside g (shelf_frame m g h).placed e)

  -- a medium is the blocks written
  medium : (x : Span) → blocks_of t g x ≡ blocks_of (written m g e.writes) g x
  medium x =
      effect_media m g h (span_at g x) (x.count * g.l) room e f
      (off_slots g (span_at g x) (x.count * g.l) e.change (inr (place_after_media g x.drive x.block.0)))

  pub effect_after : After m t g (state_of m g) e.writes (afterwards e.change (results m g))
  effect_after =
      let p = (shelf_frame m g h).placed in
      record {
        shelf = effect_shelf m g h room e f;
        state_is = state_same t m g p front;
        address_kept = address_same t m g p front;
        wrote = each_implies (λ w. blocks_of (written m g e.writes) g w.blocks ≡ w.bytes) (λ w. blocks_of t g w.blocks ≡ w.bytes) (λ w q. medium w.blocks ∙ q)
            e.writes
            (written_wrote g m (shelf_frame m g h) e.writes f.covers f.distinct);
        kept = λ x r o. medium x ∙ written_beside g (span_at g x) (x.count * g.l) m e.writes f.covers (off_all g x r e.writes f.covers o);
        retained = effect_results m g h room e f;
        sum_is = effect_sum m g h room e f;
      }

-- What the one REBUILD needs on the second image, besides the three GOOD answers: it is GOOD if and only if it has that.
use Rattle.std.specs.Prelude.{ℕ, ◌+◌, ◌≤◌, ◌<◌, Bool, ◌≡◌, refl}
use Rattle.std.proofs.Common.{arith, sym, ap, ◌∙◌}
use mathlib.Core.List.Permᴰ
use mathlib.Core.List.{List, ◌∷◌, Permᴰ}
use Rattle.folds.specs.Each.{EachIs, each_append, each_both, each_implies, perm_each}
use Rattle.folds.proofs.Least.{at_same}
use Rattle.geometry.specs.declared.Geometry.{Geometry}
use Rattle.geometry.specs.Frame.{Framed}
use Rattle.drives.specs.declared.Came.{Came}
use Rattle.drives.specs.Table.{address_of, failed}
use Rattle.drives.specs.Facts.{address_lt}
use Rattle.drives.specs.Lookup.{drive_inside}
use Rattle.image.specs.Shelf.{shelf_frame}
use Rattle.command.specs.declared.Source.{Source}
use Rattle.meaning.specs.Allowed.{NamesOther}
use Rattle.callers.specs.Does.{blocks}
use Rattle.callers.specs.Lists.{Fitting}
use Rattle.callers.specs.Sources.{source_at}
use Rattle.divided.specs.InParts.{Sent, ours, IsGood, rebuilding, WellSaid, First, Fetched, Second, SameMedia, together, Ready}
use Rattle.divided.specs.Carried.{rebuilt}
use Rattle.divided.specs.Said.{rebuild_asks}
use Rattle.divided.proofs.Strings.{first_done, second_done, in_one}

module _ (g : Geometry) (m m' m'' : List ℕ) (x y z : Sent) (t u b c n : ℕ) (es fs zs : List Source) (int : Bool) (d ys : List ℕ) (a : Came) (flags count : ℕ) (r : List ℕ)
    (p : First ours m g x t b n es int d) (q : Fetched ours (ours m x).image m' g y t b n ys) (v : Second ours m'' g z u c n fs ys) (w : SameMedia m m'' g)
    (all : Permᴰ zs (together m'' g t b es fs)) (said : WellSaid m'' g a u flags int count c n zs) where
  abbrev one : Sent
  one = rebuilding a flags count c zs d r

  frame : Framed m'' g
  frame = shelf_frame m'' g v.shelf

  -- ---- its entries fit their bytes

  -- one that names a drive
  fits : (e : Source) (k : ℕ) → k < g.d → address_of m'' g k ≡ e.address.0 → e.block.0 + n ≤ g.b → Fitting e
  fits e k l f i =
      record { address_small = omega (arith, address_lt m'' g frame v.bytes k l); block_small = omega (arith, frame.placed.ranges.b_high) }

  first_fits : (e : Source) → NamesOther m g x.came (blocks t b n) e → Fitting e
  first_fits e o =
      let i = drive_inside m g e.address.0 o.drive o.found in
      fits e o.drive i.0 (sym (w.addresses o.drive i.0) ∙ i.1) o.range.range_in

  second_fits : (e : Source) → NamesOther m'' g z.came (blocks u c n) e → Fitting e
  second_fits e o = let i = drive_inside m'' g e.address.0 o.drive o.found in fits e o.drive i.0 i.1 o.range.range_in

  all_fit : EachIs Fitting zs
  all_fit =
      let did = first_done g m m' x y t b n es int d ys p q in
      let own = did.target_blocks.range in
      perm_each Fitting all (
        fits (source_at m'' g b t) t own.drive_in refl own.range_in,
        each_append Fitting es fs
            (each_implies (NamesOther m g x.came (blocks t b n)) Fitting first_fits es did.each)
            (each_implies (NamesOther m'' g z.came (blocks u c n)) Fitting second_fits fs (second_done g m m' m'' x y z t u b c n es fs int d ys p q v w).each),
      )

  -- ---- GOOD, and what is needed

  ready : (e : Source) → NamesOther m'' g a (blocks u c n) e → Ready m'' g a u e
  ready e o k f =
      let same : k ≡ o.drive = at_same f o.found in
      (ap (failed m'' g) same ∙ o.present, λ i. o.other (sym same ∙ i))

  -- where it is GOOD it has what it needs, and where it has that it is GOOD
  pub needs : IsGood ours m'' one → EachIs (Ready m'' g a u) (source_at m'' g b t ∷ es)
  needs good =
      let own = (second_done g m m' m'' x y z t u b c n es fs int d ys p q v w).target_blocks.range in
      let asks = rebuild_asks g.b c n zs int d a flags r p.some_block own.range_in frame.placed.ranges.b_high all_fit said.few said.byte count said.how_long in
      let did = rebuilt m'' g v.shelf one u said.found c n p.some_block zs int d asks good in
      (each_both (Ready m'' g a u) (source_at m'' g b t ∷ es) fs (perm_each (Ready m'' g a u) (Permᴰ.symm all) (each_implies (NamesOther m'' g a (blocks u c n)) (Ready m'' g a u) ready zs did.each))).0

  pub good_if_ready : EachIs (Ready m'' g a u) (source_at m'' g b t ∷ es) → IsGood ours m'' one
  good_if_ready k = ap (λ s. s.outcome.answer) (in_one g m m' m'' x y z t u b c n es fs int d ys p q v w a zs all flags count r said k)

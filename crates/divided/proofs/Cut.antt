-- "a REBUILD cut into adjoining ranges, each answered GOOD, equals the whole"
use Rattle.std.specs.Prelude.{ℕ, ◌+◌, ◌*◌, ◌≤◌, ◌<◌, Bool, true, false, cond, ◌≡◌, refl, eqb, length, drop, Some}
use Rattle.std.proofs.Common.{mul-le-mul, arith, ⊎_elim, sym, ap, ap₂, subst, ◌∙◌, length-take, length-drop}
use mathlib.Core.List.{List, [], ◌∷◌, map, Permᴰ}
use Rattle.std.proofs.lemmas.List.{length-map}
use Rattle.octets.specs.Part.{part}
use Rattle.octets.specs.Put.{put}
use Rattle.octets.specs.Operands.{xor_all, length_xor_all_le}
use Rattle.folds.specs.Each.{EachIs, each_append, each_back, each_map, perm_each}
use Rattle.geometry.specs.declared.Geometry.{Geometry}
use Rattle.geometry.specs.Header.{place}
use Rattle.geometry.specs.Places.{place_on, range_room, range_long}
use Rattle.drives.specs.declared.Came.{Came}
use Rattle.drives.specs.Table.{state_of, target_of, failed}
use Rattle.drives.specs.Front.{drive_ext}
use Rattle.image.specs.Shelf.{Shelf, shelf_frame}
use Rattle.command.specs.declared.Source.{Source}
use Rattle.meaning.specs.Acts.{home_of, named_blocks}
use Rattle.meaning.specs.Allowed.{Blocks, NamesOther}
use Rattle.meaning.specs.Lengths.{home_range}
use Rattle.callers.specs.Does.{blocks}
use Rattle.callers.specs.Operands.{operands}
use Rattle.divided.specs.InParts.{ours, IsGood, leaving, rebuilding, Adjoining, Cut, onward, CutOf, left, EachGood, CutFree}
use Rattle.divided.specs.Adjoin.{Within}
use Rattle.divided.proofs.Adjoin.{adjoining_end, all_within, all_bytes}
use Rattle.divided.specs.Carried.{Rebuilt, rebuilt}
use Rattle.divided.specs.Parts.{SameButOne}
use Rattle.divided.proofs.Parts.{same_after, sum_part}
use Rattle.divided.specs.Fill.{Stands, infill, fills_under, all_stand, Filling, Trail, ends, then, Filled, all_filled}
use Rattle.divided.specs.Whole.{whole}

-- a part that is as long as was asked for lies within
part_within : (xs : List ℕ) (at n : ℕ) → 1 ≤ n → length (part xs at n) ≡ n → at + n ≤ length xs
unfolding part
part_within xs at n some e = omega (arith, length-take n (drop at xs), length-drop at xs)

-- the REBUILD to drive u of the blocks from block b on, and images that some of its ranges have left of image m
module _ (g : Geometry) (m : List ℕ) (u b n : ℕ) (es : List Source) (int : Bool) (d : List ℕ) (a : Came) where
  -- what the whole writes, and where
  abbrev sum : List ℕ
  sum = xor_all (operands m g a n es int d)

  abbrev at : ℕ
  at = place g u b

  -- drives are as they were, and blocks but for the target's; what the whole writes leaves no trace of the ranges
  record Midway (y : List ℕ) : Type 0 where
    shelf : Shelf y g
    same : SameButOne y m g u
    states : (v : ℕ) → v < g.d → state_of y g v ≡ state_of m g v
    under : put y at sum ≡ put m at sum

  -- up to block z of the whole, target and sources are good on image m, and what is written is there
  record Reach (z : ℕ) : Type 0 where
    target_blocks : Blocks m g (blocks u b z)
    each : EachIs (NamesOther m g a (blocks u b z)) es
    some_source : 1 ≤ length es

  abbrev Reached : Cut → Type 0
  Reached p = Reach (p.range.from + p.range.count)

  -- a range took image y to image z
  record Took (p : Cut) (y z : List ℕ) : Type 0 where
    cut : CutOf m g u b es int d p
    within : Within n p.range
    good : IsGood ours y p.by
    image : z ≡ (ours y p.by).image

  -- ---- one range, on such an image

  module _ (p : Cut) (y z : List ℕ) (w : Midway y) (k : Took p y z) where
    abbrev o : ℕ
    o = p.range.from

    abbrev j : ℕ
    j = p.range.count

    abbrev c : Came
    c = p.by.came

    found : target_of y g c ≡ Some u
    found = drive_ext y m g w.same.addresses c.target.0 ∙ k.cut.found

    did : Rebuilt y g w.shelf p.by u found (b + o) j k.cut.some_block (map (onward o) es) int (part d (o * g.l) (j * g.l))
    did = rebuilt y g w.shelf p.by u found (b + o) j k.cut.some_block (map (onward o) es) int (part d (o * g.l) (j * g.l)) k.cut.asks k.good

    present_before : (v : ℕ) → v < g.d → failed y g v ≡ false → failed m g v ≡ false
    present_before v l e = ap (λ (i : ℕ). eqb i 1) (sym (w.states v l)) ∙ e

    -- a source of the range, before it was moved along, is one of the whole
    named : (e : Source) → NamesOther y g c (blocks u (b + o) j) (onward o e) → NamesOther m g a (blocks u b (o + j)) e
    named e f =
        record {
          drive = f.drive;
          found = sym (drive_ext y m g w.same.addresses e.address.0) ∙ f.found;
          range = record { drive_in = f.range.drive_in; range_in = omega (arith, f.range.range_in) };
          present = present_before f.drive f.range.drive_in f.present;
          other = f.other;
        }

    each_named : EachIs (NamesOther m g a (blocks u b (o + j))) es
    each_named = each_back (onward o) _ _ named es did.each

    -- it writes a part of what the whole writes
    part_is : part sum (o * g.l) (j * g.l) ≡ xor_all (operands y g c j (map (onward o) es) int (part d (o * g.l) (j * g.l)))
    part_is = sum_part m y g u b (o + j) w.same a c n o j (omega arith) k.within es int d each_named

    image_is : z ≡ infill at sum y (o * g.l) (j * g.l)
    image_is = k.image ∙ did.image ∙ ap₂ (put y) (place_on g u b o) (sym part_is)

    -- which is all there, and within the image
    sum_within : o * g.l + j * g.l ≤ length sum
    sum_within =
        let some : 1 * 4 ≤ j * g.l = mul-le-mul k.cut.some_block (shelf_frame y g w.shelf).placed.ranges.l_low in
        part_within sum (o * g.l) (j * g.l) (omega arith) (ap length part_is ∙ did.sum_long)

    room : at + o * g.l + j * g.l ≤ length y
    room = omega (arith, range_room y g u (b + o) j (shelf_frame y g w.shelf) did.target_blocks.range, place_on g u b o)

    midway : Midway (ours y p.by).image
    midway =
        let t = did.after in
        record {
          shelf = t.shelf;
          same = same_after y _ m g _ _ _ t w.same;
          states = λ v l. t.state_is v l ∙ w.states v l;
          under = ap (λ (i : List ℕ). put i at sum) (sym k.image ∙ image_is) ∙ fills_under at sum y (o * g.l) (j * g.l) sum_within room ∙ w.under;
        }

    reach : Reached p
    reach =
        let t = did.target_blocks in
        record {
          target_blocks =
              record {
                range = record { drive_in = t.range.drive_in; range_in = omega (arith, t.range.range_in) };
                present = present_before u t.range.drive_in t.present;
                some = omega (arith, k.cut.some_block);
              };
          each = each_named;
          some_source = omega (arith, did.some_source, length-map es (onward o));
        }

    filling : Filling at sum g.l (λ y. y) Midway (λ p. p.range) Reached p y z
    filling = record { within = sum_within; room = room; fills_it = image_is; has = subst Midway (sym k.image) midway; shows = reach }

  -- ---- all of them

  trail : (ps : List Cut) (y : List ℕ) → EachIs (CutOf m g u b es int d) ps → EachIs (λ p. Within n p.range) ps → EachGood ours ps y
      → Trail at sum g.l (λ y. y) Midway (λ p. p.range) Reached Took ps y (left ours ps y)
  trail [] y rs is gs = ends
  trail (p ∷ ps) y (r, rs) (i, is) (good, gs) = then (record { cut = r; within = i; good = good; image = refl }) (trail ps (ours y p.by).image rs is gs)

  module _ (h : Shelf m g) (some : 1 ≤ n) (long : length d ≡ cond int (n * g.l) 0) (ps qs : List Cut) (rs : EachIs (CutOf m g u b es int d) ps)
      (order : Permᴰ qs ps) (adjoin : Adjoining 0 n (map (λ p. p.range) qs)) (gs : EachGood ours ps m) where
    start : Midway m
    start = record { shelf = h; same = record { addresses = λ v l. refl; others = λ v l ne. refl }; states = λ v l. refl; under = refl }

    run : Filled at sum g.l (λ y. y) Midway (λ p. p.range) Reached Took filling ps m (left ours ps m)
    run = all_filled at sum g.l (λ y. y) Midway (λ p. p.range) Reached Took filling (trail ps m rs (all_within n (λ p. p.range) ps qs order adjoin) gs) start

    reaches : Reach n
    reaches =
        ⊎_elim (λ e. absurd (omega arith)) (λ q. q)
        (adjoining_end Reach 0 n (map (λ p. p.range) qs) adjoin (each_map (λ p. p.range) Reached _ (λ p q. q) qs (perm_each Reached order run.shown)))

    -- each operand of the whole is as long as its blocks
    sum_long : length sum ≤ n * g.l
    sum_long =
        length_xor_all_le (n * g.l) (operands m g a n es int d)
        (each_append (λ (x : List ℕ). length x ≡ n * g.l) (map (named_blocks m g a n) es) (cond int (d ∷ []) [])
        (each_map (named_blocks m g a n) (NamesOther m g a (blocks u b n)) (λ (x : List ℕ). length x ≡ n * g.l)
        (λ e f. range_long m g (home_of m g a e) e.block.0 n (shelf_frame m g h) (home_range m g a (blocks u b n) e f)) es reaches.each)
        (pick int long))
      where
        pick : (v : Bool) → length d ≡ cond v (n * g.l) 0 → EachIs (λ (x : List ℕ). length x ≡ n * g.l) (cond v (d ∷ []) [])
        pick false e = tt
        pick true e = (e, tt)

    left_is : left ours ps m ≡ put m at sum
    left_is =
        let y = left ours ps m in
        let f = shelf_frame y g run.has.shelf in
        all_stand at sum m y (omega (arith, range_room y g u b n f reaches.target_blocks.range, sum_long))
        (λ i l. all_bytes n (λ p. p.range) ps qs order adjoin (Stands at sum y) g.l run.stand i (omega (arith, sum_long)))
        run.has.under

pub cut_free : CutFree ours
cut_free g m u b n es int d ps qs a flags count r h bytes some long said rs order adjoin gs =
    let q = reaches g m u b n es int d a h some long ps qs rs order adjoin gs in
    whole m g h bytes a u flags int count b n es d said q.target_blocks q.each q.some_source long r _ refl
    ∙ ap (λ (i : List ℕ). leaving i (rebuilding a flags count b es d r)) (sym (left_is g m u b n es int d a h some long ps qs rs order adjoin gs))

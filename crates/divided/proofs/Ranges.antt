-- Two strings, range by range: the media are as one REBUILD of all blocks over all sources leaves them.
use Rattle.std.specs.Prelude.{ℕ, ◌+◌, ◌*◌, ◌≤◌, ◌<◌, Bool, true, ◌≡◌, refl, length, Some}
use Rattle.std.proofs.Common.{add-mul, arith, ⊎_elim, sym, ap, ap₂, subst, ◌∙◌}
use mathlib.Core.List.Permᴰ
use mathlib.Core.List.{List, [], ◌∷◌, map, map-append, Permᴰ}
use Rattle.octets.specs.Part.{part}
use Rattle.octets.specs.Put.{put, length_put}
use Rattle.octets.specs.Operands.{xor_all}
use Rattle.folds.specs.Cases.{same}
use Rattle.folds.specs.Each.{EachIs}
use Rattle.geometry.specs.declared.Geometry.{Geometry}
use Rattle.geometry.specs.Header.{place}
use Rattle.drives.specs.declared.Came.{Came}
use Rattle.drives.specs.Table.{address_of, target_of}
use Rattle.drives.specs.Lookup.{drive_inside}
use Rattle.image.specs.Shelf.{Shelf}
use Rattle.command.specs.declared.Op.TheVariants.{Rebuild}
use Rattle.command.specs.declared.Source.{Source}
use Rattle.callers.specs.Lists.{source}
use Rattle.callers.specs.Operands.{operands}
use Rattle.divided.specs.InParts.{Sent, ours, IsGood, Asks, medium_of, SameMedia, together, Adjoining, onward, Strung, StrungOf, Chain, JoinsByRanges}
use Rattle.divided.specs.Adjoin.{Within}
use Rattle.divided.proofs.Adjoin.{all_within, all_bytes}
use Rattle.divided.specs.Carried.{Rebuilt, rebuilt}
use Rattle.divided.specs.Media.{other_medium, blocks_upto, medium_put, medium_long, then_same}
use Rattle.divided.specs.Parts.{SameButOne}
use Rattle.divided.proofs.Parts.{same_after, sum_part}
use Rattle.divided.proofs.Strings.{second_done, sum_is}
use Rattle.divided.specs.Fill.{Stands, infill, fills_under, all_stand, Filling, Trail, ends, then, Filled, all_filled}

-- all sources, moved along
moved_together : (m y : List ℕ) (g : Geometry) (t b o : ℕ) (es fs : List Source) → address_of y g t ≡ address_of m g t
    → map (onward o) (together m g t b es fs) ≡ together y g t (b + o) (map (onward o) es) (map (onward o) fs)
moved_together m y g t b o es fs e = ap₂ (λ (k : ℕ) (xs : List Source). source k (b + o) ∷ xs) (sym e) (map-append (onward o) es fs)

module _ (g : Geometry) (m : List ℕ) (t u b c n : ℕ) (es fs zs : List Source) (int : Bool) (d : List ℕ) (x : Sent)
    (h : Shelf m g) (found : target_of m g x.came ≡ Some u) (some : 1 ≤ n) (all : Permᴰ zs (together m g t b es fs)) (asks : Asks Rebuild g.b x c n zs int d) (good : IsGood ours m x) where
  -- ---- the whole, on image m

  abbrev a : Came
  a = x.came

  abbrev sum : List ℕ
  sum = xor_all (operands m g a n zs int d)

  abbrev at : ℕ
  at = c * g.l

  did : Rebuilt m g h x u found c n some zs int d
  did = rebuilt m g h x u found c n some zs int d asks good

  abbrev see : List ℕ → List ℕ
  see y = medium_of y g u

  -- an image on the way
  record Midway (y : List ℕ) : Type 0 where
    same : SameButOne y m g u
    under : put (see y) at sum ≡ put (see m) at sum

  -- a range took image y to image z
  record Took (p : Strung) (y z : List ℕ) : Type 0 where
    linked : SameMedia y p.first_on g
    strung : StrungOf ours g t u b c es fs int d p
    within : Within n p.range
    image : z ≡ (ours p.second_on p.rebuild).image

  -- ---- one range

  module _ (p : Strung) (y z : List ℕ) (w : Midway y) (k : Took p y z) where
    abbrev o : ℕ
    o = p.range.from

    abbrev j : ℕ
    j = p.range.count

    abbrev f : List ℕ
    f = p.second_on

    abbrev cut : List ℕ → List ℕ
    cut xs = part xs (o * g.l) (j * g.l)

    linked : SameMedia y f g
    linked = then_same y p.first_on f g k.linked k.strung.same

    same_here : SameButOne f m g u
    same_here =
        record {
          addresses = λ v l. sym (linked.addresses v l) ∙ w.same.addresses v l;
          others = λ v l ne. sym (linked.media v l) ∙ w.same.others v l ne;
        }

    -- the second string's REBUILD wrote a part of what the whole writes
    second : Rebuilt f g k.strung.second.shelf p.rebuild u k.strung.second.found (c + o) j k.strung.first.some_block (map (onward o) fs) true p.bytes
    second =
        second_done g p.first_on p.fetched_on f p.regenerate p.fetch p.rebuild t u (b + o) (c + o) j (map (onward o) es) (map (onward o) fs) int (cut d) p.bytes
        k.strung.first k.strung.fetched k.strung.second k.strung.same

    all_moved : Permᴰ (map (onward o) zs) (together f g t (b + o) (map (onward o) es) (map (onward o) fs))
    all_moved =
        let inside : t < g.d = (drive_inside p.first_on g p.regenerate.came.target.0 t k.strung.first.found).0 in
        subst (Permᴰ (map (onward o) zs)) (moved_together m f g t b o es fs (same_here.addresses t inside)) (Permᴰ.map (onward o) all)

    wrote : (ours f p.rebuild).image ≡ put f (place g u (c + o)) (cut sum)
    wrote =
        second.image
        ∙ ap (put f (place g u (c + o)))
        (sym (sum_is g p.first_on p.fetched_on f p.regenerate p.fetch p.rebuild t u (b + o) (c + o) j (map (onward o) es) (map (onward o) fs) int (cut d) p.bytes
        k.strung.first k.strung.fetched k.strung.second k.strung.same a (map (onward o) zs) all_moved)
        ∙ sym (sum_part m f g u c n same_here a a n o j k.within k.within zs int d did.each))

    seen_here : see y ≡ see f
    seen_here = linked.media u did.target_blocks.range.drive_in

    fills_it : see z ≡ infill at sum (see y) (o * g.l) (j * g.l)
    fills_it =
        ap see (k.image ∙ wrote)
        ∙ medium_put f g u (c + o) (cut sum)
        ∙ ap₂ (λ (s : List ℕ) (i : ℕ). put s i (cut sum)) (sym seen_here) (add-mul c o g.l)

    within : o * g.l + j * g.l ≤ length sum
    within = omega (arith, blocks_upto g.l o j n k.within, did.sum_long)

    room : at + o * g.l + j * g.l ≤ length (see y)
    room =
        let r = second.target_blocks.range in
        omega (arith, add-mul c o g.l, blocks_upto g.l (c + o) j g.b r.range_in, medium_long f g u k.strung.second.shelf r.drive_in, ap length seen_here)

    midway : Midway (ours f p.rebuild).image
    midway =
        let q = second.after in
        record {
          same = same_after f _ m g _ _ _ q same_here;
          under = ap (λ (s : List ℕ). put s at sum) (ap see (sym k.image) ∙ fills_it) ∙ fills_under at sum (see y) (o * g.l) (j * g.l) within room ∙ w.under;
        }

    filling : Filling at sum g.l see Midway (λ p. p.range) (λ p. Unit {0}) p y z
    filling = record { within = within; room = room; fills_it = fills_it; has = subst Midway (sym k.image) midway; shows = tt }

  -- ---- all of them

  abbrev Trails : List Strung → List ℕ → List ℕ → Type 0
  Trails = Trail at sum g.l see Midway (λ p. p.range) (λ p. Unit {0}) Took

  -- from image y to one with the media of image e
  record Ends (ps : List Strung) (y e : List ℕ) : Type 0 where
    last : List ℕ
    trail : Trails ps y last
    same : SameMedia last e g

  chained : (ps : List Strung) (y e : List ℕ) → EachIs (λ p. Within n p.range) ps → Chain ours g t u b c es fs int d ps y e → Ends ps y e
  chained [] y e is k = record { last = y; trail = ends; same = k }
  chained (p ∷ ps) y e (i, is) (l, r, ks) =
      let q = chained ps (ours p.second_on p.rebuild).image e is ks in
      record { last = q.last; trail = then (record { linked = l; strung = r; within = i; image = refl }) q.trail; same = q.same }

  module _ (y e : List ℕ) (ps qs : List Strung) (order : Permᴰ qs ps) (adjoin : Adjoining 0 n (map (λ p. p.range) qs)) (w : SameMedia y m g)
      (k : Chain ours g t u b c es fs int d ps y e) where
    inside : u < g.d
    inside = did.target_blocks.range.drive_in

    start : Midway y
    start =
        record {
          same = record { addresses = w.addresses; others = λ v l ne. w.media v l };
          under = ap (λ (s : List ℕ). put s at sum) (w.media u inside);
        }

    ended : Ends ps y e
    ended = chained ps y e (all_within n (λ p. p.range) ps qs order adjoin) k

    run : Filled at sum g.l see Midway (λ p. p.range) (λ p. Unit {0}) Took filling ps y ended.last
    run = all_filled at sum g.l see Midway (λ p. p.range) (λ p. Unit {0}) Took filling ended.trail start

    -- the target's medium
    target_is : see ended.last ≡ put (see m) at sum
    target_is =
        let s = see ended.last in
        let long : length s ≡ g.b * g.l = sym (length_put s at sum) ∙ ap length run.has.under ∙ length_put (see m) at sum ∙ medium_long m g u h inside in
        all_stand at sum (see m) s (omega (arith, blocks_upto g.l c n g.b did.target_blocks.range.range_in, did.sum_long))
        (λ i l. all_bytes n (λ p. p.range) ps qs order adjoin (Stands at sum s) g.l run.stand i (omega (arith, did.sum_long)))
        run.has.under

    target_same : medium_of e g u ≡ medium_of (ours m x).image g u
    target_same = sym (ended.same.media u inside) ∙ target_is ∙ sym (ap see did.image ∙ medium_put m g u c sum)

    media_same : (v : ℕ) → v < g.d → medium_of e g v ≡ medium_of (ours m x).image g v
    media_same v l =
        ⊎_elim (λ q. ap (medium_of e g) q ∙ target_same ∙ ap (medium_of (ours m x).image g) (sym q))
        (λ ne. sym (ended.same.media v l)
        ∙ run.has.same.others v l ne
        ∙ sym (other_medium m _ g _ _ _ did.after v l ne))
        (same v u)

pub joins_by_ranges : JoinsByRanges ours
joins_by_ranges g m m' e t u b c n es fs zs int d ps qs x k order adjoin w h found some all asks good =
    media_same g m' t u b c n es fs zs int d x h found some all asks good m e ps qs order adjoin w k

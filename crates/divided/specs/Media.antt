-- Drives and blocks of two images with the same media.
use Rattle.std.specs.Prelude.{ℕ, ◌+◌, ◌*◌, ◌≤◌, ◌<◌, ◌≡◌, refl, List, [], ◌∷◌, map, length, Option, Some}
use Rattle.std.proofs.Common.{mul-le-mul_right, add-mul, zero-add, arith, inl, sym, ap, ap₂, ◌∙◌}
use Rattle.octets.specs.Part.{part, part_part}
use Rattle.octets.specs.Put.{put}
use Rattle.octets.specs.PutPut.{part_put_in}
use Rattle.folds.specs.Each.{EachIs}
use Rattle.folds.specs.Least.{index}
use Rattle.geometry.specs.declared.Geometry.{Geometry}
use Rattle.geometry.specs.Header.{place, blocks_at}
use Rattle.geometry.specs.Places.{Range, place_on, range_long}
use Rattle.drives.specs.declared.Came.{Came}
use Rattle.drives.specs.Table.{source_drive}
use Rattle.drives.specs.Front.{drive_ext}
use Rattle.results.specs.Results.{Result}
use Rattle.image.specs.Shelf.{Shelf, shelf_frame}
use Rattle.command.specs.declared.Source.{Source}
use Rattle.meaning.specs.declared.Span.{Span}
use Rattle.meaning.specs.Acts.{Over, home_of, named_blocks}
use Rattle.meaning.specs.Allowed.{NamesOther}
use Rattle.meaning.specs.Lengths.{home_range}
use Rattle.callers.specs.After.{After}
use Rattle.callers.specs.Does.{blocks}
use Rattle.divided.specs.InParts.{medium_of, SameMedia, Ready}

-- n blocks from block o of n blocks or more on
pub blocks_upto : (l o n k : ℕ) → o + n ≤ k → o * l + n * l ≤ k * l
blocks_upto l o n k h = omega (arith, mul-le-mul_right l h, add-mul o n l)

-- some of a range's blocks
pub part_blocks : (m : List ℕ) (g : Geometry) (v b o n k : ℕ) → o + n ≤ k → part (blocks_at m g v b k) (o * g.l) (n * g.l) ≡ blocks_at m g v (b + o) n
part_blocks m g v b o n k h =
    part_part m (place g v b) (k * g.l) (o * g.l) (n * g.l) (blocks_upto g.l o n k h) ∙ ap (λ (z : ℕ). part m z (n * g.l)) (sym (place_on g v b o))

-- those of a medium
pub in_medium : (m : List ℕ) (g : Geometry) (v b n : ℕ) → Range g v b n → blocks_at m g v b n ≡ part (medium_of m g v) (b * g.l) (n * g.l)
in_medium m g v b n r = sym (part_blocks m g v 0 b n g.b r.range_in ∙ ap (λ (k : ℕ). blocks_at m g v k n) (zero-add b))

-- and what is written there
pub medium_put : (m : List ℕ) (g : Geometry) (v b : ℕ) (ys : List ℕ) → medium_of (put m (place g v b) ys) g v ≡ put (medium_of m g v) (b * g.l) ys
medium_put m g v b ys =
    ap (λ (k : ℕ). medium_of (put m k ys) g v) (ap (place g v) (sym (zero-add b)) ∙ place_on g v 0 b) ∙ part_put_in m (place g v 0) (g.b * g.l) (b * g.l) ys

pub medium_long : (m : List ℕ) (g : Geometry) (v : ℕ) → Shelf m g → v < g.d → length (medium_of m g v) ≡ g.b * g.l
medium_long m g v h l = range_long m g v 0 g.b (shelf_frame m g h) (record { drive_in = l; range_in = omega arith })

-- a write to one drive leaves the media of the others
pub other_medium : (y z : List ℕ) (g : Geometry) (states : ℕ → ℕ) (w : Over) (rs : List Result) → After y z g states (w ∷ []) rs
    → (v : ℕ) → v < g.d → (v ≡ w.blocks.drive → ⊥) → medium_of z g v ≡ medium_of y g v
other_medium y z g states w rs t v l ne = t.kept (blocks v 0 g.b) (record { drive_in = l; range_in = omega arith }) (inl ne, tt)

pub then_same : (m m' m'' : List ℕ) (g : Geometry) → SameMedia m m' g → SameMedia m' m'' g → SameMedia m m'' g
then_same m m' m'' g w v = record { addresses = λ d l. w.addresses d l ∙ v.addresses d l; media = λ d l. w.media d l ∙ v.media d l }

module _ (m m' : List ℕ) (g : Geometry) (w : SameMedia m m' g) where
  pub same_blocks : (v b n : ℕ) → Range g v b n → blocks_at m g v b n ≡ blocks_at m' g v b n
  same_blocks v b n r =
      in_medium m g v b n r ∙ ap (λ (y : List ℕ). part y (b * g.l) (n * g.l)) (w.media v r.drive_in) ∙ sym (in_medium m' g v b n r)

  -- what an address names, however the command came
  same_drive : (a a' : Came) (x : ℕ) → source_drive m g a x ≡ source_drive m' g a' x
  same_drive a a' x = drive_ext m m' g w.addresses x

  module _ (a a' : Came) (x : Span) where
    same_named : (e : Source) → NamesOther m g a x e → named_blocks m g a x.count e ≡ named_blocks m' g a' x.count e
    same_named e o =
        same_blocks (home_of m g a e) e.block.0 x.count (home_range m g a x e o)
        ∙ ap (λ (f : Option ℕ). blocks_at m' g (index f) e.block.0 x.count) (same_drive a a' e.address.0)

    pub each_named : (es : List Source) → EachIs (NamesOther m g a x) es → map (named_blocks m g a x.count) es ≡ map (named_blocks m' g a' x.count) es
    each_named [] h = refl
    each_named (e ∷ es) h = ap₂ (λ (y : List ℕ) (ys : List (List ℕ)). y ∷ ys) (same_named e h.0) (each_named es h.1)

  -- a source of an image is one of the other where its drive is present there, and is not the target
  pub names_on : (a a' : Came) (x : Span) (u c : ℕ) (e : Source) → NamesOther m g a x e → Ready m' g a' u e → NamesOther m' g a' (blocks u c x.count) e
  names_on a a' x u c e o k =
      let f : source_drive m' g a' e.address.0 ≡ Some o.drive = sym (same_drive a a' e.address.0) ∙ o.found in
      record { drive = o.drive; found = f; range = o.range; present = (k o.drive f).0; other = (k o.drive f).1 }

pub same_itself : (m : List ℕ) (g : Geometry) → SameMedia m m g
same_itself m g = record { addresses = λ v l. refl; media = λ v l. refl }

-- and of its own, however the command came
pub names_anyhow : (m : List ℕ) (g : Geometry) (a a' : Came) (x : Span) (e : Source) → NamesOther m g a x e → NamesOther m g a' x e
names_anyhow m g a a' x e o =
    record { drive = o.drive; found = sym (same_drive m m g (same_itself m g) a a' e.address.0) ∙ o.found; range = o.range; present = o.present; other = o.other }

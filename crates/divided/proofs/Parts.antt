-- What a range's operands come to is a part of what the whole's come to.
use Rattle.std.specs.Prelude.{ℕ, ◌+◌, ◌*◌, ◌≤◌, Bool, ◌≡◌, Option, Some}
use Rattle.std.proofs.Common.{arith, sym, ◌∙◌}
use Rattle.std.proofs.Math.Bool.{true, false, cond}
use Rattle.std.proofs.Math.Path.{refl, ap, ap₂}
use mathlib.Core.List.{List, [], ◌∷◌, ◌++◌, map, map-append}
use Rattle.octets.specs.Part.{part}
use Rattle.octets.specs.Operands.{xor_all, parts_of, part_xor_all}
use Rattle.folds.specs.Each.{EachIs}
use Rattle.folds.specs.Least.{index}
use Rattle.geometry.specs.declared.Geometry.{Geometry}
use Rattle.geometry.specs.Header.{blocks_at}
use Rattle.geometry.specs.Places.{Range}
use Rattle.drives.specs.declared.Came.{Came}
use Rattle.drives.specs.Table.{source_drive}
use Rattle.drives.specs.Front.{drive_ext}
use Rattle.results.specs.Results.{Result}
use Rattle.command.specs.declared.Source.{Source}
use Rattle.meaning.specs.Acts.{Over, named_blocks}
use Rattle.meaning.specs.Allowed.{NamesOther}
use Rattle.callers.specs.After.{After}
use Rattle.callers.specs.Does.{blocks}
use Rattle.callers.specs.Operands.{operands}
use Rattle.divided.specs.InParts.{onward}
use Rattle.divided.specs.Media.{part_blocks, in_medium, other_medium}
use Rattle.divided.specs.Parts.{SameButOne}

-- and so has what a write to drive u leaves of it
pub same_after : (y z m : List ℕ) (g : Geometry) (states : ℕ → ℕ) (w : Over) (rs : List Result) → After y z g states (w ∷ []) rs → SameButOne y m g w.blocks.drive
    → SameButOne z m g w.blocks.drive
same_after y z m g states w rs t s =
    record { addresses = λ v l. t.address_kept v l ∙ s.addresses v l; others = λ v l ne. other_medium y z g states w rs t v l ne ∙ s.others v l ne }

-- of a whole of n blocks that came as a, a range that came as c; the sources are good for its blocks and more, up to block z of the whole
module _ (m y : List ℕ) (g : Geometry) (u b z : ℕ) (w : SameButOne y m g u) (a c : Came) (n o k : ℕ) (upto : o + k ≤ z) (within : o + k ≤ n) where
  abbrev cut : List ℕ → List ℕ
  cut x = part x (o * g.l) (k * g.l)

  named_part : (e : Source) → NamesOther m g a (blocks u b z) e → cut (named_blocks m g a n e) ≡ named_blocks y g c k (onward o e)
  named_part e f =
      let v = f.drive in
      let d = e.block.0 in
      let r : Range g v (d + o) k = record { drive_in = f.range.drive_in; range_in = omega (arith, f.range.range_in) } in
      let there : source_drive y g c e.address.0 ≡ Some v = drive_ext y m g w.addresses e.address.0 ∙ f.found in
      ap (λ (x : Option ℕ). cut (blocks_at m g (index x) d n)) f.found
      ∙ part_blocks m g v d o k n within
      ∙ in_medium m g v (d + o) k r
      ∙ ap (λ (x : List ℕ). part x ((d + o) * g.l) (k * g.l)) (sym (w.others v r.drive_in f.other))
      ∙ sym (in_medium y g v (d + o) k r)
      ∙ ap (λ (x : Option ℕ). blocks_at y g (index x) (d + o) k) (sym there)

  each_part : (es : List Source) → EachIs (NamesOther m g a (blocks u b z)) es → map cut (map (named_blocks m g a n) es) ≡ map (named_blocks y g c k) (map (onward o) es)
  each_part [] h = refl
  each_part (e ∷ es) h = ap₂ (λ (x : List ℕ) (xs : List (List ℕ)). x ∷ xs) (named_part e h.0) (each_part es h.1)

  pub sum_part : (es : List Source) (int : Bool) (d : List ℕ) → EachIs (NamesOther m g a (blocks u b z)) es
      → cut (xor_all (operands m g a n es int d)) ≡ xor_all (operands y g c k (map (onward o) es) int (cut d))
  unfolding parts_of
  sum_part es int d h =
      part_xor_all (operands m g a n es int d) (o * g.l) (k * g.l)
      ∙ ap xor_all (map-append cut (map (named_blocks m g a n) es) (cond int (d ∷ []) []) ∙ ap₂ ◌++◌ (each_part es h) (pick int))
    where
      pick : (v : Bool) → map (λ (x : List ℕ). part x (o * g.l) (k * g.l)) (cond v (d ∷ []) []) ≡ cond v (part d (o * g.l) (k * g.l) ∷ []) []
      pick true = refl
      pick false = refl

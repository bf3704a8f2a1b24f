-- The contract of each public function of `geometry` allows one outcome only.
use Rattle.std.specs.Borrow.{Bor}
use Rattle.std.specs.Prelude.{◌≡◌, refl, ℕ, List, Bool, true, false, Option, Some, None, MatchOption}
use Rattle.std.proofs.Props.{props}
use Rattle.std.proofs.Common.{sym, ap, subst, ◌∙◌}
use Rattle.geometry.specs.declared.Geometry.{Geometry}
use Rattle.geometry.specs.declared.Frame.{Frame}
use Rattle.geometry.specs.Frame.{Framed}
use Rattle.geometry.proofs as geometry
use Rattle.one_outcome.specs.Only.{Only, equation, bounded}

pub read_once : Only geometry.Geometry.read.Reads.Post (λ _ r _. r)
read_once = equation

pub end_once : Only geometry.Geometry.end.Reads.Post (λ _ r _. r)
end_once = equation

pub entry_at_once : Only geometry.Geometry.entry_at.Reads.Post (λ _ r _. r)
entry_at_once = bounded

pub slot_at_once : Only geometry.Geometry.slot_at.Reads.Post (λ _ r _. r)
slot_at_once = bounded

pub place_once : Only geometry.Geometry.place.Reads.Post (λ _ r _. r)
place_once = bounded

-- frames of one image with one header are one
module _ (i : Bor (List ℕ)) (g : Geometry) where
  framed_same : (f f' : Framed i.now g) → ◌≡◌ {A = Frame} (record { image = i; g = g; framed = f }) (record { image = i; g = g; framed = f' })
  framed_same f f' =
      let prop : IsProp (Framed i.now g) = hlevel props in ap (λ (x : Framed i.now g). record { image = i; g = g; framed = x }) (prop f f')

frame_same : (x y : Frame) → x.image ≡ y.image → x.g ≡ y.g → x ≡ y
frame_same x y p q =
    let at_image : Bor (List ℕ) → Type 0 = λ i. (f : Framed i.now y.g) → ◌≡◌ {A = Frame} (record { image = i; g = y.g; framed = f }) y in
    let at_g : Geometry → Type 0 = λ g. (f : Framed x.image.now g) → ◌≡◌ {A = Frame} (record { image = x.image; g = g; framed = f }) y in
    subst at_g (sym q) (subst at_image (sym p) (λ f. framed_same y.image y.g f y.framed)) x.framed

-- two answers, each the image with its header exactly where a test holds
pub answer_same : (b : Bool) (i : Bor (List ℕ)) (g : Geometry) (r r' : Option Frame)
    → MatchOption r (b ≡ false) (λ f. (b ≡ true) × (f.image ≡ i) × (f.g ≡ g))
    → MatchOption r' (b ≡ false) (λ f. (b ≡ true) × (f.image ≡ i) × (f.g ≡ g))
    → r ≡ r'
answer_same b i g None None p q = refl
answer_same b i g None (Some y) p q = (cc)
answer_same b i g (Some x) None p q = (cc)
answer_same b i g (Some x) (Some y) p q = ap Some (frame_same x y (p.1 ∙ sym q.1) (p.2 ∙ sym q.2))

pub of_once : Only geometry.Frame.of.Reads.Post (λ _ r _. r)
of_once = record { same = λ κs a r r' s s' p q. answer_same _ a.0 _ r r' p q }

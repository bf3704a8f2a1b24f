-- Calls 1 and 2, which a command, a reset and a marking have in common.
use Rattle.std.specs.Prelude.{ℕ, ◌<◌, Bool, not, List, [], ◌∷◌, Option, Some, None, is_none, Result, Ok, Err}
use Rattle.std.proofs.Common.{arith, sym, ◌∙◌}
use Rattle.std.proofs.Math.Bool.{true, false}
use Rattle.std.proofs.Math.Path.{◌≡◌, refl, ap}
use Rattle.rules.specs.Rule.{rule, first}
use Rattle.folds.specs.Least.{index}
use Rattle.geometry.specs.declared.Geometry.{Geometry}
use Rattle.geometry.specs.Header.{geometry_of}
use Rattle.geometry.specs.Frame.{Framed}
use Rattle.drives.specs.declared.Came.{Came}
use Rattle.drives.specs.Table.{target_of}
use Rattle.drives.specs.Lookup.{drive_inside}
use Rattle.image.specs.Valid.{valid_image}
use Rattle.image.proofs.Shelf.{valid_framed}
use Rattle.sense.specs.declared.Answer.{Answer}
use Rattle.sense.specs.declared.Answer.TheVariants.{BadImage, NoTarget}
use Rattle.meaning.specs.declared.Seen.{Seen}
use Rattle.meaning.specs.declared.Seen.TheVariants.{Dash}
use Rattle.meaning.specs.Checks.{calls}

-- the answer, or the image's geometry and the target's index
abbrev pub Reached : Type 0
Reached = Result (Geometry × ℕ) Answer

abbrev pub refusal : ℕ → Seen → Answer → Reached
refusal n w x = Err x

-- "1 image not valid; 2 no such target"; or the target
unfoldable pub called_of : List ℕ → Came → Reached
called_of m a = first refusal (calls m a) (Ok (geometry_of m, index (target_of m (geometry_of m) a)))

-- ---- as the code goes

module _ (m : List ℕ) (a : Came) where
  pub called_bad : valid_image m ≡ false → Err BadImage ≡ called_of m a
  unfolding called_of
  called_bad v = rw v

  module _ (v : valid_image m ≡ true) (g : Geometry) (h : g ≡ geometry_of m) where
    pub called_none : target_of m g a ≡ None → Err NoTarget ≡ called_of m a
    unfolding called_of
    called_none f = let e : target_of m (geometry_of m) a ≡ None = ap (λ (x : Geometry). target_of m x a) (sym h) ∙ f in rw (v, e)

    pub called_at : (t : ℕ) → target_of m g a ≡ Some t → Ok (g, t) ≡ called_of m a
    unfolding called_of
    called_at t f = let e : target_of m (geometry_of m) a ≡ Some t = ap (λ (x : Geometry). target_of m x a) (sym h) ∙ f in rw (v, e, h)

-- ---- what it says

-- image m is a shelf with geometry g, and a command that came as a was sent to drive t
pub record Addressed (m : List ℕ) (a : Came) (g : Geometry) (t : ℕ) : Type 0 where
  pub valid : valid_image m ≡ true
  pub header : g ≡ geometry_of m
  pub found : target_of m g a ≡ Some t
  pub frame : Framed m g
  pub inside : t < g.d

pub addressed_found : (m : List ℕ) (a : Came) (g : Geometry) (t : ℕ) → Addressed m a g t → target_of m (geometry_of m) a ≡ Some t
addressed_found m a g t x = ap (λ (k : Geometry). target_of m k a) (sym x.header) ∙ x.found

module _ (m : List ℕ) (a : Came) where
  pub called_drive : (g : Geometry) (t : ℕ) → called_of m a ≡ Ok (g, t) → Addressed m a g t
  unfolding called_of
  called_drive g t e = pick (valid_image m) (target_of m (geometry_of m) a) refl refl e
    where
      pick : (v : Bool) (f : Option ℕ) → valid_image m ≡ v → target_of m (geometry_of m) a ≡ f
          → first refusal (rule 1 Dash (not v) BadImage ∷ rule 1 Dash (is_none f) NoTarget ∷ []) (Ok (geometry_of m, index f)) ≡ Ok (g, t)
          → Addressed m a g t
      pick false f p q e = let z : ◌≡◌ {A = ℕ} 0 1 = cc in absurd (omega arith)
      pick true None p q e = let z : ◌≡◌ {A = ℕ} 0 1 = cc in absurd (omega arith)
      pick true (Some i) p q e =
          let z : ◌≡◌ {A = Geometry × ℕ} (geometry_of m, i) (g, t) = cc in
          let h : g ≡ geometry_of m = sym (ap (λ (p : Geometry × ℕ). p.0) z) in
          let j : i ≡ t = ap (λ (p : Geometry × ℕ). p.1) z in
          let f : target_of m g a ≡ Some t = ap (λ (x : Geometry). target_of m x a) h ∙ q ∙ ap Some j in
          record { valid = p; header = h; found = f; frame = valid_framed m g p h; inside = (drive_inside m g a.target.0 t f).0 }

  -- where it refuses, so does every list of checks that begins with calls 1 and 2, whatever follows
  pub called_refused : {D : Type 0} (stop : ℕ → Seen → Answer → D) (x : Answer) (d : D) → called_of m a ≡ Err x → stop 1 Dash x ≡ first stop (calls m a) d
  unfolding called_of
  called_refused {D} stop x d e = pick (valid_image m) (target_of m (geometry_of m) a) e
    where
      pick : (v : Bool) (f : Option ℕ)
          → first refusal (rule 1 Dash (not v) BadImage ∷ rule 1 Dash (is_none f) NoTarget ∷ []) (Ok (geometry_of m, index f)) ≡ Err x
          → stop 1 Dash x ≡ first stop (rule 1 Dash (not v) BadImage ∷ rule 1 Dash (is_none f) NoTarget ∷ []) d
      pick false f e = let h : x ≡ BadImage = cc in rw h
      pick true None e = let h : x ≡ NoTarget = cc in rw h
      pick true (Some i) e = let z : ◌≡◌ {A = ℕ} 0 1 = cc in absurd (omega arith)

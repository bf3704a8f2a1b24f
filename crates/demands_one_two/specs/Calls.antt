-- Resets and markings: one that is refused moves nothing (demand 1); every one keeps a valid image valid, and the drives where they are.
use Rattle.std.specs.Prelude.{◌≡◌, refl, false, ℕ, ◌<◌, is_none}
use Rattle.std.proofs.Common.{sym, inl, arith, ltb-false}
use Rattle.std.proofs.Math.Path.{subst}
use mathlib.Core.List.{List}
use Rattle.rules.proofs.Rule.{first_cases, first_both}
use Rattle.geometry.specs.declared.Geometry.{Geometry}
use Rattle.geometry.specs.Header.{geometry_of}
use Rattle.geometry.specs.Outside.{outside_away}
use Rattle.drives.specs.declared.Came.{Came}
use Rattle.drives.specs.Table.{address_of, target_of, marked}
use Rattle.drives.specs.Front.{SameFront}
use Rattle.drives.specs.Lookup.{drive_inside}
use Rattle.drives.specs.Marked.{address_marked}
use Rattle.slots.specs.Change.{dropped}
use Rattle.results.proofs.Drop.{drop_part}
use Rattle.image.specs.Shelf.{Shelf, shelf_frame}
use Rattle.image.specs.Keeps.{shelf_dropped, shelf_marked}
use Rattle.sense.specs.declared.Answer.{Answer}
use Rattle.sense.specs.declared.Answer.TheVariants.{Good}
use Rattle.meaning.specs.Checks.{calls}
use Rattle.meaning.specs.Step.{answered, untouched, target, reset_answer, reset_image, mark_calls, mark_answer, mark_image}
use Rattle.grants.specs.Passed.{found}

-- "not one byte of the image .. has moved": an answer that is not GOOD leaves the image as it was
abbrev Keeps : List ℕ → Answer → List ℕ → Type 0
Keeps m x t = (x ≡ Good → ⊥) → t ≡ m

pub reset_keeps : (m : List ℕ) (a : Came) → Keeps m (reset_answer m a) (reset_image m a)
unfolding reset_answer reset_image
reset_keeps m a = first_both answered (untouched m) (Keeps m) (calls m a) Good _ (λ n w x k. refl) (λ p k. absurd (k refl))

pub mark_keeps : (m : List ℕ) (a : Came) (state : ℕ) → Keeps m (mark_answer m a state) (mark_image m a state)
unfolding mark_answer mark_image
mark_keeps m a state = first_both answered (untouched m) (Keeps m) (mark_calls m a state) Good _ (λ n w x k. refl) (λ p k. absurd (k refl))

-- the target that passed call 2 is a drive
pub target_in : (m : List ℕ) (a : Came) → is_none (target_of m (geometry_of m) a) ≡ false → target m a < (geometry_of m).d
target_in m a e = (drive_inside m (geometry_of m) a.target.0 (target m a) (found (target_of m (geometry_of m) a) e)).0

module _ (m : List ℕ) (g : Geometry) (h : Shelf m g) (a : Came) where
  pub reset_shelf : Shelf (reset_image m a) g
  unfolding reset_image
  reset_shelf =
      first_cases (untouched m) (λ (t : List ℕ). Shelf t g) (calls m a) (dropped m (geometry_of m) (target m a)) (λ n w x. h)
      (λ p. subst (λ (k : Geometry). Shelf (dropped m k (target m a)) g) (sym h.header) (shelf_dropped m g h (target m a)))

  -- a reset leaves header and drive table
  pub reset_front : SameFront (reset_image m a) m g
  unfolding reset_image
  reset_front =
      first_cases (untouched m) (λ (t : List ℕ). SameFront t m g) (calls m a) (dropped m (geometry_of m) (target m a)) (λ n w x. refl)
      (λ p. subst (λ (k : Geometry). SameFront (dropped m k (target m a)) m g) (sym h.header)
      (drop_part m g (target m a) 0 g.slots (outside_away g 0 g.slots (shelf_frame m g h).placed (inl (omega arith)))))

  pub mark_shelf : (state : ℕ) → Shelf (mark_image m a state) g
  unfolding mark_image
  mark_shelf state =
      first_cases (untouched m) (λ (t : List ℕ). Shelf t g) (mark_calls m a state) (marked m (geometry_of m) (target m a) state) (λ n w x. h)
      (λ p. subst (λ (k : Geometry). Shelf (marked m k (target m a) state) g) (sym h.header)
      (shelf_marked m g h (target m a) state (subst (λ (k : Geometry). target m a < k.d) h.header (target_in m a p.1.0)) (ltb-false 1 state p.1.1.0)))

  pub mark_address : (state i : ℕ) → address_of (mark_image m a state) g i ≡ address_of m g i
  unfolding mark_image
  mark_address state i =
      first_cases (untouched m) (λ (t : List ℕ). address_of t g i ≡ address_of m g i) (mark_calls m a state) (marked m (geometry_of m) (target m a) state) (λ n w x. refl)
      (λ p. subst (λ (k : Geometry). address_of (marked m k (target m a) state) g i ≡ address_of m g i) (sym h.header) (address_marked m g (target m a) state i))

-- "Marking writes the state byte alone": what an image is after it.
use Rattle.std.specs.Prelude.{ℕ, ◌+◌, ◌≤◌, ◌<◌, List, [], ◌∷◌, true, ◌≡◌, length}
use Rattle.std.proofs.Common.{add-zero, arith, sym, ◌∙◌, le-leb}
use Rattle.std.proofs.Math.Path.{ap}
use Rattle.std.proofs.Math.Logic.{inl, inr, ⊎_elim}
use Rattle.std.proofs.Math.ListN.{get_or}
use Rattle.octets.specs.Part.{part}
use Rattle.octets.specs.Put.{put, length_put, get_or_put_before, get_or_put_in, get_or_put_after}
use Rattle.octets.specs.PutPut.{part_put_above}
use Rattle.octets.specs.Number.{be_put_apart}
use Rattle.folds.specs.Cases.{same, apart, order}
use Rattle.folds.specs.Every.{holds, every_of}
use Rattle.folds.specs.All.{all_intro}
use Rattle.rules.specs.Must.{tests_of}
use Rattle.geometry.specs.declared.Geometry.{Geometry}
use Rattle.geometry.specs.Header.{geometry_of, entry_at}
use Rattle.geometry.specs.Frame.{Placed, Framed}
use Rattle.geometry.specs.Kept.{geometry_put}
use Rattle.drives.specs.Table.{state_of, address_of, entry_musts, table_ok, marked}
use Rattle.drives.specs.Facts.{entry_ok}
use Rattle.drives.specs.Front.{new_ext}

module _ (s : List ℕ) (g : Geometry) (i state : ℕ) where
  pub length_marked : length (marked s g i state) ≡ length s
  unfolding marked
  length_marked = length_put s (entry_at g i) (state ∷ [])

  -- the other drives' states
  pub state_marked_other : (j : ℕ) → (j ≡ i → ⊥) → state_of (marked s g i state) g j ≡ state_of s g j
  unfolding marked
  state_marked_other j ne =
      ⊎_elim (λ l. get_or_put_before s (entry_at g i) (state ∷ []) (entry_at g j) (omega arith))
      (λ l. get_or_put_after s (entry_at g i) (state ∷ []) (entry_at g j) (omega arith))
      (apart j i ne)

  -- every address, and so the lookup
  pub address_marked : (j : ℕ) → address_of (marked s g i state) g j ≡ address_of s g j
  unfolding marked
  address_marked j =
      be_put_apart 3 s (entry_at g i) (state ∷ []) (entry_at g j + 1) (⊎_elim (λ l. inl (omega arith)) (λ l. inr (omega arith)) (order j i))

  -- the header, and everything from the slots on
  pub geometry_marked : Placed g → geometry_of (marked s g i state) ≡ geometry_of s
  unfolding marked
  geometry_marked p = geometry_put s (entry_at g i) (state ∷ []) (omega arith)

  pub part_marked : Placed g → i < g.d → (a n : ℕ) → g.slots ≤ a → part (marked s g i state) a n ≡ part s a n
  unfolding marked
  part_marked p l a n h = part_put_above s (entry_at g i) (state ∷ []) a n (omega arith)

  module _ (f : Framed s g) (l : i < g.d) where
    -- the drive's own state
    pub state_marked : state_of (marked s g i state) g i ≡ state
    unfolding marked
    state_marked =
        ap (λ (k : ℕ). get_or (put s (entry_at g i) (state ∷ [])) k 0) (sym (add-zero (entry_at g i)))
        ∙ get_or_put_in s (entry_at g i) (state ∷ []) 0 (omega arith) (omega arith)

    -- a right table stays right
    pub table_marked : state ≤ 1 → table_ok s g ≡ true → table_ok (marked s g i state) g ≡ true
    unfolding table_ok
    table_marked h ok =
        all_intro _ g.d
        (λ j lj. every_of (tests_of (entry_musts (marked s g i state) g j)) (
          ⊎_elim (λ (q : j ≡ i). rw (q, state_marked) (le-leb state 1 h)) (λ ne. rw (state_marked_other j ne) (holds _ 0 (entry_ok s g ok j lj))) (same j i),
          (new_ext (marked s g i state) s g (λ k l. address_marked k) j lj ∙ holds _ 1 (entry_ok s g ok j lj), tt),
        ))

-- For a caller that knows the retained results by age and not their slots: where one more fits there is a slot for it, and the newest at a
-- drive and block has one.
use Rattle.std.specs.Prelude.{ℕ, ◌<◌, ◌≡◌, List, length, Option, Some, None}
use Rattle.folds.specs.Cases.{none_apart, some_same}
use Rattle.std.proofs.Common.{arith, sym, ap, ◌∙◌}
use Rattle.std.proofs.Math.Path.{refl}
use Rattle.geometry.specs.declared.Geometry.{Geometry}
use Rattle.slots.specs.Find.{empty_slot, newest_of}
use Rattle.results.specs.First.{first_of}
use Rattle.results.proofs.Full.{full}
use Rattle.results.specs.Newest.{answers}
use Rattle.results.proofs.Newest.{newest_result, newest_missing}
use Rattle.results.specs.Results.{Result, results, result_at}
use Rattle.image.specs.Shelf.{Shelf}
use Rattle.meaning.specs.Allowed.{Held, Free, empty_free}
use Rattle.grants.specs.Each.{held_at}
use Rattle.callers.specs.Does.{blocks}

-- ---- one more fits

pub record FreeSlot (m : List ℕ) (g : Geometry) : Type 0 where
  pub slot : ℕ
  pub free : Free m g slot

pub free_left : (m : List ℕ) (g : Geometry) → Shelf m g → length (results m g) < g.s → FreeSlot m g
free_left m g h l = by (empty_slot m g) refl
  where
    by : (o : Option ℕ) → empty_slot m g ≡ o → FreeSlot m g
    by (Some i) e = record { slot = i; free = empty_free m g i e }
    by None e = absurd (omega (arith, full m g h.slots_fine e))

-- ---- the newest at a drive and block

module _ (m : List ℕ) (g : Geometry) (t b : ℕ) (z : Result) where
  pub record HeldSlot : Type 0 where
    pub slot : ℕ
    pub held : Held m g (blocks t b z.len) slot
    pub its : result_at m g slot ≡ z

  pub newest_held : Shelf m g → first_of (answers t b) (results m g) ≡ Some z → HeldSlot
  unfolding result_at
  newest_held h q = by (newest_of m g t b) refl
    where
      by : (o : Option ℕ) → newest_of m g t b ≡ o → HeldSlot
      by (Some i) e =
          let s : result_at m g i ≡ z = some_same (result_at m g i) z (sym (newest_result m g h.slots_fine t b i e) ∙ q) in
          record { slot = i; held = held_at m g h (blocks t b z.len) i e (ap (λ (x : Result). x.len) s); its = s }
      by None e = absurd (none_apart z (sym (newest_missing m g h.slots_fine t b e) ∙ q))

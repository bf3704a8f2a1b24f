-- Any calls that leave the blocks as they were leave the media the same: no call moves a drive.
use Rattle.std.specs.Prelude.{ℕ, ◌<◌, ◌≡◌, refl, List, [], ◌∷◌}
use Rattle.std.proofs.Common.{arith, sym, ◌∙◌}
use Rattle.geometry.specs.declared.Geometry.{Geometry}
use Rattle.drives.specs.Table.{address_of}
use Rattle.drives.specs.Front.{address_same}
use Rattle.results.specs.Results.{Result}
use Rattle.image.specs.Shelf.{Shelf, shelf_frame}
use Rattle.meaning.specs.Calls.{Call, command, reset, marking, after_call, after_calls}
use Rattle.demands_one_two.specs.Step.{step_shelf, step_front}
use Rattle.demands_one_two.specs.Calls.{reset_shelf, reset_front, mark_shelf, mark_address}
use Rattle.callers.specs.After.{After}
use Rattle.callers.specs.Does.{blocks}
use Rattle.divided.specs.InParts.{medium_of, SameMedia}

module _ (g : Geometry) where
  call_shelf : (x : Call) (m : List ℕ) → Shelf m g → Shelf (after_call x m) g
  call_shelf (command a c s r) m h = step_shelf m a c s r g h
  call_shelf (reset a) m h = reset_shelf m g h a
  call_shelf (marking a state) m h = mark_shelf m g h a state

  call_address : (x : Call) (m : List ℕ) → Shelf m g → (d : ℕ) → d < g.d → address_of (after_call x m) g d ≡ address_of m g d
  call_address (command a c s r) m h = address_same _ m g (shelf_frame m g h).placed (step_front m a c s r g h)
  call_address (reset a) m h = address_same _ m g (shelf_frame m g h).placed (reset_front m g h a)
  call_address (marking a state) m h = λ d l. mark_address m g h a state d

  calls_address : (xs : List Call) (m : List ℕ) → Shelf m g → (d : ℕ) → d < g.d → address_of (after_calls xs m) g d ≡ address_of m g d
  calls_address [] m h d l = refl
  calls_address (x ∷ xs) m h d l = calls_address xs (after_call x m) (call_shelf x m h) d l ∙ call_address x m h d l

  -- "no medium change between"
  pub between : (xs : List Call) (m : List ℕ) → Shelf m g → ((d : ℕ) → d < g.d → medium_of m g d ≡ medium_of (after_calls xs m) g d) → SameMedia m (after_calls xs m) g
  between xs m h k = record { addresses = λ d l. sym (calls_address xs m h d l); media = k }

-- a call that writes no block leaves them the same
pub after_media : (m m' : List ℕ) (g : Geometry) (states : ℕ → ℕ) (rs : List Result) → After m m' g states [] rs → SameMedia m m' g
after_media m m' g states rs w =
    record { addresses = λ d l. sym (w.address_kept d l); media = λ d l. sym (w.kept (blocks d 0 g.b) (record { drive_in = l; range_in = omega arith }) tt) }

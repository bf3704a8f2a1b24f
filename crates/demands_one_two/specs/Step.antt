-- Demand 1: "A refused call returns its listed answer, and not one byte of the image or of the caller's receive room has moved."
-- And every step keeps a valid image valid.
use Rattle.std.specs.Prelude.{◌≡◌, List, ℕ, ◌≤◌, ◌<◌, length, Ok, Err}
use Rattle.std.proofs.Math.Path.{refl, ap, subst}
use Rattle.std.proofs.Common.{sym, ◌∙◌, arith}
use Rattle.std.proofs.Math.Dec.{lit<}
use Rattle.octets.specs.Part.{part}
use Rattle.octets.specs.PutPut.{part_put_above}
use Rattle.geometry.specs.declared.Geometry.{Geometry}
use Rattle.geometry.specs.Header.{geometry_of}
use Rattle.drives.specs.declared.Came.{Came}
use Rattle.drives.specs.Front.{SameFront}
use Rattle.image.specs.Shelf.{Shelf, shelf_frame}
use Rattle.sense.specs.declared.Answer.{Answer}
use Rattle.sense.specs.declared.Answer.TheVariants.{Good}
use Rattle.meaning.specs.declared.Act.{Act}
use Rattle.meaning.specs.Decision.{Decision, go}
use Rattle.meaning.specs.Acts.{effect_of, leaves, hands}
use Rattle.meaning.specs.Step.{decided, image_after, room_after, outcome_after, step_image, step_room, step_outcome}
use Rattle.grants.specs.Granted.{granted, allowed_at}
use Rattle.demands_one_two.specs.Fine.{fine}
use Rattle.demands_one_two.specs.Valid.{leaves_shelf}
use Rattle.demands_one_two.specs.Beside.{Beside, front_beside, leaves_beside}

module _ (m : List ℕ) (a : Came) (c s r : List ℕ) where
  -- an answer that is not GOOD leaves image and room as they were
  pub refused_keeps : ((step_outcome m a c s r).answer ≡ Good → ⊥) → (step_image m a c s r ≡ m) × (step_room m a c s r ≡ r)
  unfolding step_outcome step_image step_room
  refused_keeps ne = pick (decided m a c s r) refl ne
    where
      pick : (d : Decision) → decided m a c s r ≡ d → ((outcome_after d m s).answer ≡ Good → ⊥) → (image_after d m s ≡ m) × (room_after d m s r ≡ r)
      pick (Err u) e k = (refl, refl)
      pick (Ok u) e k = absurd (k (granted m a c s (length r) u.act u.answer e).good)

  -- a step keeps a valid image valid
  pub step_shelf : (g : Geometry) → Shelf m g → Shelf (step_image m a c s r) g
  unfolding step_image
  step_shelf g h = pick (decided m a c s r) refl
    where
      pick : (d : Decision) → decided m a c s r ≡ d → Shelf (image_after d m s) g
      pick (Err u) e = h
      pick (Ok u) e =
          subst (λ (k : Geometry). Shelf (leaves m k s u.act) g) (sym h.header)
          (leaves_shelf m g h s (length r) u.act (allowed_at m g h a c s (length r) u.act u.answer e))

  -- a command that is carried out leaves every byte beside what it names, and the room past the count
  pub step_beside : (act : Act) (x : Answer) → decided m a c s r ≡ go act x → (i n : ℕ) → Beside (geometry_of m) i n (effect_of m (geometry_of m) s act) → part (step_image m a c s r) i n ≡ part m i n
  unfolding step_image
  step_beside act x e i n w =
      let f = granted m a c s (length r) act x e in
      ap (λ (d : Decision). part (image_after d m s) i n) e ∙ leaves_beside m (geometry_of m) f.valid i n s (length r) act f.allowed w

  -- and so header and drive table
  pub step_front : (g : Geometry) → Shelf m g → SameFront (step_image m a c s r) m g
  unfolding step_image
  step_front g h = pick (decided m a c s r) refl
    where
      pick : (d : Decision) → decided m a c s r ≡ d → SameFront (step_image m a c s r) m g
      pick (Err u) e = ap (λ (d : Decision). part (image_after d m s) 0 g.slots) e
      pick (Ok u) e =
          step_beside u.act u.answer e 0 g.slots
          (subst (λ (k : Geometry). Beside k 0 g.slots (effect_of m k s u.act)) (sym h.header) (front_beside g (shelf_frame m g h).placed (effect_of m g s u.act)))

  pub room_beside : (i n : ℕ) → (step_outcome m a c s r).count ≤ i → part (step_room m a c s r) i n ≡ part r i n
  unfolding step_outcome step_room
  room_beside i n l = pick (decided m a c s r) l
    where
      pick : (d : Decision) → (outcome_after d m s).count ≤ i → part (room_after d m s r) i n ≡ part r i n
      pick (Err u) l = refl
      pick (Ok u) l = part_put_above r 0 (hands m (geometry_of m) s u.act) i n (omega arith)

  -- the byte count fits 32 bits, as the C interface hands it over
  pub count_small : (step_outcome m a c s r).count < 4294967296
  unfolding step_outcome
  count_small = pick (decided m a c s r) refl
    where
      pick : (d : Decision) → decided m a c s r ≡ d → (outcome_after d m s).count < 4294967296
      pick (Err u) e = lit< tt
      pick (Ok u) e =
          let f = granted m a c s (length r) u.act u.answer e in
          (fine m (geometry_of m) (shelf_frame m (geometry_of m) f.valid) s (length r) u.act f.allowed).small

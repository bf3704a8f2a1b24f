-- What a writer leaves of the room that it is lent.
use Rattle.std.specs.Prelude.{ℕ, ◌+◌, ◌≤◌, ◌<◌, cond, List, [], ◌∷◌, ◌++◌, ◌≡◌, refl, leb, length, take, set}
use Rattle.std.proofs.Common.{add-zero, arith, ⊎_elim, sym, ap₂, ◌∙◌, length-append, le-leb}
use Rattle.std.proofs.lemmas.Bool.{lt-leb}
use Rattle.octets.specs.Part.{part}
use Rattle.octets.specs.Put.{put, length_put, put_nil, set_put}
use Rattle.octets.specs.PutPut.{put_append, part_put}
use Rattle.folds.specs.Cases.{order}

-- xs stands in the room from index at on, the rest is as it was before, and next is the index after xs
pub record Wrote (xs : List ℕ) (at next : ℕ) (before after : List ℕ) : Type 0 where
  pub ends : next ≡ at + length xs
  pub leaves : after ≡ put before at xs

pub wrote_none : (at : ℕ) (room : List ℕ) → Wrote [] at at room room
wrote_none at room = record { ends = sym (add-zero at); leaves = sym (put_nil room at) }

-- one writer after another
pub wrote_then : {xs ys : List ℕ} {at mid next : ℕ} {r r₁ r₂ : List ℕ} → Wrote xs at mid r r₁ → Wrote ys mid next r₁ r₂ → Wrote (xs ++ ys) at next r r₂
wrote_then {xs} {ys} {at} {mid} {next} {r} {r₁} {r₂} v w =
    record {
      ends = rw length-append (omega (arith, v.ends, w.ends));
      leaves = w.leaves ∙ ap₂ (λ (o : List ℕ) (k : ℕ). put o k ys) v.leaves v.ends ∙ sym (put_append r at xs ys);
    }

-- one byte more
pub wrote_byte : (at : ℕ) (room : List ℕ) (b : ℕ) → Wrote (b ∷ []) at (at + 1) room (set room at b)
wrote_byte at room b = record { ends = refl; leaves = set_put room at b }

-- ---- all or nothing

-- all of xs at the room's front, or nothing where the room is too short
unfoldable pub fitted : List ℕ → List ℕ → List ℕ
fitted xs room = cond (leb (length xs) (length room)) (put room 0 xs) room

-- how many bytes were written
unfoldable pub fitted_count : List ℕ → List ℕ → ℕ
fitted_count xs room = cond (leb (length xs) (length room)) (length xs) 0

-- the two ways to answer
pub fits : (xs room : List ℕ) (next : ℕ) (after : List ℕ) → length xs ≤ length room → Wrote xs 0 next room after
    → (next ≡ fitted_count xs room) × (after ≡ fitted xs room)
unfolding fitted fitted_count
fits xs room next after h w = rw (le-leb (length xs) (length room) h) (omega (arith, w.ends), w.leaves)

pub unfitted : (xs room : List ℕ) → length room < length xs → (0 ≡ fitted_count xs room) × (room ≡ fitted xs room)
unfolding fitted fitted_count
unfitted xs room h = rw (lt-leb (length xs) (length room) h) (refl, refl)

-- the count is one of the room's bytes, as `&room[..count]` asks
pub count_in : (xs room : List ℕ) → fitted_count xs room ≤ length (fitted xs room)
unfolding fitted fitted_count
count_in xs room =
    ⊎_elim (λ h. rw (lt-leb (length xs) (length room) h) (omega arith)) (λ h. rw (le-leb (length xs) (length room) h, length_put) h)
    (order (length room) (length xs))

-- where there is room enough, just the text is counted out
pub fitted_text : (xs room : List ℕ) → length xs ≤ length room → take (fitted_count xs room) (fitted xs room) ≡ xs
unfolding fitted fitted_count part
fitted_text xs room h = rw (le-leb (length xs) (length room) h) (part_put room 0 xs (omega arith))

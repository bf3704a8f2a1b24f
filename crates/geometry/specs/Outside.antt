-- Ranges of an image that meet no slot's record: what comes before the slots, the slots' data, and the media.
use Rattle.std.specs.Prelude.{ℕ, ◌+◌, ◌*◌, ◌≤◌, ◌<◌, ◌⊎◌}
use Rattle.std.proofs.Common.{arith, ap, inl, inr, ⊎_elim}
use Rattle.folds.specs.Cases.{same}
use Rattle.geometry.specs.declared.Geometry.{Geometry}
use Rattle.geometry.specs.Header.{slot_at, data_at}
use Rattle.geometry.specs.Frame.{Placed}
use Rattle.geometry.specs.Places.{slots_apart, slot_after_front, slot_before_media, data_ends}

-- the n bytes from a on meet no record
abbrev pub Outside : Geometry → ℕ → ℕ → Type 0
Outside g a n = (i : ℕ) → i < g.s → (a + n ≤ slot_at g i) ⊎ (slot_at g i + 16 ≤ a)

-- what comes before the slots, and from the media on
abbrev pub Away : Geometry → ℕ → ℕ → Type 0
Away g a n = (a + n ≤ g.slots) ⊎ (g.media ≤ a)

pub outside_away : (g : Geometry) (a n : ℕ) → Placed g → Away g a n → Outside g a n
outside_away g a n p w i l =
    ⊎_elim (λ h. inl (omega (arith, slot_after_front g i))) (λ h. inr (omega (arith, slot_before_media g i p l))) w

-- n blocks at the front of slot i's data
pub outside_data : (g : Geometry) (i n : ℕ) → n ≤ g.m → Outside g (data_at g i) (n * g.l)
outside_data g i n h j l =
    ⊎_elim (λ e. inr (omega (arith, ap (slot_at g) e)))
    (λ ne. ⊎_elim (λ b. inr (omega arith)) (λ b. inl (omega (arith, data_ends g i n h))) (slots_apart g j i ne))
    (same j i)

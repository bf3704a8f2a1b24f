-- Results come and go (01, "The image" and "Commands"). m is the image, h its header.
use Rattle.std.specs.Prelude.{ℕ, zero, suc, ◌+◌, ◌-◌, Bool, not, cond, List, [], ◌∷◌, ◌++◌, ltb, eqb, replicate, Option, Some, None}
use Rattle.octets.specs.Put.{put}
use Rattle.octets.specs.Number.{to_be}
use Rattle.folds.specs.Every.{every}
use Rattle.folds.specs.Least.{least_below}
use Rattle.frozen.specs.Image.{Header, slot_at, Slot, slot, used, used_count}

-- "A new result takes the lowest-numbered empty slot"
abbrev pub empty_slot : List ℕ → Header → Option ℕ
empty_slot m h = least_below h.S (λ i. not (used (slot m h i)))

-- "and rank k+1; its bytes fill the front of the slot, the rest stays": a result of n blocks of drive d from block b on, of a kind
abbrev pub record_bytes : ℕ → ℕ → ℕ → ℕ → ℕ → List ℕ
record_bytes rank kind d b n = to_be 4 rank ++ to_be 1 kind ++ to_be 1 d ++ to_be 2 n ++ to_be 4 b ++ to_be 4 0

-- in slot i, over an image in which data may already have been written; the ranks are those of m
abbrev pub retained_over : List ℕ → List ℕ → Header → ℕ → ℕ → ℕ → ℕ → ℕ → List ℕ → List ℕ
retained_over over m h i kind d b n bytes = put (put over (slot_at h i + 16) bytes) (slot_at h i) (record_bytes (used_count m h + 1) kind d b n)

-- "the newest retained on that drive with that block number": of the first n slots, the one of the highest rank
abbrev pub wanted : ℕ → ℕ → Slot → Bool
wanted d b r = every (used r ∷ eqb r.drive d ∷ eqb r.block b ∷ [])

pub record Best : Type 0 where
  pub top : ℕ
  pub found : Option ℕ

abbrev pub better : ℕ → ℕ → Best → ℕ → Slot → Best
better d b x i r = cond (every (wanted d b r ∷ ltb x.top r.rank ∷ [])) (record { top = r.rank; found = Some i }) x

unfoldable pub best_of : List ℕ → Header → ℕ → ℕ → ℕ → Best
best_of m h d b zero = record { top = 0; found = None }
best_of m h d b (suc n) = better d b (best_of m h d b n) n (slot m h n)

abbrev pub newest : List ℕ → Header → ℕ → ℕ → Option ℕ
newest m h d b = (best_of m h d b h.S).found

-- "When a result goes, its record is zeroed, its data left, and higher ranks fall by one.": in each of the first n slots
abbrev pub lower_one : Header → ℕ → ℕ → List ℕ → List ℕ
lower_one h rank i m = cond (ltb rank (slot m h i).rank) (put m (slot_at h i) (to_be 4 ((slot m h i).rank - 1))) m

unfoldable pub lowered : Header → ℕ → ℕ → List ℕ → List ℕ
lowered h rank zero m = m
lowered h rank (suc n) m = lower_one h rank n (lowered h rank n m)

abbrev pub released : List ℕ → Header → ℕ → List ℕ
released m h i = lowered h (slot m h i).rank h.S (put m (slot_at h i) (replicate 16 0))

-- "Hard reset drops all results of its drive, present or failed; the others keep their order and their ranks close up."
abbrev pub drop_one : Header → ℕ → ℕ → List ℕ → List ℕ
drop_one h d i m = cond (every (used (slot m h i) ∷ eqb (slot m h i).drive d ∷ [])) (released m h i) m

unfoldable pub dropped_to : Header → ℕ → ℕ → List ℕ → List ℕ
dropped_to h d zero m = m
dropped_to h d (suc n) m = drop_one h d n (dropped_to h d n m)

abbrev pub dropped : List ℕ → Header → ℕ → List ℕ
dropped m h d = dropped_to h d h.S m

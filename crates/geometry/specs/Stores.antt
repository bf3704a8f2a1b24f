-- What changes an image: stores, carried out one after the other in the order in which they stand.
use Rattle.std.specs.Prelude.{ℕ, zero, suc, ◌<◌, ◌≡◌, refl, Bool, true, false, cond, List, [], ◌∷◌, ◌++◌}
use Rattle.std.proofs.Common.{arith, sym, subst}
use Rattle.octets.specs.Put.{put}

-- the part of the image that a store lies in
pub data Region : Type 0 where
  Table Slots Media : Region

-- bytes written over an image from an index on
pub record Store : Type 0 where
  pub lies : Region
  pub at : ℕ
  pub bytes : List ℕ

abbrev pub store : Region → ℕ → List ℕ → Store
store lies at bytes = record { lies = lies; at = at; bytes = bytes }

abbrev pub stored : List ℕ → List Store → List ℕ
stored m [] = m
stored m (w ∷ ws) = stored (put m w.at w.bytes) ws

pub stored_append : (m : List ℕ) (vs ws : List Store) → stored m (vs ++ ws) ≡ stored (stored m vs) ws
stored_append m [] ws = refl
stored_append m (v ∷ vs) ws = stored_append (put m v.at v.bytes) vs ws

-- where a test fails nothing is stored
pub stored_if : (m : List ℕ) (b : Bool) (ws : List Store) → stored m (cond b ws []) ≡ cond b (stored m ws) m
stored_if m true ws = refl
stored_if m false ws = refl

-- ---- stores that look at what those before them left

-- the stores ws, and then those of f
abbrev pub and_then : (List ℕ → List Store) → List ℕ → List Store → List Store
and_then f m ws = ws ++ f (stored m ws)

-- those of f for 0, 1, and so on: n of them
abbrev pub in_turn : (ℕ → List ℕ → List Store) → ℕ → List ℕ → List Store
in_turn f zero m = []
in_turn f (suc n) m = and_then (f n) m (in_turn f n m)

module _ (f : ℕ → List ℕ → List Store) (m : List ℕ) where
  pub in_turn_lem : (n : ℕ) → stored m (in_turn f (suc n) m) ≡ stored (stored m (in_turn f n m)) (f n (stored m (in_turn f n m)))
  in_turn_lem n = stored_append m (in_turn f n m) (f n (stored m (in_turn f n m)))

  -- what each of them carries on, all of them do
  pub in_turn_keeps : (P : ℕ → List ℕ → Type 0) (n : ℕ) → ((i : ℕ) (t : List ℕ) → i < n → P i t → P (suc i) (stored t (f i t))) → P 0 m → P n (stored m (in_turn f n m))
  in_turn_keeps P zero more none = none
  in_turn_keeps P (suc n) more none =
      subst (P (suc n)) (sym (in_turn_lem n)) (more n (stored m (in_turn f n m)) (omega arith) (in_turn_keeps P n (λ i t l. more i t (omega arith)) none))

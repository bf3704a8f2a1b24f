-- Parts of one list of bytes, by the places where they start.
use Rattle.std.specs.Prelude.{ℕ, zero, suc, ◌+◌, ◌≤◌, ◌<◌, List, [], ◌∷◌, length, get_or}
use Rattle.octets.specs.Part.{part}

-- k bytes of each of the parts left, from its byte o on; place i is the first of them
unfoldable pub parts_from : List ℕ → List ℕ → ℕ → ℕ → ℕ → ℕ → List (List ℕ)
parts_from xs places o k i zero = []
parts_from xs places o k i (suc left) = part xs (get_or places i 0 + o) k ∷ parts_from xs places o k (i + 1) left

-- of all parts
abbrev pub parts_at : List ℕ → List ℕ → ℕ → ℕ → List (List ℕ)
parts_at xs places o k = parts_from xs places o k 0 (length places)

-- n bytes at each place are in the list
abbrev pub Within : List ℕ → List ℕ → ℕ → Type 0
Within xs places n = (i : ℕ) → i < length places → get_or places i 0 + n ≤ length xs

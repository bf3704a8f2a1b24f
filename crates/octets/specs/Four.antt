-- The four bytes that write a number, by value.
use Rattle.std.specs.Prelude.{◌≡◌, List, [], ◌∷◌, ℕ, ◌/◌, ◌%◌}
use Rattle.std.proofs.Common.{sym, ◌∙◌}
use Rattle.octets.specs.Number.{to_be, to_be4}

abbrev pub four_of : ℕ → List ℕ
four_of v = v / 16777216 % 256 ∷ v / 65536 % 256 ∷ v / 256 % 256 ∷ v % 256 ∷ []

pub four_bytes : (v : ℕ) (w : List ℕ) → w ≡ four_of v → w ≡ to_be 4 v
four_bytes v w e = e ∙ sym (to_be4 v)

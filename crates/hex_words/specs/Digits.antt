-- Bytes and numbers that are read from hexadecimal digits.
use Rattle.std.specs.Prelude.{ℕ, ◌+◌, ◌-◌, ◌*◌, ◌%◌, ◌≤◌, Bool, true, cond, ◌&&◌, ◌||◌, List, [], ◌∷◌, ◌≡◌, eqb, ltb, leb, length, get_or}
use Rattle.octets.specs.Number.{be}
use Rattle.folds.specs.All.{all_below}
use Rattle.folds.specs.Same.{same_list}
use Rattle.text.specs.Ascii.{ascii}
use Rattle.text.specs.Hexadecimal.{hexadecimal}

-- `0` to `9`, or `a` to `f`
unfoldable pub is_hex : ℕ → Bool
is_hex b = cond (ltb b 97) (leb 48 b && ltb b 58) (ltb b 103)

unfoldable pub digit_in : ℕ → ℕ
digit_in b = cond (ltb b 97) (b - 48) (b - 87)

-- a byte for every two digits
unfoldable pub unhex : List ℕ → List ℕ
unhex [] = []
unhex (h ∷ []) = []
unhex (h ∷ l ∷ w) = (16 * digit_in h + digit_in l) ∷ unhex w

abbrev pub all_hex : List ℕ → Bool
all_hex w = all_below (length w) (λ j. is_hex (get_or w j 0))

-- `-` for no bytes, or two digits for each
unfoldable pub is_bytes : List ℕ → Bool
is_bytes w = same_list w (ascii "-") || (ltb 0 (length w) && (eqb (length w % 2) 0 && all_hex w))

-- eight digits
unfoldable pub is_number : List ℕ → Bool
is_number w = eqb (length w) 8 && all_hex w

abbrev pub number_in : List ℕ → ℕ
number_in w = be 4 (unhex w) 0

-- what `unhex` reads: every two digits
abbrev pub Hex : List ℕ → Type 0
Hex w = 2 ≤ length w → all_hex w ≡ true

-- the word that bytes are written as
unfoldable pub word_of : List ℕ → List ℕ
word_of bs = cond (eqb (length bs) 0) (ascii "-") (hexadecimal bs)

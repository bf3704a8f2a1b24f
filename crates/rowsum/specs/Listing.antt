-- The listing of row sums (01, "Bench shelf", end): "prints drives, blocks, block length and how many rows (a block on all drives, failed
-- ones too) have a non-zero sum, then each such row, ascending, with its sum in hex".
use Rattle.std.specs.Prelude.{ℕ, zero, suc, cond, List, [], ◌∷◌, ◌++◌, ltb, length}
use Rattle.folds.specs.Count.{count_below}
use Rattle.geometry.specs.declared.Geometry.{Geometry}
use Rattle.geometry.specs.Header.{geometry_of}
use Rattle.image.specs.Valid.{valid_image}
use Rattle.sums.specs.Row.{row_sum, is_open}
use Rattle.text.specs.Ascii.{ascii}
use Rattle.text.specs.Decimal.{field}
use Rattle.text.specs.Hexadecimal.{hexadecimal}
use Rattle.text.specs.Room.{fitted, fitted_count}
use Rattle.text.specs.Lines.{written}

-- `drives D blocks B length L open N`
unfoldable pub head_line : Geometry → ℕ → List ℕ
head_line g n = field "drives " g.d ++ field " blocks " g.b ++ field " length " g.l ++ field " open " n

-- `row R sum HEX`
unfoldable pub row_line : ℕ → List ℕ → List ℕ
row_line r sum = field "row " r ++ ascii " sum " ++ hexadecimal sum

-- a row's line, where its sum is not zero
unfoldable pub line_of : List ℕ → Geometry → ℕ → List (List ℕ)
line_of m g r = cond (is_open m g r) (row_line r (row_sum m g r) ∷ []) []

-- the lines of the rows below n, ascending
unfoldable pub row_lines : List ℕ → Geometry → ℕ → List (List ℕ)
row_lines m g zero = []
row_lines m g (suc n) = row_lines m g n ++ line_of m g n

-- how many rows are open
abbrev pub open_rows : List ℕ → Geometry → ℕ
open_rows m g = count_below g.b (is_open m g)

-- the lines of a shelf
unfoldable pub shelf_lines : List ℕ → Geometry → List (List ℕ)
shelf_lines m g = head_line g (open_rows m g) ∷ row_lines m g g.b

-- the whole text, each line ended by a newline: "An invalid image prints `not a shelf`"
unfoldable pub text_of : List ℕ → List ℕ
text_of m = written (cond (valid_image m) (shelf_lines m (geometry_of m)) (ascii "not a shelf" ∷ []))

-- what a room lent for the listing holds afterwards, and how many bytes were written: the whole text at its front, or nothing where the
-- room is too short
abbrev pub listed : List ℕ → List ℕ → List ℕ
listed m room = fitted (text_of m) room

abbrev pub listed_count : List ℕ → List ℕ → ℕ
listed_count m room = fitted_count (text_of m) room

-- the program's text for its input: "at most 49,152 bytes", "a longer input `too large`"
unfoldable pub printed_of : List ℕ → List ℕ
printed_of m = cond (ltb 49152 (length m)) (written (ascii "too large" ∷ [])) (text_of m)

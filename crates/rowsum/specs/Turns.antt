-- How the lines come about, row by row, and how long they are.
use Prim.Native.Nat.{ℕ, zero, suc, ◌+◌, ◌*◌, ◌≤◌, ◌<◌}
use Rattle.std.proofs.Common.{le_of_suc-le-suc, eq-or-lt_of_le, add-one, append-nil, ◌∙◌}
use native.Mathlib.Omega.{arith}
use Rattle.std.specs.Prelude.{true, false, List, [], ◌++◌, ◌≡◌}
use Rattle.std.proofs.Math.Logic.{⊎_elim}
use Rattle.std.proofs.Math.Path.{refl, ap}
use Rattle.std.proofs.Math.ListN.{length, length-append}
use Rattle.geometry.specs.declared.Geometry.{Geometry}
use Rattle.geometry.specs.Frame.{Framed}
use Rattle.sums.specs.Row.{row_sum, is_open}
use Rattle.sums.specs.Length.{length_sum}
use Rattle.text.specs.Decimal.{decimal}
use Rattle.text.specs.Hexadecimal.{length_hexadecimal}
use Rattle.text.specs.Lines.{newline, written, written_append}
use Rattle.rowsum.specs.Listing.{head_line, row_line, line_of, row_lines, shelf_lines, open_rows}

-- ---- how long, newlines included

abbrev pub head_length : Geometry → ℕ → ℕ
head_length g n = 30 + length (decimal g.d) + length (decimal g.b) + length (decimal g.l) + length (decimal n)

abbrev pub row_length : ℕ → ℕ → ℕ
row_length l r = 10 + length (decimal r) + 2 * l

pub length_head : (g : Geometry) (n : ℕ) → length (head_line g n ++ newline) ≡ head_length g n
unfolding head_line
length_head g n = simp length-append (omega arith)

pub length_row : (r : ℕ) (sum : List ℕ) → length (row_line r sum ++ newline) ≡ row_length (length sum) r
unfolding row_line
length_row r sum = simp (length-append, length_hexadecimal) (omega arith)

-- ---- a row's line, and a turn of the loop over the rows

-- the text of row r, and of the rows below n
abbrev pub line_text : List ℕ → Geometry → ℕ → List ℕ
line_text s g r = written (line_of s g r)

abbrev pub row_text : List ℕ → Geometry → ℕ → List ℕ
row_text s g n = written (row_lines s g n)

module _ (s : List ℕ) (g : Geometry) where
  pub line_open : (r : ℕ) → is_open s g r ≡ true → line_text s g r ≡ row_line r (row_sum s g r) ++ newline
  unfolding line_of written
  line_open r h = rw (h, append-nil)

  pub line_shut : (r : ℕ) → is_open s g r ≡ false → line_text s g r ≡ []
  unfolding line_of written
  line_shut r h = rw h

  -- how long the line of an open row is
  pub length_line : (r : ℕ) → Framed s g → r < g.b → is_open s g r ≡ true → length (line_text s g r) ≡ row_length g.l r
  length_line r f l h = rw (line_open r h, length_row) (ap (λ (k : ℕ). row_length k r) (length_sum s g r f l))

  pub rows_none : row_text s g 0 ≡ []
  unfolding row_lines written
  rows_none = refl

  pub rows_more : (i : ℕ) → row_text s g (i + 1) ≡ row_text s g i ++ line_text s g i
  unfolding row_lines
  rows_more i = rw (add-one, written_append)

  pub length_rows_more : (i : ℕ) → length (row_text s g (i + 1)) ≡ length (row_text s g i) + length (line_text s g i)
  length_rows_more i = rw rows_more (length-append (row_text s g i) (line_text s g i))

  -- the text of fewer rows is no longer
  pub rows_grow : (n i : ℕ) → i ≤ n → length (row_text s g i) ≤ length (row_text s g n)
  unfolding row_lines
  rows_grow zero i h = let e : i ≡ 0 = omega arith in rw e (omega arith)
  rows_grow (suc n) i h =
      ⊎_elim (λ e. rw e (omega arith))
      (λ (l : i < suc n). rw (written_append, length-append) (omega (arith, rows_grow n i (le_of_suc-le-suc l))))
      (eq-or-lt_of_le h)

  -- the whole
  pub length_shelf : length (written (shelf_lines s g)) ≡ head_length g (open_rows s g) + length (row_text s g g.b)
  unfolding shelf_lines written
  length_shelf =
      length-append (head_line g (open_rows s g) ++ newline) (row_text s g g.b) ∙ ap (λ (k : ℕ). k + length (row_text s g g.b)) (length_head g (open_rows s g))

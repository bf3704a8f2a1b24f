-- A shelf's text, cut at its newlines, is the definition's lines, and as many are rows' as rows are open.
use Prim.Native.Nat.{ℕ, zero, suc, ◌+◌}
use Rattle.std.specs.Prelude.{true, cond, ◌≡◌, length}
use mathlib.Core.List.{List, ◌++◌}
use Rattle.std.proofs.Math.Logic.{⊎_elim}
use Rattle.std.proofs.Math.Path.{refl, ap₂}
use Rattle.std.proofs.Common.{ap, ◌∙◌, lit≤}
use Rattle.std.proofs.Math.ListN.{length-append}
use Rattle.folds.specs.Cases.{either}
use Rattle.folds.specs.Each.{each_append}
use Rattle.folds.specs.Count.{count_below}
use Rattle.geometry.specs.declared.Geometry.{Geometry}
use Rattle.geometry.specs.Header.{geometry_of}
use Rattle.image.specs.Valid.{valid_image}
use Rattle.sums.specs.Row.{row_sum, is_open}
use Rattle.text.specs.Ascii.{ascii, lacks, lacks_append}
use Rattle.text.specs.Decimal.{decimal, decimal_lacks, field}
use Rattle.text.specs.Hexadecimal.{hexadecimal, hexadecimal_lacks}
use Rattle.text.specs.Lines.{lines_in, Plain, lines_written}
use Rattle.rowsum.specs.Listing.{head_line, row_line, line_of, row_lines, open_rows, shelf_lines, text_of}
use Rattle.rowsum.specs.Whole.{text_shelf}

field_lacks : (name : List ℕ) (n : ℕ) → lacks 10 name ≡ true → lacks 10 (name ++ decimal n) ≡ true
field_lacks name n h = lacks_append 10 name (decimal n) h (decimal_lacks 10 n (lit≤ tt))

head_plain : (g : Geometry) (n : ℕ) → lacks 10 (head_line g n) ≡ true
unfolding head_line lacks
head_plain g n =
    lacks_append 10 (field "drives " g.d ++ field " blocks " g.b ++ field " length " g.l) (field " open " n)
    (lacks_append 10 (field "drives " g.d ++ field " blocks " g.b) (field " length " g.l)
    (lacks_append 10 (field "drives " g.d) (field " blocks " g.b)
    (field_lacks (ascii "drives ") g.d refl) (field_lacks (ascii " blocks ") g.b refl))
    (field_lacks (ascii " length ") g.l refl)) (field_lacks (ascii " open ") n refl)

row_plain : (r : ℕ) (sum : List ℕ) → lacks 10 (row_line r sum) ≡ true
unfolding row_line lacks
row_plain r sum =
    lacks_append 10 (field "row " r ++ ascii " sum ") (hexadecimal sum)
    (lacks_append 10 (field "row " r) (ascii " sum ") (field_lacks (ascii "row ") r refl) refl) (hexadecimal_lacks 10 sum (lit≤ tt))

module _ (s : List ℕ) (g : Geometry) where
  line_plain : (r : ℕ) → Plain (line_of s g r)
  unfolding line_of
  line_plain r = ⊎_elim (λ h. rw h (row_plain r (row_sum s g r), tt)) (λ h. rw h tt) (either (is_open s g r))

  rows_plain : (n : ℕ) → Plain (row_lines s g n)
  unfolding row_lines
  rows_plain zero = tt
  rows_plain (suc n) = each_append (λ (l : List ℕ). lacks 10 l ≡ true) (row_lines s g n) (line_of s g n) (rows_plain n) (line_plain n)

  shelf_plain : Plain (shelf_lines s g)
  unfolding shelf_lines
  shelf_plain = (head_plain g (open_rows s g), rows_plain g.b)

  line_counted : (r : ℕ) → length (line_of s g r) ≡ cond (is_open s g r) 1 0
  unfolding line_of
  line_counted r = ⊎_elim (λ h. rw h) (λ h. rw h) (either (is_open s g r))

  pub rows_counted : (n : ℕ) → length (row_lines s g n) ≡ count_below n (is_open s g)
  unfolding row_lines count_below
  rows_counted zero = refl
  rows_counted (suc n) = length-append (row_lines s g n) (line_of s g n) ∙ ap₂ (λ (a b : ℕ). a + b) (rows_counted n) (line_counted n)

-- the text of a shelf, cut at its newlines
pub shelf_lines_lem : (s : List ℕ) → valid_image s ≡ true → lines_in (text_of s) ≡ shelf_lines s (geometry_of s)
shelf_lines_lem s v = ap lines_in (text_shelf s v) ∙ lines_written (shelf_lines s (geometry_of s)) (shelf_plain s (geometry_of s))

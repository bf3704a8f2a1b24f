-- What is counted before the listing is written: the open rows, and the bytes of their lines.
use Rattle.std.specs.Prelude.{ℕ, ◌+◌, ◌*◌, ◌≤◌, true, false, List, ◌++◌, ◌≡◌, length}
use Rattle.std.proofs.Common.{arith, sym, ap, ◌∙◌}
use Rattle.folds.specs.Count.{count_below, count_none, count_hit, count_miss}
use Rattle.geometry.specs.declared.Geometry.{Geometry}
use Rattle.sums.specs.Row.{is_open}
use Rattle.text.specs.Room.{Wrote, wrote_then}
use Rattle.text.specs.Lines.{newline, written}
use Rattle.rowsum.specs.Listing.{head_line, shelf_lines}
use Rattle.rowsum.specs.Turns.{head_length, line_text, row_text, rows_none, length_rows_more, line_shut, length_shelf}

module _ (s : List ℕ) (g : Geometry) where
  -- of the rows below n; the bounds keep the sums in the code from wrapping
  pub record Counted (n rows bytes : ℕ) : Type 0 where
    pub rows_are : rows ≡ count_below n (is_open s g)
    pub bytes_are : bytes ≡ length (row_text s g n)
    pub rows_few : rows ≤ n
    pub bytes_few : bytes ≤ 80000 * n

  pub counted_none : Counted 0 0 0
  counted_none =
      record {
        rows_are = sym (count_none (is_open s g));
        bytes_are = sym (ap length (rows_none s g));
        rows_few = omega arith;
        bytes_few = omega arith;
      }

  pub counted_shut : (i rows bytes : ℕ) → Counted i rows bytes → is_open s g i ≡ false → Counted (i + 1) rows bytes
  counted_shut i rows bytes t h =
      record {
        rows_are = t.rows_are ∙ sym (count_miss (is_open s g) i h);
        bytes_are = omega (arith, t.bytes_are, length_rows_more s g i, ap length (line_shut s g i h));
        rows_few = omega (arith, t.rows_few);
        bytes_few = omega (arith, t.bytes_few);
      }

  pub counted_open : (i rows bytes n : ℕ) → Counted i rows bytes → is_open s g i ≡ true → n ≡ length (line_text s g i) → n ≤ 80000
      → Counted (i + 1) (rows + 1) (bytes + n)
  counted_open i rows bytes n t h e l =
      record {
        rows_are = ap (λ (k : ℕ). k + 1) t.rows_are ∙ sym (count_hit (is_open s g) i h);
        bytes_are = omega (arith, t.bytes_are, length_rows_more s g i);
        rows_few = omega (arith, t.rows_few);
        bytes_few = omega (arith, t.bytes_few);
      }

  -- the whole listing, from what was counted
  pub shelf_long : (rows bytes : ℕ) → Counted g.b rows bytes → head_length g rows + bytes ≡ length (written (shelf_lines s g))
  shelf_long rows bytes t = rw t.rows_are (omega (arith, length_shelf s g, t.bytes_are))

  pub shelf_wrote : (rows bytes mid next : ℕ) (r r₁ r₂ : List ℕ) → Counted g.b rows bytes
      → Wrote (head_line g rows ++ newline) 0 mid r r₁ → Wrote (row_text s g g.b) mid next r₁ r₂ → Wrote (written (shelf_lines s g)) 0 next r r₂
  unfolding shelf_lines written
  shelf_wrote rows bytes mid next r r₁ r₂ t v w = wrote_then (rw t.rows_are at v) w

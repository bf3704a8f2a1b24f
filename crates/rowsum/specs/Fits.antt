-- The longest text that the row program prints.
use Rattle.std.specs.Prelude.{ℕ, zero, suc, ◌+◌, ◌*◌, ◌≤◌, ◌<◌, min, List, ◌≡◌, refl, length, take}
use Rattle.std.proofs.Common.{le_refl, mul-le-mul_right, mul-le-mul_left, mul_assoc, mul_comm, suc-mul, add-one, arith, ⊎_elim, sym, ap, ◌∙◌}
use Rattle.folds.specs.Cases.{either, order}
use Rattle.folds.specs.Count.{count_le}
use Rattle.geometry.specs.declared.Geometry.{Geometry}
use Rattle.geometry.specs.Header.{geometry_of}
use Rattle.geometry.specs.Frame.{Framed}
use Rattle.image.specs.Valid.{valid_image}
use Rattle.image.specs.Shelf.{shelf_frame}
use Rattle.image.proofs.Shelf.{shelf}
use Rattle.sums.specs.Row.{is_open}
use Rattle.text.specs.Decimal.{decimal, decimal_short}
use Rattle.text.specs.Room.{fitted, fitted_count, fitted_text}
use Rattle.text.specs.Lines.{written}
use Rattle.rowsum.specs.Listing.{open_rows, shelf_lines, printed_of}
use Rattle.rowsum.specs.Turns.{head_length, row_text, line_text, rows_none, length_rows_more, length_line, line_shut, length_shelf}
use Rattle.rowsum.specs.Whole.{text_shelf, text_none, printed_long, printed_listing}

-- how many digits the numbers below n have fewer than four each
unfoldable fewer : ℕ → ℕ
fewer n = min n 10 + min n 100 + min n 1000

digits_fit : (n : ℕ) → n < 10000 → length (decimal n) + fewer (suc n) ≤ 4 + fewer n
unfolding fewer
digits_fit n h =
    ⊎_elim (λ a. omega (arith, decimal_short 0 n a))
    (λ a. ⊎_elim (λ b. omega (arith, decimal_short 1 n b))
    (λ b. ⊎_elim (λ c. omega (arith, decimal_short 2 n c)) (λ c. omega (arith, decimal_short 3 n h)) (order n 1000))
    (order n 100))
    (order n 10)

fewer_none : fewer 0 ≡ 0
unfolding fewer
fewer_none = refl

fewer_all : (n : ℕ) → 1000 ≤ n → fewer n ≡ 1110
unfolding fewer
fewer_all n h = omega arith

module _ (s : List ℕ) (g : Geometry) (f : Framed s g) where
  line_fits : (r : ℕ) → r < g.b → length (line_text s g r) ≤ 10 + length (decimal r) + 2 * g.l
  line_fits r l =
      ⊎_elim (λ o. omega (arith, length_line s g r f l o)) (λ o. omega (arith, ap length (line_shut s g r o))) (either (is_open s g r))

  rows_fit : (n : ℕ) → n ≤ g.b → n ≤ 10000 → length (row_text s g n) + fewer n ≤ 14 * n + n * (2 * g.l)
  rows_fit zero h k = rw rows_none (omega (arith, fewer_none))
  rows_fit (suc n) h k =
      let e : length (row_text s g (suc n)) ≡ length (row_text s g n) + length (line_text s g n) = rw add-one at (length_rows_more s g n) in
      omega (arith, e, line_fits n (omega arith), digits_fit n (omega arith), rows_fit n (omega arith) (omega arith), suc-mul n (2 * g.l))

  module _ (h : length s ≤ 49152) where
    -- the image has a header, a table and D*B*L bytes
    media_fit : g.d * (g.b * g.l) + 32 + 4 * g.d ≤ 49152
    media_fit = omega (arith, mul_assoc g.d g.b g.l, f.media_end, f.placed.slot_ends, f.placed.table_ends, f.placed.header_ends)

    blocks_fit : 2 * (g.b * g.l) ≤ 49112
    blocks_fit = omega (arith, media_fit, mul-le-mul_right (g.b * g.l) f.placed.ranges.d_low, f.placed.ranges.d_low)

    few_rows : g.b ≤ 6139
    few_rows = omega (arith, blocks_fit, mul-le-mul_left g.b f.placed.ranges.l_low)

    -- the rows' lines
    text_fits : length (row_text s g g.b) + fewer g.b ≤ 14 * g.b + 2 * (g.b * g.l)
    text_fits =
        let e : g.b * (2 * g.l) ≡ 2 * (g.b * g.l) =
        sym (mul_assoc g.b 2 g.l) ∙ ap (λ (k : ℕ). k * g.l) (mul_comm g.b 2) ∙ mul_assoc 2 g.b g.l in
        omega (arith, rows_fit g.b (le_refl g.b) (omega (arith, few_rows)), e)

    -- the first line but for D and L
    head_fits : head_length g (open_rows s g) ≤ 38 + length (decimal g.d) + length (decimal g.l)
    head_fits =
        let n = decimal_short 3 (open_rows s g) (omega (arith, count_le (is_open s g) g.b, few_rows)) in
        omega (arith, decimal_short 3 g.b (omega (arith, few_rows)), n)

    d_short : length (decimal g.d) ≤ 2
    d_short = decimal_short 1 g.d (omega (arith, f.placed.ranges.d_high))

    l_short : length (decimal g.l) ≤ 4
    l_short = decimal_short 3 g.l (omega (arith, f.placed.ranges.l_high))

    -- 1,000 rows or more, where D and L have one digit: the longest
    most : 1000 ≤ g.b → g.d < 10 → g.l < 10 → length (written (shelf_lines s g)) ≤ 133988
    most many d1 l1 =
        omega (arith, length_shelf s g, head_fits, decimal_short 0 g.d d1, decimal_short 0 g.l l1, text_fits, fewer_all g.b many, blocks_fit, few_rows)

    -- a longer block, or more drives, leaves fewer rows
    long_blocks : 10 ≤ g.l → length (written (shelf_lines s g)) ≤ 133988
    long_blocks l2 = omega (arith, length_shelf s g, head_fits, d_short, l_short, text_fits, blocks_fit, mul-le-mul_left g.b l2)

    many_drives : 10 ≤ g.d → length (written (shelf_lines s g)) ≤ 133988
    many_drives d2 =
        let p = mul-le-mul_right (g.b * g.l) d2 in
        let q = mul-le-mul_left g.b f.placed.ranges.l_low in
        omega (arith, length_shelf s g, head_fits, d_short, l_short, text_fits, media_fit, p, q)

    few : g.b < 1000 → length (written (shelf_lines s g)) ≤ 133988
    few h1 = omega (arith, length_shelf s g, head_fits, d_short, l_short, text_fits, blocks_fit)

    shelf_fits : length (written (shelf_lines s g)) ≤ 133988
    shelf_fits =
        ⊎_elim few
        (λ many. ⊎_elim (λ d1. ⊎_elim (most many d1) long_blocks (order g.l 10)) many_drives (order g.d 10)) (order g.b 1000)

-- with D = 2, L = 4, S = 0 and B = 6,139, and all rows open, it is just that long
pub printed_fits : (s : List ℕ) → length (printed_of s) ≤ 133988
printed_fits s =
    ⊎_elim (λ long. rw (printed_long s long) (omega arith))
    (λ short. ⊎_elim (λ v. rw (printed_listing s short, text_shelf s v) (shelf_fits s (geometry_of s) (shelf_frame s (geometry_of s) (shelf s v)) short))
    (λ v. rw (printed_listing s short, text_none s v) (omega arith))
    (either (valid_image s)))
    (order 49152 (length s))

-- so what the program counts out of such a room is the whole text
pub printed_whole : (s room : List ℕ) → length room ≡ 133988 → take (fitted_count (printed_of s) room) (fitted (printed_of s) room) ≡ printed_of s
printed_whole s room n = fitted_text (printed_of s) room (omega (arith, printed_fits s))

-- 01's bench shelf, before and "After C2, in full": the listing byte for byte.
use Rattle.std.specs.Prelude.{◌≡◌, refl, set}
use Rattle.octets.specs.Part.{part}
use Rattle.octets.specs.Xor.{◌⊻◌}
use Rattle.octets.specs.Number.{num}
use Rattle.folds.specs.Every.{every}
use Rattle.folds.specs.All.{all_below}
use Rattle.folds.specs.Count.{count_below}
use Rattle.geometry.specs.Header.{slot_at, place}
use Rattle.slots.specs.Record.{slot_of}
use Rattle.image.specs.Valid.{valid_image}
use Rattle.image.specs.Bench.{bench, after_c2}
use Rattle.sums.specs.Row.{counts, summed_to, row_sum, is_open}
use Rattle.text.specs.Ascii.{ascii}
use Rattle.text.specs.Decimal.{decimal, decimal_in}
use Rattle.text.specs.Hexadecimal.{hexadecimal, hex_digit}
use Rattle.text.specs.Lines.{written}
use Rattle.rowsum.specs.Listing.{head_line, row_line, line_of, row_lines, shelf_lines, text_of}

-- and after it with drive 3 failed, its state byte at 40: "failed ones too"; and with drive 3's last block not zero, at 88
pub bench_listings :
    (text_of bench ≡ ascii "drives 3 blocks 2 length 4 open 0\n")
    × (text_of after_c2 ≡ ascii "drives 3 blocks 2 length 4 open 1\nrow 0 sum f50bf30d\n")
    × (text_of (set after_c2 40 1) ≡ ascii "drives 3 blocks 2 length 4 open 1\nrow 0 sum f50bf30d\n")
    × (text_of (set after_c2 40 2) ≡ ascii "not a shelf\n")
    × (text_of (set bench 88 1) ≡ ascii "drives 3 blocks 2 length 4 open 1\nrow 1 sum 01000000\n")
unfolding text_of shelf_lines row_lines line_of row_line head_line written decimal decimal_in hexadecimal hex_digit row_sum summed_to counts is_open ◌⊻◌ valid_image slot_of slot_at place every all_below count_below part num
bench_listings = (refl, refl, refl, refl, refl)

-- The text of an image that is a shelf, of one that is none, and of an input that is too long.
use Rattle.std.specs.Prelude.{ℕ, ◌<◌, ◌≤◌, true, false, List, ◌≡◌, length}
use Rattle.std.proofs.Common.{arith, ⊎_elim, lt-ltb, le-ltb, le-leb}
use Rattle.folds.specs.Cases.{either, order}
use Rattle.geometry.specs.Header.{geometry_of}
use Rattle.image.specs.Valid.{valid_image}
use Rattle.text.specs.Ascii.{ascii}
use Rattle.text.specs.Room.{fitted_count}
use Rattle.text.specs.Lines.{written}
use Rattle.rowsum.specs.Listing.{head_line, shelf_lines, text_of, listed_count, printed_of}

pub text_shelf : (s : List ℕ) → valid_image s ≡ true → text_of s ≡ written (shelf_lines s (geometry_of s))
unfolding text_of
text_shelf s v = rw v

pub text_none : (s : List ℕ) → valid_image s ≡ false → text_of s ≡ ascii "not a shelf\n"
unfolding text_of written
text_none s v = rw v

pub printed_long : (s : List ℕ) → 49152 < length s → printed_of s ≡ ascii "too large\n"
unfolding printed_of written
printed_long s h = rw (lt-ltb 49152 (length s) h)

pub printed_listing : (s : List ℕ) → length s ≤ 49152 → printed_of s ≡ text_of s
unfolding printed_of
printed_listing s h = rw (le-ltb 49152 (length s) h)

-- no listing is empty, so a count of 0 says that the room was too short
pub text_some : (s : List ℕ) → 1 ≤ length (text_of s)
unfolding text_of written shelf_lines head_line
text_some s = ⊎_elim (λ v. rw v (omega arith)) (λ v. rw v (omega arith)) (either (valid_image s))

pub zero_says : (s room : List ℕ) → listed_count s room ≡ 0 → length room < length (text_of s)
unfolding fitted_count
zero_says s room e =
    ⊎_elim (λ h. h) (λ h. let z : length (text_of s) ≡ 0 = rw (le-leb (length (text_of s)) (length room) h) at e in omega (arith, text_some s))
    (order (length room) (length (text_of s)))

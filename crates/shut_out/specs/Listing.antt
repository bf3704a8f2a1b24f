-- Wrong listings, each by a call or two on the bench shelf after which it has broken the contract of `listing`.
use Rattle.std.specs.Prelude.{ℕ, List, ◌≡◌, get_or, set, replicate}
use Rattle.std.proofs.Common.{arith, ap, sym, ◌∙◌}
use Rattle.octets.specs.Put.{put}
use Rattle.image.specs.Bench.{bench, after_c2}
use Rattle.text.specs.Ascii.{ascii}
use Rattle.text.specs.Room.{fitted, fitted_count}
use Rattle.rowsum.specs.Listing.{listed, listed_count}
use Rattle.rowsum.specs.Bench.{bench_listings}

-- a room of 64 bytes: 34 are written on the bench shelf, 56 after C2
abbrev room : List ℕ
room = replicate 64 0

-- it refuses everything
pub refusing_not : 0 ≡ listed_count bench room → ⊥
unfolding fitted_count
refusing_not h = let z : ◌≡◌ {A = ℕ} 0 34 = h ∙ ap (λ (t : List ℕ). fitted_count t room) bench_listings.0 in omega arith

-- it leaves every room alone, whatever it answers
pub idle_not : room ≡ listed bench room → ⊥
unfolding fitted put
idle_not h =
    let z : ◌≡◌ {A = ℕ} 0 0x64 = ap (λ (l : List ℕ). get_or l 0 0) (h ∙ ap (λ (t : List ℕ). fitted t room) bench_listings.0) in
    omega arith

-- it writes the same text for every image
pub constant_not : (r : List ℕ) → r ≡ listed bench room → r ≡ listed after_c2 room → ⊥
unfolding fitted put
constant_not r h k =
    let x = h ∙ ap (λ (t : List ℕ). fitted t room) bench_listings.0 in
    let y = k ∙ ap (λ (t : List ℕ). fitted t room) bench_listings.1 in
    let z : ◌≡◌ {A = ℕ} 0x30 0x31 = ap (λ (l : List ℕ). get_or l 32 0) (sym x ∙ y) in
    omega arith

-- it lists the first image of a run, and then leaves the room alone
pub first_call_only_not : (r : List ℕ) → r ≡ listed bench room → r ≡ listed after_c2 r → ⊥
unfolding fitted put
first_call_only_not r h k =
    let x = h ∙ ap (λ (t : List ℕ). fitted t room) bench_listings.0 in
    let y = k ∙ ap (λ (t : List ℕ). fitted t r) bench_listings.1 in
    let z : ◌≡◌ {A = ℕ} 0x30 0x31 = ap (λ (l : List ℕ). get_or l 32 0) (rw x at y) in
    omega arith

-- `open` is not the rows shown: it counts one too few after C2; it counts the row and does not show it
pub miscounting_not : fitted (ascii "drives 3 blocks 2 length 4 open 0\nrow 0 sum f50bf30d\n") room ≡ listed after_c2 room → ⊥
unfolding fitted put
miscounting_not h =
    let z : ◌≡◌ {A = ℕ} 0x30 0x31 = ap (λ (l : List ℕ). get_or l 32 0) (h ∙ ap (λ (t : List ℕ). fitted t room) bench_listings.1) in
    omega arith

pub hiding_not : fitted (ascii "drives 3 blocks 2 length 4 open 1\n") room ≡ listed after_c2 room → ⊥
unfolding fitted put
hiding_not h =
    let z : ◌≡◌ {A = ℕ} 0 0x72 = ap (λ (l : List ℕ). get_or l 34 0) (h ∙ ap (λ (t : List ℕ). fitted t room) bench_listings.1) in
    omega arith

-- a failed drive is skipped: after C2 drives 1 and 2 alone come to FE02FC04
pub skipping_not : fitted (ascii "drives 3 blocks 2 length 4 open 1\nrow 0 sum fe02fc04\n") room ≡ listed (set after_c2 40 1) room → ⊥
unfolding fitted put
skipping_not h =
    let z : ◌≡◌ {A = ℕ} 0x65 0x35 = ap (λ (l : List ℕ). get_or l 45 0) (h ∙ ap (λ (t : List ℕ). fitted t room) bench_listings.2) in
    omega arith

-- the last row is left out
pub last_row_not : fitted (ascii "drives 3 blocks 2 length 4 open 0\n") room ≡ listed (set bench 88 1) room → ⊥
unfolding fitted put
last_row_not h =
    let z : ◌≡◌ {A = ℕ} 0x30 0x31 = ap (λ (l : List ℕ). get_or l 32 0) (h ∙ ap (λ (t : List ℕ). fitted t room) bench_listings.4) in
    omega arith

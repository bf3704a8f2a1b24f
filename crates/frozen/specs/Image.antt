-- 01, "The image: counts, then offsets". All numbers are big-endian; m is the image, h its header.
use Rattle.std.specs.Prelude.{ℕ, ◌+◌, ◌*◌, ◌%◌, Bool, not, cond, List, [], ◌∷◌, leb, ltb, eqb, length, get_or, Option}
use Rattle.octets.specs.Part.{part}
use Rattle.octets.specs.Number.{be}
use Rattle.folds.specs.Every.{every}
use Rattle.folds.specs.All.{all_below}
use Rattle.folds.specs.Count.{count_below}
use Rattle.folds.specs.Least.{least_below}

-- "The header is eight 4-byte fields: drives D .., blocks per drive B .., block length L .., slots S .., slot size M in blocks .., then the
-- offsets of the drive table, slots and media."
pub record Header : Type 0 where
  pub D : ℕ
  pub B : ℕ
  pub L : ℕ
  pub S : ℕ
  pub M : ℕ
  pub table : ℕ
  pub slots : ℕ
  pub media : ℕ

abbrev pub header_of : List ℕ → Header
header_of m =
    record { D = be 4 m 0; B = be 4 m 4; L = be 4 m 8; S = be 4 m 12; M = be 4 m 16; table = be 4 m 20; slots = be 4 m 24; media = be 4 m 28 }

-- ---- places

-- "Drive table at 32: per drive 4 bytes"
abbrev pub entry_at : Header → ℕ → ℕ
entry_at h i = h.table + 4 * i

-- "Slots at 32 + 4D: each 16 + M*L bytes."
abbrev pub slot_size : Header → ℕ
slot_size h = 16 + h.M * h.L

abbrev pub slot_at : Header → ℕ → ℕ
slot_at h i = h.slots + i * slot_size h

-- "Media ..: drive 0's blocks, then drive 1's, and so on."
abbrev pub block_at : Header → ℕ → ℕ → ℕ
block_at h d b = h.media + (d * h.B + b) * h.L

-- the bytes of drive d's n blocks from block b on
abbrev pub blocks : List ℕ → Header → ℕ → ℕ → ℕ → List ℕ
blocks m h d b n = part m (block_at h d b) (n * h.L)

-- ---- the drive table

-- "state (0 present, 1 failed) and a 3-byte address"
abbrev pub state : List ℕ → Header → ℕ → ℕ
state m h i = get_or m (entry_at h i) 0

abbrev pub failed : List ℕ → Header → ℕ → Bool
failed m h i = eqb (state m h i) 1

abbrev pub address : List ℕ → Header → ℕ → ℕ
address m h i = be 3 m (entry_at h i + 1)

-- the drive with an address
abbrev pub drive_of : List ℕ → Header → ℕ → Option ℕ
drive_of m h a = least_below h.D (λ i. eqb (address m h i) a)

-- ---- the slots

-- "Record: rank (4 bytes), kind (0 empty, 1 XDWRITE, 2 REGENERATE), drive index (1), length in blocks (2), block number (4), four zero bytes."
pub record Slot : Type 0 where
  pub rank : ℕ
  pub kind : ℕ
  pub drive : ℕ
  pub len : ℕ
  pub block : ℕ
  pub last : ℕ

abbrev pub record_of : List ℕ → Slot
record_of r = record { rank = be 4 r 0; kind = be 1 r 4; drive = be 1 r 5; len = be 2 r 6; block = be 4 r 8; last = be 4 r 12 }

abbrev pub slot : List ℕ → Header → ℕ → Slot
slot m h i = record_of (part m (slot_at h i) 16)

abbrev pub used : Slot → Bool
used r = not (eqb r.kind 0)

-- the k of "1 to k"
abbrev pub used_count : List ℕ → Header → ℕ
used_count m h = count_below h.S (λ i. used (slot m h i))

-- ---- validity

-- "drives D (2 to 32), blocks per drive B (1 to 65,536), block length L (4 to 4,096, a multiple of 4), slots S (0 to 16), slot size M
-- in blocks (1 to 256)"
abbrev pub in_range : Header → Bool
in_range h =
    every
    (leb 2 h.D
    ∷ leb h.D 32
    ∷ leb 1 h.B
    ∷ leb h.B 65536
    ∷ leb 4 h.L
    ∷ leb h.L 4096
    ∷ eqb (h.L % 4) 0
    ∷ leb h.S 16
    ∷ leb 1 h.M
    ∷ leb h.M 256
    ∷ [])

-- "Drive table at 32", "Slots at 32 + 4D", "Media at 32 + 4D + S(16 + M*L)", "The image ends there, D*B*L bytes on."
abbrev pub laid_out : List ℕ → Header → Bool
laid_out m h =
    every
    (leb 32 (length m)
    ∷ in_range h
    ∷ every (eqb h.table 32 ∷ eqb h.slots (32 + 4 * h.D) ∷ eqb h.media (32 + 4 * h.D + h.S * slot_size h) ∷ [])
    ∷ eqb (length m) (h.media + h.D * h.B * h.L)
    ∷ [])

-- "Addresses differ.": each is none of an earlier drive
abbrev pub table_right : List ℕ → Header → Bool
table_right m h =
    every
    (all_below h.D (λ i. leb (state m h i) 1)
    ∷ all_below h.D (λ i. all_below i (λ j. not (eqb (address m h j) (address m h i))))
    ∷ [])

-- "An empty slot's record is all zero; its data may be anything."
abbrev pub empty_right : Slot → Bool
empty_right r = every (eqb r.rank 0 ∷ eqb r.drive 0 ∷ eqb r.len 0 ∷ eqb r.block 0 ∷ eqb r.last 0 ∷ [])

-- "Used slots have kind 1 or 2, index below D, length 1 to M, block + length at most B, and their ranks are 1 to k, each once"
abbrev pub used_right : Header → ℕ → Slot → Bool
used_right h k r =
    every
    (leb 1 r.kind
    ∷ leb r.kind 2
    ∷ ltb r.drive h.D
    ∷ leb 1 r.len
    ∷ leb r.len h.M
    ∷ leb (r.block + r.len) h.B
    ∷ eqb r.last 0
    ∷ leb 1 r.rank
    ∷ leb r.rank k
    ∷ [])

abbrev pub slots_right : List ℕ → Header → ℕ → Bool
slots_right m h k =
    every
    (all_below h.S (λ i. cond (used (slot m h i)) (used_right h k (slot m h i)) (empty_right (slot m h i)))
    ∷ all_below k (λ n. eqb (count_below h.S (λ i. every (used (slot m h i) ∷ eqb (slot m h i).rank (n + 1) ∷ []))) 1)
    ∷ [])

abbrev pub valid : List ℕ → Bool
valid m = every (laid_out m (header_of m) ∷ table_right m (header_of m) ∷ slots_right m (header_of m) (used_count m (header_of m)) ∷ [])

-- What is written as a record is read as it.
use Rattle.std.specs.Prelude.{◌≡◌, refl, List, [], ◌∷◌, ℕ, ◌+◌, ◌*◌, ◌%◌, ◌^◌, ◌≤◌, ◌<◌, length, get_or, replicate}
use Rattle.std.proofs.Common.{sym, ap, ◌∙◌, inr, arith, lit≤, Fits}
use Rattle.std.specs.Int.{w64}
use Rattle.octets.specs.Part.{part, part_whole}
use Rattle.octets.specs.Octets.{Octets}
use Rattle.octets.specs.Put.{put}
use Rattle.octets.specs.Number.{be, num, to_be, length_to_be, num_to_be_lt, put_be, be_on, be_put, be_put_apart, be_part, be_one, to_be1, to_be2, to_be4}
use Rattle.octets.specs.Four.{four_of}
use Rattle.geometry.specs.declared.Geometry.{Geometry}
use Rattle.geometry.specs.Header.{slot_at}
use Rattle.geometry.specs.Frame.{Framed}
use Rattle.slots.specs.declared.Slot.{Slot}
use Rattle.slots.specs.Record.{record_of, bytes_of, slot_of, zero_slot}

-- each field fits its bytes
pub record Small (r : Slot) : Type 0 where
  pub rank_small : r.rank < 2 ^ 32
  pub kind_small : r.kind < 256
  pub drive_small : r.drive < 256
  pub len_small : r.len < 2 ^ 16
  pub block_small : r.block.0 < 2 ^ 32
  pub last_small : r.last < 2 ^ 32

abbrev made : ℕ → ℕ → ℕ → ℕ → ℕ → ℕ → Slot
made a b c d e f = record { rank = a; kind = b; drive = c; len = d; block = record { 0 = e }; last = f }

same_made : {a b c d e f a' b' c' d' e' f' : ℕ} → a ≡ a' → b ≡ b' → c ≡ c' → d ≡ d' → e ≡ e' → f ≡ f' → made a b c d e f ≡ made a' b' c' d' e' f'
same_made p q r s t u = rw (p, q, r, s, t, u)

-- two records with the same fields
pub same_slot : (r t : Slot) → r.rank ≡ t.rank → r.kind ≡ t.kind → r.drive ≡ t.drive → r.len ≡ t.len → r.block.0 ≡ t.block.0 → r.last ≡ t.last → r ≡ t
same_slot r t e0 e1 e2 e3 e4 e5 = same_made e0 e1 e2 e3 e4 e5

pub length_bytes : (r : Slot) → length (bytes_of r) ≡ 16
unfolding bytes_of to_be
length_bytes r = refl

pub record_bytes_lem : (r : Slot) → Small r → record_of (bytes_of r) ≡ r
unfolding bytes_of to_be part
record_bytes_lem r h =
    same_slot (record_of (bytes_of r)) r (num_to_be_lt 4 r.rank h.rank_small) (num_to_be_lt 1 r.kind h.kind_small)
    (num_to_be_lt 1 r.drive h.drive_small) (num_to_be_lt 2 r.len h.len_small) (num_to_be_lt 4 r.block.0 h.block_small)
    (num_to_be_lt 4 r.last h.last_small)

-- and sixteen bytes are those that their record is written as
pub bytes_record : (xs : List ℕ) → Octets xs → length xs ≡ 16 → bytes_of (record_of xs) ≡ xs
unfolding bytes_of
bytes_record xs o l =
    be_on xs o 4 12 (omega arith)
    (be_on xs o 4 8 (omega arith) (be_on xs o 2 6 (omega arith) (be_on xs o 1 5 (omega arith) (be_on xs o 1 4 (omega arith) (put_be 4 xs 0 (omega arith) o)))))
    ∙ part_whole xs 16 (omega arith)

-- sixteen zeros are an empty slot's record
pub record_zeros : record_of (replicate 16 0) ≡ zero_slot
unfolding part num
record_zeros = refl

-- the record with another rank
abbrev pub ranked : ℕ → Slot → Slot
ranked n r = record { rank = n; kind = r.kind; drive = r.drive; len = r.len; block = r.block; last = r.last }

-- four bytes written over its front are its rank
pub record_ranked : (r : List ℕ) (v : ℕ) → length r ≡ 16 → v < 2 ^ 32 → record_of (put r 0 (to_be 4 v)) ≡ ranked v (record_of r)
record_ranked r v l h =
    let n : length (to_be 4 v) ≡ 4 = length_to_be 4 v in
    let t = put r 0 (to_be 4 v) in
    let e0 : be 4 t 0 ≡ v = be_put 4 r 0 v (omega arith) h in
    let e1 : be 1 t 4 ≡ be 1 r 4 = be_put_apart 1 r 0 (to_be 4 v) 4 (inr (omega arith)) in
    let e2 : be 1 t 5 ≡ be 1 r 5 = be_put_apart 1 r 0 (to_be 4 v) 5 (inr (omega arith)) in
    let e3 : be 2 t 6 ≡ be 2 r 6 = be_put_apart 2 r 0 (to_be 4 v) 6 (inr (omega arith)) in
    let e4 : be 4 t 8 ≡ be 4 r 8 = be_put_apart 4 r 0 (to_be 4 v) 8 (inr (omega arith)) in
    let e5 : be 4 t 12 ≡ be 4 r 12 = be_put_apart 4 r 0 (to_be 4 v) 12 (inr (omega arith)) in
    cc

-- ---- as the code reads and writes it

-- the record's bytes lie in the image
module _ (s : List ℕ) (g : Geometry) (at : ℕ) (f : Framed s g) (h : at + 16 + g.m * g.l ≤ g.media) where
  pub record_room : at + 16 ≤ length s
  record_room = omega (arith, f.media_end)

  pub rank_room : at + 4 ≤ length s
  rank_room = omega (arith, record_room)

  pub field_room : (k n : ℕ) → k + n ≤ 16 → at + k + n ≤ length s
  field_room k n l = omega (arith, record_room)

  pub byte_room : (k : ℕ) → k < 16 → at + k < length s
  byte_room k l = omega (arith, record_room)

  pub field_fits : (k : ℕ) → k ≤ 16 → length s < 2 ^ 64 → Fits w64 (at + k)
  field_fits k l b = record { fits = omega (arith, record_room) }

-- the fields read one by one
pub read_back : (s : List ℕ) (g : Geometry) (i at : ℕ) (r : Slot) → at ≡ slot_at g i → at + 16 ≤ length s
    → (r.rank ≡ be 4 s at) × (r.rank < 4294967296) → (r.kind ≡ get_or s (at + 4) 0) × (r.kind < 256) → (r.drive ≡ get_or s (at + 5) 0) × (r.drive < 256)
    → (r.len ≡ be 2 s (at + 6)) × (r.len < 65536) → (r.block.0 ≡ be 4 s (at + 8)) × (r.block.0 < 4294967296) → (r.last ≡ be 4 s (at + 12)) × (r.last < 4294967296)
    → (r ≡ slot_of s g i) × Small r
unfolding slot_of
read_back s g i at r a room p0 p1 p2 p3 p4 p5 =
    let z : at ≡ at + 0 = omega arith in
    let field : (n k : ℕ) → k + n ≤ 16 → be n s (at + k) ≡ be n (part s (slot_at g i) 16) k =
    (λ n k h. ap (λ (x : ℕ). be n s (x + k)) a ∙ sym (be_part n s (slot_at g i) 16 k h)) in (
      same_slot r (record_of (part s (slot_at g i) 16)) (p0.0 ∙ ap (be 4 s) z ∙ field 4 0 (omega arith)) (p1.0 ∙ sym (be_one s (at + 4) (omega arith)) ∙ field 1 4 (omega arith))
          (p2.0 ∙ sym (be_one s (at + 5) (omega arith)) ∙ field 1 5 (omega arith)) (p3.0 ∙ field 2 6 (omega arith)) (p4.0 ∙ field 4 8 (omega arith)) (p5.0 ∙ field 4 12 (omega arith)),
      record {
        rank_small = p0.1;
        kind_small = p1.1;
        drive_small = p2.1;
        len_small = p3.1;
        block_small = p4.1;
        last_small = p5.1;
      },
    )

-- the rank alone
pub rank_at : (s : List ℕ) (g : Geometry) (i at old : ℕ) → at ≡ slot_at g i → old ≡ be 4 s at → old ≡ (slot_of s g i).rank
unfolding slot_of
rank_at s g i at old a e =
    let z : at ≡ slot_at g i + 0 = omega arith in
    e ∙ ap (be 4 s) z ∙ sym (be_part 4 s (slot_at g i) 16 0 (lit≤ tt))

pub stored_bytes : (r : Slot) (rank len first last : List ℕ) → rank ≡ four_of r.rank → len ≡ four_of r.len → first ≡ four_of r.block.0 → last ≡ four_of r.last
    → get_or rank 0 0 ∷ get_or rank 1 0 ∷ get_or rank 2 0 ∷ get_or rank 3 0 ∷ r.kind % 256 ∷ r.drive % 256 ∷ get_or len 2 0 ∷ get_or len 3 0 ∷ get_or first 0 0 ∷ get_or first 1 0 ∷ get_or first 2 0 ∷ get_or first 3 0 ∷ get_or last 0 0 ∷ get_or last 1 0 ∷ get_or last 2 0 ∷ get_or last 3 0 ∷ []
    ≡ bytes_of r
unfolding bytes_of
stored_bytes r rank len first last e0 e1 e2 e3 =
    rw (e0, e1, e2, e3)
    (rw (to_be4 r.rank, to_be4 r.block.0, to_be4 r.last, to_be2 r.len, to_be1 r.kind, to_be1 r.drive))

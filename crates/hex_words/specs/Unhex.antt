-- What is read from digits: how much, byte by byte, and that it is what was written.
use Rattle.std.specs.Prelude.{ℕ, zero, suc, ◌+◌, ◌*◌, ◌/◌, ◌%◌, ◌≤◌, ◌<◌, true, ◌&&◌, List, [], ◌∷◌, ◌++◌, ◌≡◌, refl, eqb, ltb, leb, length, get_or, take, set}
use Rattle.std.specs.Simd.{first_chunks}
use Rattle.std.proofs.Common.{not-suc-le-zero, add-zero, zero-add, drop, length-drop, get_or-take, get_or-drop, add-one, arith, ⊎_elim, sym, ap, ap₂, ◌∙◌, take-suc, ltb-true, leb-true, eqb-true, ne_eqb, lt-ltb, le-ltb, le-leb}
use Rattle.std.proofs.Math.Bool.{and-eq-true_iff}
use Rattle.std.specs.Int.{from_be_bytes}
use Rattle.std.proofs.Common.{w32}
use Rattle.octets.specs.Number.{be, num}
use Rattle.octets.specs.Octets.{Octets, octets_tail}
use Rattle.octets.specs.Part.{part}
use Rattle.octets.specs.Put.{length_put}
use Rattle.octets.specs.PutPut.{part_put}
use Rattle.folds.specs.Cases.{either, order}
use Rattle.folds.specs.Same.{same_list, same_list_lem}
use Rattle.text.specs.Ascii.{ascii}
use Rattle.text.specs.Hexadecimal.{hex_digit, hexadecimal}
use Rattle.text.specs.Room.{Wrote, wrote_then, wrote_byte}
use Rattle.hex_words.specs.Digits.{is_hex, digit_in, unhex, all_hex, is_bytes, is_number, Hex, word_of}

-- ---- what the code knows of words that are bytes or numbers

pub letter : (b : ℕ) → is_hex b ≡ true → 97 ≤ b → b < 103
unfolding is_hex
letter b h l = let e : ltb b 103 ≡ true = rw (le-ltb b 97 l) at h in ltb-true b 103 e

pub figure : (b : ℕ) → is_hex b ≡ true → b < 97 → (48 ≤ b) × (b < 58)
unfolding is_hex
figure b h l =
    let e : (leb 48 b && ltb b 58) ≡ true = rw (lt-ltb b 97 l) at h in
    let both = (and-eq-true_iff (leb 48 b) (ltb b 58)).0 e in
    (leb-true 48 b both.0, ltb-true b 58 both.1)

pub bytes_some : (w : List ℕ) → is_bytes w ≡ true → 1 ≤ length w
unfolding is_bytes
bytes_some w h =
    ⊎_elim (λ t. rw (same_list_lem w (ascii "-") t) (omega arith))
    (λ f. let e : (ltb 0 (length w) && (eqb (length w % 2) 0 && all_hex w)) ≡ true = rw f at h in
    ltb-true 0 (length w) ((and-eq-true_iff (ltb 0 (length w)) (eqb (length w % 2) 0 && all_hex w)).0 e).0)
    (either (same_list w (ascii "-")))

pub bytes_hex : (w : List ℕ) → is_bytes w ≡ true → Hex w
unfolding is_bytes
bytes_hex w h l =
    ⊎_elim (λ t. let e : length w ≡ 1 = ap length (same_list_lem w (ascii "-") t) in absurd (omega arith))
    (λ f. let e : (ltb 0 (length w) && (eqb (length w % 2) 0 && all_hex w)) ≡ true = rw f at h in
    ((and-eq-true_iff (eqb (length w % 2) 0) (all_hex w)).0 ((and-eq-true_iff (ltb 0 (length w)) (eqb (length w % 2) 0 && all_hex w)).0 e).1).1)
    (either (same_list w (ascii "-")))

pub number_long : (w : List ℕ) → is_number w ≡ true → length w ≡ 8
unfolding is_number
number_long w h = eqb-true (length w) 8 ((and-eq-true_iff (eqb (length w) 8) (all_hex w)).0 h).0

pub number_hex : (w : List ℕ) → is_number w ≡ true → Hex w
unfolding is_number
number_hex w h l = ((and-eq-true_iff (eqb (length w) 8) (all_hex w)).0 h).1

-- ---- byte by byte

pub length_unhex : (w : List ℕ) → length (unhex w) ≡ length w / 2
unfolding unhex
length_unhex [] = refl
length_unhex (h ∷ []) = refl
length_unhex (h ∷ l ∷ w) = let e = length_unhex w in omega arith

pub get_or_unhex : (w : List ℕ) (i : ℕ) → i < length w / 2 → get_or (unhex w) i 0 ≡ 16 * digit_in (get_or w (2 * i) 0) + digit_in (get_or w (2 * i + 1) 0)
unfolding unhex
get_or_unhex [] i l = absurd (omega arith)
get_or_unhex (h ∷ []) i l = absurd (omega arith)
get_or_unhex (h ∷ k ∷ w) zero l = refl
get_or_unhex (h ∷ k ∷ w) (suc i) l =
    let a : 2 * suc i ≡ suc (suc (2 * i)) = omega arith in
    let b : suc (suc (2 * i)) + 1 ≡ suc (suc (2 * i + 1)) = omega arith in
    rw (a, b) (get_or_unhex w i (omega arith))

-- the word in pairs of digits, as `as_chunks` cuts it
pub pair_digits : (w : List ℕ) (pairs : List (List ℕ)) (i : ℕ) → pairs ≡ first_chunks 2 (length w / 2) w → i < length w / 2
    → (get_or (get_or pairs i []) 0 0 ≡ get_or w (2 * i) 0) × (get_or (get_or pairs i []) 1 0 ≡ get_or w (2 * i + 1) 0)
pair_digits w pairs i e l = rw e (digits (length w / 2) w i 0 l (omega arith) (omega arith) ∙ ap (λ (m : ℕ). get_or w m 0) (add-zero (2 * i)), digits (length w / 2) w i 1 l (omega arith) (omega arith))
  where
    digits : (n : ℕ) (v : List ℕ) (k j : ℕ) → k < n → 2 * n ≤ length v → j < 2 → get_or (get_or (first_chunks 2 n v) k []) j 0 ≡ get_or v (2 * k + j) 0
    digits zero v k j l h m = absurd (not-suc-le-zero l)
    digits (suc n) v zero j l h m = get_or-take 2 v j 0 m ∙ ap (λ (q : ℕ). get_or v q 0) (sym (zero-add j))
    digits (suc n) v (suc k) j l h m =
        let e : 2 + (2 * k + j) ≡ 2 * suc k + j = omega arith in
        digits n (drop 2 v) k j (omega arith) (rw length-drop (omega arith)) m ∙ get_or-drop 2 v (2 * k + j) 0 ∙ ap (λ (q : ℕ). get_or v q 0) e

-- a turn of the loop: two digits more
pub unhex_more : (w : List ℕ) (i h l : ℕ) (before room : List ℕ) → i < length w / 2 → h ≡ digit_in (get_or w (2 * i) 0) → l ≡ digit_in (get_or w (2 * i + 1) 0)
    → Wrote (take i (unhex w)) 0 i before room → Wrote (take (i + 1) (unhex w)) 0 (i + 1) before (set room i (16 * h + l))
unhex_more w i h l before room b p q done =
    let last : get_or (unhex w) i 0 ≡ 16 * h + l = get_or_unhex w i b ∙ ap₂ (λ (x y : ℕ). 16 * x + y) (sym p) (sym q) in
    let more : take (i + 1) (unhex w) ≡ take i (unhex w) ++ ((16 * h + l) ∷ []) =
    ap (λ (k : ℕ). take k (unhex w)) (add-one i)
    ∙ take-suc (unhex w) i 0 (rw length_unhex b)
    ∙ ap (λ (x : ℕ). take i (unhex w) ++ (x ∷ [])) last in
    rw more (wrote_then done (wrote_byte i room (16 * h + l)))

-- ---- what the code leaves

-- what was written at a room's front
pub front : {xs : List ℕ} {n : ℕ} {before after : List ℕ} → Wrote xs 0 n before after → length xs ≤ length before → take n after ≡ xs
unfolding part
front {xs} {n} {before} {after} w h =
    let e : n ≡ length xs = omega (arith, w.ends) in
    rw (w.leaves, e) (part_put before 0 xs (omega arith))

-- n bytes that the word w says were read into a room's front
pub record Read (w : List ℕ) (n : ℕ) (before after : List ℕ) : Type 0 where
  pub wrote : Wrote (unhex w) 0 n before after
  pub inside : n ≤ length after
  pub counted : n ≡ length (take n after)
  pub says : take n after ≡ unhex w

pub read : (w : List ℕ) (n : ℕ) (before after : List ℕ) → Wrote (unhex w) 0 n before after → length w ≤ 2 * length before + 1 → Read w n before after
read w n before after h l =
    let all : take n after ≡ unhex w = front h (rw length_unhex (omega arith)) in
    let long : length after ≡ length before = ap length h.leaves ∙ length_put before 0 (unhex w) in
    record {
      wrote = h;
      inside = omega (arith, h.ends, length_unhex w);
      counted = rw all (omega (arith, h.ends));
      says = all;
    }

-- ---- what was written is read

pub digit_read : (d : ℕ) → d < 16 → (is_hex (hex_digit d) ≡ true) × (digit_in (hex_digit d) ≡ d)
unfolding hex_digit is_hex digit_in
digit_read d h =
    ⊎_elim (λ small. rw (lt-ltb d 10 small, lt-ltb (48 + d) 97 (omega arith)) (rw (le-leb 48 (48 + d) (omega arith)) (lt-ltb (48 + d) 58 (omega arith)), omega arith))
    (λ large. rw (le-ltb d 10 large, le-ltb (87 + d) 97 (omega arith)) (lt-ltb (87 + d) 103 (omega arith), omega arith))
    (order d 10)

pub unhex_hexadecimal : (bs : List ℕ) → Octets bs → unhex (hexadecimal bs) ≡ bs
unfolding unhex hexadecimal
unhex_hexadecimal [] o = refl
unhex_hexadecimal (b ∷ bs) o =
    let small : b < 256 = o 0 in
    let e : 16 * digit_in (hex_digit (b / 16)) + digit_in (hex_digit (b % 16)) ≡ b =
    rw ((digit_read (b / 16) (omega arith)).1, (digit_read (b % 16) (omega arith)).1) (omega arith) in
    ap₂ (λ (x : ℕ) (xs : List ℕ). x ∷ xs) e (unhex_hexadecimal bs (octets_tail b bs o))

-- the two ways to write
pub word_none : (bs : List ℕ) → length bs ≡ 0 → word_of bs ≡ ascii "-"
unfolding word_of
word_none bs e = rw e

pub word_some : (bs : List ℕ) → (length bs ≡ 0 → ⊥) → word_of bs ≡ hexadecimal bs
unfolding word_of
word_some bs e = rw (ne_eqb (length bs) 0 e)

-- ---- the number of four bytes, as std says it

pub number_of_bytes : (xs : List ℕ) → length xs ≡ 4 → from_be_bytes w32 xs ≡ be 4 xs 0
unfolding num part
number_of_bytes (a ∷ b ∷ c ∷ d ∷ []) e = omega arith
number_of_bytes [] e = absurd (omega arith)
number_of_bytes (a ∷ []) e = absurd (omega arith)
number_of_bytes (a ∷ b ∷ []) e = absurd (omega arith)
number_of_bytes (a ∷ b ∷ c ∷ []) e = absurd (omega arith)
number_of_bytes (a ∷ b ∷ c ∷ d ∷ x ∷ xs) e = absurd (omega arith)

-- Reading and writing are exact: what was written is read, and only what is written so is read.
use Rattle.std.specs.Prelude.{ℕ, zero, suc, ◌+◌, ◌-◌, ◌*◌, ◌/◌, ◌%◌, ◌<◌, true, false, ◌&&◌, List, [], ◌∷◌, ◌≡◌, refl, eqb, ltb, length, get_or}
use Rattle.std.proofs.Common.{not-suc-le-zero, le_of_suc-le-suc, arith, ⊎_elim, sym, ltb-true, eqb-true, lt-ltb, le-ltb, eq-eqb}
use Rattle.std.proofs.Math.Bool.{and-eq-true_iff, or-true}
use Rattle.std.proofs.lemmas.Bool.{eqb-false}
use Rattle.octets.specs.Octets.{Octets, octets_tail}
use Rattle.folds.specs.All.{all_at, all_intro}
use Rattle.folds.specs.Cases.{either, order}
use Rattle.folds.specs.Same.{same_list, same_list_lem, same_self}
use Rattle.text.specs.Ascii.{ascii}
use Rattle.text.specs.Hexadecimal.{hex_digit, hexadecimal, length_hexadecimal}
use Rattle.hex_words.specs.Digits.{is_hex, digit_in, unhex, all_hex, is_bytes, word_of}
use Rattle.hex_words.specs.Unhex.{word_none, word_some, letter, figure, digit_read, length_unhex, unhex_hexadecimal}

-- ---- what was written is read

hex_each : (bs : List ℕ) → Octets bs → (j : ℕ) → j < length (hexadecimal bs) → is_hex (get_or (hexadecimal bs) j 0) ≡ true
unfolding hexadecimal
hex_each [] o j l = absurd (not-suc-le-zero l)
hex_each (b ∷ bs) o zero l = (digit_read (b / 16) (let small : b < 256 = o 0 in omega arith)).0
hex_each (b ∷ bs) o (suc zero) l = (digit_read (b % 16) (omega arith)).0
hex_each (b ∷ bs) o (suc (suc j)) l = hex_each bs (octets_tail b bs o) j (le_of_suc-le-suc (le_of_suc-le-suc l))

pub read_written : (bs : List ℕ) → Octets bs → (is_bytes (word_of bs) ≡ true) × (unhex (word_of bs) ≡ bs)
unfolding is_bytes unhex
read_written bs o =
    ⊎_elim (λ t. rw (word_none bs (eqb-true (length bs) 0 t), same_self) (refl, sym (none bs (eqb-true (length bs) 0 t))))
    (λ f. rw (word_some bs (eqb-false (length bs) 0 f)) (some f, unhex_hexadecimal bs o))
    (either (eqb (length bs) 0))
  where
    none : (xs : List ℕ) → length xs ≡ 0 → xs ≡ []
    none [] e = refl
    none (x ∷ xs) e = absurd (let z : ◌≡◌ {A = ℕ} (suc (length xs)) 0 = e in omega arith)

    pos : (length bs ≡ 0 → ⊥) → length (hexadecimal bs) ≡ 2 * length bs → 0 < length (hexadecimal bs)
    pos ne n = ⊎_elim (λ l. omega arith) (λ l. absurd (ne (omega arith))) (order 0 (length bs))

    some : eqb (length bs) 0 ≡ false → is_bytes (hexadecimal bs) ≡ true
    some f =
        let n = length_hexadecimal bs in
        let ne = eqb-false (length bs) 0 f in
        let hex : all_hex (hexadecimal bs) ≡ true = all_intro (λ j. is_hex (get_or (hexadecimal bs) j 0)) (length (hexadecimal bs)) (hex_each bs o) in
        rw (lt-ltb 0 (length (hexadecimal bs)) (pos ne n), eq-eqb (length (hexadecimal bs) % 2) 0 (omega arith), hex) (or-true (same_list (hexadecimal bs) (ascii "-")))

-- ---- only what is written so is read

digit_written : (b : ℕ) → is_hex b ≡ true → (digit_in b < 16) × (hex_digit (digit_in b) ≡ b)
unfolding digit_in hex_digit
digit_written b h =
    ⊎_elim (λ l. let k = figure b h l in rw (lt-ltb b 97 l, lt-ltb (b - 48) 10 (omega arith)) (omega arith, omega arith))
    (λ l. let k = letter b h l in rw (le-ltb b 97 l, le-ltb (b - 87) 10 (omega arith)) (omega arith, omega arith))
    (order b 97)

written_read : (w : List ℕ) → ((j : ℕ) → j < length w → is_hex (get_or w j 0) ≡ true) → length w % 2 ≡ 0 → hexadecimal (unhex w) ≡ w
unfolding hexadecimal unhex
written_read [] h e = refl
written_read (x ∷ []) h e = absurd (let z : ◌≡◌ {A = ℕ} (1 % 2) 0 = e in omega arith)
written_read (x ∷ y ∷ w) h e =
    let a = digit_written x (h 0 (omega arith)) in
    let b = digit_written y (h 1 (omega arith)) in
    let high : (16 * digit_in x + digit_in y) / 16 ≡ digit_in x = omega arith in
    let low : (16 * digit_in x + digit_in y) % 16 ≡ digit_in y = omega arith in
    let rest : hexadecimal (unhex w) ≡ w = written_read w (λ j l. h (suc (suc j)) (omega arith)) (omega arith) in
    rw (high, low, a.1, b.1, rest)

pub word_back : (w : List ℕ) → is_bytes w ≡ true → word_of (unhex w) ≡ w
unfolding is_bytes unhex word_of
word_back w h = ⊎_elim (λ t. dash (same_list_lem w (ascii "-") t)) (λ f. digits f) (either (same_list w (ascii "-")))
  where
    dash : w ≡ ascii "-" → word_of (unhex w) ≡ w
    dash e = rw e

    digits : same_list w (ascii "-") ≡ false → word_of (unhex w) ≡ w
    digits f =
        let e : (ltb 0 (length w) && (eqb (length w % 2) 0 && all_hex w)) ≡ true = rw f at h in
        let both = (and-eq-true_iff (ltb 0 (length w)) (eqb (length w % 2) 0 && all_hex w)).0 e in
        let hex = (and-eq-true_iff (eqb (length w % 2) 0) (all_hex w)).0 both.1 in
        let even : length w % 2 ≡ 0 = eqb-true (length w % 2) 0 hex.0 in
        let some : 0 < length w = ltb-true 0 (length w) both.0 in
        rw (word_some (unhex w) (λ z. let n = length_unhex w in omega arith))
        (written_read w (λ j l. all_at (λ i. is_hex (get_or w i 0)) (length w) j hex.1 l) even)

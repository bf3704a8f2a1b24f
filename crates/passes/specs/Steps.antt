-- How the code goes on from part to part.
use Prim.Native.Nat.{ℕ, zero, suc, ◌+◌, ◌-◌, ◌≤◌}
use Rattle.std.proofs.Common.{refl, zero-add, suc-add, ap₂, ◌∙◌, length-drop, get_or-drop}
use native.Mathlib.Omega.{arith}
use Rattle.std.specs.Prelude.{◌≡◌, length, get_or, drop}
use Rattle.std.proofs.Math.Path.{sym, ap}
use mathlib.Core.List.{List, [], ◌∷◌, ◌++◌}
use Rattle.octets.specs.Part.{part}
use Rattle.octets.specs.Xor.{◌⊻◌, xor_regroups}
use Rattle.octets.specs.Eight.{eight_parts}
use Rattle.octets.specs.Operands.{xor_all, xor_all_one, xor_all_append}
use Rattle.passes.specs.Parts.{parts_from, parts_at, Within}

module _ (xs places : List ℕ) (o k : ℕ) where
  -- m parts, and the n after them
  pub parts_add : (i m n : ℕ) → parts_from xs places o k i (m + n) ≡ parts_from xs places o k i m ++ parts_from xs places o k (i + m) n
  unfolding parts_from
  parts_add i zero n = let e : i ≡ i + 0 = omega arith in rw (zero-add n) (ap (λ (j : ℕ). parts_from xs places o k j n) e)
  parts_add i (suc m) n =
      let e : i + 1 + m ≡ i + suc m = omega arith in
      rw (suc-add m n)
      (ap (λ (ps : List (List ℕ)). part xs (get_or places i 0 + o) k ∷ ps)
      (parts_add (i + 1) m n ∙ ap (λ (j : ℕ). parts_from xs places o k (i + 1) m ++ parts_from xs places o k j n) e))

  -- the XOR of the first i, and then of the m after them, each l bytes long
  pub parts_more : (i m l : ℕ) (acc out : List ℕ) → acc ≡ xor_all (parts_from xs places o k 0 i) → l ≡ k → out ≡ acc ⊻ xor_all (parts_from xs places o l i m)
      → out ≡ xor_all (parts_from xs places o k 0 (i + m))
  parts_more i m l acc out ae le oe =
      let z : i ≡ 0 + i = omega arith in
      oe
      ∙ ap₂ (λ (h j : ℕ). acc ⊻ xor_all (parts_from xs places o h j m)) le z
      ∙ ap (λ (a : List ℕ). a ⊻ xor_all (parts_from xs places o k (0 + i) m)) ae
      ∙ sym (xor_all_append (parts_from xs places o k 0 i) (parts_from xs places o k (0 + i) m))
      ∙ ap xor_all (sym (parts_add 0 i m))

  -- all of them
  pub parts_done : (n i l : ℕ) (acc : List ℕ) → acc ≡ xor_all (parts_from xs places o l 0 i) → i ≤ n → n ≤ i → l ≡ k → acc ≡ xor_all (parts_from xs places o k 0 n)
  parts_done n i l acc e h m le = let q : i ≡ n = omega arith in e ∙ ap₂ (λ (j h : ℕ). xor_all (parts_from xs places o h 0 j)) q le

  -- the first n, and those after them as a list of their own
  pub parts_drop : (n i m : ℕ) → parts_from xs (drop n places) o k i m ≡ parts_from xs places o k (n + i) m
  unfolding parts_from
  parts_drop n i zero = refl
  parts_drop n i (suc m) =
      let e : n + (i + 1) ≡ n + i + 1 = omega arith in
      ap₂ (λ (x : ℕ) (ps : List (List ℕ)). part xs (x + o) k ∷ ps) (get_or-drop n places i 0) (parts_drop n (i + 1) m ∙ ap (λ (j : ℕ). parts_from xs places o k j m) e)

  pub parts_cut : (n : ℕ) → n ≤ length places → xor_all (parts_from xs places o k 0 n) ⊻ xor_all (parts_at xs (drop n places) o k) ≡ xor_all (parts_at xs places o k)
  parts_cut n h =
      let left : length (drop n places) ≡ length places - n = length-drop n places in
      let z : n + 0 ≡ 0 + n = omega arith in
      let e : n + (length places - n) ≡ length places = omega arith in
      ap (λ (ps : List (List ℕ)). xor_all (parts_from xs places o k 0 n) ⊻ xor_all ps) (parts_drop n 0 (length (drop n places)) ∙ ap₂ (parts_from xs places o k) z left)
      ∙ sym (xor_all_append (parts_from xs places o k 0 n) (parts_from xs places o k (0 + n) (length places - n)))
      ∙ ap xor_all (sym (parts_add 0 n (length places - n)) ∙ ap (parts_from xs places o k 0) e)

  -- a turn: acc with the parts left has all, and takes in the first n of them
  pub parts_turn : (n l : ℕ) (acc out all : List ℕ) → n ≤ length places → acc ⊻ xor_all (parts_at xs places o k) ≡ all
      → l ≡ k → out ≡ acc ⊻ xor_all (parts_from xs places o l 0 n) → out ⊻ xor_all (parts_at xs (drop n places) o k) ≡ all
  parts_turn n l acc out all h a le e =
      ap (λ (r : List ℕ). r ⊻ xor_all (parts_at xs (drop n places) o k)) (e ∙ ap (λ (m : ℕ). acc ⊻ xor_all (parts_from xs places o m 0 n)) le)
      ∙ xor_regroups acc (xor_all (parts_from xs places o k 0 n)) (xor_all (parts_at xs (drop n places) o k))
      ∙ ap (◌⊻◌ acc) (parts_cut n h)
      ∙ a

  -- ---- what a pass takes, from part i on

  pub one_part : (i : ℕ) → part xs (get_or places i 0 + o) k ≡ xor_all (parts_from xs places o k i 1)
  unfolding parts_from
  one_part i = sym (xor_all_one (part xs (get_or places i 0 + o) k))

  pub four_parts : (i : ℕ) (acc out : List ℕ)
      → out ≡ acc ⊻ xor_all (part xs (get_or places i 0 + o) k ∷ part xs (get_or places (i + 1) 0 + o) k ∷ part xs (get_or places (i + 2) 0 + o) k ∷ part xs (get_or places (i + 3) 0 + o) k ∷ [])
      → out ≡ acc ⊻ xor_all (parts_from xs places o k i 4)
  unfolding parts_from
  four_parts i acc out e =
      let two : i + 2 ≡ i + 1 + 1 = omega arith in
      let three : i + 3 ≡ i + 1 + 1 + 1 = omega arith in
      e ∙ rw (two, three)

  pub eight_parts_lem : (out : List ℕ)
      → out ≡ xor_all (eight_parts xs (get_or places 0 0 + o) (get_or places 1 0 + o) (get_or places 2 0 + o) (get_or places 3 0 + o) (get_or places 4 0 + o) (get_or places 5 0 + o)
      (get_or places 6 0 + o) (get_or places 7 0 + o) k)
      → out ≡ xor_all (parts_from xs places o k 0 8)
  unfolding parts_from
  eight_parts_lem out e = e

-- ---- what the code takes at once is in the list

module _ (xs places : List ℕ) (n : ℕ) (h : Within xs places n) where
  pub first_inside : 8 ≤ length places
      → (get_or places 0 0 + n ≤ length xs) × (get_or places 1 0 + n ≤ length xs) × (get_or places 2 0 + n ≤ length xs) × (get_or places 3 0 + n ≤ length xs)
      × (get_or places 4 0 + n ≤ length xs) × (get_or places 5 0 + n ≤ length xs) × (get_or places 6 0 + n ≤ length xs) × (get_or places 7 0 + n ≤ length xs)
  first_inside l =
      (h 0 (omega arith), h 1 (omega arith), h 2 (omega arith), h 3 (omega arith), h 4 (omega arith), h 5 (omega arith), h 6 (omega arith), h 7 (omega arith))

  pub next_inside : (i : ℕ) → 4 ≤ length places - i
      → (get_or places i 0 + n ≤ length xs) × (get_or places (i + 1) 0 + n ≤ length xs) × (get_or places (i + 2) 0 + n ≤ length xs) × (get_or places (i + 3) 0 + n ≤ length xs)
  next_inside i l = (h i (omega arith), h (i + 1) (omega arith), h (i + 2) (omega arith), h (i + 3) (omega arith))

  pub within_drop : (m : ℕ) → Within xs (drop m places) n
  within_drop m i l = rw get_or-drop (h (m + i) (omega (arith, length-drop m places)))

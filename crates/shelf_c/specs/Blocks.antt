-- 02, A3, "The routine that XORs one block into another", for blocks of any lengths: as many bytes as all have are XORed, and the rest of the
-- block that takes them stays.
use Rattle.std.specs.Prelude.{◌≡◌, refl, ◌⊎◌, List, [], ◌∷◌, ◌++◌, ℕ, ◌≤◌, ◌<◌, min, length, get_or, take, drop}
use Rattle.std.proofs.Common.{sym, ap₂, ◌∙◌, inl, inr, zero-add, le_of_lt, le_refl, arith, take-append-drop, drop_of_length-le, take-take}
use Rattle.std.proofs.Math.Path.{ap}
use Rattle.std.proofs.Math.Nat.{min-eq_left, min-eq_right}
use Rattle.std.specs.Int.Bits.{bit_xor}
use Rattle.std.proofs.Math.ListN.{length-take}
use Rattle.folds.specs.Cases.{order}
use Rattle.folds.specs.Each.{EachIs}
use Rattle.octets.specs.Part.{part, length_part_le, get_or_part, part_whole, part_past}
use Rattle.octets.specs.Xor.{◌⊻◌, xor_nil, length_xor_le, get_or_xor, xor_regroups, take_xor, drop_xor, part_xor}
use Rattle.octets.specs.Operands.{xor_all, Long, length_xor_all_le, parts_of, part_xor_all}

-- how many bytes d and each of xs have
unfoldable pub common : List ℕ → List (List ℕ) → ℕ
common d [] = length d
common d (x ∷ xs) = min (length x) (common d xs)

-- the leaf's equation over what d and s have, and over what d and all of xs have
abbrev pub xored : List ℕ → List ℕ → List ℕ
xored d s = d ⊻ part s 0 (length d)

abbrev pub xored_all : List ℕ → List (List ℕ) → List ℕ
xored_all d xs = d ⊻ part (xor_all xs) 0 (common d xs)

-- ---- as the code goes

pub common_le : (d : List ℕ) (xs : List (List ℕ)) → common d xs ≤ length d
unfolding common
common_le d [] = le_refl (length d)
common_le d (x ∷ xs) = omega (arith, common_le d xs)

pub common_each : (d : List ℕ) (xs : List (List ℕ)) (n : ℕ) → n ≤ common d xs → EachIs (λ (x : List ℕ). n ≤ length x) xs
unfolding common
common_each d [] n h = tt
common_each d (x ∷ xs) n h = (omega arith, common_each d xs n (omega arith))

-- d, as the leaf leaves it that was lent its first n bytes and made e of them
pub front_back : (d s e : List ℕ) (n : ℕ) → e ≡ take n d ⊻ take n s → e ++ drop n d ≡ d ⊻ part s 0 n
unfolding part
front_back d s e n h =
    let front : e ≡ take n (d ⊻ take n s) = h ∙ sym (take_xor n d (take n s) ∙ ap (◌⊻◌ (take n d)) (take-take n n s (le_refl n))) in
    let rest : drop n d ≡ drop n (d ⊻ take n s) = sym (drop_xor n d (take n s) ∙ ap (◌⊻◌ (drop n d)) (drop_of_length-le (take n s) (length_part_le s 0 n)) ∙ xor_nil (drop n d)) in
    ap₂ ◌++◌ front rest ∙ take-append-drop n (d ⊻ take n s)

pub front_all : (d : List ℕ) (xs : List (List ℕ)) (e : List ℕ) (n : ℕ) → e ≡ take n d ⊻ xor_all (parts_of 0 n xs) → e ++ drop n d ≡ d ⊻ part (xor_all xs) 0 n
unfolding part
front_all d xs e n h = front_back d (xor_all xs) e n (h ∙ ap (◌⊻◌ (take n d)) (sym (part_xor_all xs 0 n)))

-- what both have of s is what s has of the first bytes that d has
pub part_both : (d s : List ℕ) → part s 0 (min (length s) (length d)) ≡ part s 0 (length d)
part_both d s = pick (order (length s) (length d))
  where
    pick : (length s < length d) ⊎ (length d ≤ length s) → part s 0 (min (length s) (length d)) ≡ part s 0 (length d)
    pick (inl h) = ap (part s 0) (min-eq_left (le_of_lt h)) ∙ part_whole s (length s) (omega arith) ∙ sym (part_whole s (length d) (le_of_lt h))
    pick (inr h) = ap (part s 0) (min-eq_right h)

-- ---- what the equations say: `xored` with t one block and n the length of d, `xored_all` with t the XOR of all and n what they have

module _ (d t : List ℕ) (n : ℕ) where
  -- each of the first n bytes is XORed with that of t at its place; past the end of t that is 0
  pub bytes_xored : (i : ℕ) → i < n → get_or (d ⊻ part t 0 n) i 0 ≡ bit_xor (get_or d i 0) (get_or t i 0)
  bytes_xored i l =
      get_or_xor d (part t 0 n) i ∙ ap (bit_xor (get_or d i 0)) (get_or_part t 0 n i l ∙ ap (λ (k : ℕ). get_or t k 0) (zero-add i))

  -- past n, and past the end of t, the bytes stay
  pub rest_stays : (at k : ℕ) → min n (length t) ≤ at → part (d ⊻ part t 0 n) at k ≡ part d at k
  unfolding part
  rest_stays at k h =
      part_xor d (part t 0 n) at k
      ∙ ap (◌⊻◌ (part d at k)) (part_past (part t 0 n) at k (simp length-take h))
      ∙ xor_nil (part d at k)

  -- where t has no more than n bytes, as with blocks of one length, it is the leaf's own equation
  pub whole_xored : length t ≤ n → d ⊻ part t 0 n ≡ d ⊻ t
  whole_xored h = ap (◌⊻◌ d) (part_whole t n h)

-- ---- with blocks of one length all at once are what calls of `shelf_xor` leave, one after the other

unfoldable pub one_by_one : List ℕ → List (List ℕ) → List ℕ
one_by_one d [] = d
one_by_one d (x ∷ xs) = one_by_one (xored d x) xs

common_long : (d : List ℕ) (xs : List (List ℕ)) → Long (length d) xs → common d xs ≡ length d
unfolding common
common_long d [] h = refl
common_long d (x ∷ xs) h = omega (arith, h.0, common_long d xs h.1)

in_turn_lem : (n : ℕ) (d : List ℕ) (xs : List (List ℕ)) → length d ≡ n → Long n xs → d ⊻ xor_all xs ≡ one_by_one d xs
unfolding one_by_one xor_all
in_turn_lem n d [] e h = xor_nil d
in_turn_lem n d (x ∷ xs) e h =
    sym (xor_regroups d x (xor_all xs))
    ∙ in_turn_lem n (d ⊻ x) xs (length_xor_le d x (omega (arith, h.0)) ∙ e) h.1
    ∙ ap (λ (r : List ℕ). one_by_one (d ⊻ r) xs) (sym (part_whole x (length d) (omega (arith, h.0))))

pub as_one_by_one : (d : List ℕ) (xs : List (List ℕ)) → Long (length d) xs → xored_all d xs ≡ one_by_one d xs
as_one_by_one d xs h =
    ap (λ (n : ℕ). d ⊻ part (xor_all xs) 0 n) (common_long d xs h)
    ∙ whole_xored d (xor_all xs) (length d) (length_xor_all_le (length d) xs h)
    ∙ in_turn_lem (length d) d xs refl h

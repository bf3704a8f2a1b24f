-- The XOR of a list of operands.
use Rattle.std.specs.Prelude.{◌≡◌, refl, ℕ, suc, ◌≤◌, ◌<◌, length, get_or, set, take}
use Rattle.std.proofs.Common.{sym, ap, ap₂, ◌∙◌, not-suc-le-zero, arith}
use mathlib.Core.List.{List, [], ◌∷◌, ◌++◌, map, Permᴰ}
use Rattle.std.specs.Int.Bits.{bit_xor}
use Rattle.folds.specs.Each.{EachIs}
use Rattle.octets.specs.Part.{part, part_nil}
use Rattle.octets.specs.Xor.{◌⊻◌, nil_xor, xor_nil, get_or_xor, length_xor, length_xor_le, xor_commutes, xor_regroups, part_xor, xor_more}

-- all operands together; of none, the empty list, which XORs as zeros
unfoldable pub xor_all : List (List ℕ) → List ℕ
xor_all [] = []
xor_all (x ∷ xs) = x ⊻ xor_all xs

pub xor_all_one : (x : List ℕ) → xor_all (x ∷ []) ≡ x
unfolding xor_all
xor_all_one x = xor_nil x

pub xor_all_append : (xs ys : List (List ℕ)) → xor_all (xs ++ ys) ≡ xor_all xs ⊻ xor_all ys
unfolding xor_all
xor_all_append [] ys = sym (nil_xor (xor_all ys))
xor_all_append (x ∷ xs) ys = ap (◌⊻◌ x) (xor_all_append xs ys) ∙ sym (xor_regroups x (xor_all xs) (xor_all ys))

-- byte i of the XOR of x and xs
abbrev pub byte_of : ℕ → List ℕ → List (List ℕ) → ℕ
byte_of i x [] = get_or x i 0
byte_of i x (y ∷ ys) = bit_xor (get_or x i 0) (byte_of i y ys)

pub get_or_xor_all : (x : List ℕ) (xs : List (List ℕ)) (i : ℕ) → get_or (xor_all (x ∷ xs)) i 0 ≡ byte_of i x xs
unfolding xor_all
get_or_xor_all x [] i = ap (λ (r : List ℕ). get_or r i 0) (xor_nil x)
get_or_xor_all x (y ∷ ys) i = get_or_xor x (xor_all (y ∷ ys)) i ∙ ap (bit_xor (get_or x i 0)) (get_or_xor_all y ys i)

-- a turn of the loop that XORs four at once
pub xor_four_more : (x a b c d : List ℕ) (j : ℕ) → j < length x → j < length (xor_all (a ∷ b ∷ c ∷ d ∷ []))
    → set (x ⊻ take j (xor_all (a ∷ b ∷ c ∷ d ∷ []))) j (bit_xor (get_or (x ⊻ take j (xor_all (a ∷ b ∷ c ∷ d ∷ []))) j 0) (bit_xor (get_or a j 0) (bit_xor (get_or b j 0) (bit_xor (get_or c j 0) (get_or d j 0)))))
    ≡ x ⊻ take (suc j) (xor_all (a ∷ b ∷ c ∷ d ∷ []))
xor_four_more x a b c d j hx hs =
    let s = xor_all (a ∷ b ∷ c ∷ d ∷ []) in
    ap (λ (v : ℕ). set (x ⊻ take j s) j (bit_xor (get_or (x ⊻ take j s) j 0) v)) (sym (get_or_xor_all a (b ∷ c ∷ d ∷ []) j)) ∙ xor_more x s j hx hs

-- the order of the operands does not matter
pub xor_all_perm : {xs ys : List (List ℕ)} → Permᴰ xs ys → xor_all xs ≡ xor_all ys
unfolding xor_all
xor_all_perm Permᴰ.nil = refl
xor_all_perm (Permᴰ.cons e p) = ap₂ (λ (x r : List ℕ). x ⊻ r) e (xor_all_perm p)
xor_all_perm (Permᴰ.swap {a} {b} {l = l} e f) =
    sym (xor_regroups a b (xor_all l))
    ∙ ap (λ (r : List ℕ). r ⊻ xor_all l) (xor_commutes a b)
    ∙ xor_regroups b a (xor_all l)
    ∙ ap₂ (λ (x y : List ℕ). x ⊻ (y ⊻ xor_all l)) f e
xor_all_perm (Permᴰ.trans p q) = xor_all_perm p ∙ xor_all_perm q

-- each operand is n bytes long
abbrev pub Long : ℕ → List (List ℕ) → Type 0
Long n xs = EachIs (λ (x : List ℕ). length x ≡ n) xs

pub length_xor_all_le : (n : ℕ) (xs : List (List ℕ)) → Long n xs → length (xor_all xs) ≤ n
unfolding xor_all
length_xor_all_le n [] h = omega arith
length_xor_all_le n (x ∷ xs) h = omega (arith, length_xor x (xor_all xs), length_xor_all_le n xs h.1, h.0)

pub length_xor_all : (n : ℕ) (x : List ℕ) (xs : List (List ℕ)) → Long n (x ∷ xs) → length (xor_all (x ∷ xs)) ≡ n
unfolding xor_all
length_xor_all n x xs h = let l : length (xor_all xs) ≤ n = length_xor_all_le n xs h.1 in length_xor_le x (xor_all xs) (omega (arith, h.0)) ∙ h.0

pub length_xor_all_some : (n : ℕ) (xs : List (List ℕ)) → 1 ≤ length xs → Long n xs → length (xor_all xs) ≡ n
length_xor_all_some n [] l h = absurd (not-suc-le-zero l)
length_xor_all_some n (x ∷ xs) l h = length_xor_all n x xs h

-- a part of the XOR is the XOR of the operands' parts
unfoldable pub parts_of : ℕ → ℕ → List (List ℕ) → List (List ℕ)
parts_of at n xs = map (λ (x : List ℕ). part x at n) xs

pub part_xor_all : (xs : List (List ℕ)) (at n : ℕ) → part (xor_all xs) at n ≡ xor_all (parts_of at n xs)
unfolding xor_all parts_of
part_xor_all [] at n = part_nil at n
part_xor_all (x ∷ xs) at n = part_xor x (xor_all xs) at n ∙ ap (◌⊻◌ (part x at n)) (part_xor_all xs at n)

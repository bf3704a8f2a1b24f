-- A part of a list of bytes, and its laws.
use Rattle.std.specs.Prelude.{◌≡◌, ◌⊎◌, ℕ, zero, suc, ◌+◌, ◌-◌, ◌≤◌, ◌<◌, List, [], ◌∷◌, ◌++◌, length, get_or, take, drop}
use Rattle.std.proofs.Common.{sym, ap, ◌∙◌, zero-add, le_refl, add-one, arith, length-take, length-drop, drop_of_length-le, get_or-take, get_or-drop, take-take, drop-drop, take-add, drop-cons, take_all, take_at, drop_at}
use Rattle.std.proofs.Math.Seq.{take-nil, take-length}

-- the n bytes from index at on, or as many as there are
unfoldable pub part : List ℕ → ℕ → ℕ → List ℕ
part xs at n = take n (drop at xs)

-- two ranges of n bytes do not meet
abbrev pub Apart : ℕ → ℕ → ℕ → Type 0
Apart a b n = (a + n ≤ b) ⊎ (b + n ≤ a)

pub length_part : (xs : List ℕ) (at n : ℕ) → at + n ≤ length xs → length (part xs at n) ≡ n
unfolding part
length_part xs at n h = simp (length-take, length-drop) (omega arith)

pub length_part_le : (xs : List ℕ) (at n : ℕ) → length (part xs at n) ≤ n
unfolding part
length_part_le xs at n = simp (length-take, length-drop) (omega arith)

pub get_or_part : (xs : List ℕ) (at n j : ℕ) → j < n → get_or (part xs at n) j 0 ≡ get_or xs (at + j) 0
unfolding part
get_or_part xs at n j h = get_or-take n (drop at xs) j 0 h ∙ get_or-drop at xs j 0

-- a part of a part
drop_take : (a n : ℕ) (xs : List ℕ) → drop a (take n xs) ≡ take (n - a) (drop a xs)
drop_take zero n xs = let e : n - 0 ≡ n = omega arith in rw e
drop_take (suc a) zero xs = let e : 0 - suc a ≡ 0 = omega arith in rw e
drop_take (suc a) (suc n) [] = sym (take-nil (suc n - suc a))
drop_take (suc a) (suc n) (x ∷ xs) = let e : suc n - suc a ≡ n - a = omega arith in rw e (drop_take a n xs)

pub part_part : (xs : List ℕ) (at n a m : ℕ) → a + m ≤ n → part (part xs at n) a m ≡ part xs (at + a) m
unfolding part
part_part xs at n a m h =
    ap (take m) (drop_take a n (drop at xs)) ∙ take-take m (n - a) (drop a (drop at xs)) (omega arith) ∙ ap (take m) (drop-drop a at xs)

pub part_add : (xs : List ℕ) (at n m : ℕ) → part xs at (n + m) ≡ part xs at n ++ part xs (at + n) m
unfolding part
part_add xs at n m = take-add n m (drop at xs) ∙ ap (λ (r : List ℕ). take n (drop at xs) ++ take m r) (drop-drop n at xs)

pub take_part : (xs : List ℕ) (at n k : ℕ) → k ≤ n → take k (part xs at n) ≡ part xs at k
unfolding part
take_part xs at n k h = take-take k n (drop at xs) h

pub part_cons : (xs : List ℕ) (at n : ℕ) → at < length xs → part xs at (suc n) ≡ get_or xs at 0 ∷ part xs (at + 1) n
unfolding part
part_cons xs at n h = ap (take (suc n)) (drop-cons xs at 0 h) ∙ rw add-one

pub part_snoc : (xs : List ℕ) (at n : ℕ) → at + n < length xs → part xs at (n + 1) ≡ part xs at n ++ (get_or xs (at + n) 0 ∷ [])
unfolding part
part_snoc xs at n h = part_add xs at n 1 ∙ ap (λ (r : List ℕ). part xs at n ++ r) (part_cons xs (at + n) 0 h)

-- the first n bytes of a list that has no more are all of it
pub part_whole : (xs : List ℕ) (n : ℕ) → length xs ≤ n → part xs 0 n ≡ xs
unfolding part
part_whole xs n h = take_all n xs h

pub part_all : (xs : List ℕ) → part xs 0 (length xs) ≡ xs
part_all xs = part_whole xs (length xs) (le_refl (length xs))

-- past the end there is nothing
pub part_past : (xs : List ℕ) (at n : ℕ) → length xs ≤ at → part xs at n ≡ []
unfolding part
part_past xs at n h = ap (take n) (drop_of_length-le xs h) ∙ take-nil n

pub part_nil : (at n : ℕ) → part [] at n ≡ []
part_nil at n = part_past [] at n (omega arith)

-- what a shared `&xs[at..at + n]` is to the borrow checker
pub mid_part : (xs : List ℕ) (at n : ℕ) → take (at + n - at) (drop at xs) ≡ part xs at n
unfolding part
mid_part xs at n = let e : at + n - at ≡ n = omega arith in rw e

pub mid_length : (xs : List ℕ) (at n : ℕ) → at + n ≤ length xs → n ≡ length (take (at + n - at) (drop at xs))
mid_length xs at n h = sym (ap length (mid_part xs at n) ∙ length_part xs at n h)

-- the front and the end of two joined lists
pub part_append_front : (xs ys : List ℕ) (n : ℕ) → length xs ≡ n → part (xs ++ ys) 0 n ≡ xs
unfolding part
part_append_front xs ys n e = take_at xs ys n e

pub part_append_back : (xs ys : List ℕ) (n m : ℕ) → length xs ≡ n → length ys ≡ m → part (xs ++ ys) n m ≡ ys
unfolding part
part_append_back xs ys n m e d = rw (drop_at xs ys n e, ← d) (take-length ys)

-- two lists with the same front have the same bytes there
pub front_byte : (s t : List ℕ) (n : ℕ) → part s 0 n ≡ part t 0 n → (i : ℕ) → i < n → get_or s i 0 ≡ get_or t i 0
front_byte s t n e i l =
    let own : (xs : List ℕ) → get_or (part xs 0 n) i 0 ≡ get_or xs i 0 = (λ xs. get_or_part xs 0 n i l ∙ ap (λ (k : ℕ). get_or xs k 0) (zero-add i)) in
    sym (own s) ∙ ap (λ (xs : List ℕ). get_or xs i 0) e ∙ own t

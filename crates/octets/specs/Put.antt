-- A list of bytes with a part written over. It is as long as before whatever is written, so that few laws ask for lengths.
use Rattle.std.specs.Prelude.{◌≡◌, refl, ℕ, zero, suc, ◌+◌, ◌-◌, ◌≤◌, ◌<◌, List, [], ◌∷◌, ◌++◌, length, get_or, take, drop, set}
use Rattle.std.proofs.Common.{sym, ap, ◌∙◌, le_of_suc-le-suc, not-suc-le-zero, suc-add, zero-add, arith, length-take, length-drop}
use Rattle.std.proofs.Math.Seq.{drop-nil, take-nil}
use borrow.Rule.Slice.PartMut.{put_mid}

-- xs with ys written over it from index at on, as far as xs goes
unfoldable pub put : List ℕ → ℕ → List ℕ → List ℕ
put [] at ys = []
put (x ∷ xs) (suc at) ys = x ∷ put xs at ys
put (x ∷ xs) zero [] = x ∷ xs
put (x ∷ xs) zero (y ∷ ys) = y ∷ put xs zero ys

pub length_put : (xs : List ℕ) (at : ℕ) (ys : List ℕ) → length (put xs at ys) ≡ length xs
unfolding put
length_put [] at ys = refl
length_put (x ∷ xs) (suc at) ys = ap suc (length_put xs at ys)
length_put (x ∷ xs) zero [] = refl
length_put (x ∷ xs) zero (y ∷ ys) = ap suc (length_put xs zero ys)

pub put_nil : (xs : List ℕ) (at : ℕ) → put xs at [] ≡ xs
unfolding put
put_nil [] at = refl
put_nil (x ∷ xs) (suc at) = ap (λ (r : List ℕ). x ∷ r) (put_nil xs at)
put_nil (x ∷ xs) zero = refl

-- as a cut and a join, where ys lies within xs
pub put_cut : (xs : List ℕ) (at : ℕ) (ys : List ℕ) → at + length ys ≤ length xs
    → put xs at ys ≡ take at xs ++ (ys ++ drop (length ys) (drop at xs))
unfolding put
put_cut [] at [] h = rw (drop-nil, take-nil)
put_cut [] at (y ∷ ys) h = absurd (let z : at + suc (length ys) ≤ 0 = h in omega arith)
put_cut (x ∷ xs) (suc at) ys h =
    ap (λ (r : List ℕ). x ∷ r) (put_cut xs at ys (let z : suc at + length ys ≤ suc (length xs) = h in omega arith))
put_cut (x ∷ xs) zero [] h = refl
put_cut (x ∷ xs) zero (y ∷ ys) h =
    ap (λ (r : List ℕ). y ∷ r) (put_cut xs zero ys (let z : 0 + suc (length ys) ≤ suc (length xs) = h in omega arith))

-- what is written over the whole is what is there
pub put_whole : (xs ys : List ℕ) → length ys ≡ length xs → put xs 0 ys ≡ ys
unfolding put
put_whole [] [] h = refl
put_whole [] (y ∷ ys) h = absurd (let z : ◌≡◌ {A = ℕ} (suc (length ys)) 0 = h in omega arith)
put_whole (x ∷ xs) [] h = absurd (let z : ◌≡◌ {A = ℕ} 0 (suc (length xs)) = h in omega arith)
put_whole (x ∷ xs) (y ∷ ys) h = ap (λ (r : List ℕ). y ∷ r) (put_whole xs ys (let z : suc (length ys) ≡ suc (length xs) = h in omega arith))

-- what a call that is lent `&mut xs[at..at + n]` leaves to the borrow checker, where the callee left ys; e is the call's `.kept`
pub put_back : (xs : List ℕ) (at n : ℕ) (ys : List ℕ) → at + n ≤ length xs → length ys ≡ length (take (at + n - at) (drop at xs))
    → put_mid at (at + n - at) xs ys ≡ put xs at ys
put_back xs at n ys h e =
    let l : length (take (at + n - at) (drop at xs)) ≡ n = simp (length-take, length-drop) (omega arith) in
    let k : at + n - at ≡ length ys = omega arith in
    ap (λ (m : ℕ). put_mid at m xs ys) k ∙ sym (put_cut xs at ys (omega arith))

-- ---- byte by byte

pub get_or_put_before : (xs : List ℕ) (at : ℕ) (ys : List ℕ) (i : ℕ) → i < at → get_or (put xs at ys) i 0 ≡ get_or xs i 0
unfolding put
get_or_put_before [] at ys i h = refl
get_or_put_before (x ∷ xs) zero ys i h = absurd (not-suc-le-zero h)
get_or_put_before (x ∷ xs) (suc at) ys zero h = refl
get_or_put_before (x ∷ xs) (suc at) ys (suc i) h = get_or_put_before xs at ys i (le_of_suc-le-suc h)

pub get_or_put_after : (xs : List ℕ) (at : ℕ) (ys : List ℕ) (i : ℕ) → at + length ys ≤ i → get_or (put xs at ys) i 0 ≡ get_or xs i 0
unfolding put
get_or_put_after [] at ys i h = refl
get_or_put_after (x ∷ xs) zero [] i h = refl
get_or_put_after (x ∷ xs) zero (y ∷ ys) zero h = absurd (let z : 0 + suc (length ys) ≤ 0 = h in omega arith)
get_or_put_after (x ∷ xs) zero (y ∷ ys) (suc i) h = get_or_put_after xs zero ys i (let z : 0 + suc (length ys) ≤ suc i = h in omega arith)
get_or_put_after (x ∷ xs) (suc at) ys zero h = absurd (let z : suc at + length ys ≤ 0 = h in omega arith)
get_or_put_after (x ∷ xs) (suc at) ys (suc i) h = get_or_put_after xs at ys i (let z : suc at + length ys ≤ suc i = h in omega arith)

pub get_or_put_in : (xs : List ℕ) (at : ℕ) (ys : List ℕ) (j : ℕ) → at + j < length xs → j < length ys → get_or (put xs at ys) (at + j) 0 ≡ get_or ys j 0
unfolding put
get_or_put_in [] at ys j hx hy = absurd (not-suc-le-zero hx)
get_or_put_in (x ∷ xs) zero [] j hx hy = absurd (not-suc-le-zero hy)
get_or_put_in (x ∷ xs) zero (y ∷ ys) zero hx hy = refl
get_or_put_in (x ∷ xs) zero (y ∷ ys) (suc j) hx hy =
    rw zero-add (rw zero-add at (get_or_put_in xs zero ys j (let z : 0 + suc j < suc (length xs) = hx in omega arith) (le_of_suc-le-suc hy)))
get_or_put_in (x ∷ xs) (suc at) ys j hx hy =
    rw suc-add (get_or_put_in xs at ys j (let z : suc at + j < suc (length xs) = hx in omega arith) hy)

-- ---- the front and the rest

pub take_put : (n : ℕ) (xs : List ℕ) (at : ℕ) (ys : List ℕ) → n ≤ at → take n (put xs at ys) ≡ take n xs
unfolding put
take_put zero xs at ys h = refl
take_put (suc n) [] at ys h = refl
take_put (suc n) (x ∷ xs) zero ys h = absurd (not-suc-le-zero h)
take_put (suc n) (x ∷ xs) (suc at) ys h = ap (λ (r : List ℕ). x ∷ r) (take_put n xs at ys (le_of_suc-le-suc h))

pub drop_put : (n : ℕ) (xs : List ℕ) (at : ℕ) (ys : List ℕ) → at + length ys ≤ n → drop n (put xs at ys) ≡ drop n xs
unfolding put
drop_put n [] at ys h = refl
drop_put zero (x ∷ xs) zero [] h = refl
drop_put (suc n) (x ∷ xs) zero [] h = refl
drop_put zero (x ∷ xs) zero (y ∷ ys) h = absurd (let z : 0 + suc (length ys) ≤ 0 = h in omega arith)
drop_put (suc n) (x ∷ xs) zero (y ∷ ys) h = drop_put n xs zero ys (let z : 0 + suc (length ys) ≤ suc n = h in omega arith)
drop_put zero (x ∷ xs) (suc at) ys h = absurd (let z : suc at + length ys ≤ 0 = h in omega arith)
drop_put (suc n) (x ∷ xs) (suc at) ys h = drop_put n xs at ys (let z : suc at + length ys ≤ suc n = h in omega arith)

-- a put inside what is dropped, or inside what is taken, is a put there
pub drop_put_in : (n : ℕ) (xs : List ℕ) (b : ℕ) (ys : List ℕ) → drop n (put xs (n + b) ys) ≡ put (drop n xs) b ys
unfolding put
drop_put_in zero xs b ys = ap (λ (k : ℕ). put xs k ys) (zero-add b)
drop_put_in (suc n) [] b ys = refl
drop_put_in (suc n) (x ∷ xs) b ys = rw suc-add (drop_put_in n xs b ys)

pub take_put_in : (n : ℕ) (xs : List ℕ) (at : ℕ) (ys : List ℕ) → take n (put xs at ys) ≡ put (take n xs) at ys
unfolding put
take_put_in zero xs at ys = refl
take_put_in (suc n) [] at ys = refl
take_put_in (suc n) (x ∷ xs) (suc at) ys = ap (λ (r : List ℕ). x ∷ r) (take_put_in n xs at ys)
take_put_in (suc n) (x ∷ xs) zero [] = refl
take_put_in (suc n) (x ∷ xs) zero (y ∷ ys) = ap (λ (r : List ℕ). y ∷ r) (take_put_in n xs zero ys)

-- ---- stores, one byte at a time

pub set_put : (xs : List ℕ) (i v : ℕ) → set xs i v ≡ put xs i (v ∷ [])
unfolding put
set_put [] i v = refl
set_put (x ∷ xs) zero v = ap (λ (r : List ℕ). v ∷ r) (sym (put_nil xs zero))
set_put (x ∷ xs) (suc i) v = ap (λ (r : List ℕ). x ∷ r) (set_put xs i v)

-- Big-endian numbers in a list of bytes.
use Rattle.std.specs.Prelude.{◌≡◌, refl, ◌⊎◌, ℕ, zero, suc, ◌+◌, ◌-◌, ◌*◌, ◌/◌, ◌%◌, ◌^◌, ◌≤◌, ◌<◌, List, [], ◌∷◌, ◌++◌, length, get_or, take, drop}
use Rattle.std.proofs.Common.{sym, suc-add, take_all, ap, ap₂, ◌∙◌, pow-suc, mod-eq_of_lt, zero-lt-suc, mod-lt, mul_assoc, zero-add, div-one, arith, length-append}
use Rattle.std.proofs.Math.Nat.{suc_inj, pow-succ', mod-one, one-le-pow}
use Rattle.std.proofs.Math.Arith.{digits_lt, digits_div, digits_mod, mod-mul}
use Rattle.octets.specs.Octets.{Octets, octets_tail, octets_part}
use Rattle.octets.specs.Part.{part, length_part, part_part, part_cons, part_add}
use Rattle.octets.specs.Put.{put}
use Rattle.octets.specs.PutPut.{part_put, part_put_apart}

-- the number that the bytes xs write, the highest first
unfoldable pub num : List ℕ → ℕ
num [] = 0
num (x ∷ xs) = x * 256 ^ length xs + num xs

-- the n bytes that write v, the highest first; what does not fit is lost
unfoldable pub to_be : ℕ → ℕ → List ℕ
to_be zero v = []
to_be (suc n) v = v / 256 ^ n % 256 ∷ to_be n v

-- the n-byte number at index at of xs
abbrev pub be : ℕ → List ℕ → ℕ → ℕ
be n xs at = num (part xs at n)

pub num_lt : (xs : List ℕ) → Octets xs → num xs < 256 ^ length xs
unfolding num
num_lt [] h = zero-lt-suc 0
num_lt (x ∷ xs) h = rw pow-succ' (digits_lt (h 0) (num_lt xs (octets_tail x xs h)))

pub length_to_be : (n v : ℕ) → length (to_be n v) ≡ n
unfolding to_be
length_to_be zero v = refl
length_to_be (suc n) v = ap suc (length_to_be n v)

pub octets_to_be : (n v : ℕ) → Octets (to_be n v)
unfolding to_be
octets_to_be zero v i = zero-lt-suc 255
octets_to_be (suc n) v zero = mod-lt (v / 256 ^ n) (zero-lt-suc 255)
octets_to_be (suc n) v (suc i) = octets_to_be n v i

-- written and read
pub num_to_be : (n v : ℕ) → num (to_be n v) ≡ v % 256 ^ n
unfolding num to_be
num_to_be zero v = sym (mod-one v)
num_to_be (suc n) v =
    ap₂ (λ (a b : ℕ). v / 256 ^ n % 256 * 256 ^ a + b) (length_to_be n v) (num_to_be n v)
    ∙ sym (mod-mul v {m = 256} {c = 256 ^ n} (zero-lt-suc 255) (one-le-pow n 256 (zero-lt-suc 255)))
    ∙ ap (λ (k : ℕ). v % k) (sym (pow-succ' 256 n))

pub num_to_be_lt : (n v : ℕ) → v < 256 ^ n → num (to_be n v) ≡ v
num_to_be_lt n v h = num_to_be n v ∙ mod-eq_of_lt h

-- read and written
pub num_inj : (xs ys : List ℕ) → length xs ≡ length ys → Octets xs → Octets ys → num xs ≡ num ys → xs ≡ ys
unfolding num
num_inj [] [] l hx hy e = refl
num_inj [] (y ∷ ys) l hx hy e = absurd (let z : ◌≡◌ {A = ℕ} 0 (suc (length ys)) = l in omega arith)
num_inj (x ∷ xs) [] l hx hy e = absurd (let z : ◌≡◌ {A = ℕ} (suc (length xs)) 0 = l in omega arith)
num_inj (x ∷ xs) (y ∷ ys) l hx hy e =
    let m : length xs ≡ length ys = suc_inj l in
    let lx : num xs < 256 ^ length xs = num_lt xs (octets_tail x xs hx) in
    let ly : num ys < 256 ^ length ys = num_lt ys (octets_tail y ys hy) in
    let e' : x * 256 ^ length ys + num xs ≡ y * 256 ^ length ys + num ys = rw m at e in
    let lx' : num xs < 256 ^ length ys = rw m at lx in
    ap₂ (λ (a : ℕ) (r : List ℕ). a ∷ r)
    (sym (digits_div x lx') ∙ ap (λ (z : ℕ). z / 256 ^ length ys) e' ∙ digits_div y ly)
    (num_inj xs ys m (octets_tail x xs hx) (octets_tail y ys hy)
    (sym (digits_mod x lx') ∙ ap (λ (z : ℕ). z % 256 ^ length ys) e' ∙ digits_mod y ly))

pub to_be_num : (xs : List ℕ) → Octets xs → to_be (length xs) (num xs) ≡ xs
to_be_num xs h =
    num_inj (to_be (length xs) (num xs)) xs (length_to_be (length xs) (num xs)) (octets_to_be (length xs) (num xs)) h
    (num_to_be_lt (length xs) (num xs) (num_lt xs h))

-- one byte more at the end: how a loop that reads goes on
pub num_snoc : (xs : List ℕ) (b : ℕ) → num (xs ++ (b ∷ [])) ≡ num xs * 256 + b
unfolding num
num_snoc [] b = omega arith
num_snoc (x ∷ xs) b =
    let l : length (xs ++ (b ∷ [])) ≡ suc (length xs) = length-append xs (b ∷ []) ∙ omega arith in
    let p : 256 ^ suc (length xs) ≡ 256 ^ length xs * 256 = pow-suc 256 (length xs) in
    let a : x * (256 ^ length xs * 256) ≡ x * 256 ^ length xs * 256 = sym (mul_assoc x (256 ^ length xs) 256) in
    rw (l, p, a, num_snoc xs b) (omega arith)

-- ---- at an index of a list

pub be_lt : (n : ℕ) (xs : List ℕ) (at : ℕ) → at + n ≤ length xs → Octets xs → be n xs at < 256 ^ n
be_lt n xs at h hb = rw length_part at (num_lt (part xs at n) (octets_part xs at n hb))

-- what was written is read; a write elsewhere leaves it
pub be_put : (n : ℕ) (xs : List ℕ) (at v : ℕ) → at + n ≤ length xs → v < 256 ^ n → be n (put xs at (to_be n v)) at ≡ v
be_put n xs at v h hv =
    let l : length (to_be n v) ≡ n = length_to_be n v in
    ap (λ (k : ℕ). num (part (put xs at (to_be n v)) at k)) (sym l)
    ∙ ap num (part_put xs at (to_be n v) (omega arith))
    ∙ num_to_be_lt n v hv

pub put_be : (n : ℕ) (xs : List ℕ) (at : ℕ) → at + n ≤ length xs → Octets xs → to_be n (be n xs at) ≡ part xs at n
put_be n xs at h hb = rw length_part at (to_be_num (part xs at n) (octets_part xs at n hb))

-- where xs are the first n bytes, they and the number of k bytes that follows are the first n + k
pub be_on : (c : List ℕ) → Octets c → (k n : ℕ) {xs : List ℕ} → n + k ≤ length c → xs ≡ part c 0 n → xs ++ to_be k (be k c n) ≡ part c 0 (n + k)
be_on c b k n h e = ap₂ (λ (x y : List ℕ). x ++ y) e (put_be k c n h b) ∙ sym (rw zero-add at (part_add c 0 n k))

-- a number inside a part, and one apart from what was written
pub be_part : (n : ℕ) (xs : List ℕ) (at m a : ℕ) → a + n ≤ m → be n (part xs at m) a ≡ be n xs (at + a)
be_part n xs at m a h = ap num (part_part xs at m a n h)

pub be_put_apart : (n : ℕ) (xs : List ℕ) (at : ℕ) (ys : List ℕ) (a : ℕ) → (a + n ≤ at) ⊎ (at + length ys ≤ a) → be n (put xs at ys) a ≡ be n xs a
be_put_apart n xs at ys a w = ap num (part_put_apart xs at ys a n w)

-- one byte is the number that it writes
pub be_one : (xs : List ℕ) (at : ℕ) → at < length xs → be 1 xs at ≡ get_or xs at 0
unfolding num part
be_one xs at h = ap num (part_cons xs at 0 h) ∙ omega arith

-- two lists with the same front have the same numbers there
pub front_be : (s t : List ℕ) (n : ℕ) → part s 0 n ≡ part t 0 n → (k a : ℕ) → a + k ≤ n → be k s a ≡ be k t a
front_be s t n e k a l =
    let own : (xs : List ℕ) → be k (part xs 0 n) a ≡ be k xs a = (λ xs. be_part k xs 0 n a l ∙ ap (be k xs) (zero-add a)) in
    sym (own s) ∙ ap (λ (xs : List ℕ). be k xs a) e ∙ own t

-- ---- as the code writes it

-- the last n of eight bytes
drop_to_be : (m n v : ℕ) → drop m (to_be (m + n) v) ≡ to_be n v
unfolding to_be
drop_to_be zero n v = ap (λ (k : ℕ). to_be k v) (zero-add n)
drop_to_be (suc m) n v = rw suc-add (drop_to_be m n v)

pub last_to_be : (n v : ℕ) → n ≤ 8 → take (8 - (8 - n)) (drop (8 - n) (to_be 8 v)) ≡ to_be n v
last_to_be n v h =
    let e : 8 ≡ 8 - n + n = omega arith in
    ap (λ (k : ℕ). take (8 - (8 - n)) (drop (8 - n) (to_be k v))) e
    ∙ ap (take (8 - (8 - n))) (drop_to_be (8 - n) n v)
    ∙ take_all (8 - (8 - n)) (to_be n v) (omega (arith, length_to_be n v))

pub to_be1 : (v : ℕ) → to_be 1 v ≡ v % 256 ∷ []
unfolding to_be
to_be1 v = rw div-one

pub to_be2 : (v : ℕ) → to_be 2 v ≡ v / 256 % 256 ∷ v % 256 ∷ []
unfolding to_be
to_be2 v = rw div-one

pub to_be4 : (v : ℕ) → to_be 4 v ≡ v / 16777216 % 256 ∷ v / 65536 % 256 ∷ v / 256 % 256 ∷ v % 256 ∷ []
unfolding to_be
to_be4 v = rw div-one

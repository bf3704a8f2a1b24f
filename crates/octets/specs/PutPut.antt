-- A part of what was written, and one write upon another.
use Rattle.std.specs.Prelude.{◌≡◌, refl, ◌⊎◌, ℕ, zero, suc, ◌+◌, ◌-◌, ◌≤◌, ◌<◌, List, [], ◌∷◌, ◌++◌, length, get_or, set, take, drop}
use Rattle.std.proofs.Common.{sym, ap, ◌∙◌, ⊎_elim, zero-le, le_of_suc-le-suc, not-suc-le-zero, suc-add, zero-add, le_refl, add-one, arith, length-drop, length-take-le, take-suc}
use Rattle.octets.specs.Part.{part, length_part, part_part}
use Rattle.octets.specs.Put.{put, length_put, put_nil, set_put, take_put, drop_put, drop_put_in, take_put_in}

-- ---- a part of what was written: below it, above it, around it, of it

pub part_put_below : (xs : List ℕ) (at : ℕ) (ys : List ℕ) (a n : ℕ) → a + n ≤ at → part (put xs at ys) a n ≡ part xs a n
unfolding part
part_put_below xs at ys a n h =
    let e : at ≡ a + (at - a) = omega arith in
    rw e (ap (take n) (drop_put_in a xs (at - a) ys) ∙ take_put n (drop a xs) (at - a) ys (omega arith))

pub part_put_above : (xs : List ℕ) (at : ℕ) (ys : List ℕ) (a n : ℕ) → at + length ys ≤ a → part (put xs at ys) a n ≡ part xs a n
unfolding part
part_put_above xs at ys a n h = ap (take n) (drop_put a xs at ys h)

pub part_put_in : (xs : List ℕ) (at n b : ℕ) (ys : List ℕ) → part (put xs (at + b) ys) at n ≡ put (part xs at n) b ys
unfolding part
part_put_in xs at n b ys = ap (take n) (drop_put_in at xs b ys) ∙ take_put_in n (drop at xs) b ys

take_put_all : (xs ys : List ℕ) → length ys ≤ length xs → take (length ys) (put xs zero ys) ≡ ys
unfolding put
take_put_all xs [] h = refl
take_put_all [] (y ∷ ys) h = absurd (not-suc-le-zero h)
take_put_all (x ∷ xs) (y ∷ ys) h = ap (λ (r : List ℕ). y ∷ r) (take_put_all xs ys (le_of_suc-le-suc h))

pub part_put : (xs : List ℕ) (at : ℕ) (ys : List ℕ) → at + length ys ≤ length xs → part (put xs at ys) at (length ys) ≡ ys
unfolding part
part_put xs at ys h =
    let e : at ≡ at + 0 = omega arith in
    ap (λ (k : ℕ). take (length ys) (drop at (put xs k ys))) e
    ∙ ap (take (length ys)) (drop_put_in at xs zero ys)
    ∙ take_put_all (drop at xs) ys (simp length-drop (omega arith))

-- a part inside what was written
pub part_put_of : (xs : List ℕ) (at : ℕ) (ys : List ℕ) (a n : ℕ) → at + length ys ≤ length xs → a + n ≤ length ys → part (put xs at ys) (at + a) n ≡ part ys a n
part_put_of xs at ys a n h k =
    sym (part_part (put xs at ys) at (length ys) a n k) ∙ ap (λ (r : List ℕ). part r a n) (part_put xs at ys h)

-- a part apart from what was written
pub part_put_apart : (xs : List ℕ) (at : ℕ) (ys : List ℕ) (a n : ℕ) → (a + n ≤ at) ⊎ (at + length ys ≤ a) → part (put xs at ys) a n ≡ part xs a n
part_put_apart xs at ys a n w = ⊎_elim (λ l. part_put_below xs at ys a n l) (λ l. part_put_above xs at ys a n l) w

-- ---- one write upon another: over it, apart, adjoining, inside it

-- what is written over whole leaves no trace
pub put_cover : (xs : List ℕ) (b : ℕ) (ys : List ℕ) (at : ℕ) (zs : List ℕ) → at ≤ b → b + length ys ≤ at + length zs
    → put (put xs b ys) at zs ≡ put xs at zs
unfolding put
put_cover [] b ys at zs l h = refl
put_cover (x ∷ xs) zero ys (suc at) zs l h = absurd (not-suc-le-zero l)
put_cover (x ∷ xs) (suc b) ys (suc at) zs l h =
    ap (λ (r : List ℕ). x ∷ r) (put_cover xs b ys at zs (le_of_suc-le-suc l) (let z : suc b + length ys ≤ suc at + length zs = h in omega arith))
put_cover (x ∷ xs) zero [] zero zs l h = refl
put_cover (x ∷ xs) zero (y ∷ ys) zero [] l h = absurd (let z : 0 + suc (length ys) ≤ 0 + 0 = h in omega arith)
put_cover (x ∷ xs) zero (y ∷ ys) zero (z ∷ zs) l h =
    ap (λ (r : List ℕ). z ∷ r) (put_cover xs zero ys zero zs l (let w : 0 + suc (length ys) ≤ 0 + suc (length zs) = h in omega arith))
put_cover (x ∷ xs) (suc b) ys zero [] l h = absurd (let z : suc b + length ys ≤ 0 + 0 = h in omega arith)
put_cover (x ∷ xs) (suc b) ys zero (z ∷ zs) l h =
    ap (λ (r : List ℕ). z ∷ r) (put_cover xs b ys zero zs zero-le (let w : suc b + length ys ≤ 0 + suc (length zs) = h in omega arith))

pub put_put : (xs : List ℕ) (at : ℕ) (ys zs : List ℕ) → length ys ≤ length zs → put (put xs at ys) at zs ≡ put xs at zs
put_put xs at ys zs h = put_cover xs at ys at zs (le_refl at) (omega arith)

pub put_comm : (xs : List ℕ) (at : ℕ) (ys : List ℕ) (b : ℕ) (zs : List ℕ) → at + length ys ≤ b
    → put (put xs at ys) b zs ≡ put (put xs b zs) at ys
unfolding put
put_comm [] at ys b zs h = refl
put_comm (x ∷ xs) zero [] b zs h = sym (put_nil (put (x ∷ xs) b zs) zero)
put_comm (x ∷ xs) zero (y ∷ ys) zero zs h = absurd (let z : 0 + suc (length ys) ≤ 0 = h in omega arith)
put_comm (x ∷ xs) zero (y ∷ ys) (suc b) zs h =
    ap (λ (r : List ℕ). y ∷ r) (put_comm xs zero ys b zs (let z : 0 + suc (length ys) ≤ suc b = h in omega arith))
put_comm (x ∷ xs) (suc at) ys zero zs h = absurd (let z : suc at + length ys ≤ 0 = h in omega arith)
put_comm (x ∷ xs) (suc at) ys (suc b) zs h =
    ap (λ (r : List ℕ). x ∷ r) (put_comm xs at ys b zs (let z : suc at + length ys ≤ suc b = h in omega arith))

-- as a loop over pieces extends what it has done
pub put_append : (xs : List ℕ) (at : ℕ) (ys zs : List ℕ) → put xs at (ys ++ zs) ≡ put (put xs at ys) (at + length ys) zs
unfolding put
put_append [] at ys zs = refl
put_append (x ∷ xs) (suc at) ys zs = rw suc-add (ap (λ (r : List ℕ). x ∷ r) (put_append xs at ys zs))
put_append (x ∷ xs) zero [] zs = refl
put_append (x ∷ xs) zero (y ∷ ys) zs =
    rw zero-add (ap (λ (r : List ℕ). y ∷ r) (put_append xs zero ys zs ∙ ap (λ (k : ℕ). put (put xs zero ys) k zs) (zero-add (length ys))))

take_over : (xs : List ℕ) (n : ℕ) → put xs zero (take n xs) ≡ xs
unfolding put
take_over [] n = refl
take_over (x ∷ xs) zero = refl
take_over (x ∷ xs) (suc n) = ap (λ (r : List ℕ). x ∷ r) (take_over xs n)

-- what is there, written again, changes nothing
pub put_part : (xs : List ℕ) (at n : ℕ) → put xs at (part xs at n) ≡ xs
unfolding put part
put_part [] at n = refl
put_part (x ∷ xs) (suc at) n = ap (λ (r : List ℕ). x ∷ r) (put_part xs at n)
put_part (x ∷ xs) zero n = take_over (x ∷ xs) n

-- a put into a part, written back, is a put into the whole
pub put_inner : (xs : List ℕ) (at n b : ℕ) (ys : List ℕ) → at + n ≤ length xs → b + length ys ≤ n
    → put xs at (put (part xs at n) b ys) ≡ put xs (at + b) ys
put_inner xs at n b ys hx hy =
    let w : List ℕ = put xs (at + b) ys in
    let l : length (part w at n) ≡ n = length_part w at n (rw length_put hx) in
    ap (put xs at) (sym (part_put_in xs at n b ys))
    ∙ sym (put_cover xs (at + b) ys at (part w at n) (omega arith) (omega arith))
    ∙ put_part w at n

-- ---- a loop that copies s into d from index at on: x is what it has made of d after j turns

module _ (d : List ℕ) (at : ℕ) (s : List ℕ) (j : ℕ) (x : List ℕ) (e : x ≡ put d at (take j s)) where
  -- one turn more
  pub put_next : j < length s → set x (at + j) (get_or s j 0) ≡ put d at (take (j + 1) s)
  put_next h =
      let t : List ℕ = take j s in
      let l : j ≡ length t = sym (length-take-le j s (omega arith)) in
      let b : List ℕ = get_or s j 0 ∷ [] in
      set_put x (at + j) (get_or s j 0)
      ∙ ap (λ (y : List ℕ). put y (at + j) b) e
      ∙ ap (λ (k : ℕ). put (put d at t) (at + k) b) l
      ∙ sym (put_append d at t b)
      ∙ ap (put d at) (rw add-one (sym (take-suc s j 0 h)))

-- over the front of d
pub put_more : (d s : List ℕ) (j : ℕ) → j < length s → set (put d 0 (take j s)) j (get_or s j 0) ≡ put d 0 (take (suc j) s)
put_more d s j h = rw (zero-add, add-one) at (put_next d 0 s j (put d 0 (take j s)) refl h)

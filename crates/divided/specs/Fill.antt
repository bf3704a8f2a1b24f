-- Bytes that are written over a list part by part, in any order: xs are all of them, from index at on. And images of which ranges are
-- written so one after the other.
use Rattle.std.specs.Prelude.{ℕ, ◌+◌, ◌-◌, ◌*◌, ◌≤◌, ◌<◌, ◌≡◌, List, [], ◌∷◌, length, get_or}
use Rattle.std.proofs.Common.{arith, ⊎_elim, sym, ap, subst, ◌∙◌, ext_get_or}
use Rattle.octets.specs.Part.{part, length_part, get_or_part}
use Rattle.octets.specs.Put.{put, get_or_put_before, get_or_put_after, get_or_put_in}
use Rattle.octets.specs.PutPut.{put_cover, put_part}
use Rattle.folds.specs.Cases.{order}
use Rattle.folds.specs.Each.{EachIs}
use Rattle.divided.specs.InParts.{Extent}
use Rattle.divided.specs.Adjoin.{OnBytes}

module _ (at : ℕ) (xs : List ℕ) where
  -- byte j stands in y
  abbrev pub Stands : List ℕ → ℕ → Type 0
  Stands y j = get_or y (at + j) 0 ≡ get_or xs j 0

  -- y with k bytes from byte a on written
  abbrev pub infill : List ℕ → ℕ → ℕ → List ℕ
  infill y a k = put y (at + a) (part xs a k)

  module _ (y : List ℕ) (a k : ℕ) (inside : a + k ≤ length xs) (room : at + a + k ≤ length y) where
    -- they stand
    pub fills : (j : ℕ) → a ≤ j → j < a + k → Stands (infill y a k) j
    fills j l h =
        let e : at + j ≡ at + a + (j - a) = omega arith in
        let f : a + (j - a) ≡ j = omega arith in
        ap (λ (i : ℕ). get_or (infill y a k) i 0) e
        ∙ get_or_put_in y (at + a) (part xs a k) (j - a) (omega arith) (omega (arith, length_part xs a k inside))
        ∙ get_or_part xs a k (j - a) (omega arith)
        ∙ ap (λ (i : ℕ). get_or xs i 0) f

    -- and so does what stood
    fills_more : (j : ℕ) → Stands y j → Stands (infill y a k) j
    fills_more j h =
        ⊎_elim (λ l. get_or_put_before y (at + a) (part xs a k) (at + j) (omega arith) ∙ h)
        (λ l. ⊎_elim (λ u. fills j l u) (λ u. get_or_put_after y (at + a) (part xs a k) (at + j) (omega (arith, length_part xs a k inside)) ∙ h) (order j (a + k)))
        (order j a)

    -- what is written over all of it leaves no trace of them
    pub fills_under : put (infill y a k) at xs ≡ put y at xs
    fills_under = put_cover y (at + a) (part xs a k) at xs (omega arith) (omega (arith, length_part xs a k inside))

  -- all of them stand: they are written
  pub all_stand : (m y : List ℕ) → at + length xs ≤ length y → ((j : ℕ) → j < length xs → Stands y j) → put y at xs ≡ put m at xs → y ≡ put m at xs
  all_stand m y room h e =
      let n = length xs in
      let l : length (part y at n) ≡ n = length_part y at n room in
      let there : part y at n ≡ xs = ext_get_or 0 (part y at n) xs l (λ j i. get_or_part y at n j (omega arith) ∙ h j (omega arith)) in
      sym (put_part y at n) ∙ ap (put y at) there ∙ e

-- ---- ranges, one after the other

-- image after image: what is infill is what `see` shows of them, blocks have l bytes, all images have I, and each range shows G
module _ (at : ℕ) (xs : List ℕ) (l : ℕ) (see : List ℕ → List ℕ) (I : List ℕ → Type 0) {C : Type 0} (range : C → Extent) (G : C → Type 0) where
  abbrev first : C → ℕ
  first p = (range p).from * l

  abbrev many : C → ℕ
  many p = (range p).count * l

  -- a range p that took image y to image z
  pub record Filling (p : C) (y z : List ℕ) : Type 0 where
    pub within : first p + many p ≤ length xs
    pub room : at + first p + many p ≤ length (see y)
    pub fills_it : see z ≡ infill at xs (see y) (first p) (many p)
    pub has : I z
    pub shows : G p

  -- those of a list, by any account `took` of them
  module _ (took : C → List ℕ → List ℕ → Type 0) where
    pub data Trail : List C → List ℕ → List ℕ → Type 0 where
      ends : {y : List ℕ} → Trail [] y y
      then : {p : C} {ps : List C} {y z e : List ℕ} → took p y z → Trail ps z e → Trail (p ∷ ps) y e

    module _ (one : (p : C) (y z : List ℕ) → I y → took p y z → Filling p y z) where
      -- image y became image e
      pub record Filled (ps : List C) (y e : List ℕ) : Type 0 where
        pub has : I e
        pub keeps : (j : ℕ) → Stands at xs (see y) j → Stands at xs (see e) j
        pub stand : EachIs (λ p. OnBytes (Stands at xs (see e)) l (range p)) ps
        pub shown : EachIs G ps

      pub all_filled : {ps : List C} {y e : List ℕ} → Trail ps y e → I y → Filled ps y e
      all_filled ends i = record { has = i; keeps = λ j h. h; stand = tt; shown = tt }
      all_filled (then {p} {ps} {y} {z} {e} t ts) i =
          let w = one p y z i t in
          let q = all_filled ts w.has in
          let stands : (j : ℕ) → Stands at xs (infill at xs (see y) (first p) (many p)) j → Stands at xs (see e) j =
          (λ j h. q.keeps j (subst (λ (s : List ℕ). Stands at xs s j) (sym w.fills_it) h)) in
          record {
            has = q.has;
            keeps = λ j h. stands j (fills_more at xs (see y) (first p) (many p) w.within w.room j h);
            stand = ((λ j lo hi. stands j (fills at xs (see y) (first p) (many p) w.within w.room j lo hi)), q.stand);
            shown = (w.shows, q.shown);
          }

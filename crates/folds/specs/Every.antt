-- All tests of a list hold.
use Rattle.std.specs.Prelude.{ℕ, zero, suc, List, [], ◌∷◌, Bool, true, false, cond, ◌&&◌, ◌≡◌, refl, get_or}
use Rattle.std.proofs.lemmas.Bool.{false≢true}
use Rattle.std.proofs.Common.{true≢false, ap₂}
use Rattle.folds.specs.Each.{EachIs}

-- shut, so that the laws find their list by matching
unfoldable pub every : List Bool → Bool
every [] = true
every (t ∷ ts) = cond t (every ts) false

-- each test by itself
abbrev pub Each : List Bool → Type 0
Each ts = EachIs (λ t. t ≡ true) ts

pub each : (ts : List Bool) → every ts ≡ true → Each ts
unfolding every
each [] e = tt
each (true ∷ ts) e = (refl, each ts e)
each (false ∷ ts) e = absurd (false≢true e)

pub every_of : (ts : List Bool) → Each ts → every ts ≡ true
unfolding every
every_of [] h = refl
every_of (true ∷ ts) h = every_of ts h.1
every_of (false ∷ ts) h = h.0

-- the test at place i
pub holds : (ts : List Bool) (i : ℕ) → every ts ≡ true → get_or ts i true ≡ true
unfolding every
holds [] i e = refl
holds (true ∷ ts) zero e = refl
holds (true ∷ ts) (suc i) e = holds ts i e
holds (false ∷ ts) i e = absurd (false≢true e)

-- one that fails
pub fails : (ts : List Bool) (i : ℕ) → get_or ts i true ≡ false → every ts ≡ false
unfolding every
fails [] i e = e
fails (true ∷ ts) zero e = absurd (true≢false e)
fails (true ∷ ts) (suc i) e = fails ts i e
fails (false ∷ ts) i e = refl

-- the tests as code joins them by `&`, which is cheaper to prove than a branch for each
abbrev pub joined : Bool → List Bool → Bool
joined t [] = t
joined t (u ∷ us) = joined (t && u) us

pub every_joined : (t : Bool) (ts : List Bool) → joined t ts ≡ every (t ∷ ts)
unfolding every
every_joined true [] = refl
every_joined false [] = refl
every_joined true (u ∷ us) = every_joined u us
every_joined false (u ∷ us) = every_joined false us

-- two lists that agree entry by entry
abbrev pub Alike : List Bool → List Bool → Type 0
Alike [] [] = Unit {0}
Alike [] (u ∷ us) = ⊥
Alike (t ∷ ts) [] = ⊥
Alike (t ∷ ts) (u ∷ us) = (t ≡ u) × Alike ts us

pub every_ext : (ts us : List Bool) → Alike ts us → every ts ≡ every us
unfolding every
every_ext [] [] h = refl
every_ext [] (u ∷ us) h = absurd h
every_ext (t ∷ ts) [] h = absurd h
every_ext (t ∷ ts) (u ∷ us) h = ap₂ (λ (a b : Bool). cond a b false) h.0 (every_ext ts us h.1)

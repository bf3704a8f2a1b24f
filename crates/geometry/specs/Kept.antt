-- What leaves the header leaves the geometry, and with the length the frame.
use Rattle.std.specs.Prelude.{◌≡◌, List, [], ◌∷◌, ℕ, ◌+◌, ◌≤◌, leb, eqb, length}
use Rattle.std.proofs.Common.{ap₂, arith, lit≤}
use Rattle.octets.specs.Part.{part}
use Rattle.octets.specs.Put.{put}
use Rattle.octets.specs.PutPut.{part_put_below}
use Rattle.octets.specs.Number.{be, front_be}
use Rattle.folds.specs.Every.{every}
use Rattle.geometry.specs.declared.Geometry.{Geometry}
use Rattle.geometry.specs.Header.{geometry_of, ranges_ok, offsets_ok, end_of, framed_ok}

abbrev made : ℕ → ℕ → ℕ → ℕ → ℕ → ℕ → ℕ → ℕ → Geometry
made d b l s m t o e = record { d = d; b = b; l = l; s = s; m = m; table = t; slots = o; media = e }

same_made : {a b c d e f g h a' b' c' d' e' f' g' h' : ℕ} → a ≡ a' → b ≡ b' → c ≡ c' → d ≡ d' → e ≡ e' → f ≡ f' → g ≡ g' → h ≡ h'
    → made a b c d e f g h ≡ made a' b' c' d' e' f' g' h'
same_made p q r s t u v w = rw (p, q, r, s, t, u, v, w)

-- the header's fields, one by one
pub fields_geometry : (s : List ℕ) (g : Geometry) → g.d ≡ be 4 s 0 → g.b ≡ be 4 s 4 → g.l ≡ be 4 s 8 → g.s ≡ be 4 s 12 → g.m ≡ be 4 s 16
    → g.table ≡ be 4 s 20 → g.slots ≡ be 4 s 24 → g.media ≡ be 4 s 28 → g ≡ geometry_of s
fields_geometry s g d b l n m t o e = same_made d b l n m t o e

-- images with the same front, header included
pub front_geometry : (s t : List ℕ) (n : ℕ) → part s 0 n ≡ part t 0 n → 32 ≤ n → geometry_of s ≡ geometry_of t
front_geometry s t n e h =
    let field : (a : ℕ) → a + 4 ≤ 32 → be 4 s a ≡ be 4 t a = (λ a l. front_be s t n e 4 a (omega arith)) in
    fields_geometry t (geometry_of s) (field 0 (lit≤ tt)) (field 4 (lit≤ tt)) (field 8 (lit≤ tt)) (field 12 (lit≤ tt))
    (field 16 (lit≤ tt)) (field 20 (lit≤ tt)) (field 24 (lit≤ tt)) (field 28 (lit≤ tt))

-- a write past the header
pub geometry_put : (s : List ℕ) (at : ℕ) (ys : List ℕ) → 32 ≤ at → geometry_of (put s at ys) ≡ geometry_of s
geometry_put s at ys h = front_geometry (put s at ys) s 32 (part_put_below s at ys 0 32 h) (lit≤ tt)

-- the same length and geometry: framed alike
pub framed_alike : (s t : List ℕ) → length s ≡ length t → geometry_of s ≡ geometry_of t → framed_ok s ≡ framed_ok t
unfolding framed_ok
framed_alike s t n e =
    ap₂ (λ (k : ℕ) (g : Geometry). every (leb 32 k ∷ ranges_ok g ∷ offsets_ok g ∷ eqb k (end_of g) ∷ [])) n e

-- The laws of which drives a row counts: all that is known of it elsewhere.
use Rattle.std.specs.Prelude.{ℕ, ◌<◌, Bool, true, cond, List, [], ◌≡◌, refl}
use Rattle.std.proofs.Common.{ap}
use Rattle.geometry.specs.declared.Geometry.{Geometry}
use Rattle.drives.specs.Table.{marked}
use Rattle.drives.specs.Front.{SameFront}
use Rattle.sums.specs.Row.{counts, block_in, added}

-- two images count the same drives
abbrev pub SameCounts : List ℕ → List ℕ → Geometry → Type 0
SameCounts t m g = (d : ℕ) → d < g.d → counts t g d ≡ counts m g d

-- header and drive table tell which
pub same_counts : (t m : List ℕ) (g : Geometry) → SameFront t m g → SameCounts t m g
unfolding counts
same_counts t m g e d l = refl

-- a marking leaves it
pub marked_counts : (m : List ℕ) (g : Geometry) (i state : ℕ) → SameCounts (marked m g i state) m g
unfolding counts
marked_counts m g i state d l = refl

-- "on all drives": what a drive adds is its block
pub counts_all : (m : List ℕ) (g : Geometry) (d : ℕ) → counts m g d ≡ true
unfolding counts
counts_all m g d = refl

pub added_block : (m : List ℕ) (g : Geometry) (r d : ℕ) → added m g r d ≡ block_in m g r d
added_block m g r d = ap (λ (t : Bool). cond t (block_in m g r d) []) (counts_all m g d)

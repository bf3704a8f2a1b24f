-- What XDWRITE's result becomes, whole and piece by piece.
use Rattle.std.specs.Prelude.{ℕ, ◌+◌, ◌≤◌, List, length}
use Rattle.octets.specs.Part.{part, Apart}
use Rattle.octets.specs.Put.{put}
use Rattle.meaning.specs.Acts.{mixed, laid}
use Rattle.act.specs.declared.pass.Pass.{Pass}

-- ---- the whole

abbrev pub laid_of : List ℕ → List ℕ → Pass → List ℕ
laid_of s sent p = laid p.adds (part s p.to (length sent)) (mixed p.mirror sent (part s p.from (length sent)))

unfoldable pub passed_of : List ℕ → List ℕ → Pass → List ℕ
passed_of s sent p = put s p.to (laid_of s sent p)

-- the two ranges lie in the image, and apart
pub record Passable (s sent : List ℕ) (p : Pass) : Type 0 where
  pub from_in : p.from + length sent ≤ length s
  pub to_in : p.to + length sent ≤ length s
  pub apart : Apart p.from p.to (length sent)

-- ---- the k bytes from o on

abbrev pub laid_piece : List ℕ → List ℕ → Pass → ℕ → ℕ → List ℕ
laid_piece s sent p o k = laid p.adds (part s (p.to + o) k) (mixed p.mirror (part sent o k) (part s (p.from + o) k))

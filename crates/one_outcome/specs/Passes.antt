-- The contract of each public function of `passes` allows one outcome only.
use mir.Syntax.{Dict}
use denote.RattleType.{RattleType}
use denote.Param.Laws.{Laws}
use Rattle.passes.specs.declared.pieces.Piecewise.{Ghosts}
use Rattle.passes.proofs as passes
use Rattle.one_outcome.specs.Only.{Only, equation}

pub xor_parts_once : Only passes.xor_parts.Reads.Post (λ _ _ s. s.0.now)
xor_parts_once = equation

pub by_pieces_once : (P : RattleType) (L : Laws P) (M : Ghosts P.Denot) (D : Dict) → Only (passes.by_pieces.Reads.Post P L M D) (λ _ _ s. s.0.now)
by_pieces_once P L M D = equation

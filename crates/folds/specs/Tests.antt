-- What a branch of the code says of a definition's tests: `search tests` closes a return of a decision function.
use Rattle.std.specs.Prelude.{Bool, true, false, cond, ◌≡◌, refl}
use Rattle.std.proofs.Common.{lt-ltb, le-ltb, le-leb, eq-eqb, ne_eqb}
use Rattle.std.proofs.lemmas.Bool.{lt-leb}

-- a test that is returned as it is
pub cond_self : (b : Bool) → cond b true false ≡ b
cond_self true = refl
cond_self false = refl

pub ruleset tests = (lt-ltb, le-ltb, le-leb, lt-leb, eq-eqb, ne_eqb, cond_self)

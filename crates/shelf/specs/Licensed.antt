-- What a decision to go hands the code that acts.
use Rattle.std.specs.Prelude.{◌≡◌, List, ℕ}
use Rattle.std.proofs.Common.{sym, subst}
use Rattle.geometry.specs.declared.Geometry.{Geometry}
use Rattle.geometry.specs.Header.{geometry_of}
use Rattle.geometry.specs.Frame.{Framed}
use Rattle.drives.specs.declared.Came.{Came}
use Rattle.image.specs.Shelf.{Shelf, shelf_frame}
use Rattle.sense.specs.declared.Answer.{Answer}
use Rattle.meaning.specs.declared.Act.{Act}
use Rattle.meaning.specs.Decision.{go}
use Rattle.meaning.specs.Allowed.{Allowed}
use Rattle.meaning.specs.Checks.{decide_of}
use Rattle.grants.specs.Granted.{granted, allowed_at}

pub licensed : (m : List ℕ) (a : Came) (c s : List ℕ) (r : ℕ) (act : Act) (x : Answer) (g : Geometry) → g ≡ geometry_of m → decide_of m a c s r ≡ go act x
    → Framed m g × Allowed m g s r act
licensed m a c s r act x g h e =
    let v : Shelf m g = subst (Shelf m) (sym h) (granted m a c s r act x e).valid in
    (shelf_frame m g v, allowed_at m g v a c s r act x e)

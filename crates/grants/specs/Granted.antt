-- Checks first, then the effect: a decision to go grants everything that the code that acts needs.
use Rattle.std.specs.Prelude.{ℕ, List, ◌≡◌, get_or, Some}
use Rattle.std.proofs.Common.{sym, subst, ◌∙◌}
use Rattle.std.proofs.lemmas.Bool.{not-false}
use Rattle.rules.specs.Rule.{AllPass}
use Rattle.rules.proofs.Rule.{passed}
use Rattle.folds.specs.Least.{index}
use Rattle.geometry.specs.declared.Geometry.{Geometry}
use Rattle.geometry.specs.Header.{geometry_of}
use Rattle.drives.specs.declared.Came.{Came}
use Rattle.drives.specs.Table.{target_of}
use Rattle.drives.specs.Lookup.{drive_inside}
use Rattle.image.specs.Shelf.{Shelf}
use Rattle.image.proofs.Shelf.{shelf}
use Rattle.sense.specs.declared.Answer.{Answer}
use Rattle.sense.specs.declared.Answer.TheVariants.{Good}
use Rattle.command.specs.declared.Op.{Op}
use Rattle.command.specs.Command.{op_of, command_of}
use Rattle.meaning.specs.declared.Act.{Act}
use Rattle.meaning.specs.Decision.{stop, go, go_same}
use Rattle.meaning.specs.Checks.{checks, carried_out, decide_for, decide_of}
use Rattle.meaning.specs.Allowed.{Allowed}
use Rattle.grants.specs.Passed.{found, Through, through}
use Rattle.grants.specs.Each.{no_stop, Grants, of_each}

-- what a decision to do x and answer y says: image m, a command that came as a, data-out bytes s, r bytes of receive room
pub record Granted (m : List ℕ) (a : Came) (s : List ℕ) (r : ℕ) (x : Act) (y : Answer) : Type 0 where
  pub good : y ≡ Good
  pub valid : Shelf m (geometry_of m)
  pub allowed : Allowed m (geometry_of m) s r x

-- no check applies
module _ (o : Op) (m : List ℕ) (a : Came) (c s : List ℕ) (r : ℕ) (p : AllPass (checks o m a c s r)) where
  abbrev g : Geometry
  g = geometry_of m

  abbrev t : ℕ
  t = index (target_of m g a)

  w : Through o m g a t c s r
  w = through o m g a t c s r p

  by_valid : Shelf m g
  by_valid = shelf m (not-false _ w.calls_pass.0)

  by_target : target_of m g a ≡ Some t
  by_target = found (target_of m g a) w.calls_pass.1.0

  pub by_checks : Grants o m g t (command_of o a c) s r
  by_checks = of_each m g t s r by_valid (drive_inside m g a.target.0 t by_target).0 w.known_pass.1.0 (command_of o a c) o w.known_pass.0 w.later

pub granted_by : (o : Op) (m : List ℕ) (a : Came) (c s : List ℕ) (r : ℕ) (x : Act) (y : Answer) → decide_for o m a c s r ≡ go x y → Granted m a s r x y
granted_by o m a c s r x y e =
    let w = passed stop (checks o m a c s r) (carried_out o m a c s) (go x y) (λ n w z. no_stop n w z x y) e in
    let h = by_checks o m a c s r w.0 in
    let same = go_same h.act x Good y (sym h.goes ∙ w.1) in
    record {
      good = sym same.1;
      valid = by_valid o m a c s r w.0;
      allowed = subst (Allowed m (geometry_of m) s r) same.0 h.allowed;
    }

-- the licence of the code that acts
pub granted : (m : List ℕ) (a : Came) (c s : List ℕ) (r : ℕ) (x : Act) (y : Answer) → decide_of m a c s r ≡ go x y → Granted m a s r x y
unfolding decide_of
granted m a c s r x y e = granted_by (op_of (get_or c 0 0)) m a c s r x y e

-- by the geometry that the image is known to have
pub allowed_at : (m : List ℕ) (g : Geometry) → Shelf m g → (a : Came) (c s : List ℕ) (r : ℕ) (x : Act) (y : Answer) → decide_of m a c s r ≡ go x y → Allowed m g s r x
allowed_at m g h a c s r x y e = subst (λ (k : Geometry). Allowed m k s r x) h.header (granted m a c s r x y e).allowed

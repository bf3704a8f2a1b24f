-- A command whose checks pass is carried out, and what it then leaves.
use Prim.Native.Nat.{ℕ}
use Rattle.std.specs.Prelude.{Bool, ◌&&◌, ◌≡◌, refl, List, [], ◌++◌, length, is_none}
use Rattle.std.proofs.Math.Bool.{not}
use Rattle.std.proofs.Common.{sym, subst, ◌∙◌, eq-eqb}
use Rattle.std.proofs.Math.Path.{ap, ap₂}
use Rattle.std.proofs.Math.Dec.{eqb}
use Rattle.octets.specs.Put.{put, put_nil}
use Rattle.rules.specs.Rule.{first, AllPass}
use Rattle.rules.proofs.Rule.{first_append, none_decides}
use Rattle.folds.specs.Least.{index}
use Rattle.geometry.specs.declared.Geometry.{Geometry}
use Rattle.geometry.specs.Header.{geometry_of}
use Rattle.drives.specs.declared.Came.{Came}
use Rattle.drives.specs.Table.{state_of, target_of}
use Rattle.results.specs.Results.{results}
use Rattle.image.specs.Shelf.{Shelf, shelf_frame}
use Rattle.image.proofs.Shelf.{shelf_valid}
use Rattle.sense.specs.declared.Answer.TheVariants.{Good}
use Rattle.sense.specs.Sense.{outcome_of}
use Rattle.command.specs.declared.Op.{Op}
use Rattle.command.specs.declared.Command.{Command}
use Rattle.command.specs.Command.{size_of, command_of}
use Rattle.meaning.specs.declared.Act.{Act}
use Rattle.meaning.specs.Decision.{Decision, stop, go}
use Rattle.meaning.specs.declared.Seen.{Seen}
use Rattle.meaning.specs.Acts.{effect_of, leaves, hands}
use Rattle.meaning.specs.Checks.{calls, cdb_calls, known, command_checks, acts, decide_of}
use Rattle.meaning.specs.Step.{decided}
use Rattle.meaning.specs.Stepped.{Stepped, stopped, went}
use Rattle.grants.specs.Granted.{allowed_at}
use Rattle.demands_one_two.specs.Fine.{fine}
use Rattle.demands_one_two.specs.Retained.{afterwards}
use Rattle.callers.specs.Bytes.{Says}
use Rattle.callers.specs.After.{After, after_none, effect_after}
use Rattle.callers.specs.Does.{Does, Target}

-- one check after the other
infixr 20 ◌then◌
pub ◌then◌ : {X Y : Type 0} → X → Y → X × Y
x then y = (x, y)

-- ---- a command

module _ (m : List ℕ) (g : Geometry) (a : Came) (t : ℕ) (h : Target m g a t) (c s r : List ℕ) where
  -- checks 4 to 11, and behind them the act
  abbrev from_four : Op → Command → Decision
  from_four o k = first stop (command_checks o m g t k s (length r)) (acts o m g t k s)

  -- checks 1 to 3 pass
  pub from_four_lem : (o : Op) (k : Command) → Says a c o k → decided m a c s r ≡ from_four o k
  unfolding decide_of
  from_four_lem o k w =
      let by : Op → Geometry → ℕ → Command → Decision =
      (λ o x i k. first stop (calls m a ++ cdb_calls o c ++ known m x i o ++ command_checks o m x i k s (length r)) (acts o m x i k s)) in
      let found : index (target_of m (geometry_of m) a) ≡ t = ap (λ (x : Geometry). index (target_of m x a)) h.shelf.header ∙ ap index h.found in
      ap (λ (z : Op). by z (geometry_of m) (index (target_of m (geometry_of m) a)) (command_of z a c)) w.code
      ∙ ap (by o (geometry_of m) (index (target_of m (geometry_of m) a))) w.fields
      ∙ ap₂ (λ (x : Geometry) (i : ℕ). by o x i k) h.shelf.header found
      ∙ first_append stop (calls m a ++ cdb_calls o c ++ known m g t o) (command_checks o m g t k s (length r)) (acts o m g t k s)
      ∙ none_decides stop (calls m a ++ cdb_calls o c ++ known m g t o) (from_four o k)
      (ap not (shelf_valid m g h.shelf)
      then (ap (λ (x : Geometry). is_none (target_of m x a)) h.shelf.header ∙ ap is_none h.found)
      then (ap (λ (n : ℕ). eqb n 0) w.size ∙ w.known)
      then ap₂ (λ (u v : Bool). not u && not v) w.known (eq-eqb (length c) (size_of o) w.size)
      then w.known
      then h.present
      then tt)

  -- every check passes
  pub goes : (o : Op) (k : Command) (x : Act) → Says a c o k → AllPass (command_checks o m g t k s (length r)) → acts o m g t k s ≡ go x Good → decided m a c s r ≡ go x Good
  goes o k x w p e = from_four_lem o k w ∙ none_decides stop (command_checks o m g t k s (length r)) (acts o m g t k s) p ∙ e

-- ---- what such a command leaves

module _ (m : List ℕ) (g : Geometry) (h : Shelf m g) (a : Came) (c s r : List ℕ) (x : Act) (e : decided m a c s r ≡ go x Good) where
  -- byte for byte
  pub exactly : Stepped m a c s r (outcome_of Good (length (hands m g s x))) (leaves m g s x) (put r 0 (hands m g s x))
  exactly = went m a c s r x Good g _ _ _ _ e (sym h.header) refl refl refl refl

  pub does : Does m g a c s r (hands m g s x) (effect_of m g s x).writes (afterwards (effect_of m g s x).change (results m g))
  does =
      record {
        outcome = sym exactly.outcome;
        room = sym exactly.room;
        after = subst (λ (y : List ℕ). After m y g (state_of m g) (effect_of m g s x).writes (afterwards (effect_of m g s x).change (results m g))) exactly.image
            (effect_after m g h (length r) (effect_of m g s x) (fine m g (shelf_frame m g h) s (length r) x (allowed_at m g h a c s (length r) x Good e)));
      }

-- a command that a check answers GOOD leaves all as it was
pub stops : (m : List ℕ) (g : Geometry) → Shelf m g → (a : Came) (c s r : List ℕ) (n : ℕ) (w : Seen) → decided m a c s r ≡ stop n w Good → Does m g a c s r [] [] (results m g)
stops m g h a c s r n w e =
    let z = stopped m a c s r n w Good (outcome_of Good 0) e refl in
    record {
      outcome = sym z.outcome;
      room = sym z.room ∙ sym (put_nil r 0);
      after = subst (λ (y : List ℕ). After m y g (state_of m g) [] (results m g)) z.image (after_none m g h);
    }

-- A REBUILD from its bytes, where its sources are named and the XOR of its operands is known.
use Rattle.std.specs.Prelude.{ℕ, ◌*◌, ◌≤◌, Bool, cond, ◌≡◌, List, length}
use Rattle.std.proofs.Common.{sym, ap, ap₂, ◌∙◌}
use Rattle.octets.specs.Put.{put, put_nil}
use Rattle.octets.specs.Octets.{Octets}
use Rattle.octets.specs.Operands.{xor_all}
use Rattle.folds.specs.Each.{EachIs, each_implies}
use Rattle.geometry.specs.declared.Geometry.{Geometry}
use Rattle.geometry.specs.Header.{place}
use Rattle.drives.specs.declared.Came.{Came}
use Rattle.image.specs.Shelf.{Shelf}
use Rattle.sense.specs.declared.Outcome.{Outcome}
use Rattle.sense.specs.declared.Answer.TheVariants.{Good}
use Rattle.sense.specs.Sense.{outcome_of}
use Rattle.command.specs.declared.Source.{Source}
use Rattle.meaning.specs.Allowed.{Blocks, NamesOther}
use Rattle.meaning.specs.Stepped.{Stepped}
use Rattle.callers.specs.Does.{blocks}
use Rattle.callers.specs.Sources.{Names, names_small}
use Rattle.callers.specs.Operands.{operands, rebuild_exactly}
use Rattle.divided.specs.InParts.{sent, reply, ours, leaving, rebuilding, WellSaid}

-- what a step left, all three at once
stepped : (m : List ℕ) (a : Came) (c s r : List ℕ) (o : Outcome) (m' r' : List ℕ) → Stepped m a c s r o m' r' → ours m (sent a c s r) ≡ reply o m' r'
stepped m a c s r o m' r' x =
    let y = ours m (sent a c s r) in
    ap (λ (z : Outcome). reply z y.image y.room) (sym x.outcome) ∙ ap₂ (reply o) (sym x.image) (sym x.room)

module _ (m : List ℕ) (g : Geometry) (h : Shelf m g) (bytes : Octets m) (a : Came) (u flags : ℕ) (int : Bool) (count b n : ℕ) (es : List Source) (d : List ℕ)
    (said : WellSaid m g a u flags int count b n es) where
  pub whole : Blocks m g (blocks u b n) → EachIs (NamesOther m g a (blocks u b n)) es → 1 ≤ length es → length d ≡ cond int (n * g.l) 0
      → (r ys : List ℕ) → xor_all (operands m g a n es int d) ≡ ys
      → ours m (rebuilding a flags count b es d r) ≡ leaving (put m (place g u b) ys) (rebuilding a flags count b es d r)
  whole w each one long r ys e =
      let x = rebuilding a flags count b es d r in
      stepped m a x.cdb x.bytes r _ _ _
      (rebuild_exactly m g a u (record { shelf = h; found = said.found; present = w.present }) b n es int d
      (each_implies (NamesOther m g a (blocks u b n)) (Names m g a (blocks u b n)) (names_small m g h bytes a (blocks u b n)) es each)
      long one said.few w r flags said.byte count said.how_long said.exact)
      ∙ ap₂ (λ (z q : List ℕ). reply (outcome_of Good 0) (put m (place g u b) z) q) e (put_nil r 0)

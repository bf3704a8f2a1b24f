-- What a search has found, or nothing, and where the result goes.
use Rattle.std.specs.Prelude.{ℕ, Bool, List, ◌≡◌, Option, Some, None}
use Rattle.std.proofs.Common.{◌∙◌}
use borrow.Author.Tests.{eq-eqb, ne_eqb}
use Rattle.geometry.specs.declared.Geometry.{Geometry}
use Rattle.drives.specs.Table.{failed}
use Rattle.slots.specs.Find.{empty_slot}
use Rattle.sense.specs.declared.Answer.TheVariants.{NestedAddress}
use Rattle.command.specs.declared.Command.{Command}
use Rattle.command.specs.Command.{mirror_of, ndisc_of, sec_of}
use Rattle.meaning.specs.declared.Span.{Span}
use Rattle.meaning.specs.declared.Seen.TheVariants.{Cdb}
use Rattle.meaning.specs.Decision.{stop}
use Rattle.meaning.specs.Checks.{span_of}
use Rattle.decide_one.specs.Stages.{retained_of}
use Rattle.decide_two.specs.Stages.{check_10_of, check10, from_check_9}

module _ (f : Option ℕ) (m : List ℕ) (g : Geometry) (t : ℕ) (k : Command) where
  -- Sec Ctl 00 or 10
  module _ (sec : ℕ) (q : sec ≡ sec_of k) (ne : sec ≡ 3 → ⊥) where
    pub check_9_at : (j : ℕ) (down : Bool) → f ≡ Some j → down ≡ failed m g j → check_10_of j down g t k ≡ from_check_9 f m g t k
    unfolding from_check_9 check10
    check_9_at j down e h = rw (e, h, ne_eqb (sec_of k) 3 (λ p. ne (q ∙ p)))

    pub check_9_none : f ≡ None → stop 10 (Cdb 8) NestedAddress ≡ from_check_9 f m g t k
    unfolding from_check_9 check10
    check_9_none e = rw (e, ne_eqb (sec_of k) 3 (λ p. ne (q ∙ p)))

  -- Sec Ctl 11
  pub check_9_slot : (x : Span) (mirror ndisc : Bool) → sec_of k ≡ 3 → x ≡ span_of t k → mirror ≡ mirror_of k → ndisc ≡ ndisc_of k
      → retained_of (empty_slot m g) x mirror ndisc ≡ from_check_9 f m g t k
  unfolding from_check_9
  check_9_slot x mirror ndisc e h p q = rw (eq-eqb (sec_of k) 3 e, h, p, q)

-- Today's lists of checks beside 01's: each check says the same, but for the place where it is seen, and its answer is 01's bytes.
use Prim.Native.Nat.{ℕ, zero, suc, ◌+◌}
use Rattle.std.specs.Prelude.{Bool, List, [], ◌∷◌, map, ◌≡◌, ltb, Option, Some, None, Ok, Err}
use Rattle.std.proofs.Math.Bool.{true, false, cond}
use Rattle.std.proofs.Math.Path.{refl, ap}
use Rattle.std.proofs.Common.{◌∙◌}
use Rattle.octets.specs.Number.{to_be}
use Rattle.rules.specs.Rule.{Rule, rule, first}
use Rattle.rules.proofs.Rule.{first_append}
use Rattle.drives.specs.declared.Came.{Came}
use Rattle.drives.specs.Table.{drive_of}
use Rattle.sense.specs.Sense.{absent_sense, nested_sense}
use Rattle.command.specs.Command.{source_of}
use Rattle.meaning.specs.declared.Fault.TheVariants.{Failed, Beyond}
use Rattle.meaning.specs.Sources.{Vetted, drive_bad, entry_bad, or_next, first_bad}
use Rattle.meaning.specs.Checks.{Check}
use Rattle.frozen.specs.Image as old
use Rattle.frozen.specs.Answers as told
use Rattle.frozen.specs.Commands as was
use Rattle.frozen.specs.Alike.{geo}
use Rattle.frozen.specs.Lists.{bytes_of, forget, by_fault}

-- 01's list, made of today's, decides as today's does
pub first_forget : {D : Type 0} (stop : ℕ → Unit {0} → told.Answer → D) (rs : List Check) (d : D)
    → first stop (map forget rs) d ≡ first (λ n w x. stop n tt (bytes_of x)) rs d
first_forget stop [] d = refl
first_forget stop (rule n w b x ∷ rs) d = ap (cond b (stop n tt (bytes_of x))) (first_forget stop rs d)

-- what is made of a decision is made of each stop, and of what stands where none decides
pub first_view : {P A D E : Type 0} (v : D → E) (stop : ℕ → P → A → D) (rs : List (Rule P A)) (d : D) → v (first stop rs d) ≡ first (λ n w x. v (stop n w x)) rs (v d)
first_view v stop [] d = refl
first_view v stop (rule n w true x ∷ rs) d = refl
first_view v stop (rule n w false x ∷ rs) d = first_view v stop rs d

-- ---- the source entries: 01's three checks of each, one after the other, are today's one check of the first that fails

module _ {D : Type 0} (stop : ℕ → Unit {0} → told.Answer → D) (m : List ℕ) (h : old.Header) (n : ℕ) where
  entry : (i b : ℕ) (x : Option ℕ) (f : Vetted) (d : D) → first stop (was.entry_checks m h n b x) (by_fault stop m h n f d) ≡ by_fault stop m h n (or_next (drive_bad m (geo h) n i b x) f) d
  unfolding drive_bad absent_sense nested_sense to_be
  entry i b None f d = refl
  entry i b (Some k) f d = pick (old.failed m h k) (ltb h.B (b + n))
    where
      pick : (p q : Bool) → cond p (stop 10 tt (told.nested 0x02 0x04)) (cond q (stop 10 tt (told.nested 0x05 0x21)) (by_fault stop m h n f d))
          ≡ by_fault stop m h n (or_next (cond p (Err (Failed i k)) (cond q (Err (Beyond i)) (Ok tt))) f) d
      pick true q = refl
      pick false true = refl
      pick false false = refl

  pub sources_alike : (a : Came) (s : List ℕ) (i left : ℕ) (d : D) → first stop (was.source_checks m h s n i left) d ≡ by_fault stop m h n (first_bad m (geo h) a s n i left) d
  unfolding was.source_checks first_bad entry_bad source_of drive_of
  sources_alike a s i zero d = refl
  sources_alike a s i (suc left) d =
      first_append stop (was.entry_checks m h n (was.source_block s i) (old.drive_of m h (was.source_address s i))) (was.source_checks m h s n (i + 1) left) d
      ∙ ap (first stop (was.entry_checks m h n (was.source_block s i) (old.drive_of m h (was.source_address s i)))) (sources_alike a s (i + 1) left d)
      ∙ entry i (was.source_block s i) (old.drive_of m h (was.source_address s i)) (first_bad m (geo h) a s n (i + 1) left) d

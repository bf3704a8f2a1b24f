-- `list_entries::first_bad` meets its contract. The outer loop's invariant: the entries left decide; the inner one's: none of the drives passed has
-- the entry's address.
use mathlib.Core.Path.{◌≡◌, sym, ap, ◌∙◌}
use Prim.Native.Nat.{ℕ, ◌<◌, ◌-◌, ◌+◌}
use mathlib.Core.List.{List}
use Rattle.geometry.specs.declared.Geometry.{Geometry}
use Rattle.command.specs.declared.Source.{Source}
use Rattle.command.specs.Command.{source_of}
use native.Mathlib.Omega.{arith}
use lib.Dec.{eqb}
use borrow.Author.Rules.{rules}
use Rattle.std.specs.Prelude.{true, Some, None, Ok, Err}
use Rattle.folds.specs.Least.{least_below}
use Rattle.folds.proofs.Least.{least_start, least_more, least_stop, least_done}
use Rattle.drives.specs.declared.Came.{Came}
use Rattle.drives.specs.Table.{address_of, drive_of}
use Rattle.meaning.specs.declared.Fault.TheVariants.{Absent, Failed, Beyond}
use Rattle.meaning.specs.Sources.{Vetted, drive_bad, or_next, first_bad}
use Rattle.list_entries.specs.Turns.{all_left, bad_end, bad_at, bad_absent, bad_failed, bad_beyond, bad_clear}
use Rattle.list_entries.proofs.first_bad.Goals as goal

-- the fault of entry i, by what drive k says, where the inner search has found the entry's address
module _ (m : List ℕ) (g : Geometry) (a : Came) (s : List ℕ) (count n i k : ℕ) (y : Source) (own : ℕ) where
  hit : (x : Vetted) → i < n → y ≡ source_of s i → k < g.d → least_below k (λ j. eqb (address_of m g j) y.address.0) ≡ None
      → own ≡ address_of m g k → eqb own y.address.0 ≡ true → first_bad m g a s count 0 n ≡ first_bad m g a s count i (n - i)
      → drive_bad m g count i y.block.0 (Some k) ≡ x
      → first_bad m g a s count 0 n ≡ or_next x (first_bad m g a s count (i + 1) (n - (i + 1)))
  unfolding drive_of
  hit x l e in_table none o same so_far q =
      so_far ∙ bad_at m g a s count i n y (Some k) x l e (sym (least_stop _ _ k in_table none (ap (λ (z : ℕ). eqb z y.address.0) (sym o) ∙ same))) q

pub entries-init : goal.entries-init
entries-init c = (omega arith, λ a. ap (first_bad _ _ a _ _ 0) (all_left _))

pub loop-k-init : goal.loop-k-init
loop-k-init c = (omega arith, least_start _)

pub loop-k-preserved : goal.loop-k-preserved
loop-k-preserved c =
    (omega arith, least_more _ _ c.loop-k.invariant.1 (ap (λ (z : ℕ). eqb z c.read-source.result.address.0) (sym c.address.ensures.0) ∙ sym c.eq.ensures ∙ c.if-eq.false))

pub entries-preserved : goal.entries-preserved
entries-preserved c = (
  search rules,
  λ a. hit _ _ a _ _ _ _ _ _ _ (Ok tt) (search rules) c.read-source.ensures.0 (search rules) c.loop-k.invariant.1 c.address.ensures.0 (sym c.eq.ensures ∙ c.if-eq.true)
      (c.entries.invariant.1 a)
      (bad_clear _ _ _ _ _ _ (sym c.is_failed.ensures ∙ c.if-is_failed.false) c.if-blocks-source.false),
)

pub returns-then-i-n : goal.returns-then-i-n
returns-then-i-n c = sym (c.entries.invariant.1 _ ∙ bad_end _ _ _ _ _ _ _ c.if-i-n.true)

pub returns-then-k-table : goal.returns-then-k-table
unfolding drive_of
returns-then-k-table c =
    let at-entries = c.entries in
    let none = sym (least_done _ _ _ c.loop-k.invariant.1 (search rules) c.if-k-table.true) in
    sym
    (at-entries.invariant.1 _
    ∙ bad_at _ _ _ _ _ _ _ _ _ (Err (Absent _)) (search rules) c.read-source.ensures.0 none (bad_absent _ _ _ _ _))

pub returns-then-is_failed : goal.returns-then-is_failed
returns-then-is_failed c =
    sym
    (hit _ _ _ _ _ _ _ _ _ _ (Err (Failed _ _)) (search rules) c.read-source.ensures.0 (search rules) c.loop-k.invariant.1 c.address.ensures.0 (sym c.eq.ensures ∙ c.if-eq.true)
    (c.entries.invariant.1 _) (bad_failed _ _ _ _ _ _ (sym c.is_failed.ensures ∙ c.if-is_failed.true)))

pub returns-then-blocks-source : goal.returns-then-blocks-source
returns-then-blocks-source c =
    sym
    (hit _ _ _ _ _ _ _ _ _ _ (Err (Beyond _)) (search rules) c.read-source.ensures.0 (search rules) c.loop-k.invariant.1 c.address.ensures.0 (sym c.eq.ensures ∙ c.if-eq.true)
    (c.entries.invariant.1 _) (bad_beyond _ _ _ _ _ _ (sym c.is_failed.ensures ∙ c.if-is_failed.false) c.if-blocks-source.true))

-- Where no source entry fails and none is the target: what each names.
use Prim.Native.Nat.{ℕ, zero, suc, ◌+◌, ◌≤◌, ◌<◌}
use Rattle.std.proofs.Common.{arith, sym, ◌∙◌}
use Rattle.std.specs.Prelude.{List, Bool, Option, Some, None, Ok, Err}
use Rattle.std.proofs.Math.Bool.{true, false, cond}
use Rattle.std.proofs.Math.Path.{◌≡◌, refl, ap}
use Rattle.std.proofs.Math.Logic.{⊎_elim}
use Rattle.std.proofs.Math.Dec.{ltb}
use borrow.Author.Tests.{eqb-false, ltb-false}
use Rattle.folds.specs.Cases.{same}
use Rattle.folds.proofs.Least.{least_nothing}
use Rattle.geometry.specs.declared.Geometry.{Geometry}
use Rattle.drives.specs.declared.Came.{Came}
use Rattle.drives.specs.Table.{source_drive, failed}
use Rattle.drives.specs.Lookup.{drive_inside}
use Rattle.command.specs.declared.Source.{Source}
use Rattle.command.specs.Command.{source_of}
use Rattle.meaning.specs.declared.Span.{Span}
use Rattle.meaning.specs.declared.Fault.TheVariants.{Failed, Beyond}
use Rattle.meaning.specs.Sources.{Vetted, is_at, own_entry, drive_bad, entry_bad, or_next, first_bad}
use Rattle.meaning.specs.Allowed.{NamesOther}

or_clear : (x y : Vetted) → or_next x y ≡ Ok tt → (x ≡ Ok tt) × (y ≡ Ok tt)
or_clear (Ok u) y e = (refl, e)
or_clear (Err x) y e = let z : ◌≡◌ {A = ℕ} 0 1 = cc in absurd (omega arith)

module _ (m : List ℕ) (g : Geometry) (a : Came) where
  -- one source
  names_other : (x : Span) (i : ℕ) (e : Source) (f : Option ℕ) → source_drive m g a e.address.0 ≡ f → drive_bad m g x.count i e.block.0 f ≡ Ok tt
      → is_at x.drive f ≡ false → NamesOther m g a x e
  unfolding drive_bad
  names_other x i e None q c o = let z : ◌≡◌ {A = ℕ} 0 1 = cc in absurd (omega arith)
  names_other x i e (Some k) q c o = pick (failed m g k) (ltb g.b (e.block.0 + x.count)) refl refl c
    where
      pick : (u v : Bool) → failed m g k ≡ u → ltb g.b (e.block.0 + x.count) ≡ v → ◌≡◌ {A = Vetted} (cond u (Err (Failed i k)) (cond v (Err (Beyond i)) (Ok tt))) (Ok tt)
          → NamesOther m g a x e
      pick true v p r c = let z : ◌≡◌ {A = ℕ} 0 1 = cc in absurd (omega arith)
      pick false true p r c = let z : ◌≡◌ {A = ℕ} 0 1 = cc in absurd (omega arith)
      pick false false p r c =
          record {
            drive = k;
            found = q;
            range = record { drive_in = (drive_inside m g _ k q).0; range_in = ltb-false _ _ r };
            present = p;
            other = eqb-false k x.drive o;
          }

  module _ (s : List ℕ) where
    clear_at : (count i left : ℕ) → first_bad m g a s count i left ≡ Ok tt → (j : ℕ) → i ≤ j → j < i + left → entry_bad m g a s count j ≡ Ok tt
    unfolding first_bad
    clear_at count i zero e j h l = absurd (omega arith)
    clear_at count i (suc left) e j h l =
        let c = or_clear _ _ e in
        ⊎_elim (λ (q : i ≡ j). ap (entry_bad m g a s count) (sym q) ∙ c.0)
        (λ ne. clear_at count (i + 1) left c.1 j (omega arith) (omega arith))
        (same i j)

    not_own : (n t : ℕ) → own_entry m g a s n t ≡ None → (j : ℕ) → j < n → is_at t (source_drive m g a (source_of s j).address.0) ≡ false
    unfolding own_entry
    not_own n t e j l = least_nothing (λ i. is_at t (source_drive m g a (source_of s i).address.0)) n e j l

    pub entries : (x : Span) (n : ℕ) → first_bad m g a s x.count 0 n ≡ Ok tt → own_entry m g a s n x.drive ≡ None
        → (j : ℕ) → j < n → NamesOther m g a x (source_of s j)
    unfolding entry_bad
    entries x n e none j l = names_other x j (source_of s j) _ refl (clear_at x.count 0 n e j (omega arith) (omega arith)) (not_own n x.drive none j l)

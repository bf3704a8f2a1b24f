-- Source entries that name blocks of other present drives pass their checks.
use Prim.Native.Nat.{ℕ, zero, suc, ◌+◌, ◌*◌, ◌≤◌, ◌<◌}
use Rattle.std.proofs.Common.{arith, sym, subst, ◌∙◌}
use Rattle.std.specs.Prelude.{Bool, false, cond, ◌≡◌, List, length, get_or, None, Ok}
use Rattle.std.proofs.Math.Path.{refl, ap, ap₂}
use borrow.Author.Tests.{le-ltb, ne_eqb}
use Rattle.octets.specs.Octets.{Octets}
use Rattle.folds.specs.Each.{EachIs, each_at, each_implies}
use Rattle.folds.proofs.Least.{least_none}
use Rattle.geometry.specs.declared.Geometry.{Geometry}
use Rattle.geometry.specs.Places.{Range}
use Rattle.drives.specs.declared.Came.{Came}
use Rattle.drives.specs.Table.{address_of, failed}
use Rattle.drives.specs.Facts.{address_lt}
use Rattle.drives.specs.Lookup.{drive_found, drive_inside}
use Rattle.image.specs.Shelf.{Shelf, shelf_frame}
use Rattle.command.specs.declared.Source.{Source}
use Rattle.command.specs.Command.{source_of}
use Rattle.meaning.specs.declared.Span.{Span}
use Rattle.meaning.specs.Sources.{is_at, own_entry, drive_bad, entry_bad, or_next, first_bad}
use Rattle.meaning.specs.Allowed.{NamesOther, Sourced}
use Rattle.callers.specs.Lists.{source, list_of, entries_of, Fitting, list_long, list_source, list_entries}
use Rattle.callers.specs.Does.{summing}

-- ---- entries that pass

module _ (m : List ℕ) (g : Geometry) (a : Came) (x : Span) (s : List ℕ) (n : ℕ) (each : (i : ℕ) → i < n → NamesOther m g a x (source_of s i)) where
  -- none is the target
  pub no_own : own_entry m g a s n x.drive ≡ None
  unfolding own_entry
  no_own = least_none _ n (λ i l. ap (is_at x.drive) (each i l).found ∙ ne_eqb _ _ (each i l).other)

  entry_clear : (i : ℕ) → i < n → entry_bad m g a s x.count i ≡ Ok tt
  unfolding entry_bad drive_bad
  entry_clear i l =
      let e = each i l in
      ap (drive_bad m g x.count i (source_of s i).block.0) e.found
      ∙ rw (e.present, le-ltb g.b ((source_of s i).block.0 + x.count) e.range.range_in)

  clear_from : (i left : ℕ) → i + left ≤ n → first_bad m g a s x.count i left ≡ Ok tt
  unfolding first_bad
  clear_from i zero l = refl
  clear_from i (suc left) l = ap₂ or_next (entry_clear i (omega arith)) (clear_from (i + 1) left (omega arith))

  -- and none fails
  pub all_clear : first_bad m g a s x.count 0 n ≡ Ok tt
  all_clear = clear_from 0 n (omega arith)

-- ---- sources as a caller has them

-- the source e names blocks of another present drive, by an address of four bytes
pub record Names (m : List ℕ) (g : Geometry) (a : Came) (x : Span) (e : Source) : Type 0 where
  pub there : NamesOther m g a x e
  pub small : e.address.0 < 4294967296

-- an address that names a drive of an image of bytes is one
pub names_small : (m : List ℕ) (g : Geometry) → Shelf m g → Octets m → (a : Came) (x : Span) (e : Source) → NamesOther m g a x e → Names m g a x e
names_small m g h bytes a x e o =
    let i = drive_inside m g e.address.0 o.drive o.found in
    record { there = o; small = omega (arith, address_lt m g (shelf_frame m g h) bytes o.drive i.0, i.1) }

-- drive e's blocks from block b on, as a source
abbrev pub source_at : List ℕ → Geometry → ℕ → ℕ → Source
source_at m g b e = source (address_of m g e) b

-- it names them where the image is made of bytes
pub names_drive : (m : List ℕ) (g : Geometry) → Shelf m g → Octets m → (a : Came) (x : Span) (b e : ℕ) → Range g e b x.count → failed m g e ≡ false
    → (e ≡ x.drive → ⊥)
    → Names m g a x (source_at m g b e)
names_drive m g h o a x b e r up other =
    names_small m g h o a x (source_at m g b e) (record { drive = e; found = drive_found m g h.table_fine e r.drive_in; range = r; present = up; other = other })

module _ (m : List ℕ) (g : Geometry) (h : Shelf m g) (a : Came) (x : Span) (b : ℕ) (es : List Source) (d : List ℕ)
    (each : EachIs (Names m g a x) es) where
  names : (i : ℕ) → i < length es → Names m g a x (get_or es i (source 0 0))
  names = each_at (Names m g a x) es (source 0 0) each

  fits : (e : Source) → Names m g a x e → Fitting e
  fits e n = record { address_small = n.small; block_small = omega (arith, n.there.range.range_in, (shelf_frame m g h).placed.ranges.b_high) }

  -- what the step reads is what was written
  read_as : (i : ℕ) → i < length es → source_of (list_of b es d) i ≡ get_or es i (source 0 0)
  read_as i l = list_source b es d i l (fits (get_or es i (source 0 0)) (names i l))

  pub read_all : entries_of (list_of b es d) ≡ es
  read_all = list_entries b es d (each_implies (Names m g a x) Fitting fits es each)

  -- the sources of a list that was written so
  pub list_sourced : (int : Bool) → 1 ≤ length es → length d ≡ cond int (x.count * g.l) 0 → Sourced m g x (summing a int) (list_of b es d)
  list_sourced int one long =
      record {
        some_source = one;
        exact = omega (arith, list_long b es d);
        each = λ i l. subst (NamesOther m g a x) (sym (read_as i l)) (names i l).there;
      }

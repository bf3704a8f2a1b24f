-- The source entries of a parameter list, against the image (01, checks 7 and 10).
use Rattle.std.specs.Prelude.{ℕ, zero, suc, ◌+◌, List, Bool, false, cond, ltb, eqb, Option, Some, None, Result, Ok, Err}
use Rattle.folds.specs.Least.{least_below}
use Rattle.geometry.specs.declared.Geometry.{Geometry}
use Rattle.drives.specs.declared.Came.{Came}
use Rattle.drives.specs.Table.{source_drive, failed}
use Rattle.command.specs.Command.{source_of}
use Rattle.meaning.specs.declared.Fault.{Fault}
use Rattle.meaning.specs.declared.Fault.TheVariants.{Absent, Failed, Beyond}

-- the lookup gives drive t
abbrev pub is_at : ℕ → Option ℕ → Bool
is_at t (Some i) = eqb i t
is_at t None = false

-- the first of n entries of the list s that is drive t
unfoldable pub own_entry : List ℕ → Geometry → Came → List ℕ → ℕ → ℕ → Option ℕ
own_entry m g a s n t = least_below n (λ i. is_at t (source_drive m g a (source_of s i).address.0))

-- what source entries come to: no fault, or the fault that decides
abbrev pub Vetted : Type 0
Vetted = Result (Unit {0}) Fault

-- "for one entry, address, then failed drive, then range": of count blocks from block b on
unfoldable pub drive_bad : List ℕ → Geometry → ℕ → ℕ → ℕ → Option ℕ → Vetted
drive_bad m g count i b None = Err (Absent i)
drive_bad m g count i b (Some d) = cond (failed m g d) (Err (Failed i d)) (cond (ltb g.b (b + count)) (Err (Beyond i)) (Ok tt))

unfoldable pub entry_bad : List ℕ → Geometry → Came → List ℕ → ℕ → ℕ → Vetted
entry_bad m g a s count i = drive_bad m g count i (source_of s i).block.0 (source_drive m g a (source_of s i).address.0)

-- the fault, or where there is none the next
abbrev pub or_next : Vetted → Vetted → Vetted
or_next (Ok u) f = f
or_next (Err x) f = Err x

-- "the first source entry in list order that fails decides", of the entries left from entry i on
unfoldable pub first_bad : List ℕ → Geometry → Came → List ℕ → ℕ → ℕ → ℕ → Vetted
first_bad m g a s count i zero = Ok tt
first_bad m g a s count i (suc left) = or_next (entry_bad m g a s count i) (first_bad m g a s count (i + 1) left)

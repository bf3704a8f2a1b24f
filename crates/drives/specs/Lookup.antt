-- Which drive an address names.
use Rattle.std.specs.Prelude.{ℕ, ◌≤◌, ◌<◌, List, true, ◌≡◌, refl, Some, None}
use Rattle.std.proofs.Common.{arith}
use borrow.Author.Tests.{eqb-true, eqb-false, eq-eqb, ne_eqb}
use Rattle.octets.specs.Octets.{Octets}
use Rattle.folds.proofs.Least.{least_only, least_inside, least_nothing, least_none}
use Rattle.geometry.specs.declared.Geometry.{Geometry}
use Rattle.geometry.specs.Frame.{Framed}
use Rattle.drives.specs.Table.{address_of, table_ok, drive_of}
use Rattle.drives.specs.Facts.{addresses_differ, address_lt}

module _ (s : List ℕ) (g : Geometry) where
  -- a drive's own address names it
  pub drive_found : table_ok s g ≡ true → (i : ℕ) → i < g.d → drive_of s g (address_of s g i) ≡ Some i
  unfolding drive_of
  drive_found ok i l =
      least_only _ g.d i l (eq-eqb (address_of s g i) (address_of s g i) refl)
      (λ j lj ne. ne_eqb _ _ (λ q. ne (addresses_differ s g ok j i lj l q)))

  -- what is found is a drive with the address
  pub drive_inside : (a i : ℕ) → drive_of s g a ≡ Some i → (i < g.d) × (address_of s g i ≡ a)
  unfolding drive_of
  drive_inside a i e = let r = least_inside _ g.d i e in (r.0, eqb-true _ _ r.1)

  -- nothing is found: no drive has the address
  pub drive_nothing : (a : ℕ) → drive_of s g a ≡ None → (i : ℕ) → i < g.d → address_of s g i ≡ a → ⊥
  unfolding drive_of
  drive_nothing a e i l = eqb-false _ _ (least_nothing _ g.d e i l)

  -- no drive has the address: nothing is found
  pub drive_absent : (a : ℕ) → ((i : ℕ) → i < g.d → address_of s g i ≡ a → ⊥) → drive_of s g a ≡ None
  unfolding drive_of
  drive_absent a h = least_none _ g.d (λ i l. ne_eqb _ _ (h i l))

  -- "A source address above FFFFFFh is not in the table."
  pub drive_high : Framed s g → Octets s → (a : ℕ) → 16777216 ≤ a → drive_of s g a ≡ None
  drive_high f o a h = drive_absent a (λ i l e. omega (arith, address_lt s g f o i l))

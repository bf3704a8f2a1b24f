-- What the tests of the table say.
use Rattle.std.specs.Prelude.{ℕ, ◌+◌, ◌<◌, List, true, ◌≡◌}
use Rattle.std.proofs.Common.{arith, sym, ⊎_elim}
use Rattle.std.proofs.lemmas.Bool.{eqb-false, not-true}
use Rattle.octets.specs.Octets.{Octets}
use Rattle.octets.specs.Number.{be_lt}
use Rattle.folds.specs.Cases.{same, apart}
use Rattle.folds.specs.Every.{every, holds}
use Rattle.folds.specs.All.{all_at}
use Rattle.rules.specs.Must.{tests_of}
use Rattle.geometry.specs.declared.Geometry.{Geometry}
use Rattle.geometry.specs.Header.{entry_at}
use Rattle.geometry.specs.Frame.{Framed}
use Rattle.drives.specs.Table.{address_of, entry_musts, table_ok}

module _ (s : List ℕ) (g : Geometry) where
  pub entry_ok : table_ok s g ≡ true → (i : ℕ) → i < g.d → every (tests_of (entry_musts s g i)) ≡ true
  unfolding table_ok
  entry_ok ok i l = all_at _ g.d i ok l

  earlier_differs : table_ok s g ≡ true → (i j : ℕ) → i < g.d → j < i → address_of s g j ≡ address_of s g i → ⊥
  earlier_differs ok i j li l = eqb-false _ _ (not-true _ (all_at _ i j (holds _ 1 (entry_ok ok i li)) l))

  -- "Addresses differ.": drives with one address are one drive
  pub addresses_differ : table_ok s g ≡ true → (i j : ℕ) → i < g.d → j < g.d → address_of s g i ≡ address_of s g j → i ≡ j
  addresses_differ ok i j li lj q =
      ⊎_elim (λ e. e)
      (λ ne. ⊎_elim (λ l. absurd (earlier_differs ok j i lj l q)) (λ l. absurd (earlier_differs ok i j li l (sym q))) (apart i j ne))
      (same i j)

  -- an address is three bytes
  pub address_lt : Framed s g → Octets s → (i : ℕ) → i < g.d → address_of s g i < 16777216
  address_lt f o i l = be_lt 3 s (entry_at g i + 1) (omega arith) o

-- How long the XOR of the sources and the intermediate data is.
use Prim.Native.Nat.{ℕ, zero, suc, ◌+◌, ◌*◌, ◌≤◌, ◌<◌}
use Rattle.std.proofs.Common.{arith, length-append}
use Rattle.std.specs.Prelude.{◌≡◌, Bool, true, false, cond, List, [], ◌∷◌, ◌++◌, length, get_or}
use Rattle.std.proofs.Math.Path.{refl, ap}
use Rattle.octets.specs.Part.{part, length_part}
use Rattle.octets.specs.Operands.{xor_all, Long, length_xor_all_some}
use Rattle.folds.specs.Each.{each_append}
use Rattle.geometry.specs.declared.Geometry.{Geometry}
use Rattle.geometry.specs.Frame.{Framed}
use Rattle.geometry.specs.Places.{range_long}
use Rattle.drives.specs.declared.Came.{Came}
use Rattle.command.specs.Command.{source_of}
use Rattle.meaning.specs.declared.Span.{Span}
use Rattle.meaning.specs.declared.Summing.{Summing}
use Rattle.meaning.specs.Acts.{home_of, source_blocks, sources_from, int_data, gathered}
use Rattle.meaning.specs.Allowed.{Sourced}
use Rattle.meaning.specs.Lengths.{home_range, int_exact}

module _ (s : List ℕ) (g : Geometry) (a : Came) (sent : List ℕ) (count : ℕ) where
  length_sources : (i left : ℕ) → length (sources_from s g a sent count i left) ≡ left
  unfolding sources_from
  length_sources i zero = refl
  length_sources i (suc left) = ap suc (length_sources (i + 1) left)

  long_sources : (i left : ℕ) → ((e : ℕ) → e < i + left → length (source_blocks s g a sent count e) ≡ count * g.l) → Long (count * g.l) (sources_from s g a sent count i left)
  unfolding sources_from
  long_sources i zero h = tt
  long_sources i (suc left) h = (h i (omega arith), long_sources (i + 1) left (λ e l. h e (omega arith)))

  long_int : (at : ℕ) (int : Bool) → (int ≡ true → length sent ≡ at + count * g.l) → Long (count * g.l) (cond int (part sent at (count * g.l) ∷ []) [])
  long_int at false h = tt
  long_int at true h = (length_part sent at (count * g.l) (let e = h refl in omega arith), tt)

  -- it is as long as each operand
  operands_long : (n : ℕ) (int : Bool) → 1 ≤ n → ((e : ℕ) → e < n → length (source_blocks s g a sent count e) ≡ count * g.l)
      → (int ≡ true → length sent ≡ 8 + 8 * n + count * g.l)
      → length (xor_all (sources_from s g a sent count 0 n ++ int_data g sent count n int)) ≡ count * g.l
  operands_long n int some each exact =
      let xs = sources_from s g a sent count 0 n in
      let ys = int_data g sent count n int in
      length_xor_all_some (count * g.l) (xs ++ ys) (omega (arith, length-append xs ys, length_sources 0 n))
      (each_append (λ (x : List ℕ). length x ≡ count * g.l) xs ys (long_sources 0 n (λ e l. each e (omega arith))) (long_int (8 + 8 * n) int exact))

pub gathered_long : (s : List ℕ) (g : Geometry) (sent : List ℕ) (count : ℕ) (j : Summing) → 1 ≤ get_or sent 0 0
    → ((e : ℕ) → e < get_or sent 0 0 → length (source_blocks s g j.came sent count e) ≡ count * g.l)
    → (j.int ≡ true → length sent ≡ 8 + 8 * get_or sent 0 0 + count * g.l) → length (gathered s g sent count j) ≡ count * g.l
unfolding gathered
gathered_long s g sent count j = operands_long s g j.came sent count (get_or sent 0 0) j.int

module _ (s : List ℕ) (g : Geometry) (x : Span) (j : Summing) (sent : List ℕ) (f : Framed s g) (h : Sourced s g x j sent) where
  length_source : (i : ℕ) → i < get_or sent 0 0 → length (source_blocks s g j.came sent x.count i) ≡ x.count * g.l
  length_source i l =
      let e = source_of sent i in
      range_long s g (home_of s g j.came e) e.block.0 x.count f (home_range s g j.came x e (h.each i l))

  pub length_gathered : length (gathered s g sent x.count j) ≡ x.count * g.l
  length_gathered = gathered_long s g sent x.count j h.some_source length_source (int_exact s g x j sent f h)

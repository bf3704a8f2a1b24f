-- How the code goes on from piece to piece: what is written where the XOR goes leaves every operand, and what says where it lies.
use Prim.Native.Nat.{ℕ, zero, suc, ◌+◌, ◌≤◌}
use Rattle.std.proofs.Common.{arith, ◌∙◌, inl, inr, ⊎_elim}
use Rattle.std.specs.Prelude.{◌≡◌, length, get_or, Option, Some, None}
use Rattle.std.proofs.Math.Path.{refl, sym, ap, ap₂}
use mathlib.Core.List.{List, ◌∷◌, ◌++◌}
use Rattle.octets.specs.Part.{part, Apart}
use Rattle.octets.specs.Put.{put, length_put}
use Rattle.octets.specs.PutPut.{part_put_apart}
use Rattle.octets.specs.Xor.{◌⊻◌}
use Rattle.octets.specs.Operands.{xor_all}
use Rattle.folds.specs.Least.{index}
use Rattle.geometry.specs.declared.Geometry.{Geometry}
use Rattle.geometry.specs.Header.{place}
use Rattle.geometry.specs.Frame.{framed_same}
use Rattle.drives.specs.Front.{front_put, drive_same}
use Rattle.command.specs.declared.Source.{Source}
use Rattle.command.specs.Command.{source_of}
use Rattle.meaning.specs.Acts.{home_of, start_of, sources_from, int_data, gathered}
use Rattle.gather.specs.declared.Job.{Job}
use Rattle.gather.specs.Job.{size, own_blocks, summed, Ready}
use Rattle.gather.specs.Pieces.{entries_from, AllKnown}

module _ (s : List ℕ) (g : Geometry) (sent : List ℕ) (j : Job) (r : Ready s g sent j) (ys : List ℕ) (short : length ys ≤ size g j) where
  abbrev after : List ℕ
  after = put s j.to ys

  home_kept : (x : Source) → home_of after g j.sum.came x ≡ home_of s g j.sum.came x
  home_kept x = ap index (drive_same after s g r.readable.listed.frame.placed (front_put s g j.to ys r.past_table) x.address.0)

  start_kept : (x : Source) → start_of after g j.sum.came x ≡ start_of s g j.sum.came x
  start_kept x = ap (λ (d : ℕ). place g d x.block.0) (home_kept x)

  part_kept : (a : ℕ) → Apart a j.to (size g j) → part after a (size g j) ≡ part s a (size g j)
  part_kept a w = part_put_apart s j.to ys a (size g j) (⊎_elim (λ l. inl l) (λ l. inr (omega arith)) w)

  entries_kept : (i left : ℕ) → i + left ≤ j.sources → entries_from after g sent j i left ≡ entries_from s g sent j i left
  unfolding sources_from
  entries_kept i zero m = refl
  entries_kept i (suc left) m =
      ap₂ (λ (x : List ℕ) (xs : List (List ℕ)). x ∷ xs)
      (ap (λ (a : ℕ). part after a (size g j)) (start_kept (source_of sent i)) ∙ part_kept (start_of s g j.sum.came (source_of sent i)) (r.apart i (omega arith)))
      (entries_kept (i + 1) left (omega arith))

  own_kept : (own : Option ℕ) → ((from : ℕ) → own ≡ Some from → Apart from j.to (size g j)) → own_blocks after own (size g j) ≡ own_blocks s own (size g j)
  own_kept (Some from) w = part_kept from (w from refl)
  own_kept None w = refl

  pub summed_kept : summed after g sent j ≡ summed s g sent j
  unfolding summed gathered
  summed_kept =
      ap₂ (λ (x : List ℕ) (xs : List (List ℕ)). x ⊻ xor_all (xs ++ int_data g sent j.count (get_or sent 0 0) j.sum.int)) (own_kept j.own r.own_apart)
      (entries_kept 0 (get_or sent 0 0) (omega (arith, r.readable.counted)))

  pub fits : Ready after g sent j
  fits =
      let l : length after ≡ length s = length_put s j.to ys in
      let start : (i : ℕ) → start_of after g j.sum.came (source_of sent i) ≡ start_of s g j.sum.came (source_of sent i) = (λ i. start_kept (source_of sent i)) in
      let listed = r.readable.listed in
      record {
        readable = record {
          listed = record {
            frame = framed_same s after g listed.frame l;
            few = listed.few;
            long = listed.long;
            each = λ i k. record { drive_in = rw (home_kept (source_of sent i)) (listed.each i k).drive_in; block_in = (listed.each i k).block_in };
          };
          counted = r.readable.counted;
          some_source = r.readable.some_source;
          exact = r.readable.exact;
          own_in = λ from q. omega (arith, r.readable.own_in from q);
          inside = λ i k. rw (start i) (omega (arith, r.readable.inside i k));
        };
        past_table = r.past_table;
        to_in = omega (arith, r.to_in);
        own_apart = r.own_apart;
        apart = λ i k. rw (start i) (r.apart i k);
      }

  pub known_kept : (places : List ℕ) → AllKnown s g sent j places → AllKnown after g sent j places
  known_kept places f = record { all = f.all; source = λ i k. f.source i k ∙ sym (start_kept (source_of sent i)); own = f.own }

-- what is yet to be written stays
pub ahead : (s : List ℕ) (g : Geometry) (sent : List ℕ) (j : Job) (r : Ready s g sent j) (ys : List ℕ) (o k : ℕ) → length ys ≤ o → o + k ≤ size g j
    → part (summed (put s j.to ys) g sent j) o k ≡ part (summed s g sent j) o k
ahead s g sent j r ys o k l h = ap (λ (x : List ℕ). part x o k) (summed_kept s g sent j r ys (omega arith))

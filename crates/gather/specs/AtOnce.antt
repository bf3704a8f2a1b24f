-- The faster path: the XOR at the places that were found is the XOR of what lies in the image.
use Prim.Native.Nat.{ℕ, zero, suc, ◌+◌, ◌≤◌, ◌<◌}
use Rattle.std.proofs.Common.{zero-add, arith, ap, ◌∙◌, ⊎_elim, length-set, get_or-set_same, get_or-set_other, get_or-take, length-take-le, length-append, length-drop}
use Rattle.std.proofs.lemmas.List.{get_or_append_left}
use Rattle.std.specs.Prelude.{◌≡◌, length, get_or, set, take, drop, Option, Some, None}
use Rattle.std.proofs.Math.Path.{refl, sym, ap₂}
use mathlib.Core.List.{List, ◌∷◌, ◌++◌}
use Rattle.folds.specs.Cases.{order}
use Rattle.octets.specs.Part.{part, part_part}
use Rattle.octets.specs.Xor.{◌⊻◌, nil_xor, xor_commutes, part_xor}
use Rattle.octets.specs.Operands.{xor_all, xor_all_one, xor_all_append, parts_of, part_xor_all}
use Rattle.geometry.specs.declared.Geometry.{Geometry}
use Rattle.command.specs.Command.{source_of}
use Rattle.meaning.specs.Acts.{start_of, sources_from}
use Rattle.passes.specs.Parts.{parts_from, parts_at, Within}
use Rattle.passes.specs.Steps.{parts_add}
use Rattle.gather.specs.declared.Job.{Job}
use Rattle.gather.specs.Job.{size, own_blocks, Readable}
use Rattle.gather.specs.Pieces.{entries_from, in_image, own_count, AllKnown}
use Rattle.gather.specs.Starts.{starts_over, length_starts, start_is}

-- ---- what the code finds

module _ (s : List ℕ) (g : Geometry) (sent : List ℕ) (j : Job) (xs ys : List ℕ) (room : j.sources < length xs)
    (starts : ys ≡ starts_over s g j.sum.came sent (take j.sources xs) j.sources) where
  -- the sources' places, and whatever stood behind them
  abbrev pub written : List ℕ
  written = ys ++ drop j.sources xs

  long : length ys ≡ j.sources
  long = ap length starts ∙ length_starts s g j.sum.came sent (take j.sources xs) j.sources ∙ length-take-le j.sources xs (omega arith)

  pub written_long : length written ≡ length xs
  written_long = simp (length-append, length-drop) (omega (arith, long))

  source_at : (i : ℕ) → i < j.sources → get_or written i 0 ≡ start_of s g j.sum.came (source_of sent i)
  source_at i l =
      get_or_append_left ys (drop j.sources xs) 0 i (omega (arith, long))
      ∙ ap (λ (zs : List ℕ). get_or zs i 0) starts
      ∙ start_is s g j.sum.came sent (take j.sources xs) j.sources i (omega (arith, length-take-le j.sources xs)) l

  -- the target's own blocks are no operand
  pub known_none : j.own ≡ None → AllKnown s g sent j (take j.sources written)
  known_none e =
      let plus : j.sources ≡ j.sources + 0 = omega arith in
      record {
        all = length-take-le j.sources written (omega (arith, written_long)) ∙ plus ∙ ap (λ (o : Option ℕ). j.sources + own_count o) (sym e);
        source = λ i l. get_or-take j.sources written i 0 l ∙ source_at i l;
        own = λ from q. (let none : None ≡ Some from = sym e ∙ q in (cc));
      }

  -- they are one more
  pub known_some : (from : ℕ) → j.own ≡ Some from → AllKnown s g sent j (take (j.sources + 1) (set written j.sources from))
  known_some from e =
      let over = set written j.sources from in
      let many : length over ≡ length written = length-set written j.sources from in
      record {
        all = length-take-le (j.sources + 1) over (omega (arith, written_long)) ∙ ap (λ (o : Option ℕ). j.sources + own_count o) (sym e);
        source = λ i l.
            get_or-take (j.sources + 1) over i 0 (omega arith)
            ∙ get_or-set_other written j.sources i from 0 (λ (q : i ≡ j.sources). omega arith)
            ∙ source_at i l;
        own = λ x q.
            (let same : Some from ≡ Some x = sym e ∙ q in
            get_or-take (j.sources + 1) over j.sources 0 (omega arith) ∙ get_or-set_same written j.sources from 0 (omega (arith, written_long)) ∙ (cc));
      }

-- ---- what they come to

module _ (s : List ℕ) (g : Geometry) (sent : List ℕ) (j : Job) (r : Readable s g sent j) (places : List ℕ) (f : AllKnown s g sent j places) (o k : ℕ) (h : o + k ≤ size g j) where
  pub known_within : Within s places (o + k)
  known_within i l = by j.own refl
    where
      by : (own : Option ℕ) → j.own ≡ own → get_or places i 0 + (o + k) ≤ length s
      by (Some from) e =
          let n : length places ≡ j.sources + 1 = f.all ∙ ap (λ (b : Option ℕ). j.sources + own_count b) e in
          ⊎_elim
          (λ (m : i < j.sources). omega (arith, f.source i m, r.inside i m))
          (λ (m : j.sources ≤ i). (let q : i ≡ j.sources = omega arith in omega (arith, ap (λ (x : ℕ). get_or places x 0) q, f.own from e, r.own_in from e)))
          (order i j.sources)
      by None e =
          let n : length places ≡ j.sources + 0 = f.all ∙ ap (λ (b : Option ℕ). j.sources + own_count b) e in
          omega (arith, f.source i (omega arith), r.inside i (omega arith))

  entries_at : (i left : ℕ) → i + left ≤ j.sources → parts_from s places o k i left ≡ parts_of o k (entries_from s g sent j i left)
  unfolding parts_from sources_from parts_of
  entries_at i zero m = refl
  entries_at i (suc left) m =
      ap₂ (λ (x : List ℕ) (xs : List (List ℕ)). x ∷ xs)
      (ap (λ (p : ℕ). part s (p + o) k) (f.source i (omega arith)) ∙ sym (part_part s (start_of s g j.sum.came (source_of sent i)) (size g j) o k h))
      (entries_at (i + 1) left (omega arith))

  all_entries : xor_all (parts_from s places o k 0 j.sources) ≡ part (xor_all (entries_from s g sent j 0 j.sources)) o k
  all_entries = ap xor_all (entries_at 0 j.sources (omega arith)) ∙ sym (part_xor_all (entries_from s g sent j 0 j.sources) o k)

  pub at_once : xor_all (parts_at s places o k) ≡ part (in_image s g sent j) o k
  unfolding in_image parts_from
  at_once = by j.own refl
    where
      v : List ℕ
      v = xor_all (entries_from s g sent j 0 j.sources)

      by : (own : Option ℕ) → j.own ≡ own → xor_all (parts_at s places o k) ≡ part (own_blocks s own (size g j) ⊻ v) o k
      by (Some from) e =
          let n : length places ≡ j.sources + 1 = f.all ∙ ap (λ (b : Option ℕ). j.sources + own_count b) e in
          let z : 0 + j.sources ≡ j.sources = zero-add j.sources in
          let own = part s from (size g j) in
          ap (λ (m : ℕ). xor_all (parts_from s places o k 0 m)) n
          ∙ ap xor_all (parts_add s places o k 0 j.sources 1)
          ∙ xor_all_append (parts_from s places o k 0 j.sources) (parts_from s places o k (0 + j.sources) 1)
          ∙ ap₂ (λ (x y : List ℕ). x ⊻ y) all_entries
          (xor_all_one (part s (get_or places (0 + j.sources) 0 + o) k)
          ∙ ap (λ (i : ℕ). part s (get_or places i 0 + o) k) z
          ∙ ap (λ (p : ℕ). part s (p + o) k) (f.own from e)
          ∙ sym (part_part s from (size g j) o k h))
          ∙ xor_commutes (part v o k) (part own o k)
          ∙ sym (part_xor own v o k)
      by None e =
          let n : length places ≡ j.sources + 0 = f.all ∙ ap (λ (b : Option ℕ). j.sources + own_count b) e in
          let q : length places ≡ j.sources = omega arith in
          ap (λ (m : ℕ). xor_all (parts_from s places o k 0 m)) q ∙ all_entries ∙ ap (λ (x : List ℕ). part x o k) (sym (nil_xor v))

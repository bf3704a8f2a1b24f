-- What a chain over `0..n` finds and counts, in the words of this crate.
use Prim.Native.Nat.{ℕ, zero, suc}
use denote.Param.Members.{Mut}
use denote.Ref.{Bor}
use Rattle.std.specs.Prelude.{Bool, cond, ◌≡◌, Option, Some, None, List, [], ◌∷◌, ◌++◌, length, refl}
use Rattle.std.specs.List.{range_with_len, find, filter, count_by}
use Rattle.std.specs.Option.{option_or}
use Rattle.std.proofs.Common.{sym, ap, ◌∙◌, add-one, arith}
use mathlib.Core.List.{map-id}
use Rattle.std.proofs.lemmas.List.FromFn.{map-range_with_len_more}
use Rattle.std.proofs.lemmas.List.Folds.{find-append}
use Rattle.std.proofs.lemmas.List.Sums.{length-filter, sum_by-append}
use Rattle.std.specs.declared.ops.Range.{Range}
use Rattle.std.specs.declared.iter.Filter.{Filter}
use Rattle.std.specs.Fn.{CalledAt}
use Rattle.std.specs.Iterator.{FindsItem, Drains}
use Rattle.std.specs.Iterator.Adapters.{filter_source, filter_callee, filter_steps}
use Rattle.std.proofs.iter.Yields.{nat_range_steps}
use Rattle.std.proofs.lemmas.Iterator.{YieldsList-from_range}
use Rattle.std.proofs.lemmas.Iterator.Consumers.{count_from_yields_List, YieldsList-from_filter}
use Rattle.std.proofs.lemmas.Iterator.Search.{find_from_yields_List}
use Rattle.std.proofs.lemmas.Iterator.Adapters.{option_map_id}
use Rattle.folds.specs.Least.{or_else, least_below}
use Rattle.folds.specs.Count.{count_below}

-- one number more, at the end
range_more : (n : ℕ) → range_with_len 0 (suc n) ≡ range_with_len 0 n ++ n ∷ []
range_more n =
    ap (range_with_len 0) (sym (add-one n)) ∙ sym (map-id _) ∙ map-range_with_len_more (λ k. k) 0 n n (omega arith) ∙ ap (λ xs. xs ++ n ∷ []) (map-id _)

one_more : (o : Option ℕ) (b : Bool) (n : ℕ) → option_or o (cond b (Some n) None) ≡ or_else o (cond b (Some n) None)
one_more (Some k) b n = refl
one_more None b n = refl

find_range : (p : ℕ → Bool) (n : ℕ) → find p (range_with_len 0 n) ≡ least_below n p
unfolding least_below
find_range p zero = refl
find_range p (suc n) =
    ap (find p) (range_more n) ∙ find-append p (range_with_len 0 n) (n ∷ []) ∙ one_more _ (p n) n
    ∙ ap (λ o. or_else o (cond (p n) (Some n) None)) (find_range p n)

counted : (p : ℕ → Bool) (n : ℕ) → count_by p (range_with_len 0 n) ≡ count_below n p
unfolding count_below
counted p zero = refl
counted p (suc n) =
    ap (count_by p) (range_more n)
    ∙ omega (arith, sum_by-append (λ x. cond (p x) 1 0) (range_with_len 0 n) (n ∷ []), counted p n)

count_range : (p : ℕ → Bool) (n : ℕ) → length (filter p (range_with_len 0 n)) ≡ count_below n p
count_range p n = length-filter p (range_with_len 0 n) ∙ counted p n

-- each call of f computes p, and leaves f as it was
abbrev pub Computes : {F : Type 0} → Mut F (Bor ℕ × Unit {0}) Bool → F → (ℕ → Bool) → Type 0
Computes {F} g f p = (x : ℕ) (b : Bool) (q : F) → CalledAt g f x b q → (q ≡ f) × (b ≡ p x)

-- `(0..n).find(f)` and `(0..n).filter(f).count()`, where f computes p
module _ (p : ℕ → Bool) (n : ℕ) {F : Type 0} {g : Mut F (Bor ℕ × Unit {0}) Bool} {f : F} where
  pub found_below : (s u : Range ℕ) (r : Option ℕ) → FindsItem nat_range_steps g s f r u → s ≡ record { start = 0; end = n } → Computes g f p
      → r ≡ least_below n p
  found_below s u r ran e computes =
      sym (option_map_id r) ∙ find_from_yields_List p u f r ran (YieldsList-from_range 0 n n e (omega arith)) computes ∙ find_range p n

  pub counted_below : (s : Filter (Range ℕ) F) (r : ℕ) → ((xs : List ℕ) × Drains (filter_steps nat_range_steps g) s xs × (r ≡ length xs))
      → filter_source s ≡ record { start = 0; end = n }
      → filter_callee s ≡ f → Computes g f p
      → r ≡ count_below n p
  counted_below s r ran e at computes =
      count_from_yields_List s r ran (YieldsList-from_filter g p (YieldsList-from_range 0 n n e (omega arith)) at computes) ∙ count_range p n

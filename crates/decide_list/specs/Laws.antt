-- Where the tests of a stage have passed, and what a search has found, or nothing.
use Rattle.std.specs.Prelude.{ℕ, ◌+◌, ◌≤◌, Bool, false, List, ◌≡◌, Option, Some, None}
use Rattle.std.proofs.Common.{◌∙◌}
use borrow.Author.Tests.{eq-eqb, ne_eqb, le-ltb}
use Rattle.geometry.specs.declared.Geometry.{Geometry}
use Rattle.sense.specs.declared.Answer.TheVariants.{Good, Busy, BadList}
use Rattle.command.specs.declared.Command.{Command}
use Rattle.command.specs.Command.{list_sec_of, own_of, resolved_of, list_bytes}
use Rattle.meaning.specs.declared.Span.{Span}
use Rattle.meaning.specs.declared.Summing.{Summing}
use Rattle.meaning.specs.declared.Act.TheVariants.{Rebuild, Regenerate}
use Rattle.meaning.specs.declared.Seen.TheVariants.{Dash, Cdb, Entry}
use Rattle.meaning.specs.Decision.{stop, go}
use Rattle.meaning.specs.Sources.{first_bad}
use Rattle.meaning.specs.Checks.{span_of, sum_of}
use Rattle.decide_list.specs.Stages.{fault_or, rebuilt_of, gathered_of, regenerated_of, placed_of, length_of, owned_of, headed_of, list_sized_of, counted_of, fields_of, unbounded, rebuild_of}

module _ (m : List ℕ) (g : Geometry) (t : ℕ) (k : Command) (s : List ℕ) where
  -- ---- where the tests have passed

  pub rebuild_on : (long : Bool) → long ≡ unbounded k → fields_of false long m g t k s ≡ rebuild_of m g t k s
  unfolding rebuild_of
  rebuild_on long e = rw e

  pub fields_on : (keep long : Bool) (sec due : ℕ) → sec ≡ list_sec_of k → (sec ≡ 1 → ⊥) → (sec ≡ 3 → ⊥) → long ≡ false
      → due ≡ list_bytes k g.l
      → counted_of keep due m g t k s ≡ fields_of keep long m g t k s
  unfolding fields_of
  fields_on keep long sec due e x y l d =
      rw (d, l, ne_eqb (list_sec_of k) 1 (λ q. x (e ∙ q)), ne_eqb (list_sec_of k) 3 (λ q. y (e ∙ q)))

  pub listed_on : (keep : Bool) → (k.list ≡ 0 → ⊥) → 8 ≤ k.list → headed_of keep m g t k s ≡ list_sized_of keep m g t k s
  unfolding list_sized_of
  listed_on keep z l = rw (ne_eqb k.list 0 z, le-ltb k.list 8 l)

  module _ (n : ℕ) where
    -- ---- what a search has found

    module _ (x : Span) (j : Summing) (h : x ≡ span_of t k) (q : j ≡ sum_of k) where
      pub placed_rebuild : (keep : Bool) → k.block.0 + k.count ≤ g.b → keep ≡ false
          → fault_or (first_bad m g k.came s k.count 0 n) (go (Rebuild x j) Good) ≡ placed_of keep n m g t k s
      unfolding placed_of rebuilt_of
      placed_rebuild keep l e = rw (le-ltb g.b (k.block.0 + k.count) l, e, h, q)

      pub regenerated_at : (f : Option ℕ) (i : ℕ) → f ≡ Some i
          → fault_or (first_bad m g k.came s k.count 0 n) (go (Regenerate x j i) Good) ≡ regenerated_of n f m g t k s
      unfolding regenerated_of gathered_of
      regenerated_at f i e = rw (e, h, q)

    module _ (f : Option ℕ) where
      pub regenerated_none : f ≡ None → stop 9 Dash Busy ≡ regenerated_of n f m g t k s
      unfolding regenerated_of
      regenerated_none e = rw e

      pub owned_at : (keep : Bool) (i : ℕ) → f ≡ Some i → stop 7 (Entry i 0) BadList ≡ owned_of keep n f m g t k s
      unfolding owned_of
      owned_at keep i e = rw e

      module _ (keep : Bool) (e : f ≡ None) where
        pub owned_empty : k.count ≡ 0 → stop 7 (Cdb 2) Good ≡ owned_of keep n f m g t k s
        unfolding owned_of length_of
        owned_empty z = rw (e, eq-eqb k.count 0 z)

        pub owned_on : (own r : Command) → r ≡ resolved_of own g.b → own ≡ own_of k s → (k.count ≡ 0 → ⊥) → placed_of keep n m g t r s ≡ owned_of keep n f m g t k s
        unfolding owned_of length_of
        owned_on own r h q z = rw (h, q, e, ne_eqb k.count 0 z)

-- Where the sources of a list start, as the code finds them.
use Prim.Native.Nat.{ℕ, zero, suc, ◌+◌, ◌≤◌, ◌<◌}
use Rattle.std.proofs.Common.{not-suc-le-zero, add-one, arith, ap₂, ◌∙◌, get_or-set_same}
use Rattle.std.specs.Prelude.{◌≡◌, length, get_or}
use Rattle.std.proofs.Math.Path.{refl, ap}
use Rattle.std.proofs.Math.Logic.{⊎_elim}
use mathlib.Core.List.{List}
use Rattle.std.proofs.Math.ListN.{set, length-set}
use Rattle.std.proofs.Math.Seq.{get_or-set_other}
use Rattle.folds.specs.Cases.{last_or_below}
use Rattle.geometry.specs.declared.Geometry.{Geometry}
use Rattle.drives.specs.declared.Came.{Came}
use Rattle.command.specs.Command.{source_of}
use Rattle.meaning.specs.Acts.{start_of}

-- the first n of them, written over a list
module _ (s : List ℕ) (g : Geometry) (a : Came) (sent : List ℕ) where
  unfoldable pub starts_over : List ℕ → ℕ → List ℕ
  starts_over xs zero = xs
  starts_over xs (suc n) = set (starts_over xs n) n (start_of s g a (source_of sent n))

  pub starts_none : (xs : List ℕ) → xs ≡ starts_over xs 0
  unfolding starts_over
  starts_none xs = refl

  pub starts_more : (xs ys : List ℕ) (n p : ℕ) → ys ≡ starts_over xs n → p ≡ start_of s g a (source_of sent n) → set ys n p ≡ starts_over xs (n + 1)
  unfolding starts_over
  starts_more xs ys n p e pe = rw (add-one n) (ap₂ (λ (zs : List ℕ) (q : ℕ). set zs n q) e pe)

  pub starts_done : (xs ys : List ℕ) (n i : ℕ) → ys ≡ starts_over xs i → i ≤ n → n ≤ i → ys ≡ starts_over xs n
  starts_done xs ys n i e h l = let q : i ≡ n = omega arith in e ∙ ap (starts_over xs) q

  pub length_starts : (xs : List ℕ) (n : ℕ) → length (starts_over xs n) ≡ length xs
  unfolding starts_over
  length_starts xs zero = refl
  length_starts xs (suc n) = length-set (starts_over xs n) n (start_of s g a (source_of sent n)) ∙ length_starts xs n

  -- each is there
  pub start_is : (xs : List ℕ) (n i : ℕ) → n ≤ length xs → i < n → get_or (starts_over xs n) i 0 ≡ start_of s g a (source_of sent i)
  unfolding starts_over
  start_is xs zero i h l = absurd (not-suc-le-zero l)
  start_is xs (suc n) i h l =
      let p = start_of s g a (source_of sent n) in
      ⊎_elim
      (λ (e : i ≡ n). rw e (get_or-set_same (starts_over xs n) n p 0 (omega (arith, length_starts xs n))))
      (λ (k : i < n). get_or-set_other (starts_over xs n) n i p 0 (λ (e : i ≡ n). omega arith) ∙ start_is xs n i (omega arith) k)
      (last_or_below l)

-- The words of a line.
use Rattle.std.specs.Prelude.{ℕ, zero, suc, Option, Some, None, MatchOption, refl, ◌+◌, ◌-◌, ◌≤◌, ◌<◌, true, false, ◌≡◌, eqb, length, get_or}
use Rattle.std.specs.List.{AllWithin, HoldsAt}
use Rattle.std.specs.Option.{unwrap_or}
use Rattle.std.proofs.Common.{ne_eqb, add-one, arith, ⊎_elim, ◌∙◌, take-append-drop, length-drop, take-suc, drop-cons, length-take-le}
use mathlib.Core.List.{List, [], ◌∷◌, ◌++◌}
use Rattle.std.proofs.Math.Path.{sym, ap}
use Rattle.std.proofs.Math.ListN.{take, drop}
use Rattle.std.proofs.Math.Seq.{take_all}
use Rattle.folds.specs.Cases.{order}
use Rattle.text.specs.Ascii.{lacks, lacks_append}
use Rattle.text.specs.Cut.{cut_from, cut_first, cut_end}

-- the words of a text cut at every space, of which the first has begun with w
unfoldable pub words_from : List ℕ → List ℕ → List (List ℕ)
words_from w ys = cut_from 32 (λ l. l ∷ []) w ys

abbrev pub words : List ℕ → List (List ℕ)
words xs = words_from [] xs

-- ---- as the code cuts

-- the first word of xs ends at e: there is the first space, or the end
pub record Cut (xs : List ℕ) (e : ℕ) : Type 0 where
  pub inside : e ≤ length xs
  pub plain : lacks 32 (take e xs) ≡ true
  pub space : e < length xs → get_or xs e 0 ≡ 32

-- what is left after the space at e: what `&xs[e + 1..]` is to the borrow checker
abbrev pub after : List ℕ → ℕ → List ℕ
after xs e = take (length xs - (e + 1)) (drop (e + 1) xs)

module _ (xs : List ℕ) (e : ℕ) (h : Cut xs e) where
  rest : after xs e ≡ drop (e + 1) xs
  rest = take_all (length xs - (e + 1)) (drop (e + 1) xs) (rw length-drop (omega arith))

  pub cut_more : e < length xs → words xs ≡ take e xs ∷ words (after xs e)
  unfolding words_from
  cut_more l =
      let joined : xs ≡ take e xs ++ 32 ∷ drop (e + 1) xs =
      sym (take-append-drop e xs) ∙ ap (λ (r : List ℕ). take e xs ++ r) (drop-cons xs e 0 l ∙ rw (h.space l, add-one)) in
      rw rest (ap words joined ∙ cut_first 32 (λ l. l ∷ []) [] (take e xs) (drop (e + 1) xs) h.plain)

  pub cut_last : length xs ≤ e → words xs ≡ xs ∷ []
  unfolding words_from
  cut_last l = let all : take e xs ≡ xs = take_all e xs l in cut_end 32 (λ w. w ∷ []) [] xs (rw all at h.plain)

  -- how long the word is, and what is left after it
  pub word_long : length (take e xs) ≡ e
  word_long = length-take-le e xs h.inside

  pub rest_long : e < length xs → length (after xs e) + e + 1 ≡ length xs
  rest_long l = rw (rest, length-drop) (omega arith)

  -- there is one such end: that of the first word
  pub cut_at : e ≡ length (get_or (words xs) 0 [])
  cut_at =
      let first : List (List ℕ) → ℕ = (λ ws. length (get_or ws 0 [])) in
      ⊎_elim
      (λ (l : e < length xs). sym word_long ∙ ap first (sym (cut_more l)))
      (λ (l : length xs ≤ e). let z : e ≡ length xs = omega (arith, h.inside) in z ∙ ap first (sym (cut_last l)))
      (order e (length xs))

-- a turn of the loop: one byte more that is no space
pub plain_more : (xs : List ℕ) (i : ℕ) → i < length xs → lacks 32 (take i xs) ≡ true → eqb (get_or xs i 0) 32 ≡ false → lacks 32 (take (i + 1) xs) ≡ true
unfolding lacks
plain_more xs i l h f = rw (add-one, take-suc xs i 0 l) (lacks_append 32 (take i xs) (get_or xs i 0 ∷ []) h (rw f))

-- no byte of a front is a space
pub plain_below : (xs : List ℕ) (e : ℕ) → e ≤ length xs → ((k : ℕ) → k < e → get_or xs k 0 ≡ 32 → ⊥) → lacks 32 (take e xs) ≡ true
unfolding lacks
plain_below xs zero l h = refl
plain_below xs (suc e) l h =
    rw add-one at (plain_more xs e (omega arith) (plain_below xs e (omega arith) (λ k m. h k (omega arith))) (ne_eqb _ 32 (h e (omega arith))))

-- the first space that a search finds, or the end
pub cut_found : (xs : List ℕ) (found : Option ℕ)
    → MatchOption found (AllWithin (λ b. b ≡ 32 → ⊥) xs 0 (length xs)) (λ i. (i < length xs) × HoldsAt (λ b. b ≡ 32) xs i × AllWithin (λ b. b ≡ 32 → ⊥) xs 0 i)
    → Cut xs (unwrap_or found (length xs))
cut_found xs None h =
    record { inside = omega arith; plain = plain_below xs (length xs) (omega arith) (λ k m. h k 0 (omega arith) m); space = λ l. absurd (omega arith) }
cut_found xs (Some i) h =
    record { inside = omega arith; plain = plain_below xs i (omega arith) (λ k m. h.2 k 0 (omega arith) m); space = λ l. h.1 0 }

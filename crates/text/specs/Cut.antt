-- A text cut at every b.
use Rattle.std.specs.Prelude.{ℕ, true, cond, List, [], ◌∷◌, ◌++◌, ◌≡◌, refl, eqb}
use Rattle.std.proofs.Common.{append_assoc, append-nil, sym, ap, ◌∙◌, eq-eqb}
use Rattle.text.specs.Ascii.{lacks, lacks_cons}

module _ (b : ℕ) (last : List ℕ → List (List ℕ)) where
  -- the pieces, of which the first has begun with xs; what no b ends is what last makes of it
  abbrev pub cut_from : List ℕ → List ℕ → List (List ℕ)
  cut_from xs [] = last xs
  cut_from xs (y ∷ ys) = cond (eqb y b) (xs ∷ cut_from [] ys) (cut_from (xs ++ (y ∷ [])) ys)

  pub cut_first : (xs l ys : List ℕ) → lacks b l ≡ true → cut_from xs (l ++ b ∷ ys) ≡ (xs ++ l) ∷ cut_from [] ys
  cut_first xs [] ys h = rw (eq-eqb b b refl) (ap (λ (m : List ℕ). m ∷ cut_from [] ys) (sym (append-nil xs)))
  cut_first xs (x ∷ l) ys h =
      let w = lacks_cons b x l h in
      rw w.0 (cut_first (xs ++ (x ∷ [])) l ys w.1 ∙ ap (λ (m : List ℕ). m ∷ cut_from [] ys) (append_assoc xs (x ∷ []) l))

  pub cut_end : (xs l : List ℕ) → lacks b l ≡ true → cut_from xs l ≡ last (xs ++ l)
  cut_end xs [] h = ap last (sym (append-nil xs))
  cut_end xs (x ∷ l) h =
      let w = lacks_cons b x l h in
      rw w.0 (cut_end (xs ++ (x ∷ [])) l w.1 ∙ ap last (append_assoc xs (x ∷ []) l))

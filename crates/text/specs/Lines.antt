-- Lines of text, each ended by a newline.
use Rattle.std.specs.Prelude.{ℕ, true, List, [], ◌∷◌, ◌++◌, ◌≡◌, refl}
use Rattle.std.proofs.Common.{append_assoc, sym, ap, ◌∙◌}
use Rattle.folds.specs.Each.{EachIs}
use Rattle.text.specs.Ascii.{ascii, lacks}
use Rattle.text.specs.Cut.{cut_from, cut_first}

abbrev pub newline : List ℕ
newline = ascii "\n"

-- each line ended by a newline
unfoldable pub written : List (List ℕ) → List ℕ
written [] = []
written (l ∷ ls) = l ++ newline ++ written ls

pub written_append : (ls ms : List (List ℕ)) → written (ls ++ ms) ≡ written ls ++ written ms
unfolding written
written_append [] ms = refl
written_append (l ∷ ls) ms = ap (◌++◌ (l ++ newline)) (written_append ls ms) ∙ sym (append_assoc (l ++ newline) (written ls) (written ms))

-- ---- a text cut at its newlines

-- the lines of a text; what is not ended is no line
unfoldable pub lines_in : List ℕ → List (List ℕ)
lines_in ys = cut_from 10 (λ xs. []) [] ys

-- no line has a newline in it
abbrev pub Plain : List (List ℕ) → Type 0
Plain ls = EachIs (λ (l : List ℕ). lacks 10 l ≡ true) ls

-- what was written as lines is read as the same lines
pub lines_written : (ls : List (List ℕ)) → Plain ls → lines_in (written ls) ≡ ls
unfolding written lines_in
lines_written [] h = refl
lines_written (l ∷ ls) h =
    ap lines_in (append_assoc l newline (written ls))
    ∙ cut_first 10 (λ xs. []) [] l (written ls) h.0
    ∙ ap (λ (ms : List (List ℕ)). l ∷ ms) (lines_written ls h.1)

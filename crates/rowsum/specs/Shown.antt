-- What the text of a shelf shows: as many rows as its first line says, and a row exactly where its sum is not zero.
use Prim.Native.Nat.{ℕ, zero, suc, ◌<◌}
use Rattle.std.proofs.Common.{not-suc-le-zero, ◌∙◌, lit≤}
use native.Mathlib.Omega.{arith}
use Rattle.std.proofs.Math.Bool.{true, not, true≢false}
use Rattle.std.specs.Prelude.{false, ◌≡◌, refl}
use mathlib.Core.List.{List, ◌∷◌, ◌++◌, append_assoc, append_cancel_left, head-eq_of_cons-eq}
use mathlib.Core.List.Memᴰ
use mathlib.Core.List.{Memᴰ}
use Rattle.std.proofs.Math.Logic.{⊎_elim}
use Rattle.std.proofs.Math.Path.{sym, ap, subst}
use Rattle.std.proofs.Math.Dec.{eqb}
use Rattle.std.proofs.Math.ListN.{length, get_or, replicate, get_or-replicate}
use Rattle.std.proofs.lemmas.List.{length-replicate}
use Rattle.std.proofs.Math.Seq.{ext_get_or}
use borrow.Author.Tests.{eqb-true, eq-eqb, not-false}
use Rattle.folds.specs.All.{all_below, all_at, all_intro}
use Rattle.folds.specs.Cases.{either, last_or_below}
use Rattle.folds.specs.Count.{count_below}
use Rattle.geometry.specs.declared.Geometry.{Geometry}
use Rattle.geometry.specs.Header.{geometry_of}
use Rattle.geometry.specs.Frame.{Framed}
use Rattle.image.specs.Valid.{valid_image}
use Rattle.image.specs.Shelf.{shelf_frame}
use Rattle.image.proofs.Shelf.{shelf}
use Rattle.sums.specs.Row.{row_sum, is_open}
use Rattle.sums.specs.Length.{length_sum}
use Rattle.text.specs.Ascii.{ascii, cut_unique}
use Rattle.text.specs.Decimal.{decimal, decimal_lacks, decimal_injective}
use Rattle.text.specs.Hexadecimal.{hexadecimal}
use Rattle.text.specs.Lines.{lines_in}
use Rattle.rowsum.specs.Listing.{head_line, row_line, line_of, row_lines, open_rows, shelf_lines, text_of}
use Rattle.rowsum.specs.Lines.{rows_counted, shelf_lines_lem}

module _ (m : List ℕ) (g : Geometry) where
  -- a row is open exactly where its sum is not zero
  pub open_not_zero : (r : ℕ) → is_open m g r ≡ true → row_sum m g r ≡ replicate g.l 0 → ⊥
  unfolding is_open
  open_not_zero r h e =
      let zero_all : all_below g.l (λ j. eqb (get_or (row_sum m g r) j 0) 0) ≡ true =
      all_intro _ g.l (λ j l. eq-eqb _ 0 (ap (λ (xs : List ℕ). get_or xs j 0) e ∙ get_or-replicate g.l j 0 0 l)) in
      true≢false (sym h ∙ ap not zero_all)

  pub shut_zero : (r : ℕ) → Framed m g → r < g.b → is_open m g r ≡ false → row_sum m g r ≡ replicate g.l 0
  unfolding is_open
  shut_zero r f l h =
      let n = length_sum m g r f l in
      ext_get_or 0 (row_sum m g r) (replicate g.l 0) (n ∙ sym (length-replicate g.l 0))
      (λ j k. eqb-true _ 0 (all_at _ g.l j (not-false _ h) (omega (arith, n, k))) ∙ sym (get_or-replicate g.l j 0 0 (omega (arith, n, k))))

  -- an open row's line is there
  own : (r : ℕ) → is_open m g r ≡ true → Memᴰ (row_line r (row_sum m g r)) (line_of m g r)
  unfolding line_of
  own r h = rw h (Memᴰ.head refl)

  there : (n r : ℕ) → r < n → is_open m g r ≡ true → Memᴰ (row_line r (row_sum m g r)) (row_lines m g n)
  unfolding row_lines
  there zero r l h = absurd (not-suc-le-zero l)
  there (suc n) r l h =
      ⊎_elim (λ e. Memᴰ.append_right (row_lines m g n) (subst (λ (k : ℕ). Memᴰ (row_line r (row_sum m g r)) (line_of m g k)) e (own r h)))
      (λ k. Memᴰ.append_left (line_of m g n) (there n r k h)) (last_or_below l)

  -- a line is an open row's
  whose : (n : ℕ) (line : List ℕ) → Memᴰ line (row_lines m g n) → (r : ℕ) × (r < n) × (is_open m g r ≡ true) × (line ≡ row_line r (row_sum m g r))
  unfolding row_lines line_of
  whose zero line here = absurd (Memᴰ.not-nil here)
  whose (suc n) line here =
      ⊎_elim (λ k. let w = whose n line k in (w.0, omega arith, w.2, w.3))
      (λ k. ⊎_elim (λ h. (n, omega arith, h, Memᴰ.eq_of_singleton (rw h at k))) (λ h. absurd (Memᴰ.not-nil (rw h at k))) (either (is_open m g n)))
      (Memᴰ.append_cases (row_lines m g n) here)

-- a row's line names the row and its sum
row_injective : (r r' : ℕ) (sum sum' : List ℕ) → row_line r sum ≡ row_line r' sum' → (r ≡ r') × (hexadecimal sum ≡ hexadecimal sum')
unfolding row_line
row_injective r r' sum sum' e =
    let parted : (k : ℕ) (xs : List ℕ) → row_line k xs ≡ ascii "row " ++ (decimal k ++ (ascii " sum " ++ hexadecimal xs)) = (λ k xs. rw (append_assoc)) in
    let same = append_cancel_left (ascii "row ") _ _ (sym (parted r sum) ∙ e ∙ parted r' sum') in
    let w = cut_unique 32 (decimal r) (decimal r') _ _ (decimal_lacks 32 r (lit≤ tt)) (decimal_lacks 32 r' (lit≤ tt)) same in
    (decimal_injective r r' w.0, append_cancel_left (ascii "sum ") _ _ w.1)

head_no_row : (g : Geometry) (n r : ℕ) (sum : List ℕ) → head_line g n ≡ row_line r sum → ⊥
unfolding head_line row_line
head_no_row g n r sum e = let z : ◌≡◌ {A = ℕ} 100 114 = head-eq_of_cons-eq e in omega arith

module _ (m : List ℕ) (v : valid_image m ≡ true) where
  abbrev g : Geometry
  g = geometry_of m

  -- the first line's N is the number of lines that follow it; each of them is a row's; and as many rows have a sum that is not zero
  pub open_shown :
      (rows : List (List ℕ)) × (lines_in (text_of m) ≡ head_line g (length rows) ∷ rows)
      × ((line : List ℕ) → Memᴰ line rows → (r : ℕ) × (line ≡ row_line r (row_sum m g r)))
      × (length rows ≡ count_below g.b (is_open m g))
  unfolding shelf_lines
  open_shown =
      let n : length (row_lines m g g.b) ≡ open_rows m g = rows_counted m g g.b in (
        row_lines m g g.b,
        shelf_lines_lem m v ∙ ap (λ (k : ℕ). head_line g k ∷ row_lines m g g.b) (sym n),
        (λ line here. let w = whose m g g.b line here in (w.0, w.3)),
        n,
      )

  -- a row whose sum is not zero has its line, with its sum
  pub shown : (r : ℕ) → r < g.b → (row_sum m g r ≡ replicate g.l 0 → ⊥) → Memᴰ (row_line r (row_sum m g r)) (lines_in (text_of m))
  unfolding shelf_lines
  shown r l h =
      let f : Framed m g = shelf_frame m g (shelf m v) in
      let o : is_open m g r ≡ true = ⊎_elim (λ t. t) (λ t. absurd (h (shut_zero m g r f l t))) (either (is_open m g r)) in
      rw (shelf_lines_lem m v) (Memᴰ.tail (there m g g.b r l o))

  -- and a row with a line has a sum that is not zero, the one that the line shows
  pub shown_only : (r : ℕ) (sum : List ℕ) → Memᴰ (row_line r sum) (lines_in (text_of m))
      → (r < g.b) × (row_sum m g r ≡ replicate g.l 0 → ⊥) × (hexadecimal sum ≡ hexadecimal (row_sum m g r))
  unfolding shelf_lines
  shown_only r sum here =
      ⊎_elim (λ e. absurd (head_no_row g (open_rows m g) r sum (sym e)))
      (λ k. let w = whose m g g.b (row_line r sum) k in
      let same = row_injective r w.0 sum (row_sum m g w.0) w.3 in
      subst (λ (q : ℕ). (q < g.b) × (row_sum m g q ≡ replicate g.l 0 → ⊥) × (hexadecimal sum ≡ hexadecimal (row_sum m g q))) (sym same.0)
      (w.1, open_not_zero m g w.0 w.2, same.1))
      (Memᴰ.cases_cons (rw (shelf_lines_lem m v) at here))

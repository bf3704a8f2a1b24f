-- What one act does: the unread lines stay the retained results, and a row's sum stays what it was but for what is owed.
use Rattle.std.specs.Prelude.{ℕ, ◌*◌, ◌≤◌, ◌<◌, Bool, true, false, not, cond, ◌≡◌, refl, List, [], ◌∷◌, length}
use Rattle.std.proofs.Common.{arith, sym, ap, ap₂, ◌∙◌}
use Rattle.std.proofs.Math.Bool.{and-true}
use Rattle.octets.specs.Xor.{◌⊻◌, xor_nil, length_xor_le, xor_commutes, xor_regroups, xor_cancels, xor_meets, xor_again}
use Rattle.geometry.specs.declared.Geometry.{Geometry}
use Rattle.geometry.specs.Frame.{Framed}
use Rattle.results.specs.First.{sans_first}
use Rattle.results.specs.Results.{Result, results}
use Rattle.results.specs.Newest.{answers}
use Rattle.image.specs.Shelf.{Shelf, shelf_frame}
use Rattle.sums.specs.Row.{counts, row_sum}
use Rattle.sums.specs.Counts.{counts_all}
use Rattle.sums.specs.Length.{length_sum}
use Rattle.sums.specs.Share.{share, length_share}
use Rattle.meaning.specs.declared.Span.{Span}
use Rattle.meaning.specs.declared.Act.{Act}
use Rattle.meaning.specs.declared.Act.TheVariants.{Read as ToRead, Write, XpWrite, XdRead, Couple, Retain, Rebuild, Regenerate, XdWriteRead}
use Rattle.meaning.specs.Acts.{blocks_of, over, result_of, passed_on, data_over, Effect, effect_of, leaves}
use Rattle.meaning.specs.Allowed.{Blocks, Filled, Allowed}
use Rattle.meaning.specs.Lengths.{length_blocks}
use Rattle.demands_one_two.specs.Fine.{fine}
use Rattle.demands_one_two.specs.Sums.{moved, effect_sum}
use Rattle.demands_one_two.specs.Retained.{afterwards, results_after}
use Rattle.parity.specs.Ledger.{Unread, Line, line, noted, Carries, FairAct}
use Rattle.parity.specs.Owed.{is_owed, in_row, owed, owed_hit, owed_miss, owed_read, owed_carried}
use Rattle.parity.specs.Waiting.{waiting, waiting_hit, waiting_miss, waiting_read, waiting_carried}

-- ---- a row's sum, and what is owed

module _ (m : List ℕ) (g : Geometry) (h : Shelf m g) (s : List ℕ) (es : List Line) (r : ℕ) (lr : r < g.b) where
  abbrev sum : List ℕ
  sum = row_sum m g r

  f : Framed m g
  f = shelf_frame m g h

  length_δ : (x : Span) (ys : List ℕ) → length (share g x.block.0 ys r) ≤ length sum
  length_δ x ys = omega (arith, length_share g x.block.0 ys r, length_sum m g r f lr)

  -- every drive counts
  whole : (x : Span) (δ : List ℕ) → cond (counts m g x.drive) δ [] ⊻ [] ≡ δ
  whole x δ = xor_nil _ ∙ ap (λ (c : Bool). cond c δ []) (counts_all m g x.drive)

  -- no block is written, and nothing more is owed
  quiet : (fs : List Line) → owed g r fs ≡ owed g r es → (sum ⊻ []) ⊻ owed g r fs ≡ sum ⊻ owed g r es
  quiet fs e = ap₂ ◌⊻◌ (xor_nil sum) e

  -- δ XORed into blocks is XORed into the sum
  added : (x : Span) (δ : List ℕ) → Blocks m g x → length δ ≡ x.count * g.l → share g x.block.0 (blocks_of m g x ⊻ (blocks_of m g x ⊻ δ)) r ≡ share g x.block.0 δ r
  added x δ b e =
      let lu : length (blocks_of m g x) ≡ x.count * g.l = length_blocks m g f x b in
      ap (λ (ys : List ℕ). share g x.block.0 ys r) (xor_again (blocks_of m g x) δ (omega arith))

  xp_sum : (x : Span) → Blocks m g x → Filled g x s → Carries es x s
      → (sum ⊻ moved m g (over x (blocks_of m g x ⊻ s) ∷ []) r) ⊻ owed g r (noted m g s (XpWrite x) es) ≡ sum ⊻ owed g r es
  xp_sum x b e c =
      let δ = share g x.block.0 s r in
      let now = owed g r (noted m g s (XpWrite x) es) in
      ap (λ (o : List ℕ). (sum ⊻ o) ⊻ now) (whole x _ ∙ added x s b e) ∙ xor_regroups sum δ now ∙ ap (◌⊻◌ sum) (owed_carried g r x s es c)

  couple_sum : (x y : Span) → Blocks m g x → Blocks m g y → x.count ≡ y.count → Filled g x s → x.block.0 ≡ y.block.0
      → sum ⊻ moved m g (over y (blocks_of m g y ⊻ (s ⊻ blocks_of m g x)) ∷ over x s ∷ []) r ≡ sum
  couple_sum x y bx by ec e eb =
      let u = blocks_of m g x in
      let lu : length u ≡ x.count * g.l = length_blocks m g f x bx in
      let ld : length (s ⊻ u) ≡ y.count * g.l = length_xor_le s u (omega (arith, e)) ∙ e ∙ ap (λ (k : ℕ). k * g.l) ec in
      let δ = share g x.block.0 (s ⊻ u) r in
      ap (◌⊻◌ sum)
      (ap₂ ◌⊻◌ (sym (xor_nil _) ∙ whole y _ ∙ added y (s ⊻ u) by ld ∙ ap (λ (k : ℕ). share g k (s ⊻ u) r) (sym eb)) (whole x _ ∙ ap (λ (ys : List ℕ). share g x.block.0 ys r) (xor_commutes u s)))
      ∙ sym (xor_regroups sum δ δ)
      ∙ xor_cancels sum δ (length_δ x (s ⊻ u))

  -- data written over blocks, or not, and a line that owes the old bytes XOR the new ones where it is
  data_sum : (x : Span) (ndisc : Bool) (one : Line) → is_owed one ≡ not ndisc → (ndisc ≡ false → in_row g r one ≡ share g x.block.0 (blocks_of m g x ⊻ s) r)
      → (sum ⊻ moved m g (data_over x ndisc s) r) ⊻ owed g r (one ∷ es) ≡ sum ⊻ owed g r es
  data_sum x false one t e =
      let δ = share g x.block.0 (blocks_of m g x ⊻ s) r in
      ap₂ ◌⊻◌ (ap (◌⊻◌ sum) (whole x δ)) (owed_hit g r one es t ∙ ap (λ (o : List ℕ). o ⊻ owed g r es) (e refl)) ∙ xor_meets sum δ (owed g r es) (length_δ x (blocks_of m g x ⊻ s))
  data_sum x true one t e = quiet (one ∷ es) (owed_miss g r one es t)

-- ---- every act: what it makes unread, and what it writes

module _ (m : List ℕ) (g : Geometry) (h : Shelf m g) (s : List ℕ) (es : List Line) where
  abbrev Tally : Effect → List Line → Type 0
  Tally e fs = waiting es ≡ results m g → waiting fs ≡ afterwards e.change (results m g)

  abbrev Balance : Effect → List Line → Type 0
  Balance e fs = (r : ℕ) → r < g.b → (row_sum m g r ⊻ moved m g e.writes r) ⊻ owed g r fs ≡ row_sum m g r ⊻ owed g r es

  -- one more result, unread
  more : (x : Result) (owes : Bool) → waiting es ≡ results m g → waiting (line x owes Unread ∷ es) ≡ x ∷ results m g
  more x owes e = waiting_hit (line x owes Unread) es refl ∙ ap (λ (l : List Result). x ∷ l) e

  -- the old bytes XOR the new ones, either way round
  turned : (x : Span) (ys : List ℕ) → ys ≡ s ⊻ blocks_of m g x → (r : ℕ) → share g x.block.0 ys r ≡ share g x.block.0 (blocks_of m g x ⊻ s) r
  turned x ys e r = ap (λ (zs : List ℕ). share g x.block.0 zs r) (e ∙ xor_commutes s (blocks_of m g x))

  act_noted : (room : ℕ) (act : Act) → Allowed m g s room act
      → Tally (effect_of m g s act) (noted m g s act es) × (FairAct es s act → Balance (effect_of m g s act) (noted m g s act es))
  act_noted room (ToRead x) al = (λ e. e, λ fair r l. quiet m g h s es r l es refl)
  act_noted room (Write x) al = (λ e. e, λ fair. absurd fair)
  act_noted room (XpWrite x) al = (λ e. waiting_carried x s es ∙ e, λ fair r l. xp_sum m g h s es r l x al.0 al.1 fair)
  act_noted room (XdRead x i) al = (
    λ e. waiting_read x.drive x.block.0 es ∙ ap (sans_first (answers x.drive x.block.0)) e,
    λ fair r l. quiet m g h s es r l _ (owed_read g r x.drive x.block.0 es),
  )
  act_noted room (Couple x y mirror) al = (
    λ e. e,
    λ fair r l. ap (λ (o : List ℕ). o ⊻ owed g r es)
        (ap (λ (c : Bool). row_sum m g r ⊻ moved m g (over y (passed_on m g x y c s) ∷ over x s ∷ []) r) fair.0
        ∙ couple_sum m g h s es r l x y al.0 al.1 al.2 al.4 fair.1),
  )
  act_noted room (Retain x i mirror ndisc) al = (
    more _ _,
    λ fair r l. data_sum m g h s es r l x ndisc _ (and-true (not ndisc))
        (λ t. turned x _ (ap (λ (c : Bool). result_of m g x c s) (fair t)) r),
  )
  act_noted room (Rebuild x j) al = (λ e. e, λ fair. absurd fair)
  act_noted room (Regenerate x j i) al = (more _ _, λ fair r l. quiet m g h s es r l _ (owed_miss g r _ es refl))
  act_noted room (XdWriteRead x disable) al = (
    λ e. waiting_miss _ es refl ∙ e,
    λ fair r l. data_sum m g h s es r l x disable _ (and-true (not disable)) (λ t. turned x _ refl r),
  )

  pub act_waiting : (room : ℕ) (act : Act) → Allowed m g s room act → waiting es ≡ results m g → waiting (noted m g s act es) ≡ results (leaves m g s act) g
  act_waiting room act al e = (act_noted room act al).0 e ∙ sym (results_after m g h s room act al)

  -- sum and what is owed, together, stay
  pub act_sum : (r : ℕ) → r < g.b → (room : ℕ) (act : Act) → Allowed m g s room act → FairAct es s act
      → row_sum (leaves m g s act) g r ⊻ owed g r (noted m g s act es) ≡ row_sum m g r ⊻ owed g r es
  act_sum r l room act al fair =
      ap (λ (o : List ℕ). o ⊻ owed g r (noted m g s act es)) (effect_sum m g h room (effect_of m g s act) (fine m g (shelf_frame m g h) s room act al) r l)
      ∙ (act_noted room act al).1 fair r l

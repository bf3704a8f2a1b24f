-- What is owed in a row, and how it changes with the ledger.
use Rattle.std.specs.Prelude.{ℕ, ◌≤◌, Bool, true, false, not, ◌&&◌, cond, ◌≡◌, length}
use Rattle.std.proofs.Common.{arith, true≢false, sym, ap₂, ◌∙◌, ⊎_elim, eq-eqb, eqb-true}
use Rattle.std.proofs.Math.Bool.{and-false}
use Rattle.std.proofs.Math.Path.{refl, ap}
use mathlib.Core.List.Memᴰ
use mathlib.Core.List.{List, [], ◌∷◌, map, Memᴰ}
use Rattle.octets.specs.Xor.{◌⊻◌, nil_xor, length_xor, xor_commutes, xor_regroups}
use Rattle.octets.specs.Operands.{xor_all}
use Rattle.folds.specs.Cases.{either}
use Rattle.folds.specs.Every.{holds, every_of}
use Rattle.folds.specs.Each.{EachIs, each_mem}
use Rattle.folds.specs.Same.{same_list, same_list_lem, same_self}
use Rattle.geometry.specs.declared.Geometry.{Geometry}
use Rattle.results.specs.Lists.{keeping, keep_hit, keep_miss}
use Rattle.sums.specs.Share.{share, length_share}
use Rattle.meaning.specs.declared.Span.{Span}
use Rattle.parity.specs.Ledger.{Fate, Unread, Read, Dropped, Carried, Line, become, is_unread, is_read, is_carried, on_first, on_each, waits, waits_on, carriable, Carries}

-- "such results not yet carried over, unread and dropped ones included"
abbrev pub is_owed : Line → Bool
is_owed e = e.owes && not (is_carried e.fate)

-- what a line's result has in row r
abbrev pub in_row : Geometry → ℕ → Line → List ℕ
in_row g r e = share g e.result.block e.result.bytes r

-- the XOR of what is owed there
unfoldable pub owed : Geometry → ℕ → List Line → List ℕ
owed g r es = xor_all (map (in_row g r) (keeping is_owed es))

module _ (g : Geometry) (r : ℕ) where
  pub owed_none : owed g r [] ≡ []
  unfolding owed keeping xor_all
  owed_none = refl

  pub owed_hit : (e : Line) (es : List Line) → is_owed e ≡ true → owed g r (e ∷ es) ≡ in_row g r e ⊻ owed g r es
  unfolding owed xor_all
  owed_hit e es h = ap (λ (l : List Line). xor_all (map (in_row g r) l)) (keep_hit is_owed e es h)

  pub owed_miss : (e : Line) (es : List Line) → is_owed e ≡ false → owed g r (e ∷ es) ≡ owed g r es
  unfolding owed
  owed_miss e es h = ap (λ (l : List Line). xor_all (map (in_row g r) l)) (keep_miss is_owed e es h)

  -- one line more, owed or not
  abbrev owed_by : Line → List ℕ
  owed_by e = cond (is_owed e) (in_row g r e) []

  owed_cons : (e : Line) (es : List Line) → owed g r (e ∷ es) ≡ owed_by e ⊻ owed g r es
  owed_cons e es =
      ⊎_elim (λ t. owed_hit e es t ∙ sym (rw t)) (λ t. owed_miss e es t ∙ sym (rw t (nil_xor (owed g r es)))) (either (is_owed e))

  length_owed_by : (e : Line) → length (owed_by e) ≤ g.l
  length_owed_by e =
      ⊎_elim (λ t. rw t (length_share g e.result.block e.result.bytes r)) (λ t. rw t (omega arith)) (either (is_owed e))

  pub length_owed : (es : List Line) → length (owed g r es) ≤ g.l
  length_owed [] = rw owed_none (omega arith)
  length_owed (e ∷ es) =
      let q = ap length (owed_cons e es) ∙ length_xor (owed_by e) (owed g r es) in omega (arith, length_owed_by e, length_owed es)

  -- no owed line has anything there
  pub owed_nothing : (es : List Line) → ((e : Line) → Memᴰ e es → is_owed e ≡ true → in_row g r e ≡ []) → owed g r es ≡ []
  owed_nothing [] h = owed_none
  owed_nothing (e ∷ es) h =
      let rest = owed_nothing es (λ x m. h x (Memᴰ.tail m)) in
      ⊎_elim (λ t. owed_hit e es t ∙ ap₂ ◌⊻◌ (h e (Memᴰ.head refl) t) rest ∙ nil_xor []) (λ t. owed_miss e es t ∙ rest) (either (is_owed e))

  -- ---- a line changed, that is owed as before

  owed_first : (p : Line → Bool) (f : Line → Line) → ((e : Line) → p e ≡ true → owed_by (f e) ≡ owed_by e)
      → (es : List Line) → owed g r (on_first p f es) ≡ owed g r es
  owed_first p f h [] = refl
  owed_first p f h (e ∷ es) =
      ⊎_elim
      (λ (t : p e ≡ true). rw t (owed_cons (f e) es ∙ ap (λ (o : List ℕ). o ⊻ owed g r es) (h e t) ∙ sym (owed_cons e es)))
      (λ (t : p e ≡ false). rw t (owed_cons e (on_first p f es) ∙ ap (◌⊻◌ (owed_by e)) (owed_first p f h es) ∙ sym (owed_cons e es)))
      (either (p e))

  owed_each : (p : Line → Bool) (f : Line → Line) → ((e : Line) → p e ≡ true → owed_by (f e) ≡ owed_by e)
      → (es : List Line) → owed g r (on_each p f es) ≡ owed g r es
  owed_each p f h [] = refl
  owed_each p f h (e ∷ es) =
      let rest = owed_each p f h es in
      ⊎_elim
      (λ (t : p e ≡ true). rw t (owed_cons (f e) (on_each p f es) ∙ ap₂ ◌⊻◌ (h e t) rest ∙ sym (owed_cons e es)))
      (λ (t : p e ≡ false). rw t (owed_cons e (on_each p f es) ∙ ap (◌⊻◌ (owed_by e)) rest ∙ sym (owed_cons e es)))
      (either (p e))

  -- an unread line that is read or dropped is owed as before
  unread_owed : (f : Fate) → is_unread f ≡ true → is_carried f ≡ false
  unread_owed Unread t = refl
  unread_owed Read t = absurd (true≢false (sym t))
  unread_owed Dropped t = absurd (true≢false (sym t))
  unread_owed Carried t = absurd (true≢false (sym t))

  still : (f : Fate) → is_carried f ≡ false → (e : Line) → is_unread e.fate ≡ true → owed_by (become f e) ≡ owed_by e
  still f c e u = ap (λ (b : Bool). cond (e.owes && not b) (in_row g r e) []) (c ∙ sym (unread_owed e.fate u))

  pub owed_read : (drive block : ℕ) (es : List Line) → owed g r (on_first (waits drive block) (become Read) es) ≡ owed g r es
  owed_read drive block es = owed_first (waits drive block) (become Read) (λ e t. still Read refl e (holds _ 0 t)) es

  pub owed_dropped : (drive : ℕ) (es : List Line) → owed g r (on_each (waits_on drive) (become Dropped) es) ≡ owed g r es
  owed_dropped drive es = owed_each (waits_on drive) (become Dropped) (λ e t. still Dropped refl e (holds _ 0 t)) es

-- ---- a line carried

module _ (x : Span) (s : List ℕ) (es : List Line) where
  carries_passes : (c : Carries es x s) → carriable x s c.one ≡ true
  carries_passes c =
      every_of _ (
        c.owed,
        (
          ap is_read c.read,
          (eq-eqb _ _ c.same_block, (eq-eqb _ _ c.same_len, (ap (λ (ys : List ℕ). same_list ys s) c.same_bytes ∙ same_self s, tt))),
        ),
      )

  -- where no line passes, there is nothing to carry
  pub carries_none : EachIs (λ (e : Line). carriable x s e ≡ false) es → Carries es x s → ⊥
  carries_none h c = true≢false (sym (carries_passes c) ∙ each_mem _ es h c.one c.listed)

module _ (g : Geometry) (r : ℕ) (x : Span) (s : List ℕ) where
  read_is : (f : Fate) → is_read f ≡ true → is_carried f ≡ false
  read_is Unread t = absurd (true≢false (sym t))
  read_is Read t = refl
  read_is Dropped t = absurd (true≢false (sym t))
  read_is Carried t = absurd (true≢false (sym t))

  -- it was owed, with the data sent
  was_owed : (e : Line) → carriable x s e ≡ true → owed_by g r e ≡ share g x.block.0 s r
  was_owed e t =
      ap₂ (λ (b c : Bool). cond (b && not c) (in_row g r e) []) (holds _ 0 t) (read_is e.fate (holds _ 1 t))
      ∙ ap₂ (λ (b : ℕ) (ys : List ℕ). share g b ys r) (eqb-true _ _ (holds _ 2 t)) (same_list_lem _ _ (holds _ 4 t))

  -- and is owed no more
  now_paid : (e : Line) → is_owed (become Carried e) ≡ false
  now_paid e = and-false e.owes

  paid : (one : Line) → carriable x s one ≡ true → (es : List Line) → Memᴰ one es
      → share g x.block.0 s r ⊻ owed g r (on_first (carriable x s) (become Carried) es) ≡ owed g r es
  paid one h [] m = absurd (Memᴰ.not-nil m)
  paid one h (e ∷ es) m =
      let δ = share g x.block.0 s r in
      let rest = on_first (carriable x s) (become Carried) es in
      ⊎_elim
      (λ (t : carriable x s e ≡ true).
      rw t (ap (◌⊻◌ δ) (owed_miss g r (become Carried e) es (now_paid e)) ∙ sym (owed_cons g r e es ∙ ap (λ (o : List ℕ). o ⊻ owed g r es) (was_owed e t))))
      (λ (t : carriable x s e ≡ false).
      let in_rest = ⊎_elim (λ (q : one ≡ e). absurd (true≢false (sym h ∙ ap (carriable x s) q ∙ t))) (λ k. k) (Memᴰ.cases_cons m) in
      rw t
      (ap (◌⊻◌ δ) (owed_cons g r e rest)
      ∙ sym (xor_regroups δ (owed_by g r e) (owed g r rest))
      ∙ ap (λ (o : List ℕ). o ⊻ owed g r rest) (xor_commutes δ (owed_by g r e))
      ∙ xor_regroups (owed_by g r e) δ (owed g r rest)
      ∙ ap (◌⊻◌ (owed_by g r e)) (paid one h es in_rest)
      ∙ sym (owed_cons g r e es)))
      (either (carriable x s e))

  pub owed_carried : (es : List Line) → Carries es x s
      → share g x.block.0 s r ⊻ owed g r (on_first (carriable x s) (become Carried) es) ≡ owed g r es
  owed_carried es c = paid c.one (carries_passes x s es c) es c.listed

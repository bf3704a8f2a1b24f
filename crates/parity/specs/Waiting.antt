-- The unread lines of the ledger, and how they change with it.
use Rattle.std.specs.Prelude.{ℕ, Bool, true, false, not, ◌≡◌, refl, List, [], ◌∷◌, map, eqb}
use Rattle.std.proofs.Common.{true≢false, sym, ap, ◌∙◌, ⊎_elim}
use Rattle.folds.specs.Cases.{either}
use Rattle.folds.specs.Every.{holds, every_of, fails}
use Rattle.results.specs.Lists.{keeping, keep_none, keep_hit, keep_miss}
use Rattle.results.specs.First.{sans_first, sans_hit, sans_miss}
use Rattle.results.specs.Results.{Result}
use Rattle.results.specs.Newest.{answers}
use Rattle.results.specs.Drop.{of_other}
use Rattle.meaning.specs.declared.Span.{Span}
use Rattle.parity.specs.Ledger.{Fate, Unread, Read, Dropped, Carried, Line, become, is_unread, is_read, on_first, on_each, waits, waits_on, carriable}

abbrev unread_line : Line → Bool
unread_line e = is_unread e.fate

-- the results of the lines that are unread, in the ledger's order
unfoldable pub waiting : List Line → List Result
waiting es = map (λ (e : Line). e.result) (keeping unread_line es)

pub waiting_none : waiting [] ≡ []
unfolding waiting keeping
waiting_none = refl

pub waiting_hit : (e : Line) (es : List Line) → is_unread e.fate ≡ true → waiting (e ∷ es) ≡ e.result ∷ waiting es
unfolding waiting
waiting_hit e es h = ap (map (λ (e : Line). e.result)) (keep_hit unread_line e es h)

pub waiting_miss : (e : Line) (es : List Line) → is_unread e.fate ≡ false → waiting (e ∷ es) ≡ waiting es
unfolding waiting
waiting_miss e es h = ap (map (λ (e : Line). e.result)) (keep_miss unread_line e es h)

-- XDREAD takes out the first that answers
pub waiting_read : (drive block : ℕ) (es : List Line) → waiting (on_first (waits drive block) (become Read) es) ≡ sans_first (answers drive block) (waiting es)
unfolding sans_first
waiting_read drive block [] = waiting_none ∙ sym (ap (sans_first (answers drive block)) waiting_none)
waiting_read drive block (e ∷ es) =
    let p = answers drive block in
    let q = waits drive block in
    let rest = on_first q (become Read) es in
    let ih = waiting_read drive block es in
    ⊎_elim
    (λ (u : is_unread e.fate ≡ true). ⊎_elim
    (λ (t : p e.result ≡ true). let w : q e ≡ true = every_of _ (u, (t, tt)) in
    rw w (waiting_miss (become Read e) es refl ∙ sym (ap (sans_first p) (waiting_hit e es u) ∙ sans_hit p e.result (waiting es) t)))
    (λ (t : p e.result ≡ false). let w : q e ≡ false = fails _ 1 t in
    rw w (waiting_hit e rest u ∙ ap (λ (l : List Result). e.result ∷ l) ih
    ∙ sym (ap (sans_first p) (waiting_hit e es u) ∙ sans_miss p e.result (waiting es) t)))
    (either (p e.result)))
    (λ (u : is_unread e.fate ≡ false). let w : q e ≡ false = fails _ 0 u in
    rw w (waiting_miss e rest u ∙ ih ∙ sym (ap (sans_first p) (waiting_miss e es u))))
    (either (is_unread e.fate))

-- a reset takes out those of its drive
pub waiting_dropped : (drive : ℕ) (es : List Line) → waiting (on_each (waits_on drive) (become Dropped) es) ≡ keeping (of_other drive) (waiting es)
waiting_dropped drive [] = waiting_none ∙ sym (ap (keeping (of_other drive)) waiting_none ∙ keep_none (of_other drive))
waiting_dropped drive (e ∷ es) =
    let p = of_other drive in
    let q = waits_on drive in
    let rest = on_each q (become Dropped) es in
    let ih = waiting_dropped drive es in
    ⊎_elim
    (λ (u : is_unread e.fate ≡ true). ⊎_elim
    (λ (t : eqb e.result.drive drive ≡ true). let w : q e ≡ true = every_of _ (u, (t, tt)) in
    rw w (waiting_miss (become Dropped e) rest refl ∙ ih
    ∙ sym (ap (keeping p) (waiting_hit e es u) ∙ keep_miss p e.result (waiting es) (ap not t))))
    (λ (t : eqb e.result.drive drive ≡ false). let w : q e ≡ false = fails _ 1 t in
    rw w (waiting_hit e rest u ∙ ap (λ (l : List Result). e.result ∷ l) ih
    ∙ sym (ap (keeping p) (waiting_hit e es u) ∙ keep_hit p e.result (waiting es) (ap not t))))
    (either (eqb e.result.drive drive)))
    (λ (u : is_unread e.fate ≡ false). let w : q e ≡ false = fails _ 0 u in
    rw w (waiting_miss e rest u ∙ ih ∙ sym (ap (keeping p) (waiting_miss e es u))))
    (either (is_unread e.fate))

-- XPWRITE takes out none
read_not : (f : Fate) → is_read f ≡ true → is_unread f ≡ false
read_not Unread t = absurd (true≢false (sym t))
read_not Read t = refl
read_not Dropped t = refl
read_not Carried t = refl

pub waiting_carried : (x : Span) (sent : List ℕ) (es : List Line) → waiting (on_first (carriable x sent) (become Carried) es) ≡ waiting es
waiting_carried x sent [] = refl
waiting_carried x sent (e ∷ es) =
    let q = carriable x sent in
    let rest = on_first q (become Carried) es in
    let ih = waiting_carried x sent es in
    ⊎_elim
    (λ (t : q e ≡ true). rw t (waiting_miss (become Carried e) es refl ∙ sym (waiting_miss e es (read_not e.fate (holds _ 1 t)))))
    (λ (t : q e ≡ false). rw t (⊎_elim
    (λ u. waiting_hit e rest u ∙ ap (λ (l : List Result). e.result ∷ l) ih ∙ sym (waiting_hit e es u))
    (λ u. waiting_miss e rest u ∙ ih ∙ sym (waiting_miss e es u))
    (either (is_unread e.fate))))
    (either (q e))

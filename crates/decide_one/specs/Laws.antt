-- What a run of checks makes of a decision, and what a search has found, or nothing.
use Rattle.std.specs.Prelude.{ℕ, ◌*◌, ◌≤◌, Bool, false, List, [], ◌∷◌, ◌++◌, ◌≡◌, refl, ltb, Option, Some, None, Ok}
use Rattle.std.proofs.Common.{le_refl, sym, ◌∙◌}
use Rattle.std.proofs.Math.Path.{ap}
use borrow.Author.Tests.{eq-eqb, ne_eqb, le-ltb}
use Rattle.rules.specs.Rule.{rule, first}
use Rattle.geometry.specs.declared.Geometry.{Geometry}
use Rattle.slots.specs.declared.Slot.{Slot}
use Rattle.slots.specs.Record.{slot_of}
use Rattle.slots.specs.Find.{empty_slot}
use Rattle.sense.specs.declared.Answer.{Answer}
use Rattle.sense.specs.declared.Answer.TheVariants.{Good, Busy, BadField}
use Rattle.command.specs.declared.Command.{Command}
use Rattle.command.specs.Command.{disable_of}
use Rattle.meaning.specs.declared.Span.{Span}
use Rattle.meaning.specs.declared.Act.TheVariants.{Read, Write, XpWrite, XdRead, Retain, XdWriteRead}
use Rattle.meaning.specs.declared.Seen.{Seen}
use Rattle.meaning.specs.declared.Seen.TheVariants.{Dash, Cdb}
use Rattle.meaning.specs.Decision.{Decision, Run, stop, go}
use Rattle.meaning.specs.Runs.{stands, stands_first, stands_twice}
use Rattle.meaning.specs.Checks.{zero_six, room_rule, span_of}
use Rattle.decide_one.specs.Stages.{verdict, plain_rules, roomy_verdict, roomy_of, plain_verdict, limited_verdict, plain_stage, limited_stage, read_of, write_of, xpwrite_of, retained_of, xdwrite_ten_of, xdwriteread_of, answered_of, matched_of}

-- ---- the decision by a verdict

module _ (g : Geometry) (k : Command) where
  pub roomy_stands : (v : Run) (r : ℕ) (d : Decision) → stands (roomy_verdict v g k r) d ≡ stands v (roomy_of g k r d)
  unfolding roomy_verdict roomy_of
  roomy_stands v r d = stands_twice v (verdict (room_rule g k r)) d ∙ ap (stands v) (stands_first (room_rule g k r) (Ok tt) d)

  module _ (s : List ℕ) (due : ℕ) (d : Decision) where
    plain_stands : stands (plain_verdict due g k s) d ≡ plain_stage due g k s d
    unfolding plain_verdict plain_stage
    plain_stands = stands_first (plain_rules due g k s) (Ok tt) d

    limited_stands : (limit : ℕ) → stands (limited_verdict limit due g k s) d
        ≡ first stop (zero_six k ++ rule 4 (Cdb 7) (ltb limit k.count) BadField ∷ []) (plain_stage due g k s d)
    unfolding limited_verdict
    limited_stands limit =
        stands_first (zero_six k ++ rule 4 (Cdb 7) (ltb limit k.count) BadField ∷ []) (plain_verdict due g k s) d
        ∙ ap (first stop (zero_six k ++ rule 4 (Cdb 7) (ltb limit k.count) BadField ∷ [])) plain_stands

    -- a command with no limit
    pub unlimited : (n : ℕ) → due ≡ n → stands (limited_verdict k.count due g k s) d ≡ first stop (zero_six k) (plain_stage n g k s d)
    unlimited n e = limited_stands k.count ∙ rw (e, le-ltb k.count k.count (le_refl k.count))

    -- and one that a slot limits
    pub at_most : due ≡ k.count * g.l → stands (limited_verdict g.m due g k s) d ≡ limited_stage g k s d
    unfolding limited_stage
    at_most e = limited_stands g.m ∙ rw e

  -- where the tests have passed
  pub limited_on : (s : List ℕ) (limit due : ℕ) → k.six ≡ 0 → k.count ≤ limit → plain_verdict due g k s ≡ limited_verdict limit due g k s
  unfolding limited_verdict
  limited_on s limit due six l = rw (eq-eqb k.six 0 six, le-ltb limit k.count l)

module _ (g : Geometry) (t : ℕ) (k : Command) (x : Span) (h : x ≡ span_of t k) (s : List ℕ) (v : Run) where
  pub read_on : (r : ℕ) (w : Run) → v ≡ limited_verdict k.count 0 g k s → w ≡ roomy_verdict v g k r → stands w (go (Read x) Good) ≡ read_of g t k s r
  unfolding read_of
  read_on r w e q = rw (q, e, h) (roomy_stands g k _ r _ ∙ unlimited g k s 0 _ 0 refl)

  pub write_on : v ≡ limited_verdict k.count (k.count * g.l) g k s → stands v (go (Write x) Good) ≡ write_of g t k s
  unfolding write_of
  write_on e = rw (e, h) (unlimited g k s (k.count * g.l) _ _ refl)

  module _ (e : v ≡ limited_verdict g.m (k.count * g.l) g k s) where
    pub xpwrite_on : stands v (go (XpWrite x) Good) ≡ xpwrite_of g t k s
    unfolding xpwrite_of
    xpwrite_on = rw (e, h) (at_most g k s _ _ refl)

    module _ (disable : Bool) (q : disable ≡ disable_of k) where
      pub xdwriteread_on : (r : ℕ) (w : Run) → w ≡ roomy_verdict v g k r → stands w (go (XdWriteRead x disable) Good) ≡ xdwriteread_of g t k s r
      unfolding xdwriteread_of
      xdwriteread_on r w p = rw (p, e, h, q) (roomy_stands g k _ r _ ∙ at_most g k s _ _ refl)

      pub xdwrite_ten_on : (m : List ℕ) → v ≡ (Ok tt) → retained_of (empty_slot m g) x false disable ≡ xdwrite_ten_of m g t k s
      unfolding xdwrite_ten_of
      xdwrite_ten_on m p = rw (h, q) (ap (λ (u : Run). stands u (retained_of (empty_slot m g) (span_of t k) false (disable_of k))) (sym p ∙ e) ∙ at_most g k s _ _ refl)

-- a check of XDWRITE(10) applies
pub xdwrite_ten_stop : (g : Geometry) (t : ℕ) (k : Command) (s : List ℕ) (v : Run) → v ≡ limited_verdict g.m (k.count * g.l) g k s
    → (m : List ℕ) (n : ℕ) (w : Seen) (a : Answer) → v ≡ stop n w a → stop n w a ≡ xdwrite_ten_of m g t k s
unfolding xdwrite_ten_of
xdwrite_ten_stop g t k s v e m n w a p =
    ap (λ (u : Run). stands u (retained_of (empty_slot m g) (span_of t k) false (disable_of k))) (sym p ∙ e) ∙ at_most g k s _ _ refl

-- ---- what a search has found

module _ (f : Option ℕ) (x : Span) (mirror ndisc : Bool) where
  pub retains_at : (i : ℕ) → f ≡ Some i → go (Retain x i mirror ndisc) Good ≡ retained_of f x mirror ndisc
  unfolding retained_of
  retains_at i e = rw e

  pub retains_busy : f ≡ None → stop 9 Dash Busy ≡ retained_of f x mirror ndisc
  unfolding retained_of
  retains_busy e = rw e

module _ (f : Option ℕ) (t : ℕ) (k : Command) (m : List ℕ) (g : Geometry) (r : ℕ) where
  module _ (i : ℕ) (held : Slot) (e : f ≡ Some i) (h : held ≡ slot_of m g i) where
    pub matched_other : (held.len ≡ k.count → ⊥) → stop 8 (Cdb 7) BadField ≡ matched_of f m g t k r
    unfolding matched_of answered_of
    matched_other ne = rw (e, ← h, ne_eqb held.len k.count ne)

    pub matched_at : (x : Span) (v : Run) → held.len ≡ k.count → x ≡ span_of t k → v ≡ roomy_verdict (Ok tt) g k r → stands v (go (XdRead x i) Good) ≡ matched_of f m g t k r
    unfolding matched_of answered_of
    matched_at x v l q p = rw (e, ← h, eq-eqb held.len k.count l, p, q) (roomy_stands g k (Ok tt) r _)

  pub matched_none : f ≡ None → stop 8 (Cdb 2) BadField ≡ matched_of f m g t k r
  unfolding matched_of
  matched_none e = rw e

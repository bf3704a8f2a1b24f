-- What one call does: the unread lines stay the retained results, and a row's sum stays what it was but for what is owed.
use Rattle.std.specs.Prelude.{ℕ, ◌<◌, ◌≡◌, refl, List, Ok, Err}
use Rattle.std.proofs.Common.{sym, ap, ap₂, ◌∙◌}
use Rattle.std.proofs.Math.Path.{subst}
use Rattle.octets.specs.Xor.{◌⊻◌}
use Rattle.rules.proofs.Rule.{first_both, first_cases}
use Rattle.geometry.specs.declared.Geometry.{Geometry}
use Rattle.drives.specs.declared.Came.{Came}
use Rattle.drives.specs.Table.{marked}
use Rattle.slots.specs.Change.{dropped}
use Rattle.results.specs.Lists.{keeping}
use Rattle.results.specs.Drop.{of_other}
use Rattle.results.proofs.Drop.{drop_results}
use Rattle.image.specs.Shelf.{Shelf, shelf_frame}
use Rattle.sums.specs.Row.{row_sum}
use Rattle.sense.specs.declared.Answer.{Answer}
use Rattle.meaning.specs.declared.Act.{Act}
use Rattle.meaning.specs.Decision.{Decision, go}
use Rattle.meaning.specs.Acts.{leaves}
use Rattle.meaning.specs.Allowed.{Allowed}
use Rattle.meaning.specs.Checks.{calls}
use Rattle.meaning.specs.Calls.{reset}
use Rattle.meaning.specs.Step.{image_after, untouched, target, reset_image, mark_calls, mark_image}
use Rattle.demands_one_two.specs.Retained.{marked_results}
use Rattle.demands_one_two.specs.Sums.{dropped_sum, marked_sum}
use Rattle.demands_one_two.specs.Calls.{target_in}
use Rattle.parity.specs.Ledger.{Dropped, Line, become, on_each, waits_on, noted, noted_by, noted_call, FairBy}
use Rattle.parity.specs.Owed.{owed, owed_dropped}
use Rattle.parity.specs.Waiting.{waiting_dropped}
use Rattle.parity.proofs.OneAct.{act_waiting, act_sum}
use Rattle.parity.specs.OneCall.{Tallies, SumKept}

module _ (m : List ℕ) (g : Geometry) (h : Shelf m g) (es : List Line) where
  -- ---- a command

  module _ (s : List ℕ) (room : ℕ) where
    -- what a decision to go grants
    abbrev Granted : Decision → Type 0
    Granted d = (act : Act) (x : Answer) → d ≡ go act x → Allowed m g s room act

    pub decision_tallies : (d : Decision) → Granted d → Tallies g m es → Tallies g (image_after d m s) (noted_by d m s es)
    decision_tallies (Err x) al e = e
    decision_tallies (Ok x) al e =
        subst (λ (k : Geometry). Tallies g (leaves m k s x.act) (noted m k s x.act es)) (sym h.header) (act_waiting m g h s es room x.act (al x.act x.answer refl) e)

    pub decision_sum : (d : Decision) → Granted d → FairBy d es s → SumKept g m es (image_after d m s) (noted_by d m s es)
    decision_sum (Err x) al fair r l = refl
    decision_sum (Ok x) al fair r l =
        subst (λ (k : Geometry). row_sum (leaves m k s x.act) g r ⊻ owed g r (noted m k s x.act es) ≡ row_sum m g r ⊻ owed g r es) (sym h.header)
        (act_sum m g h s es r l room x.act (al x.act x.answer refl) fair)

  -- ---- a reset

  reset_tallies : (drive : ℕ) → Tallies g m es → Tallies g (dropped m g drive) (on_each (waits_on drive) (become Dropped) es)
  reset_tallies drive e =
      waiting_dropped drive es ∙ ap (keeping (of_other drive)) e ∙ sym (drop_results m g (shelf_frame m g h) h.slots_fine drive)

  reset_sum : (drive : ℕ) → SumKept g m es (dropped m g drive) (on_each (waits_on drive) (become Dropped) es)
  reset_sum drive r l = ap₂ ◌⊻◌ (dropped_sum m g h r drive) (owed_dropped g r drive es)

  pub resets_tallies : (a : Came) → Tallies g m es → Tallies g (reset_image m a) (noted_call (reset a) m es)
  unfolding reset_image
  resets_tallies a e =
      first_both (untouched m) (untouched es) (Tallies g) (calls m a) _ _ (λ n w x. e)
      (λ ps. subst (λ (k : Geometry). Tallies g (dropped m k (target m a)) (on_each (waits_on (target m a)) (become Dropped) es)) (sym h.header)
      (reset_tallies (target m a) e))

  pub resets_sum : (a : Came) → SumKept g m es (reset_image m a) (noted_call (reset a) m es)
  unfolding reset_image
  resets_sum a =
      first_both (untouched m) (untouched es) (SumKept g m es) (calls m a) _ _ (λ n w x r l. refl)
      (λ ps. subst (λ (k : Geometry). SumKept g m es (dropped m k (target m a)) (on_each (waits_on (target m a)) (become Dropped) es)) (sym h.header)
      (reset_sum (target m a)))

  -- ---- a marking

  mark_tallies : (i state : ℕ) → i < g.d → Tallies g m es → Tallies g (marked m g i state) es
  mark_tallies i state l e = e ∙ sym (marked_results m g h i state l)

  mark_sum : (i state : ℕ) → i < g.d → SumKept g m es (marked m g i state) es
  mark_sum i state l r lr = ap (λ (o : List ℕ). o ⊻ owed g r es) (marked_sum m g h r i state l)

  pub marks_tallies : (a : Came) (state : ℕ) → Tallies g m es → Tallies g (mark_image m a state) es
  unfolding mark_image
  marks_tallies a state e =
      first_cases (untouched m) (λ t. Tallies g t es) (mark_calls m a state) _ (λ n w x. e)
      (λ ps. subst (λ (k : Geometry). target m a < k.d → Tallies g (marked m k (target m a) state) es) (sym h.header)
      (λ l. mark_tallies (target m a) state l e) (target_in m a ps.1.0))

  pub marks_sum : (a : Came) (state : ℕ) → SumKept g m es (mark_image m a state) es
  unfolding mark_image
  marks_sum a state =
      first_cases (untouched m) (λ t. SumKept g m es t es) (mark_calls m a state) _ (λ n w x r l. refl)
      (λ ps. subst (λ (k : Geometry). target m a < k.d → SumKept g m es (marked m k (target m a) state) es) (sym h.header)
      (λ l. mark_sum (target m a) state l) (target_in m a ps.1.0))

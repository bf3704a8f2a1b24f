-- Demand 3: the sums of the rows after any run of calls, and that a drive's blocks come back.
use Rattle.std.specs.Prelude.{ℕ, ◌+◌, ◌≤◌, ◌<◌, Bool, not, ◌≡◌, refl, List, [], ◌∷◌, ◌++◌, length, replicate, Some}
use Rattle.std.proofs.Common.{arith, sym, ap, ap₂, subst, ◌∙◌}
use Rattle.std.proofs.Math.Path.{fun_ext}
use Rattle.octets.specs.Octets.{Octets}
use Rattle.octets.specs.Xor.{◌⊻◌, xor_nil, xor_cancels}
use Rattle.geometry.specs.declared.Geometry.{Geometry}
use Rattle.drives.specs.declared.Came.{Came}
use Rattle.drives.specs.Table.{address_of}
use Rattle.drives.specs.Facts.{address_lt}
use Rattle.drives.specs.Front.{address_same}
use Rattle.results.specs.First.{first_of}
use Rattle.results.specs.Results.{Result, results, result_at}
use Rattle.results.specs.Newest.{answers}
use Rattle.image.specs.Shelf.{Shelf, shelf_frame}
use Rattle.sums.specs.Row.{row_sum}
use Rattle.sums.specs.Length.{length_sum}
use Rattle.sums.specs.OldBytes.{ZeroSums}
use Rattle.sense.specs.declared.Answer.{Answer}
use Rattle.meaning.specs.declared.Span.{Span}
use Rattle.meaning.specs.declared.Act.TheVariants.{XdRead, XdWriteRead}
use Rattle.meaning.specs.Acts.{hands}
use Rattle.meaning.specs.Decision.{Decision, go}
use Rattle.meaning.specs.Step.{decided, step_image, reset_image}
use Rattle.meaning.specs.Calls.{Call, command, reset, marking, after_call, after_calls}
use Rattle.grants.specs.Granted.{allowed_at}
use Rattle.demands_one_two.specs.Effects.{result_in}
use Rattle.demands_one_two.specs.Step.{step_shelf}
use Rattle.demands_one_two.specs.Calls.{reset_shelf, reset_front, mark_shelf, mark_address}
use Rattle.demands_one_two.specs.Retained.{newest_handed}
use Rattle.demands_one_two.specs.Step.{step_front}
use Rattle.parity.specs.Ledger.{Read, Line, line, noted, noted_by, noted_call, FairCall, ledger_to, FairTo, ledger_after, fair_front, ledger, Fair}
use Rattle.parity.specs.Owed.{owed, owed_none, owed_nothing, length_owed}
use Rattle.parity.specs.Waiting.{waiting, waiting_none}
use Rattle.parity.specs.AnyStep.{the_step, call_by, Start, SumsDiffer, Whole, AllPresent, Overwriting, rebuilt, BringsBack, Restores, Demand}
use Rattle.parity.specs.Restores.{restored}
use Rattle.parity.specs.OneCall.{Tallies, SumKept}
use Rattle.parity.proofs.OneCall.{decision_tallies, decision_sum, resets_tallies, resets_sum, marks_tallies, marks_sum}

module _ (g : Geometry) where
  -- ---- one call

  call_shelf : (x : Call) (m : List ℕ) → Shelf m g → Shelf (after_call x m) g
  call_shelf (command a c s r) m h = step_shelf m a c s r g h
  call_shelf (reset a) m h = reset_shelf m g h a
  call_shelf (marking a state) m h = mark_shelf m g h a state

  call_address : (x : Call) (m : List ℕ) → Shelf m g → (i : ℕ) → i < g.d → address_of (after_call x m) g i ≡ address_of m g i
  call_address (command a c s r) m h = address_same (step_image m a c s r) m g (shelf_frame m g h).placed (step_front m a c s r g h)
  call_address (reset a) m h = address_same (reset_image m a) m g (shelf_frame m g h).placed (reset_front m g h a)
  call_address (marking a state) m h = λ i l. mark_address m g h a state i

  call_tallies : (x : Call) (m : List ℕ) (es : List Line) → Shelf m g → Tallies g m es → Tallies g (after_call x m) (noted_call x m es)
  unfolding step_image
  call_tallies (command a c s r) m es h e = decision_tallies m g h es s (length r) (decided m a c s r) (allowed_at m g h a c s (length r)) e
  call_tallies (reset a) m es h e = resets_tallies m g h es a e
  call_tallies (marking a state) m es h e = marks_tallies m g h es a state e

  call_sum : (x : Call) (m : List ℕ) (es : List Line) → Shelf m g → FairCall x m es → SumKept g m es (after_call x m) (noted_call x m es)
  unfolding step_image
  call_sum (command a c s r) m es h fair = decision_sum m g h es s (length r) (decided m a c s r) (allowed_at m g h a c s (length r)) fair
  call_sum (reset a) m es h fair = resets_sum m g h es a
  call_sum (marking a state) m es h fair = marks_sum m g h es a state

  -- ---- a run

  -- it keeps a valid image valid, and every drive its address
  pub run_shelf : (xs : List Call) (m : List ℕ) → Shelf m g → Shelf (after_calls xs m) g
  run_shelf [] m h = h
  run_shelf (x ∷ xs) m h = run_shelf xs (after_call x m) (call_shelf x m h)

  run_address : (xs : List Call) (m : List ℕ) → Shelf m g → (i : ℕ) → i < g.d → address_of (after_calls xs m) g i ≡ address_of m g i
  run_address [] m h i l = refl
  run_address (x ∷ xs) m h i l = run_address xs (after_call x m) (call_shelf x m h) i l ∙ call_address x m h i l

  run_tallies : (xs : List Call) (m : List ℕ) (es : List Line) → Shelf m g → Tallies g m es → Tallies g (after_calls xs m) (ledger_to after_call xs m es)
  run_tallies [] m es h e = e
  run_tallies (x ∷ xs) m es h e = run_tallies xs (after_call x m) (noted_call x m es) (call_shelf x m h) (call_tallies x m es h e)

  run_sums : (xs : List Call) (m : List ℕ) (es : List Line) → Shelf m g → FairTo after_call xs m es
      → SumKept g m es (after_calls xs m) (ledger_to after_call xs m es)
  run_sums [] m es h f r l = refl
  run_sums (x ∷ xs) m es h f r l = run_sums xs (after_call x m) (noted_call x m es) (call_shelf x m h) f.1 r l ∙ call_sum x m es h f.0 r l

-- the ledger's unread lines are the retained results, newest first: which one is read next, and what a reset drops, the image says itself
pub ledger_is_results : (m : List ℕ) (g : Geometry) → Start m g → (xs : List Call) → waiting (ledger xs m) ≡ results (after_calls xs m) g
ledger_is_results m g start xs = run_tallies g xs m [] start.valid (waiting_none ∙ sym start.nothing_retained)

-- what XDREAD hands out is the newest unread line at its drive and block, whole
pub read_is_newest : (m : List ℕ) (g : Geometry) → Start m g → (xs : List Call) (a : Came) (c s r : List ℕ) (x : Span) (i : ℕ) (y : Answer)
    → decided (after_calls xs m) a c s r ≡ go (XdRead x i) y
    → (ρ : Result) × (first_of (answers x.drive x.block.0) (waiting (ledger xs m)) ≡ Some ρ) × (hands (after_calls xs m) g s (XdRead x i) ≡ ρ.bytes)
read_is_newest m g start xs a c s r x i y e =
    let t = after_calls xs m in
    let h = run_shelf g xs m start.valid in
    let w = newest_handed t g h s (length r) x i (allowed_at t g h a c s (length r) (XdRead x i) y e) in
    (result_at t g i, ap (first_of (answers x.drive x.block.0)) (ledger_is_results m g start xs) ∙ w.0, w.1)

-- what a 53h hands out is the line that it leaves, read in the same step
pub xdwriteread_is_read : (m : List ℕ) (g : Geometry) → Start m g → (xs : List Call) (a : Came) (c s r : List ℕ) (x : Span) (disable : Bool) (y : Answer)
    → decided (after_calls xs m) a c s r ≡ go (XdWriteRead x disable) y
    → ledger (xs ++ command a c s r ∷ []) m
    ≡ line (result_in 1 x (hands (after_calls xs m) g s (XdWriteRead x disable))) (not disable) Read ∷ ledger xs m
xdwriteread_is_read m g start xs a c s r x disable y e =
    let t = after_calls xs m in
    let es = ledger xs m in
    ledger_after after_call xs (command a c s r ∷ []) m []
    ∙ ap (λ (d : Decision). noted_by d t s es) e
    ∙ ap (λ (k : Geometry). noted t k s (XdWriteRead x disable) es) (run_shelf g xs m start.valid).header

-- "each row's sum differs from its first value by exactly the XOR of such results not yet carried over, unread and dropped ones included"
pub sums_differ : (m : List ℕ) (g : Geometry) → Start m g → (xs : List Call) → Fair xs m → (r : ℕ) → r < g.b
    → row_sum (after_calls xs m) g r ≡ row_sum m g r ⊻ owed g r (ledger xs m)
sums_differ m g start xs f r l =
    let t = after_calls xs m in
    let due = owed g r (ledger xs m) in
    let n = length_sum t g r (shelf_frame t g (run_shelf g xs m start.valid)) l in
    sym (xor_cancels (row_sum t g r) due (omega (arith, length_owed g r (ledger xs m))))
    ∙ ap (λ (o : List ℕ). o ⊻ due)
    (run_sums g xs m [] start.valid f r l
    ∙ ap (◌⊻◌ (row_sum m g r)) (owed_none g r)
    ∙ xor_nil (row_sum m g r))

-- "at every moment": after every first part of a run
pub at_every_moment : (m : List ℕ) (g : Geometry) → Start m g → (xs ys : List Call) → Fair (xs ++ ys) m → (r : ℕ) → r < g.b
    → row_sum (after_calls xs m) g r ≡ row_sum m g r ⊻ owed g r (ledger xs m)
at_every_moment m g start xs ys f r l = sums_differ m g start xs (fair_front after_call xs ys m [] f) r l

-- sums that began at zero are zero where nothing is owed
pub zero_again : (m : List ℕ) (g : Geometry) (xs : List Call) (b n : ℕ) → Whole after_call m g xs b n → b + n ≤ g.b → ZeroSums (after_calls xs m) g b n
zero_again m g xs b n h inside r lo hi =
    sums_differ m g h.start xs h.fair r (omega arith)
    ∙ ap₂ ◌⊻◌ (h.began_zero r lo hi) (owed_nothing g r (ledger xs m) (λ e k t. h.nothing_owed e k t r lo hi))
    ∙ xor_nil (replicate g.l 0)

-- "one drive's blocks there may be overwritten with anything: REBUILD of them from every other drive once and nothing else, at the same
-- blocks, all drives present, brings the old bytes back"
pub rebuild_restores : (m : List ℕ) (g : Geometry) (xs : List Call) (d b n : ℕ) (ys es : List ℕ) (sec count : ℕ)
    → Whole after_call m g xs b n → Overwriting g d b n ys es sec count
    → (room : List ℕ) → BringsBack (after_calls xs m) (rebuilt the_step (after_calls xs m) g d b ys es sec count room)
rebuild_restores m g xs d b n ys es sec count h w room =
    let v = h.start.valid in
    restored (after_calls xs m) g (run_shelf g xs m v) h.all_present
    (λ e l. let a = address_lt m g (shelf_frame m g v) h.bytes e l in omega (arith, run_address g xs m v e l))
    d b n ys es sec count w (zero_again m g xs b n h w.rows_in) room

-- and from zero sums alone
pub zero_restores : (m : List ℕ) (g : Geometry) (d b n : ℕ) (ys es : List ℕ) (sec count : ℕ)
    → Shelf m g → Octets m → AllPresent m g → ZeroSums m g b n → Overwriting g d b n ys es sec count
    → (room : List ℕ) → BringsBack m (rebuilt the_step m g d b ys es sec count room)
zero_restores m g d b n ys es sec count h o up z w room =
    restored m g h up (λ e l. let a = address_lt m g (shelf_frame m g h) o e l in omega arith) d b n ys es sec count w z room

-- demand 3 of the step
pub demand : Demand the_step
demand =
    let same : after_call ≡ call_by the_step = fun_ext (λ x. fun_ext (λ m. by x m)) in
    record {
      sums_differ = subst SumsDiffer same sums_differ;
      restores = subst (λ (after : Call → List ℕ → List ℕ). Restores after the_step) same rebuild_restores;
      restores_zero = zero_restores;
    }
  where
    by : (x : Call) (m : List ℕ) → after_call x m ≡ call_by the_step x m
    by (command a c s r) m = refl
    by (reset a) m = refl
    by (marking a state) m = refl

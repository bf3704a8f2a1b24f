-- The ledger of a run: every result that a command left, newest first, and what became of it; the codes of 01 and of 02, A1, keep one
-- ledger.
use Rattle.std.specs.Prelude.{ℕ, Bool, true, false, not, cond, ◌≡◌, refl, eqb, Ok, Err}
use mathlib.Core.List.{List, [], ◌∷◌, ◌++◌, Memᴰ}
use Rattle.octets.specs.Xor.{◌⊻◌}
use Rattle.folds.specs.Every.{every}
use Rattle.folds.specs.Same.{same_list}
use Rattle.rules.specs.Rule.{first}
use Rattle.geometry.specs.declared.Geometry.{Geometry}
use Rattle.geometry.specs.Header.{geometry_of}
use Rattle.results.specs.Results.{Result}
use Rattle.results.specs.Newest.{answers}
use Rattle.meaning.specs.declared.Span.{Span}
use Rattle.meaning.specs.declared.Act.{Act}
use Rattle.meaning.specs.declared.Act.TheVariants.{Read as ToRead, Write, XpWrite, XdRead, Couple, Retain, Rebuild, Regenerate, XdWriteRead}
use Rattle.meaning.specs.Decision.{Decision}
use Rattle.meaning.specs.Acts.{blocks_of, result_of, gathered}
use Rattle.meaning.specs.Checks.{calls}
use Rattle.meaning.specs.Step.{decided, untouched, target}
use Rattle.meaning.specs.Calls.{Call, command, reset, marking, after_call, run_to}
use Rattle.demands_one_two.specs.Effects.{result_in}

-- it stands in a slot; XDREAD has read it, or the XDWRITEREAD that left it; a reset has dropped it; XPWRITE has carried it over
pub data Fate : Type 0 where
  Unread Read Dropped Carried : Fate

-- a result, whether a medium-changing XDWRITE or XDWRITEREAD left it, and what became of it
pub record Line : Type 0 where
  pub result : Result
  pub owes : Bool
  pub fate : Fate

abbrev pub line : Result → Bool → Fate → Line
line result owes fate = record { result = result; owes = owes; fate = fate }

abbrev pub become : Fate → Line → Line
become fate e = line e.result e.owes fate

abbrev pub is_unread : Fate → Bool
is_unread Unread = true
is_unread Read = false
is_unread Dropped = false
is_unread Carried = false

abbrev pub is_read : Fate → Bool
is_read Unread = false
is_read Read = true
is_read Dropped = false
is_read Carried = false

abbrev pub is_carried : Fate → Bool
is_carried Unread = false
is_carried Read = false
is_carried Dropped = false
is_carried Carried = true

-- ---- what a call changes in the ledger

-- the first line that passes, or each of them
abbrev pub on_first : (Line → Bool) → (Line → Line) → List Line → List Line
on_first p f [] = []
on_first p f (e ∷ es) = cond (p e) (f e ∷ es) (e ∷ on_first p f es)

abbrev pub on_each : (Line → Bool) → (Line → Line) → List Line → List Line
on_each p f [] = []
on_each p f (e ∷ es) = cond (p e) (f e) e ∷ on_each p f es

-- unread, on a drive with a block number; unread, on a drive
abbrev pub waits : ℕ → ℕ → Line → Bool
waits drive block e = every (is_unread e.fate ∷ answers drive block e.result ∷ [])

abbrev pub waits_on : ℕ → Line → Bool
waits_on drive e = every (is_unread e.fate ∷ eqb e.result.drive drive ∷ [])

-- read, owed, and just these bytes at these blocks
abbrev pub carriable : Span → List ℕ → Line → Bool
carriable x s e =
    every
    (e.owes
    ∷ is_read e.fate
    ∷ eqb e.result.block x.block.0
    ∷ eqb e.result.len x.count
    ∷ same_list e.result.bytes s
    ∷ [])

-- what an act changes: "a medium-changing XDWRITE" has NDisc 0, or DISABLE WRITE 0; of lines that are alike XPWRITE carries one, no matter
-- which. A1: "a 53h that writes opens a result and reads it in one step"
abbrev pub noted : List ℕ → Geometry → List ℕ → Act → List Line → List Line
noted m g s (ToRead x) es = es
noted m g s (Write x) es = es
noted m g s (XpWrite x) es = on_first (carriable x s) (become Carried) es
noted m g s (XdRead x i) es = on_first (waits x.drive x.block.0) (become Read) es
noted m g s (Couple x y mirror) es = es
noted m g s (Retain x i mirror ndisc) es = line (result_in 1 x (result_of m g x mirror s)) (not ndisc) Unread ∷ es
noted m g s (Rebuild x j) es = es
noted m g s (Regenerate x j i) es = line (result_in 2 x (blocks_of m g x ⊻ gathered m g s x.count j)) false Unread ∷ es
-- the bytes that it hands to the room
noted m g s (XdWriteRead x disable) es = line (result_in 1 x (s ⊻ blocks_of m g x)) (not disable) Read ∷ es

-- a command that is not carried out leaves the ledger
abbrev pub noted_by : Decision → List ℕ → List ℕ → List Line → List Line
noted_by (Err x) m s es = es
noted_by (Ok x) m s es = noted m (geometry_of m) s x.act es

abbrev pub noted_call : Call → List ℕ → List Line → List Line
noted_call (command a c s r) m es = noted_by (decided m a c s r) m s es
noted_call (reset a) m es = first (untouched es) (calls m a) (on_each (waits_on (target m a)) (become Dropped) es)
noted_call (marking a state) m es = es

-- ---- what a run may hold

-- a line of the ledger is the data sent, at its own blocks: left by a medium-changing XDWRITE or XDWRITEREAD, read, and not yet carried
pub record Carries (es : List Line) (x : Span) (s : List ℕ) : Type 0 where
  pub one : Line
  pub listed : Memᴰ one es
  pub owed : one.owes ≡ true
  pub read : one.fate ≡ Read
  pub same_block : one.result.block ≡ x.block.0
  pub same_len : one.result.len ≡ x.count
  pub same_bytes : one.result.bytes ≡ s

-- "no plain write, mirror write or REBUILD, let coupled writes name equal block numbers, and let each accepted XPWRITE carry, once, a
-- result left by a medium-changing XDWRITE and read by XDREAD, at its own blocks"; A1: "In demand 3 a 53h that writes opens a result and
-- reads it in one step." Nothing is asked of it: it has no Mirror
abbrev pub FairAct : List Line → List ℕ → Act → Type 0
FairAct es s (ToRead x) = Unit {0}
FairAct es s (Write x) = ⊥
FairAct es s (XpWrite x) = Carries es x s
FairAct es s (XdRead x i) = Unit {0}
FairAct es s (Couple x y mirror) = (mirror ≡ false) × (x.block.0 ≡ y.block.0)
FairAct es s (Retain x i mirror ndisc) = ndisc ≡ false → mirror ≡ false
FairAct es s (Rebuild x j) = ⊥
FairAct es s (Regenerate x j i) = Unit {0}
FairAct es s (XdWriteRead x disable) = Unit {0}

-- asked only of a command that is carried out
abbrev pub FairBy : Decision → List Line → List ℕ → Type 0
FairBy (Err x) es s = Unit {0}
FairBy (Ok x) es s = FairAct es s x.act

abbrev pub FairCall : Call → List ℕ → List Line → Type 0
FairCall (command a c s r) m es = FairBy (decided m a c s r) es s
FairCall (reset a) m es = Unit {0}
FairCall (marking a state) m es = Unit {0}

-- ---- runs, of any function that says what a call leaves of an image

module _ (after : Call → List ℕ → List ℕ) where
  abbrev pub ledger_to : List Call → List ℕ → List Line → List Line
  ledger_to [] m es = es
  ledger_to (x ∷ xs) m es = ledger_to xs (after x m) (noted_call x m es)

  abbrev pub FairTo : List Call → List ℕ → List Line → Type 0
  FairTo [] m es = Unit {0}
  FairTo (x ∷ xs) m es = FairCall x m es × FairTo xs (after x m) (noted_call x m es)

  -- a run after another begins with what that one left
  pub ledger_after : (xs ys : List Call) (m : List ℕ) (es : List Line)
      → ledger_to (xs ++ ys) m es ≡ ledger_to ys (run_to after xs m) (ledger_to xs m es)
  ledger_after [] ys m es = refl
  ledger_after (x ∷ xs) ys m es = ledger_after xs ys (after x m) (noted_call x m es)

  -- every first part of such a run is such a run
  pub fair_front : (xs ys : List Call) (m : List ℕ) (es : List Line) → FairTo (xs ++ ys) m es → FairTo xs m es
  fair_front [] ys m es f = tt
  fair_front (x ∷ xs) ys m es f = (f.0, fair_front xs ys (after x m) (noted_call x m es) f.1)

-- the shelf's own, from an empty ledger
abbrev pub ledger : List Call → List ℕ → List Line
ledger xs m = ledger_to after_call xs m []

abbrev pub Fair : List Call → List ℕ → Type 0
Fair xs m = FairTo after_call xs m []

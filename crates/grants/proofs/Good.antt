-- GOOD without an act is check 6 or check 7: "GOOD for zero length", "list length zero", "Then GOOD for length 0".
use Rattle.std.specs.Prelude.{ℕ, Bool, true, false, cond, not, List, [], ◌∷◌, ◌++◌, map, ◌≡◌, ◌⊎◌, eqb, get_or, Ok, Err, is_err, Option, Some, None}
use Rattle.std.proofs.Common.{arith, sym, ap, ◌∙◌, inl, inr, eqb-true}
use Rattle.std.proofs.Math.Path.{refl}
use Rattle.std.proofs.Math.ListN.{get_or-map}
use Rattle.folds.specs.Every.{every, holds}
use Rattle.rules.specs.Rule.{rule}
use Rattle.folds.specs.Least.{index}
use Rattle.geometry.specs.declared.Geometry.{Geometry}
use Rattle.geometry.specs.Header.{geometry_of}
use Rattle.drives.specs.declared.Came.{Came}
use Rattle.drives.specs.Table.{target_of}
use Rattle.sense.specs.declared.Answer.TheVariants.{Good, WrongCount}
use Rattle.sense.specs.Answers.{number_of}
use Rattle.command.specs.declared.Op.{Op}
use Rattle.command.specs.declared.Command.{Command}
use Rattle.command.specs.declared.Layout.{Layout}
use Rattle.command.specs.declared.Layout.TheVariants.{Sixteen, Ten, ByList}
use Rattle.command.specs.Command.{Limit, UpToM, NotToEnd, NoLimit, Moves, DataSent, ListSent, HandedOut, Exchanged, NoBytes, Works, OnBlocks, OnResult, Keeping, Always, WithEleven, Never, has, op_of, command_of}
use Rattle.meaning.specs.Sources.{Vetted}
use Rattle.meaning.specs.declared.Fault.TheVariants.{Absent, Failed, Beyond}
use Rattle.meaning.specs.declared.Seen.{Seen}
use Rattle.meaning.specs.declared.Seen.TheVariants.{Dash}
use Rattle.meaning.specs.Decision.{stop}
use Rattle.meaning.specs.Checks.{Check, fields_by, idle_by, lists_by, ranges_by, busy_by, nested_by, rooms_by, fault_answer, command_checks, checks_for, checks, decide_of}
use Rattle.grants.specs.Why.{why}
use Rattle.grants.specs.Good.{fine, all_fine}

next : (b x y : Bool) → (x ≡ true → y ≡ true) → cond b x false ≡ true → cond b y false ≡ true
next true x y h e = h e
next false x y h e = e

both : (qs rs : List Check) → all_fine qs ≡ true → all_fine rs ≡ true → all_fine (qs ++ rs) ≡ true
unfolding all_fine every
both [] rs h k = k
both (q ∷ qs) rs h k = next (fine q) _ _ (λ e. both qs rs e k) h

-- of the sources
pub fault_fine : (f : Vetted) → cond (eqb (number_of (fault_answer f)) 0) (not (is_err f)) true ≡ true
fault_fine (Ok u) = refl
fault_fine (Err (Absent i)) = refl
fault_fine (Err (Failed i k)) = refl
fault_fine (Err (Beyond i)) = refl

-- stage by stage, check 5 with check 6
module _ (o : Op) (m : List ℕ) (g : Geometry) (t : ℕ) (k : Command) (s : List ℕ) (r : ℕ) where
  fields_fine : (l : Option Layout) (x : Limit) → all_fine (fields_by l x o m g t k) ≡ true
  unfolding all_fine every
  fields_fine (Some Sixteen) UpToM = refl
  fields_fine (Some Sixteen) NotToEnd = refl
  fields_fine (Some Sixteen) NoLimit = refl
  fields_fine (Some Ten) UpToM = refl
  fields_fine (Some Ten) NotToEnd = refl
  fields_fine (Some Ten) NoLimit = refl
  fields_fine (Some ByList) UpToM = refl
  fields_fine (Some ByList) NotToEnd = refl
  fields_fine (Some ByList) NoLimit = refl
  fields_fine None x = refl

  works_fine : (b : Bool) (w : Works) (l : Option Layout) → (all_fine (rule 5 Dash b WrongCount ∷ idle_by w l k) ≡ true) × (all_fine (ranges_by w l m g t k s) ≡ true)
  unfolding all_fine every
  works_fine b OnBlocks (Some Sixteen) = (refl, refl)
  works_fine b OnBlocks (Some Ten) = (refl, refl)
  works_fine b OnBlocks (Some ByList) = (refl, refl)
  works_fine b OnBlocks None = (refl, refl)
  works_fine b OnResult l = (refl, refl)

  layout_fine : (l : Option Layout) → (all_fine (lists_by l m g t k s) ≡ true) × (all_fine (nested_by l m g k s) ≡ true)
  unfolding all_fine every
  layout_fine (Some Sixteen) = (refl, refl)
  layout_fine (Some Ten) = (refl, refl)
  layout_fine (Some ByList) = (refl, rw fault_fine)
  layout_fine None = (refl, refl)

  busy_fine : (x : Keeping) → all_fine (busy_by x m g k) ≡ true
  unfolding all_fine every
  busy_fine Always = refl
  busy_fine WithEleven = refl
  busy_fine Never = refl

  rooms_fine : (x : Moves) → all_fine (rooms_by x g k r) ≡ true
  unfolding all_fine every
  rooms_fine DataSent = refl
  rooms_fine ListSent = refl
  rooms_fine HandedOut = refl
  rooms_fine Exchanged = refl
  rooms_fine NoBytes = refl

  command_fine : all_fine (command_checks o m g t k s r) ≡ true
  command_fine =
      let h = has o in
      let l = layout_fine h.layout in
      let w = works_fine _ h.works h.layout in
      both _ _ (both _ _ (both _ _ (both _ _ (both _ _ (both _ _ (fields_fine h.layout h.limit) w.0) l.0) w.1) (busy_fine h.keeps)) l.1) (rooms_fine h.moves)

checks_fine : (o : Op) (m : List ℕ) (g : Geometry) (a : Came) (t : ℕ) (c s : List ℕ) (r : ℕ) → all_fine (checks_for o m g a t c s r) ≡ true
unfolding all_fine every
checks_fine o m g a t c s r = command_fine o m g t (command_of o a c) s r

pub good_idle : (m : List ℕ) (a : Came) (c s : List ℕ) (r n : ℕ) (w : Seen) → decide_of m a c s r ≡ stop n w Good → (n ≡ 6) ⊎ (n ≡ 7)
unfolding all_fine
good_idle m a c s r n w e =
    let h = why m a c s r n w Good e in
    let g = geometry_of m in
    let o = op_of (get_or c 0 0) in
    let all = checks_fine o m g a (index (target_of m g a)) c s r in
    let x : Check = rule 0 Dash false Good in
    let f : fine (rule n w true Good) ≡ true =
    ap fine (sym (h.itself x)) ∙ sym (get_or-map fine (checks o m a c s r) h.place x) ∙ holds (map fine (checks o m a c s r)) h.place all in
    pick (eqb n 6) (eqb n 7) refl refl f
  where
    pick : (u v : Bool) → eqb n 6 ≡ u → eqb n 7 ≡ v → cond (cond u true v) true false ≡ true → (n ≡ 6) ⊎ (n ≡ 7)
    pick true v p q f = inl (eqb-true _ _ p)
    pick false true p q f = inr (eqb-true _ _ q)
    pick false false p q f = let z : ◌≡◌ {A = ℕ} 0 1 = cc in absurd (omega arith)

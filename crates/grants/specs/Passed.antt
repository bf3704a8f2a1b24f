-- What checks that have passed say.
use Rattle.std.specs.Prelude.{ℕ, ◌+◌, ◌*◌, ◌≤◌, Bool, true, false, not, ◌&&◌, List, [], ◌∷◌, ◌++◌, ◌≡◌, refl, eqb, length, get_or, Option, Some, None, is_none, Ok, Err, is_err}
use Rattle.std.proofs.Common.{arith, eqb-true}
use Rattle.std.proofs.lemmas.Bool.{eqb-false, not-false}
use Rattle.folds.specs.Least.{index}
use Rattle.rules.specs.Rule.{rule, AllPass}
use Rattle.rules.proofs.Rule.{pass_both}
use Rattle.geometry.specs.declared.Geometry.{Geometry}
use Rattle.drives.specs.declared.Came.{Came}
use Rattle.sense.specs.declared.Answer.TheVariants.{Good, WrongCount}
use Rattle.command.specs.declared.Op.{Op}
use Rattle.command.specs.declared.Command.{Command}
use Rattle.command.specs.declared.Layout.TheVariants.{Sixteen, Ten, ByList}
use Rattle.command.specs.Command.{Limit, command_of}
use Rattle.meaning.specs.declared.Seen.TheVariants.{Dash, Cdb}
use Rattle.meaning.specs.Sources.{Vetted, is_at, own_entry}
use Rattle.meaning.specs.Checks.{zero_flags, zero_six, zero_control, limits, sec_flags, list_flags, own_second, fields_by, fields, sends, idle, list_length, list_head, list_rules, lists, ranges, busy, nested, rooms, calls, cdb_calls, known, command_checks, checks_for}

-- ---- the tests

pub not_zero : (n : ℕ) → eqb n 0 ≡ false → 1 ≤ n
not_zero n e = let z : (n ≡ 0 → ⊥) = eqb-false n 0 e in omega arith

-- a check that looks at x only where b is true, or false
pub with_it : (b x : Bool) → b ≡ true → (b && x) ≡ false → x ≡ false
with_it true x q e = e
with_it false x q e = let z : ◌≡◌ {A = ℕ} 0 1 = cc in absurd (omega arith)

pub without_it : (b x : Bool) → b ≡ false → (not b && x) ≡ false → x ≡ false
without_it false x q e = e
without_it true x q e = let z : ◌≡◌ {A = ℕ} 0 1 = cc in absurd (omega arith)

pub found : (f : Option ℕ) → is_none f ≡ false → f ≡ Some (index f)
found (Some i) e = refl
found None e = let z : ◌≡◌ {A = ℕ} 0 1 = cc in absurd (omega arith)

pub nothing : (f : Option ℕ) → not (is_none f) ≡ false → f ≡ None
nothing (Some i) e = let z : ◌≡◌ {A = ℕ} 0 1 = cc in absurd (omega arith)
nothing None e = refl

-- what was found is not drive t
pub elsewhere : (f : Option ℕ) (i t : ℕ) → f ≡ Some i → is_at t f ≡ false → i ≡ t → ⊥
elsewhere (Some j) i t e h q = let p : j ≡ i = cc in eqb-false j t h (omega arith)
elsewhere None i t e h q = let z : ◌≡◌ {A = ℕ} 0 1 = cc in omega arith

pub clear : (f : Vetted) → is_err f ≡ false → f ≡ Ok tt
clear (Ok u) e = refl
clear (Err x) e = let z : ◌≡◌ {A = ℕ} 0 1 = cc in absurd (omega arith)

-- ---- by stage

-- no check from 4 on applies, stage by stage: a check more in one stage moves no other
pub record Passed (o : Op) (m : List ℕ) (g : Geometry) (t : ℕ) (k : Command) (s : List ℕ) (room : ℕ) : Type 0 where
  pub fields_pass : AllPass (fields o m g t k)
  pub sent : length s ≡ sends o g k
  pub idle_pass : AllPass (idle o k)
  pub list_pass : AllPass (lists o m g t k s)
  pub range_pass : AllPass (ranges o m g t k s)
  pub busy_pass : AllPass (busy o m g k)
  pub nested_pass : AllPass (nested o m g k s)
  pub room_pass : AllPass (rooms o g k room)

pub passed_by : (o : Op) (m : List ℕ) (g : Geometry) (t : ℕ) (k : Command) (s : List ℕ) (room : ℕ) → AllPass (command_checks o m g t k s room) → Passed o m g t k s room
passed_by o m g t k s room p =
    let five = rule 5 Dash (not (eqb (length s) (sends o g k))) WrongCount in
    let to_6 = fields o m g t k ++ five ∷ idle o k in
    let to_7 = to_6 ++ lists o m g t k s in
    let to_8 = to_7 ++ ranges o m g t k s in
    let to_9 = to_8 ++ busy o m g k in
    let to_10 = to_9 ++ nested o m g k s in
    let r = pass_both to_10 (rooms o g k room) p in
    let n = pass_both to_9 (nested o m g k s) r.0 in
    let b = pass_both to_8 (busy o m g k) n.0 in
    let w = pass_both to_7 (ranges o m g t k s) b.0 in
    let l = pass_both to_6 (lists o m g t k s) w.0 in
    let f = pass_both (fields o m g t k) (five ∷ idle o k) l.0 in
    record {
      fields_pass = f.0;
      sent = eqb-true _ _ (not-false _ f.1.0);
      idle_pass = f.1.1;
      list_pass = l.1;
      range_pass = w.1;
      busy_pass = b.1;
      nested_pass = n.1;
      room_pass = r.1;
    }

-- and so with the checks in front of them
pub record Through (o : Op) (m : List ℕ) (g : Geometry) (a : Came) (t : ℕ) (c s : List ℕ) (room : ℕ) : Type 0 where
  pub calls_pass : AllPass (calls m a)
  pub known_pass : AllPass (known m g t o)
  pub later : Passed o m g t (command_of o a c) s room

pub through : (o : Op) (m : List ℕ) (g : Geometry) (a : Came) (t : ℕ) (c s : List ℕ) (room : ℕ) → AllPass (checks_for o m g a t c s room) → Through o m g a t c s room
through o m g a t c s room p =
    let to_3 = calls m a ++ cdb_calls o c ++ known m g t o in
    let w = pass_both to_3 (command_checks o m g t (command_of o a c) s room) p in
    let n = pass_both (calls m a ++ cdb_calls o c) (known m g t o) w.0 in
    record {
      calls_pass = (pass_both (calls m a) (cdb_calls o c) n.0).0;
      known_pass = n.1;
      later = passed_by o m g t (command_of o a c) s room w.1;
    }

-- of the checks of fields, those that grant something: the length's and the secondary's
module _ (x : Limit) (o : Op) (m : List ℕ) (g : Geometry) (t : ℕ) (k : Command) where
  pub sixteen_fields : AllPass (fields_by (Some Sixteen) x o m g t k) → AllPass (limits x 6 g k) × AllPass (own_second m g t k)
  sixteen_fields p =
      let to_limit = zero_flags o k ++ sec_flags k ++ limits x 6 g k in
      let own = pass_both to_limit (own_second m g t k) (pass_both (to_limit ++ own_second m g t k) (zero_control 15 k) p).0 in
      ((pass_both (zero_flags o k ++ sec_flags k) (limits x 6 g k) own.0).1, own.1)

  pub ten_limit : AllPass (fields_by (Some Ten) x o m g t k) → AllPass (limits x 7 g k)
  ten_limit p = (pass_both (zero_flags o k ++ zero_six k) (limits x 7 g k) (pass_both (zero_flags o k ++ zero_six k ++ limits x 7 g k) (zero_control 9 k) p).0).1

  pub list_limit : AllPass (fields_by (Some ByList) x o m g t k) → AllPass (limits x 2 g k)
  list_limit p =
      let to_limit = zero_flags o k ++ list_flags k ++ limits x 2 g k in
      let to_six = (pass_both (to_limit ++ zero_six k) (zero_control 9 k) p).0 in
      (pass_both (zero_flags o k ++ list_flags k) (limits x 2 g k) (pass_both to_limit (zero_six k) to_six).0).1

-- the list: its length, its sources, none of which is the target, and that there is something to do
pub record ListRead (m : List ℕ) (g : Geometry) (t : ℕ) (k : Command) (s : List ℕ) : Type 0 where
  pub as_long : k.list ≡ 8 + 8 * get_or s 0 0
  pub some_source : eqb (get_or s 0 0) 0 ≡ false
  pub none_own : own_entry m g k.came s (get_or s 0 0) t ≡ None
  pub some_block : eqb k.count 0 ≡ false

pub list_read : (m : List ℕ) (g : Geometry) (t : ℕ) (k : Command) (s : List ℕ) → AllPass (list_rules m g t k s) → ListRead m g t k s
list_read m g t k s p =
    let none = rule 7 (Cdb 2) (eqb k.count 0) Good ∷ [] in
    let l = pass_both (list_length k s) (list_head m g k.came t s ++ none) p in
    let h = pass_both (list_head m g k.came t s) none l.1 in
    record {
      as_long = eqb-true _ _ (not-false _ l.0.1.0);
      some_source = h.0.0;
      none_own = nothing _ h.0.1.1.1.0;
      some_block = h.1.0;
    }

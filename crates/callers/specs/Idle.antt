-- Nothing to do: "GOOD for zero length (READ, WRITE, XDWRITE, XPWRITE) or list length zero", "zero length is GOOD for 50h, 51h and 53h", and
-- behind a list "GOOD for length 0". Nothing moves.
use Rattle.std.specs.Prelude.{ℕ, ◌/◌, ◌%◌, ◌<◌, ◌+◌, ◌*◌, ◌≤◌, Bool, not, ◌&&◌, ◌≡◌, ◌⊎◌, eqb, length, get_or, Option, None, is_none, Some}
use native.Mathlib.Omega.{arith}
use Rattle.std.proofs.Math.Bool.{true, false, and-false, cond}
use Rattle.std.proofs.Math.Path.{refl}
use Rattle.std.proofs.Common.{sym, ap, ap₂, subst, ◌∙◌, inl, inr}
use Rattle.std.proofs.Math.Logic.{⊎_map}
use mathlib.Core.List.{List, [], ◌∷◌, ◌++◌}
use Rattle.std.specs.Int.Bits.{bit_and}
use borrow.Author.Tests.{le-ltb, eq-eqb, ne_eqb}
use Rattle.folds.specs.Each.{each_append}
use Rattle.rules.specs.Rule.{rule, applies, first, AllPass}
use Rattle.rules.proofs.Rule.{first_append, none_decides}
use Rattle.geometry.specs.declared.Geometry.{Geometry}
use Rattle.drives.specs.declared.Came.{Came}
use Rattle.drives.specs.Table.{secondary_of, source_drive}
use Rattle.results.specs.Results.{results}
use Rattle.sense.specs.declared.Answer.TheVariants.{Good, WrongCount}
use Rattle.command.specs.declared.Op.{Op}
use Rattle.command.specs.declared.Op.TheVariants.{XdWrite, Rebuild, Regenerate}
use Rattle.command.specs.declared.Command.{Command}
use Rattle.command.specs.declared.Layout.{Layout}
use Rattle.command.specs.declared.Layout.TheVariants.{Ten}
use Rattle.command.specs.Command.{Limit, UpToM, NotToEnd, NoLimit, Moves, DataSent, ListSent, HandedOut, Exchanged, NoBytes, Works, OnBlocks, has, op_of, zero_bits, list_bytes, int_of, source_of}
use Rattle.command.specs.Lossless.{cdb_of}
use Rattle.meaning.specs.declared.Seen.{Seen}
use Rattle.meaning.specs.declared.Seen.TheVariants.{Dash, Cdb}
use Rattle.meaning.specs.Decision.{Decision, stop}
use Rattle.meaning.specs.Sources.{is_at, own_entry}
use Rattle.meaning.specs.Checks.{Check, zero_control, limits, fields_by, fields, sends_by, sends, idle_by, idle, lists, ranges, busy, nested, rooms, acts, command_checks, list_length, list_head}
use Rattle.callers.specs.Bytes.{Together, ten_saying, sixteen_saying, anyhow, xdwrite_cdb, ten_says, xdwrite_says, listed_saying, rebuild_cdb, regenerate_cdb, rebuild_says, regenerate_says}
use Rattle.callers.specs.Does.{Does, Target}
use Rattle.callers.specs.Goes.{◌then◌, from_four_lem, stops}
use Rattle.callers.specs.Xdwrites.{XdwriteByte, together_not}
use Rattle.std.proofs.Math.Nat.{zero-mul}
use Rattle.folds.proofs.Least.{least_none}
use Rattle.callers.specs.Lists.{Headed}
use Rattle.callers.specs.Listed.{ListByte}

not_one : (sec : ℕ) → (sec ≡ 3) ⊎ Together sec → eqb sec 1 ≡ false
not_one sec (inl e) = rw e refl
not_one sec (inr e) = (together_not sec e).0

spared : (sec : ℕ) (x : Bool) → (sec ≡ 3) ⊎ (x ≡ false) → (not (eqb sec 3) && x) ≡ false
spared sec x (inl e) = rw e refl
spared sec x (inr e) = ap (λ (y : Bool). not (eqb sec 3) && y) e ∙ and-false (not (eqb sec 3))

-- what decides whatever follows decides with it
early : (xs ys : List Check) (e : Decision) → ((d : Decision) → first stop xs d ≡ e) → (d : Decision) → first stop (xs ++ ys) d ≡ e
early xs ys e h d = first_append stop xs ys d ∙ h (first stop ys d)

module _ (m : List ℕ) (g : Geometry) (a : Came) (t : ℕ) (h : Target m g a t) (b : ℕ) (low : b < 4294967296) (r : List ℕ) where
  -- check 6 decides where those before it pass
  at_six : (w : Seen) (o : Op) (k : Command) → AllPass (fields o m g t k) → 0 ≡ sends o g k → idle o k ≡ rule 6 w true Good ∷ []
      → first stop (command_checks o m g t k [] (length r)) (acts o m g t k []) ≡ stop 6 w Good
  at_six w o k p n e =
      let five = rule 5 Dash (not (eqb 0 (sends o g k))) WrongCount in
      let to_6 = fields o m g t k ++ five ∷ idle o k in
      let to_7 = to_6 ++ lists o m g t k [] in
      let to_8 = to_7 ++ ranges o m g t k [] in
      let to_9 = to_8 ++ busy o m g k in
      early (to_9 ++ nested o m g k []) (rooms o g k (length r)) _
      (early to_9 (nested o m g k []) _
      (early to_8 (busy o m g k) _
      (early to_7 (ranges o m g t k []) _
      (early to_6 (lists o m g t k []) _
      (λ d. first_append stop (fields o m g t k) (five ∷ idle o k) d
      ∙ none_decides stop (fields o m g t k) _ p
      ∙ ap₂ (λ (x : Bool) (ys : List Check). cond (not x) (stop 5 Dash WrongCount) (first stop ys d)) (eq-eqb 0 (sends o g k) n) e)))))
      (acts o m g t k [])

  -- the 10-byte ones that name a block; it may be anywhere
  module _ (code flags : ℕ) (o : Op) (q : op_of code ≡ o) (ten : (has o).layout ≡ Some Ten) where
    abbrev k : Command
    k = ten_saying code o a flags b 0

    limit_passes : (x : Limit) → AllPass (limits x 7 g k)
    limit_passes UpToM = le-ltb g.m 0 (omega arith) then tt
    limit_passes NotToEnd = and-false (eqb (flags / 4 % 2) 1) then tt
    limit_passes NoLimit = tt

    sends_none : (x : Moves) → 0 ≡ sends_by x g k
    unfolding list_bytes
    sends_none DataSent = omega arith
    sends_none ListSent = refl
    sends_none HandedOut = refl
    sends_none Exchanged = omega arith
    sends_none NoBytes = refl

    passes : bit_and flags (zero_bits o) ≡ 0 → (x : Limit) → AllPass (fields_by (Some Ten) x o m g t k)
    passes z x =
        ap (λ (y : ℕ). not (eqb y 0)) z then refl then each_append (λ (c : Check). applies c ≡ false) (limits x 7 g k) (zero_control 9 k) (limit_passes x) (refl then tt)

    pub idle_does : (has o).works ≡ OnBlocks → bit_and flags (zero_bits o) ≡ 0 → Does m g a (cdb_of (ten_saying code o anyhow flags b 0)) [] r [] [] (results m g)
    idle_does w z =
        stops m g h.shelf a (cdb_of (ten_saying code o anyhow flags b 0)) [] r 6 (Cdb 7)
        (from_four_lem m g a t h (cdb_of (ten_saying code o anyhow flags b 0)) [] r o k (ten_says code o a flags b 0 q ten low (omega arith))
        ∙ at_six (Cdb 7) o k
        (subst (λ (y : Option Layout). AllPass (fields_by y (has o).limit o m g t k)) (sym ten) (passes z (has o).limit))
        (sends_none (has o).moves)
        (ap₂ (λ (u : Works) (y : Option Layout). idle_by u y k) w ten))

  -- XDWRITE, to be retained or with a secondary address that is not the target's
  pub xdwrite_idle : (flags : ℕ) (mirror ndisc : Bool) (sec : ℕ) → XdwriteByte flags mirror ndisc sec → (a' c : ℕ) → a' < 16777216 → c < 4294967296
      → (sec ≡ 3) ⊎ (Together sec × (ndisc ≡ false) × (is_at t (secondary_of m g a a') ≡ false)) → Does m g a (xdwrite_cdb flags b 0 a' c) [] r [] [] (results m g)
  xdwrite_idle flags mirror ndisc sec z a' c small high e =
      let k = sixteen_saying 0xC0 XdWrite a flags b 0 a' c in
      stops m g h.shelf a (xdwrite_cdb flags b 0 a' c) [] r 6 (Cdb 6)
      (from_four_lem m g a t h (xdwrite_cdb flags b 0 a' c) [] r XdWrite k (xdwrite_says a flags b 0 a' c low (omega arith) small high)
      ∙ at_six (Cdb 6) XdWrite k
      (ap (λ (x : ℕ). not (eqb x 0)) z.no_other
      then (ap (λ (x : ℕ). eqb x 1) z.sec_is ∙ not_one sec (⊎_map (λ q. q) (λ q. q.0) e))
      then (ap₂ (λ (x : ℕ) (y : Bool). not (eqb x 3) && y) z.sec_is z.ndisc_is
      ∙ spared sec ndisc (⊎_map (λ q. q) (λ q. q.1) e))
      then le-ltb g.m 0 (omega arith)
      then (ap (λ (x : ℕ). not (eqb x 3) && is_at t (secondary_of m g a a')) z.sec_is ∙ spared sec (is_at t (secondary_of m g a a')) (⊎_map (λ q. q) (λ q. q.2) e))
      then refl
      then tt)
      (omega arith)
      refl)

-- ---- REBUILD and REGENERATE

-- not to the last block with Int Data
not_last : (int : Bool) (count : ℕ) → (int ≡ false) ⊎ (count < 0xFFFFFFFF) → (int && eqb count 0xFFFFFFFF) ≡ false
not_last int count (inl e) = rw e
not_last int count (inr l) = ap (λ (x : Bool). int && x) (ne_eqb count 0xFFFFFFFF (λ e. omega arith)) ∙ and-false int

module _ (m : List ℕ) (g : Geometry) (a : Came) (t : ℕ) (h : Target m g a t) (r : List ℕ) (flags : ℕ) (int : Bool) (z : ListByte flags int) where
  -- byte 1
  bits : not (eqb (bit_and flags 0xF8) 0) ≡ false
  bits = ap (λ (x : ℕ). not (eqb x 0)) z.no_other

  last : (count : ℕ) → (int ≡ false) ⊎ (count < 0xFFFFFFFF) → (eqb (flags / 4 % 2) 1 && eqb count 0xFFFFFFFF) ≡ false
  last count w = ap (λ (x : Bool). x && eqb count 0xFFFFFFFF) z.int_is ∙ not_last int count w

  -- ---- without a list

  pub rebuild_unlisted : (count : ℕ) → count < 4294967296 → (int ≡ false) ⊎ (count < 0xFFFFFFFF)
      → Does m g a (cdb_of (listed_saying 0xC3 Rebuild anyhow flags count 0)) [] r [] [] (results m g)
  unfolding list_bytes
  rebuild_unlisted count small w =
      let k = listed_saying 0xC3 Rebuild a flags count 0 in
      stops m g h.shelf a _ [] r 6 (Cdb 7)
      (from_four_lem m g a t h _ [] r Rebuild k (rebuild_says a flags count 0 small (omega arith))
      ∙ at_six m g a t h 0 (omega arith) r (Cdb 7) Rebuild k (bits then z.not_one then z.not_three then last count w then refl then refl then tt) refl refl)

  pub regenerate_unlisted : (count : ℕ) → count ≤ g.m → count < 4294967296
      → Does m g a (cdb_of (listed_saying 0xC4 Regenerate anyhow flags count 0)) [] r [] [] (results m g)
  unfolding list_bytes
  regenerate_unlisted count most small =
      let k = listed_saying 0xC4 Regenerate a flags count 0 in
      stops m g h.shelf a _ [] r 6 (Cdb 7)
      (from_four_lem m g a t h _ [] r Regenerate k (regenerate_says a flags count 0 small (omega arith))
      ∙ at_six m g a t h 0 (omega arith) r (Cdb 7) Regenerate k (bits then z.not_one then z.not_three then le-ltb g.m count most then refl then refl then tt) refl refl)

  -- ---- length 0, behind a list of so many sources, of which none is the target

  module _ (s : List ℕ) (sources b : ℕ) (hd : Headed s sources b) (one : 1 ≤ sources) (few : sources < 256) (long : length s ≡ 8 + 8 * sources)
      (other : (i : ℕ) → i < sources → is_at t (source_drive m g a (source_of s i).address.0) ≡ false) where
    abbrev asking : ℕ → Op → Command
    asking code o = listed_saying code o a flags 0 (8 + 8 * sources)

    -- no data follows the list
    sent : (code : ℕ) (o : Op) → list_bytes (asking code o) g.l ≡ 8 + 8 * sources
    unfolding list_bytes
    sent code o = rw (ne_eqb (8 + 8 * sources) 0 (λ e. omega arith)) (pick (int_of (asking code o)))
      where
        pick : (int : Bool) → cond int (8 + 8 * sources + 0 * g.l) (8 + 8 * sources) ≡ 8 + 8 * sources
        pick false = refl
        pick true = omega (arith, zero-mul g.l)

    no_own : own_entry m g a s sources t ≡ None
    unfolding own_entry
    no_own = least_none _ sources other

    -- check 5, and check 7 up to the length
    abbrev up_to_head : (code : ℕ) (o : Op) → List Check
    up_to_head code o =
        rule 5 Dash (not (eqb (length s) (list_bytes (asking code o) g.l))) WrongCount
        ∷ rule 6 (Cdb 7) (eqb (8 + 8 * sources) 0) Good
        ∷ list_length (asking code o) s
        ++ list_head m g a t s

    head_passes : (code : ℕ) (o : Op) → AllPass (up_to_head code o)
    head_passes code o =
        (ap not (eq-eqb (length s) (list_bytes (asking code o) g.l) (long ∙ sym (sent code o))))
        then ne_eqb (8 + 8 * sources) 0 (λ e. omega arith)
        then le-ltb (8 + 8 * sources) 8 (omega arith)
        then ap not (eq-eqb (8 + 8 * sources) (8 + 8 * get_or s 0 0) (ap (λ (x : ℕ). 8 + 8 * x) (sym hd.number)))
        then (ap (λ (x : ℕ). eqb x 0) hd.number ∙ ne_eqb sources 0 (λ e. omega arith))
        then ap (λ (x : ℕ). not (eqb x 1)) hd.type
        then ap (λ (x : ℕ). not (eqb x 0)) hd.zeros
        then (ap (λ (x : ℕ). not (is_none (own_entry m g a s x t))) hd.number ∙ ap (λ (x : Option ℕ). not (is_none x)) no_own)
        then tt

    -- checks 8 to 11
    abbrev later : Op → Command → List Check
    later o x = ranges o m g t x s ++ busy o m g x ++ nested o m g x s ++ rooms o g x (length r)

    -- check 7 decides
    at_seven : (o : Op) (x : Command) (rs : List Check) → AllPass rs → first stop (rs ++ (rule 7 (Cdb 2) true Good ∷ later o x)) (acts o m g t x s) ≡ stop 7 (Cdb 2) Good
    at_seven o x rs p =
        first_append stop rs (rule 7 (Cdb 2) true Good ∷ later o x) (acts o m g t x s)
        ∙ none_decides stop rs (first stop (rule 7 (Cdb 2) true Good ∷ later o x) (acts o m g t x s)) p

    pub rebuild_idle : Does m g a (rebuild_cdb flags 0 sources) s r [] [] (results m g)
    rebuild_idle =
        stops m g h.shelf a (rebuild_cdb flags 0 sources) s r 7 (Cdb 2)
        (from_four_lem m g a t h (rebuild_cdb flags 0 sources) s r Rebuild (asking 0xC3 Rebuild) (rebuild_says a flags 0 (8 + 8 * sources) (omega arith) (omega arith))
        ∙ at_seven Rebuild (asking 0xC3 Rebuild) (fields Rebuild m g t (asking 0xC3 Rebuild) ++ up_to_head 0xC3 Rebuild) (bits then z.not_one then z.not_three then last 0 (inr (omega arith)) then refl then refl then head_passes 0xC3 Rebuild))

    pub regenerate_idle : Does m g a (regenerate_cdb flags 0 sources) s r [] [] (results m g)
    regenerate_idle =
        stops m g h.shelf a (regenerate_cdb flags 0 sources) s r 7 (Cdb 2)
        (from_four_lem m g a t h (regenerate_cdb flags 0 sources) s r Regenerate (asking 0xC4 Regenerate) (regenerate_says a flags 0 (8 + 8 * sources) (omega arith) (omega arith))
        ∙ at_seven Regenerate (asking 0xC4 Regenerate) (fields Regenerate m g t (asking 0xC4 Regenerate) ++ up_to_head 0xC4 Regenerate) (bits then z.not_one then z.not_three then le-ltb g.m 0 (omega arith) then refl then refl then head_passes 0xC4 Regenerate))

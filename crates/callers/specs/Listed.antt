-- What REBUILD and REGENERATE have in common: the checks of byte 1, of the list and of its sources pass.
use Rattle.std.specs.Prelude.{ℕ, ◌+◌, ◌*◌, ◌/◌, ◌%◌, ◌≤◌, ◌<◌, Bool, true, false, not, cond, ◌≡◌, refl, ◌⊎◌, List, ◌∷◌, ◌++◌, ltb, eqb, length, get_or, Option, is_none, is_err}
use Rattle.std.proofs.Common.{arith, sym, ap, ◌∙◌, inl, inr, lit≤, le-ltb, eq-eqb, ne_eqb}
use Rattle.std.proofs.Math.Path.{ap₂}
use Rattle.std.specs.Int.Bits.{bit_and}
use Rattle.std.proofs.lemmas.Bool.{lt-leb}
use Rattle.folds.specs.Each.{each_append}
use Rattle.rules.specs.Rule.{rule, applies, AllPass}
use Rattle.geometry.specs.declared.Geometry.{Geometry}
use Rattle.drives.specs.declared.Came.{Came}
use Rattle.sense.specs.declared.Answer.TheVariants.{BadField, WrongCount}
use Rattle.command.specs.declared.Op.{Op}
use Rattle.command.specs.declared.Op.TheVariants.{Rebuild}
use Rattle.command.specs.declared.Command.{Command}
use Rattle.command.specs.Command.{zero_bits, own_of, resolved_of, resolved_count, list_bytes}
use Rattle.command.specs.Length.{resolved_same}
use Rattle.command.specs.Sent.{sent_exact}
use Rattle.meaning.specs.declared.Span.{Span}
use Rattle.meaning.specs.declared.Seen.TheVariants.{Dash, Cdb, List as InList}
use Rattle.meaning.specs.Sources.{first_bad}
use Rattle.meaning.specs.Checks.{Check, zero_flags, zero_six, zero_control, list_flags, idle, list_rules, resolved, in_range, source_rules, span_of}
use Rattle.meaning.specs.Allowed.{Blocks, Sourced}
use Rattle.callers.specs.Bytes.{Together, listed_saying}
use Rattle.callers.specs.Lists.{Headed}
use Rattle.callers.specs.Sources.{no_own, all_clear}
use Rattle.callers.specs.Does.{summing, blocks}
use Rattle.callers.specs.Goes.{◌then◌}

-- byte 1: "bit 2 Int Data, 1-0 Sec Ctl", 00 or 10, and no other bit
pub record ListByte (flags : ℕ) (int : Bool) : Type 0 where
  pub no_other : bit_and flags 0xF8 ≡ 0
  pub not_one : eqb (flags % 4) 1 ≡ false
  pub not_three : eqb (flags % 4) 3 ≡ false
  pub int_is : eqb (flags / 4 % 2) 1 ≡ int

-- Sec Ctl alone
pub together_byte : (sec : ℕ) → Together sec → ListByte sec false
together_byte sec (inl e) = rw e (record { no_other = refl; not_one = refl; not_three = refl; int_is = refl })
together_byte sec (inr e) = rw e (record { no_other = refl; not_one = refl; not_three = refl; int_is = refl })

-- "length FFFFFFFFh means to the last block": the length of n blocks from block b on, of a drive of B
abbrev pub HowLong : ℕ → ℕ → ℕ → ℕ → Type 0
HowLong B b n count = (count ≡ n) ⊎ ((count ≡ 0xFFFFFFFF) × (b + n ≡ B))

pub record Resolves (B b n count : ℕ) : Type 0 where
  pub small : count < 4294967296
  pub some : 1 ≤ count
  pub is : resolved_count count b B ≡ n

pub resolves : (B b n count : ℕ) → 1 ≤ n → b + n ≤ B → B ≤ 65536 → HowLong B b n count → Resolves B b n count
resolves B b n count some inside most (inl e) =
    rw e (record { small = omega arith; some = some; is = resolved_same n b B (λ q. omega arith) })
resolves B b n count some inside most (inr (e, whole)) =
    rw e (record { small = lit≤ tt; some = lit≤ tt; is = rw (lt-leb B b (omega arith)) (omega arith) })

-- n blocks from block b on, of so many sources; count is the length in the CDB, which with Int Data is n itself
module _ (m : List ℕ) (g : Geometry) (a : Came) (t b n count sources flags : ℕ) (int : Bool) (s : List ℕ)
    (z : ListByte flags int) (hd : Headed s sources b) (q : Resolves g.b b n count) (with : int ≡ true → count ≡ n)
    (w : Blocks m g (blocks t b n)) (v : Sourced m g (blocks t b n) (summing a int) s)
    (code : ℕ) (o : Op) (masked : zero_bits o ≡ 0xF8) where
  abbrev k : Command
  k = listed_saying code o a flags count (8 + 8 * sources)

  pub span_is : span_of t (resolved g k s) ≡ blocks t b n
  unfolding resolved_of own_of
  span_is = ap₂ (blocks t) hd.own (ap (λ (x : ℕ). resolved_count count x g.b) hd.own ∙ q.is)

  -- "list length plus, with Int Data, length*L"
  sends_is : list_bytes k g.l ≡ length s
  sends_is =
      sent_exact k g.l sources n (list_bytes k g.l) refl (λ e. omega arith) refl (λ e. sym (with (sym z.int_is ∙ e)))
      ∙ ap₂ (λ (x : Bool) (y : ℕ). 8 + 8 * y + cond x (n * g.l) 0) z.int_is (sym hd.number)
      ∙ sym v.exact

  -- every check, with one more of byte 2 and others in place of check 9
  pub all_pass : (u : Bool) (ys : List Check) → u ≡ false → AllPass ys
      → AllPass (zero_flags o k ++ list_flags k ++ rule 4 (Cdb 2) u BadField ∷ zero_six k ++ zero_control 9 k
      ++ rule 5 Dash (not (eqb (length s) (list_bytes k g.l))) WrongCount
      ∷ idle Rebuild k ++ list_rules m g t k s ++ in_range (InList 4) g (resolved g k s)
      ++ ys ++ source_rules (first_bad m g a s (resolved g k s).count 0 (get_or s 0 0)))
  all_pass u ys h free =
      (ap (λ (y : ℕ). not (eqb (bit_and flags y) 0)) masked ∙ ap (λ (x : ℕ). not (eqb x 0)) z.no_other)
      then z.not_one
      then z.not_three
      then h
      then refl
      then refl
      then ap not (eq-eqb (length s) (list_bytes k g.l) (sym sends_is))
      then ne_eqb (8 + 8 * sources) 0 (λ e. omega arith)
      then le-ltb (8 + 8 * sources) 8 (omega arith)
      then ap not (eq-eqb (8 + 8 * sources) (8 + 8 * get_or s 0 0) (ap (λ (x : ℕ). 8 + 8 * x) (sym hd.number)))
      then ne_eqb (get_or s 0 0) 0 (λ e. omega (arith, v.some_source))
      then ap (λ (x : ℕ). not (eqb x 1)) hd.type
      then ap (λ (x : ℕ). not (eqb x 0)) hd.zeros
      then ap (λ (x : Option ℕ). not (is_none x)) (no_own m g a (blocks t b n) s (get_or s 0 0) v.each)
      then ne_eqb count 0 (λ e. omega (arith, q.some))
      then (ap (λ (x : Span). ltb g.b (x.block.0 + x.count)) span_is ∙ le-ltb g.b (b + n) w.range.range_in)
      then each_append (λ (x : Check). applies x ≡ false) ys (source_rules (first_bad m g a s (resolved g k s).count 0 (get_or s 0 0))) free
      (ap (λ (x : Span). is_err (first_bad m g a s x.count 0 (get_or s 0 0))) span_is
      ∙ ap is_err (all_clear m g a (blocks t b n) s (get_or s 0 0) v.each) then tt)

-- What XPWRITE, XDWRITE(10) and XDWRITEREAD(10) have in common: data for at most M blocks passes the checks of its fields and count, and of its
-- range.
use Rattle.std.specs.Prelude.{ℕ, ◌+◌, ◌*◌, not, ◌≡◌, refl, List, ◌∷◌, ◌++◌, eqb, length, Some}
use Rattle.std.proofs.Common.{arith, ap, le-ltb, eq-eqb, ne_eqb}
use Rattle.std.specs.Int.Bits.{bit_and}
use Rattle.rules.specs.Rule.{rule, AllPass}
use Rattle.geometry.specs.declared.Geometry.{Geometry}
use Rattle.geometry.specs.Frame.{Framed}
use Rattle.drives.specs.declared.Came.{Came}
use Rattle.sense.specs.declared.Answer.TheVariants.{Good, WrongCount}
use Rattle.command.specs.declared.Op.{Op}
use Rattle.command.specs.declared.Command.{Command}
use Rattle.command.specs.declared.Layout.TheVariants.{Ten}
use Rattle.command.specs.Command.{has, op_of, zero_bits}
use Rattle.command.specs.Lossless.{cdb_of}
use Rattle.meaning.specs.declared.Seen.TheVariants.{Dash, Cdb}
use Rattle.meaning.specs.Checks.{Check, zero_flags, zero_six, zero_control, above_m, in_range}
use Rattle.meaning.specs.Allowed.{Blocks, Filled, Limited}
use Rattle.callers.specs.Bytes.{Says, ten_saying, anyhow, ten_says}
use Rattle.callers.specs.Does.{blocks}
use Rattle.callers.specs.Goes.{◌then◌}

-- checks 4 to 8 of a command with limit M that sends its blocks
abbrev pub up_to_range : Op → Geometry → Command → List ℕ → List Check
up_to_range o g k s =
    zero_flags o k ++ zero_six k ++ above_m 7 g k ++ zero_control 9 k
    ++ rule 5 Dash (not (eqb (length s) (k.count * g.l))) WrongCount
    ∷ rule 6 (Cdb 7) (eqb k.count 0) Good
    ∷ in_range (Cdb 2) g k

module _ (m : List ℕ) (g : Geometry) (f : Framed m g) (t b n : ℕ) (s : List ℕ) (w : Blocks m g (blocks t b n)) (e : Filled g (blocks t b n) s)
    (most : Limited g (blocks t b n)) (code : ℕ) (o : Op) (a : Came) (flags : ℕ) where
  pub limited_says : op_of code ≡ o → (has o).layout ≡ Some Ten → Says a (cdb_of (ten_saying code o anyhow flags b n)) o (ten_saying code o a flags b n)
  limited_says q i =
      ten_says code o a flags b n q i (omega (arith, f.placed.ranges.b_high, w.range.range_in)) (omega (arith, most, f.placed.ranges.m_high))

  -- they pass, and so does what follows them
  pub limited_passes : bit_and flags (zero_bits o) ≡ 0 → (ys : List Check) → AllPass ys → AllPass (up_to_range o g (ten_saying code o a flags b n) s ++ ys)
  limited_passes z ys p =
      ap (λ (x : ℕ). not (eqb x 0)) z
      then refl
      then le-ltb g.m n most
      then refl
      then ap not (eq-eqb (length s) (n * g.l) e)
      then ne_eqb n 0 (λ q. omega (arith, w.some))
      then le-ltb g.b (b + n) w.range.range_in
      then p

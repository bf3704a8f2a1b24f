-- The published codes beside those of 1994 (02, A1): every other code says the operation that it said in 1994.
use Rattle.std.specs.Prelude.{ℕ, Bool, true, false, ◌&&◌, cond, ◌≡◌, refl, List, ◌∷◌, leb, eqb}
use Rattle.std.proofs.Common.{true≢false, sym, ap, ◌∙◌, ne_eqb}
use Rattle.octets.specs.Part.{part}
use Rattle.drives.specs.declared.Came.{Came}
use Rattle.command.specs.declared.Op.{Op}
use Rattle.command.specs.declared.Op.TheVariants.{XdWrite, XpWrite, XdRead, Rebuild, Regenerate, Read, Write, Unknown}
use Rattle.command.specs.Command.{Since, Of1994, OfA1, has, op_of_1994, op_of, ten_of}
use Rattle.meaning.specs.Checks.{decide_of}

-- "50h to 53h"
abbrev pub is_published : ℕ → Bool
is_published code = leb 0x50 code && leb code 0x53

apart : (x y : ℕ) → is_published x ≡ true → is_published y ≡ false → x ≡ y → ⊥
apart x y p q e = true≢false (sym p ∙ ap is_published e ∙ q)

pub same_op : (code : ℕ) → is_published code ≡ false → op_of code ≡ op_of_1994 code
unfolding op_of
same_op code q = rw (no 0x50 refl, no 0x51 refl, no 0x52 refl, no 0x53 refl)
  where
    no : (x : ℕ) → is_published x ≡ true → eqb code x ≡ false
    no x p = ne_eqb code x (λ e. apart x code p q (sym e))

-- and 50h to 53h were unknown: no code of 1994 says XDWRITE(10) or XDWRITEREAD(10), so that their checks and acts are none of its own
pub unknown_then : (code : ℕ) → is_published code ≡ true → op_of_1994 code ≡ Unknown
unknown_then code p = rw (no 0xC0 refl, no 0xC1 refl, no 0xC2 refl, no 0xC3 refl, no 0xC4 refl, no 0x28 refl, no 0x2A refl)
  where
    no : (x : ℕ) → is_published x ≡ false → eqb code x ≡ false
    no x q = ne_eqb code x (apart code x p q)

abbrev pub is_new : Since → Bool
is_new Of1994 = false
is_new OfA1 = true

pub none_new : (code : ℕ) → is_new (has (op_of_1994 code)).since ≡ false
none_new code =
    line (eqb code 0xC0) XdWrite _ refl
    (line (eqb code 0xC1) XpWrite _ refl
    (line (eqb code 0xC2) XdRead _ refl
    (line (eqb code 0xC3) Rebuild _ refl
    (line (eqb code 0xC4) Regenerate _ refl
    (line (eqb code 0x28) Read _ refl
    (line (eqb code 0x2A) Write _ refl
    refl))))))
  where
    line : (t : Bool) (o p : Op) → is_new (has o).since ≡ false → is_new (has p).since ≡ false → is_new (has (cond t o p)).since ≡ false
    line true o p h k = h
    line false o p h k = k

-- ---- "both sets share slots and the newest_first rule": 51h and 52h are C1h and C2h, whatever the other bytes say

pub xpwrite_twins : (m : List ℕ) (a : Came) (c s : List ℕ) (r : ℕ) → decide_of m a (0x51 ∷ c) s r ≡ decide_of m a (0xC1 ∷ c) s r
unfolding decide_of op_of ten_of part
xpwrite_twins m a c s r = refl

pub xdread_twins : (m : List ℕ) (a : Came) (c s : List ℕ) (r : ℕ) → decide_of m a (0x52 ∷ c) s r ≡ decide_of m a (0xC2 ∷ c) s r
unfolding decide_of op_of ten_of part
xdread_twins m a c s r = refl

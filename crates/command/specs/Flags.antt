-- The masks of byte 1 leave just the bits that 01 and A1 name.
use Rattle.std.specs.Prelude.{ℕ, ◌+◌, ◌*◌, ◌/◌, ◌%◌, ◌<◌, Bool, true, false, ◌≡◌, refl, eqb}
use Rattle.std.specs.Bool.{beq}
use Rattle.std.proofs.Common.{sym}
use Rattle.std.specs.Int.Bits.{bit_and}
use Rattle.folds.specs.All.{all_below, all_at}
use Rattle.command.specs.declared.Op.{Op}
use Rattle.command.specs.Command.{FlagBits, SecBits, ListBits, CacheBits, DisableBits, NoBits, AnyBits, has, zero_by, zero_bits}

-- the part of byte f in the bits that 01 or A1 names; of an unknown code nothing is asked
abbrev pub named_bits : FlagBits → ℕ → ℕ
named_bits SecBits f = f / 64 % 2 * 64 + f / 32 % 2 * 32 + f / 16 % 2 * 16 + f / 8 % 2 * 8 + f / 2 % 4 * 2
named_bits ListBits f = f / 4 % 2 * 4 + f % 4
named_bits CacheBits f = f / 16 % 2 * 16 + f / 8 % 2 * 8
named_bits DisableBits f = f / 16 % 2 * 16 + f / 8 % 2 * 8 + f / 4 % 2 * 4
named_bits NoBits f = 0
named_bits AnyBits f = f

beq_same : (a b : Bool) → beq a b ≡ true → a ≡ b
beq_same true true e = refl
beq_same true false e = sym e
beq_same false true e = e
beq_same false false e = refl

abbrev right : FlagBits → ℕ → Bool
right x f = beq (eqb (bit_and f (zero_by x)) 0) (eqb f (named_bits x f))

each_byte : (x : FlagBits) → all_below 256 (right x) ≡ true
unfolding all_below
each_byte SecBits = refl
each_byte ListBits = refl
each_byte CacheBits = refl
each_byte DisableBits = refl
each_byte NoBits = refl
each_byte AnyBits = refl

-- "All other bits of byte 1 .. must be zero": the byte is its named bits
pub named_alone : (o : Op) (f : ℕ) → f < 256 → eqb (bit_and f (zero_bits o)) 0 ≡ eqb f (named_bits (has o).bits f)
named_alone o f h = beq_same _ _ (all_at (right (has o).bits) 256 f (each_byte (has o).bits) h)

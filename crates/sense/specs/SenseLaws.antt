-- What the sense of every answer is.
use Rattle.std.specs.Prelude.{◌≡◌, true, false, cond, List, [], ◌∷◌, ℕ, ◌+◌, ◌-◌, length, get_or, drop, replicate, eqb, ltb}
use Rattle.std.proofs.Math.Path.{refl}
use Rattle.std.proofs.Common.{ap₂, ◌∙◌, suc-ne-zero, arith, ltb-false, ne_eqb}
use Rattle.std.proofs.Math.Pow.{are_bytes}
use Rattle.octets.specs.Octets.{Octets, small_octets, octets_zeros}
use Rattle.octets.specs.Number.{to_be}
use Rattle.sense.specs.declared.Answer.{Answer}
use Rattle.sense.specs.declared.Answer.TheVariants.{Good, Busy, BadImage, NoTarget, BadCdb, WrongCount, ShortRoom, BadState, UnknownCode, TargetFailed, BadField, BadListLength, BadList, BadRange, NestedAddress, NestedFailed, NestedRange}
use Rattle.sense.specs.declared.Sense.{Sense}
use Rattle.sense.specs.Answers.{number_of}
use Rattle.sense.specs.Sense.{no_sense, plain_sense, absent_sense, nested_sense, sense_of}

-- ---- two in full

-- C9's: the secondary has failed
abbrev pub failed_bytes : List ℕ
failed_bytes =
    0x70 ∷ 0x00 ∷ 0x0B ∷ 0x00 ∷ 0x00 ∷ 0x00 ∷ 0x00 ∷ 0x1D ∷ 0x00 ∷ 0x12 ∷ 0x00 ∷ 0x00 ∷ 0x00 ∷ 0x00 ∷ 0x00 ∷ 0x00 ∷ 0x00 ∷ 0x00
    ∷ 0x02
    ∷ 0x70 ∷ 0x00 ∷ 0x02 ∷ 0x00 ∷ 0x00 ∷ 0x00 ∷ 0x00 ∷ 0x0A ∷ 0x00 ∷ 0x00 ∷ 0x00 ∷ 0x00 ∷ 0x04 ∷ 0x00 ∷ 0x00 ∷ 0x00 ∷ 0x00 ∷ 0x00 ∷ []

pub failed_in_full : sense_of NestedFailed ≡ record { bytes = failed_bytes; len = 37 }
unfolding nested_sense to_be
failed_in_full = refl

-- the secondary's address is not in the table
abbrev pub absent_bytes : List ℕ
absent_bytes =
    0x70 ∷ 0x00 ∷ 0x0B ∷ 0x00 ∷ 0x00 ∷ 0x00 ∷ 0x00 ∷ 0x1C ∷ 0x12 ∷ 0x00 ∷ 0x00 ∷ 0x00 ∷ 0x00 ∷ 0x00 ∷ 0x00 ∷ 0x00 ∷ 0x00 ∷ 0x00
    ∷ 0x70 ∷ 0x00 ∷ 0x0B ∷ 0x00 ∷ 0x00 ∷ 0x00 ∷ 0x00 ∷ 0x0A ∷ 0x00 ∷ 0x00 ∷ 0x00 ∷ 0x00 ∷ 0x08 ∷ 0x00 ∷ 0x00 ∷ 0x00 ∷ 0x00 ∷ 0x00
    ∷ 0x00 ∷ []

pub absent_in_full : sense_of NestedAddress ≡ record { bytes = absent_bytes; len = 36 }
unfolding absent_sense to_be
absent_in_full = refl

-- ---- all of them

-- the length as whoever gets the 37 bytes alone can tell it: 0 if byte 0 is 0, else byte 7 + 8
abbrev pub length_from : List ℕ → ℕ
length_from s = cond (eqb (get_or s 0 0) 0) 0 (get_or s 7 0 + 8)

-- an answer's number n and its sense s
pub record SoundSense (n : ℕ) (s : Sense) : Type 0 where
  pub bytes_long : length s.bytes ≡ 37
  pub bytes_octets : Octets s.bytes
  pub zeros_after : drop s.len s.bytes ≡ replicate (37 - s.len) 0
  pub length_is : s.len ≡ length_from s.bytes
  -- "CHECK CONDITION (02h) with sense", and no other
  pub with_check : ltb 0 s.len ≡ eqb n 0x02

none_sound : (n : ℕ) → false ≡ eqb n 0x02 → SoundSense n no_sense
unfolding no_sense
none_sound n e =
    record { bytes_long = refl; bytes_octets = octets_zeros 37; zeros_after = refl; length_is = refl; with_check = e }

absent_sound : SoundSense 0x02 absent_sense
unfolding absent_sense to_be
absent_sound =
    let o = small_octets absent_sense.bytes refl in
    record { bytes_long = refl; bytes_octets = o; zeros_after = refl; length_is = refl; with_check = refl }

module _ (key code qualifier : ℕ) (h : are_bytes (key ∷ code ∷ qualifier ∷ []) ≡ true) where
  plain_sound : SoundSense 0x02 (plain_sense key code qualifier)
  unfolding plain_sense to_be
  plain_sound =
      let o = small_octets (plain_sense key code qualifier).bytes h in
      record { bytes_long = refl; bytes_octets = o; zeros_after = refl; length_is = refl; with_check = refl }

  nested_sound : SoundSense 0x02 (nested_sense key code qualifier)
  unfolding nested_sense to_be
  nested_sound =
      let o = small_octets (nested_sense key code qualifier).bytes h in
      record { bytes_long = refl; bytes_octets = o; zeros_after = refl; length_is = refl; with_check = refl }

pub sound : (a : Answer) → SoundSense (number_of a) (sense_of a)
sound Good = none_sound _ refl
sound Busy = none_sound _ refl
sound BadImage = none_sound _ refl
sound NoTarget = none_sound _ refl
sound BadCdb = none_sound _ refl
sound WrongCount = none_sound _ refl
sound ShortRoom = none_sound _ refl
sound BadState = none_sound _ refl
sound UnknownCode = plain_sound _ _ _ refl
sound TargetFailed = plain_sound _ _ _ refl
sound BadField = plain_sound _ _ _ refl
sound BadListLength = plain_sound _ _ _ refl
sound BadList = plain_sound _ _ _ refl
sound BadRange = plain_sound _ _ _ refl
sound NestedAddress = absent_sound
sound NestedFailed = nested_sound _ _ _ refl
sound NestedRange = nested_sound _ _ _ refl

-- the bytes tell the length
pub sense_length : (a : Answer) → (sense_of a).len ≡ length_from (sense_of a).bytes
sense_length a = (sound a).length_is

length_none : (n : ℕ) (s : Sense) → SoundSense n s → s.len ≡ 0 → s ≡ no_sense
unfolding no_sense
length_none n s f e =
    let z : drop 0 s.bytes ≡ replicate 37 0 = rw e at f.zeros_after in
    ap₂ (λ (b : List ℕ) (n : ℕ). record { bytes = b; len = n }) z e

-- "An answer without sense has zeros and length 0"
pub no_sense_lem : (a : Answer) → (number_of a ≡ 0x02 → ⊥) → sense_of a ≡ no_sense
no_sense_lem a ne =
    let h = ltb-false 0 (sense_of a).len ((sound a).with_check ∙ ne_eqb (number_of a) 0x02 ne) in
    length_none (number_of a) (sense_of a) (sound a) (omega arith)

-- the number 0 is GOOD alone
pub only_good : (a : Answer) → number_of a ≡ 0x00 → a ≡ Good
only_good Good e = refl
only_good Busy e = absurd (suc-ne-zero _ e)
only_good BadImage e = absurd (suc-ne-zero _ e)
only_good NoTarget e = absurd (suc-ne-zero _ e)
only_good BadCdb e = absurd (suc-ne-zero _ e)
only_good WrongCount e = absurd (suc-ne-zero _ e)
only_good ShortRoom e = absurd (suc-ne-zero _ e)
only_good BadState e = absurd (suc-ne-zero _ e)
only_good UnknownCode e = absurd (suc-ne-zero _ e)
only_good TargetFailed e = absurd (suc-ne-zero _ e)
only_good BadField e = absurd (suc-ne-zero _ e)
only_good BadListLength e = absurd (suc-ne-zero _ e)
only_good BadList e = absurd (suc-ne-zero _ e)
only_good BadRange e = absurd (suc-ne-zero _ e)
only_good NestedAddress e = absurd (suc-ne-zero _ e)
only_good NestedFailed e = absurd (suc-ne-zero _ e)
only_good NestedRange e = absurd (suc-ne-zero _ e)

-- 01, "Answers and the order of checks": what an answer is, down to its bytes.
use Rattle.std.specs.Prelude.{ℕ, ◌+◌, List, [], ◌∷◌, ◌++◌, replicate}

-- "In C a call number n comes back as 256 + n, a status as itself." "Sense is handed back by value as 37 bytes with its length, zeros after and in every byte not named."
pub record Answer : Type 0 where
  pub number : ℕ
  pub sense : List ℕ
  pub len : ℕ

-- "An answer without sense has zeros and length 0"
abbrev quiet : ℕ → Answer
quiet n = record { number = n; sense = replicate 37 0; len = 0 }

-- "Otherwise GOOD (00h), CHECK CONDITION (02h) with sense, or BUSY (08h) without."
abbrev pub good : Answer
good = quiet 0x00

abbrev pub busy : Answer
busy = quiet 0x08

abbrev pub call : ℕ → Answer
call n = quiet (256 + n)

-- "Plain: 18 bytes, byte 0 70h, 2 key, 7 0Ah, 12 and 13 the code pair." Every pair ends in 00h.
abbrev plain : ℕ → ℕ → List ℕ
plain key code = 0x70 ∷ 0 ∷ key ∷ 0 ∷ 0 ∷ 0 ∷ 0 ∷ 0x0A ∷ 0 ∷ 0 ∷ 0 ∷ 0 ∷ code ∷ 0 ∷ 0 ∷ 0 ∷ 0 ∷ 0 ∷ []

abbrev pub refusal : ℕ → ℕ → Answer
refusal key code = record { number = 0x02; sense = plain key code ++ replicate 19 0; len = 18 }

-- "Nested: key 0Bh, codes 00h/00h. Address not in the table: byte 7 1Ch, byte 8 12h, plain sense 0Bh/08h/00h at byte 18, length 36."
abbrev pub absent : Answer
absent =
    record {
      number = 0x02;
      sense = 0x70 ∷ 0 ∷ 0x0B ∷ 0 ∷ 0 ∷ 0 ∷ 0 ∷ 0x1C ∷ 0x12 ∷ replicate 9 0 ++ plain 0x0B 0x08 ++ 0 ∷ [];
      len = 36;
    }

-- "Drive failed (02h/04h/00h) or range beyond B (05h/21h/00h): byte 7 1Dh, byte 9 12h, status 02h at byte 18 and that plain sense from 19, length 37."
abbrev pub nested : ℕ → ℕ → Answer
nested key code =
    record {
      number = 0x02;
      sense = 0x70 ∷ 0 ∷ 0x0B ∷ 0 ∷ 0 ∷ 0 ∷ 0 ∷ 0x1D ∷ 0 ∷ 0x12 ∷ replicate 8 0 ++ 0x02 ∷ plain key code;
      len = 37;
    }

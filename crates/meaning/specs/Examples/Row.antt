-- A row of a table of examples: calls on an image, the last a command, and what it answers and leaves.
use Rattle.std.specs.Prelude.{ℕ, List, [], ◌∷◌, ◌++◌, replicate}
use Rattle.drives.specs.Table.{to}
use Rattle.sense.specs.Answers.{number_of}
use Rattle.meaning.specs.Step.{step_image, step_room, step_outcome}
use Rattle.meaning.specs.Calls.{Call, after_calls}

-- 01's number, the byte count, the 37 sense bytes, the sense's length, the image and the room afterwards
pub record Showed : Type 0 where
  pub number : ℕ
  pub count : ℕ
  pub sense : List ℕ
  pub len : ℕ
  pub image : List ℕ
  pub room : List ℕ

pub record Row : Type 0 where
  pub start : List ℕ
  pub before : List Call
  pub target : ℕ
  pub cdb : List ℕ
  pub sent : List ℕ
  pub room : List ℕ
  pub want : Showed

abbrev pub got : Row → Showed
got w =
    let m = after_calls w.before w.start in
    let o = step_outcome m (to w.target) w.cdb w.sent w.room in
    record {
      number = number_of o.answer;
      count = o.count;
      sense = o.sense.bytes;
      len = o.sense.len;
      image = step_image m (to w.target) w.cdb w.sent w.room;
      room = step_room m (to w.target) w.cdb w.sent w.room;
    }

-- no sense; a plain one, byte for byte
abbrev pub quiet : ℕ → ℕ → List ℕ → List ℕ → Showed
quiet number count image room = record { number = number; count = count; sense = replicate 37 0; len = 0; image = image; room = room }

abbrev pub refused : ℕ → ℕ → List ℕ → List ℕ → Showed
refused key code image room =
    record {
      number = 2;
      count = 0;
      sense = 0x70 ∷ 0 ∷ key ∷ 0 ∷ 0 ∷ 0 ∷ 0 ∷ 0x0A ∷ 0 ∷ 0 ∷ 0 ∷ 0 ∷ code ∷ replicate 24 0;
      len = 18;
      image = image;
      room = room;
    }

-- nested: "Address not in the table: byte 7 1Ch, byte 8 12h, plain sense 0Bh/08h/00h at byte 18, length 36."
abbrev pub absent : List ℕ → List ℕ → Showed
absent image room =
    record {
      number = 2;
      count = 0;
      sense = 0x70 ∷ 0 ∷ 0x0B ∷ 0 ∷ 0 ∷ 0 ∷ 0 ∷ 0x1C ∷ 0x12 ∷ replicate 9 0 ++ 0x70 ∷ 0 ∷ 0x0B ∷ 0 ∷ 0 ∷ 0 ∷ 0 ∷ 0x0A ∷ 0 ∷ 0 ∷ 0 ∷ 0 ∷ 0x08 ∷ replicate 6 0;
      len = 36;
      image = image;
      room = room;
    }

-- "byte 7 1Dh, byte 9 12h, status 02h at byte 18 and that plain sense from 19, length 37"
abbrev pub nested : ℕ → ℕ → List ℕ → List ℕ → Showed
nested key code image room =
    record {
      number = 2;
      count = 0;
      sense = 0x70 ∷ 0 ∷ 0x0B ∷ 0 ∷ 0 ∷ 0 ∷ 0 ∷ 0x1D ∷ 0 ∷ 0x12 ∷ 0 ∷ 0 ∷ 0 ∷ 0 ∷ 0 ∷ 0 ∷ 0 ∷ 0 ∷ 0x02 ∷ 0x70 ∷ 0 ∷ key ∷ 0 ∷ 0 ∷ 0 ∷ 0 ∷ 0x0A ∷ 0 ∷ 0 ∷ 0 ∷ 0 ∷ code ∷ 0 ∷ 0 ∷ 0 ∷ 0 ∷ 0 ∷ [];
      len = 37;
      image = image;
      room = room;
    }

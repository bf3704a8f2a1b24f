-- What every CDB has.
use Rattle.std.specs.Prelude.{ℕ, ◌-◌, List, length, get_or}
use Rattle.drives.specs.declared.Came.{Came}
use Rattle.command.specs.declared.Op.{Op}
use Rattle.command.specs.declared.Command.{Command}

-- its code, byte 1, and the last byte; all else is 0
abbrev pub headed_of : Op → Came → List ℕ → Command
headed_of o a c =
    record {
      code = get_or c 0 0;
      op = o;
      came = a;
      flags = get_or c 1 0;
      six = 0;
      control = get_or c (length c - 1) 0;
      block = record { 0 = 0 };
      count = 0;
      list = 0;
      second = record { 0 = 0 };
      spot = record { 0 = 0 };
    }

-- `text::Page::put_hexadecimal` meets its contract. The loop's invariant: the bytes before this one are written.
use Rattle.std.proofs.Common.{◌≡◌, ◌+◌, ◌*◌, take}
use Rattle.text.specs.Hexadecimal.{hexadecimal}
use Rattle.text.specs.Page.{Writes}
use Rattle.text.proofs.Page.put_hexadecimal.Given as goal

abbrev pub invariant-loop-b : goal.invariant-loop-b
invariant-loop-b l = (l.self.at ≡ l.initial.self.at + 2 * l.b-index) × Writes (hexadecimal (take l.b-index l.bytes)) l.initial.self l.self

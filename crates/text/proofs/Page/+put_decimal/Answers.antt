-- `text::Page::put_decimal` meets its contract.
use Rattle.std.proofs.Common.{◌≡◌, ◌%◌, ◌/◌, arith, subst, sym}
use Rattle.text.specs.Decimal.{decimal, decimal_small, decimal_more, length_decimal, length_more}
use Rattle.text.specs.Page.{Writes, writes_then}
use Rattle.text.proofs.Page.+put_decimal.Goals as goal
use Rattle.text.proofs.Page.+put_decimal.Goals.{then-n-ge10, else-n-ge10}

pub put_decimal-requires : goal.put_decimal-requires
put_decimal-requires t c = (omega arith, omega (arith, length_more c.args.n c.if-n-ge10.true))

pub put_byte-requires : goal.put_byte-requires
put_byte-requires t c =
    elim c.if-n-ge10.branch [
      | then-n-ge10 w ↦ let written = w.put_decimal.ensures in rw w.self-is (omega (arith, length_more c.args.n w.if-n-ge10.true, written.wrote.ends))
      | else-n-ge10 w ↦ rw w.self-is (omega (arith, (length_decimal c.args.n).0))
    ]

pub returns : goal.returns
returns t c =
    elim c.if-n-ge10.branch [
      | then-n-ge10 w ↦
          let front = subst (Writes (decimal (c.args.n / 10)) c.args.self.now) (sym w.self-is) w.put_decimal.ensures in
          rw (decimal_more c.args.n w.if-n-ge10.true) (writes_then front c.put_byte.ensures)
      | else-n-ge10 w ↦
          let small : c.args.n % 10 ≡ c.args.n = omega arith in
          rw (decimal_small c.args.n (omega arith)) (rw (small, w.self-is) at c.put_byte.ensures)
    ]

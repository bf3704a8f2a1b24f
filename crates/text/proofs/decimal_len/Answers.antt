-- `text::decimal_len` meets its contract.
use Rattle.std.proofs.Common.{arith}
use Rattle.text.specs.Decimal.{length_decimal}
use Rattle.text.specs.Long.{length_by_log}
use Rattle.text.proofs.decimal_len.Goals as goal

pub returns : goal.returns
returns c =
    let n = c.args.n in
    let long = length_by_log c.ilog10.result n (omega arith) (omega arith) in
    (long, omega (arith, long, length_decimal n))

-- `rowsum::printed` meets its contract.
use Rattle.rowsum.specs.Whole.{printed_long, printed_listing}
use Rattle.rowsum.proofs.printed.Goals as goal

pub returns-then-input-gt49152 : goal.returns-then-input-gt49152
returns-then-input-gt49152 c =
    let long = printed_long c.args.input.now c.if-input-gt49152.true in
    record { value = rw long c.put_fitted.ensures.value; out_after = rw long c.put_fitted.ensures.out_after }

pub returns : goal.returns
returns c =
    let short = printed_listing c.args.input.now c.if-input-gt49152.false in
    record { value = rw short c.listing.ensures.value; out_after = rw short c.listing.ensures.out_after }

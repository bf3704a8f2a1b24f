-- The contract of each public function of `decide_one` allows one outcome only; `inner` has that of its private module.
use Rattle.decide_one.proofs as decide_one
use Rattle.decide_one.proofs.Contracts as inner
use Rattle.one_outcome.specs.Only.{Only, equation}

pub span_once : Only decide_one.Call.span.Reads.Post (λ _ r _. r)
span_once = equation

pub bytes_once : Only decide_one.Call.bytes.Reads.Post (λ _ r _. r)
bytes_once = equation

pub xdread_once : Only decide_one.xdread.Reads.Post (λ _ r _. r)
xdread_once = equation

pub read_once : Only decide_one.read.Reads.Post (λ _ r _. r)
read_once = equation

pub write_once : Only decide_one.write.Reads.Post (λ _ r _. r)
write_once = equation

pub xpwrite_once : Only decide_one.xpwrite.Reads.Post (λ _ r _. r)
xpwrite_once = equation

pub limited_once : Only inner.limited (λ _ r _. r)
limited_once = equation

pub xdwrite_ten_once : Only decide_one.xdwrite_ten.Reads.Post (λ _ r _. r)
xdwrite_ten_once = equation

pub xdwriteread_once : Only decide_one.xdwriteread.Reads.Post (λ _ r _. r)
xdwriteread_once = equation

pub retained_once : Only decide_one.retained.Reads.Post (λ _ r _. r)
retained_once = equation

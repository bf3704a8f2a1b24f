-- `octets::number::to_be` meets its contract.
use Rattle.std.proofs.Common.{◌≡◌, List, ℕ, ◌-◌, take, drop, ap, ◌∙◌, div-one}
use Rattle.octets.specs.Number.{to_be, last_to_be}
use Rattle.octets.proofs.number.to_be.Goals as goal

pub returns : goal.returns
unfolding to_be
returns g c =
    let n = g.row.N in
    let whole : c.to_be_bytes-bytes.result ≡ to_be 8 c.args.v = rw (c.to_be_bytes-bytes.ensures, div-one) in
    c.copy_from_slice.ensures.after ∙ ap (λ (bs : List ℕ). take (8 - (8 - n)) (drop (8 - n) bs)) whole ∙ last_to_be n c.args.v c.requires

-- `hex_words::digits::number` meets its contract.
use Rattle.std.proofs.Common.{ℕ, List, ap, ◌∙◌, arith}
use Rattle.octets.specs.Put.{put_whole}
use Rattle.octets.specs.Number.{be}
use Rattle.hex_words.specs.Unhex.{number_long, number_hex, length_unhex, number_of_bytes}
use Rattle.hex_words.proofs.digits.number.Goals as goal

pub unhex-requires : goal.unhex-requires
unhex-requires c = (number_hex _ c.requires, omega (arith, number_long _ c.requires))

pub returns : goal.returns
returns c =
    let long = number_long _ c.requires in
    c.from_be_bytes.ensures
    ∙ number_of_bytes _ (omega arith)
    ∙ ap (λ (xs : List ℕ). be 4 xs 0) (c.unhex.ensures.wrote.leaves ∙ put_whole _ _ (omega (arith, length_unhex c.args.w.now)))

-- `hex_words::split::same` meets its contract.
use Rattle.std.proofs.Common.{◌≡◌, rules}
use Rattle.std.proofs.lemmas.Slice.Eq.{bytes_eq-Decides}
use Rattle.std.specs.Bool.{Decides}
use Rattle.folds.specs.Same.{same_list, same_list_lem, same_self}
use Rattle.hex_words.proofs.split.same.Goals as goal

pub returns : goal.returns
returns c =
    let v = c.args.v.now in
    let w = c.args.w.now in
    let own : Decides (same_list v w) (v ≡ w) = (same_list_lem v w, λ e. rw e (same_self w)) in
    search (rules, bytes_eq-Decides)

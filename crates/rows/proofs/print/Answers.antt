use Rattle.std.proofs.Common.{◌≡◌, ℕ, List, refl, sym, subst, OnOk, take}
use Rattle.std.proofs.lemmas.List.{length-take-le}
use Rattle.std.specs.Io.KnownBytes.{Appends}
use Rattle.text.specs.Room.{count_in}
use Rattle.rowsum.specs.Listing.{printed_of}
use Rattle.rowsum.specs.Fits.{printed_whole}
use Rattle.rows.proofs.print.Goals as goal

-- src/main.rt:34:18
pub slice_bounds-out-end : goal.slice_bounds-out-end
slice_bounds-out-end g c = rw (c.printed-n.ensures.value, c.printed-n.ensures.out_after) (count_in _ _)

-- src/main.rt:34:18
pub slice_bounds-write_all-end : goal.slice_bounds-write_all-end
slice_bounds-write_all-end g c =
    sym (length-take-le _ _ (rw (c.printed-n.ensures.value, c.printed-n.ensures.out_after) (count_in _ _)))

-- src/main.rt:29:1
pub returns : goal.returns
returns g c =
    let whole : take c.printed-n.result c.printed-n.new.out ≡ printed_of c.args.input.now =
    rw (c.printed-n.ensures.value, c.printed-n.ensures.out_after) (printed_whole _ _ refl) in
    subst (λ (bs : List ℕ). OnOk c.write_all.result (Appends (g.W.Write.contents c.args.to.now) (g.W.Write.contents c.write_all.new.self) bs)) whole
    c.write_all.ensures.bytes

-- `slots::change::write_record` meets its contract.
use Rattle.std.proofs.Common.{ap, ◌∙◌}
use Rattle.octets.specs.Put.{put}
use Rattle.octets.specs.Number.{to_be}
use Rattle.slots.specs.Record.{bytes_of}
use Rattle.slots.proofs.change.write_record.Goals as goal

pub returns : goal.returns
unfolding put to_be bytes_of
returns c =
    c.put_at.ensures
    ∙ ap (put c.args.image.now c.args.at)
    (rw (c.put_be-6.ensures, c.put_be-5.ensures, c.put_be-4.ensures, c.put_be-3.ensures, c.put_be-2.ensures, c.put_be.ensures))

-- A9, of the step itself.
use Rattle.divided.specs.InParts.{ours, InParts}
use Rattle.divided.proofs.Order.{order_free}
use Rattle.divided.proofs.Strings.{joins}
use Rattle.divided.proofs.Cut.{cut_free}
use Rattle.divided.proofs.Ranges.{joins_by_ranges}

pub in_parts : InParts ours
in_parts = record { order_free = order_free; joins = joins; cut_free = cut_free; joins_by_ranges = joins_by_ranges }

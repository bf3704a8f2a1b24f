-- A range within the whole, and what holds of its bytes.
use Rattle.std.specs.Prelude.{ℕ, ◌+◌, ◌*◌, ◌≤◌, ◌<◌}
use Rattle.divided.specs.InParts.{Extent}

-- each lies within the whole
abbrev pub Within : ℕ → Extent → Type 0
Within n p = p.from + p.count ≤ n

-- what holds of every byte of each holds of every byte, where a block has l
abbrev pub OnBytes : (ℕ → Type 0) → ℕ → Extent → Type 0
OnBytes P l p = (j : ℕ) → p.from * l ≤ j → j < p.from * l + p.count * l → P j

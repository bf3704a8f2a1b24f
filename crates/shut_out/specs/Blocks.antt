-- Wrong XORs of blocks, each by a call after which it has broken the contract of `shelf_xor` or of `shelf_xor_four`. Neither answers
-- anything, so that none can refuse or pretend.
use Rattle.std.specs.Prelude.{ℕ, List, [], ◌∷◌, ◌≡◌, get_or}
use Rattle.std.proofs.Common.{arith, ap}
use Rattle.octets.specs.Part.{part}
use Rattle.octets.specs.Xor.{◌⊻◌}
use Rattle.octets.specs.Operands.{xor_all}
use Rattle.shelf_c.specs.Blocks.{common, xored, xored_all}

-- a block of three bytes, and a shorter one, one as long and a longer one to XOR into it
abbrev block : List ℕ
block = 0x0F ∷ 0x33 ∷ 0x55 ∷ []

abbrev two : List ℕ
two = 0xFF ∷ 0x0F ∷ []

abbrev three : List ℕ
three = 0x01 ∷ 0x02 ∷ 0x04 ∷ []

abbrev four : List ℕ
four = 0x10 ∷ 0x20 ∷ 0x40 ∷ 0x80 ∷ []

-- ---- shelf_xor: 0E 31 51 with three, F0 3C 55 with two, 1F 13 15 with four

-- it does nothing; nothing where the blocks differ in length
pub idle_not : block ≡ xored block three → ⊥
unfolding ◌⊻◌ part
idle_not h = let z : ◌≡◌ {A = ℕ} 0x0F 0x0E = ap (λ (l : List ℕ). get_or l 0 0) h in omega arith

pub shorter_left_not : block ≡ xored block two → ⊥
unfolding ◌⊻◌ part
shorter_left_not h = let z : ◌≡◌ {A = ℕ} 0x0F 0xF0 = ap (λ (l : List ℕ). get_or l 0 0) h in omega arith

pub longer_left_not : block ≡ xored block four → ⊥
unfolding ◌⊻◌ part
longer_left_not h = let z : ◌≡◌ {A = ℕ} 0x0F 0x1F = ap (λ (l : List ℕ). get_or l 0 0) h in omega arith

-- it XORs the first byte only, or all but the last
pub first_byte_only_not : (0x0E ∷ 0x33 ∷ 0x55 ∷ []) ≡ xored block three → ⊥
unfolding ◌⊻◌ part
first_byte_only_not h = let z : ◌≡◌ {A = ℕ} 0x33 0x31 = ap (λ (l : List ℕ). get_or l 1 0) h in omega arith

pub last_byte_left_not : (0x0E ∷ 0x31 ∷ 0x55 ∷ []) ≡ xored block three → ⊥
unfolding ◌⊻◌ part
last_byte_left_not h = let z : ◌≡◌ {A = ℕ} 0x55 0x51 = ap (λ (l : List ℕ). get_or l 2 0) h in omega arith

-- it copies; it takes OR for XOR
pub copying_not : three ≡ xored block three → ⊥
unfolding ◌⊻◌ part
copying_not h = let z : ◌≡◌ {A = ℕ} 0x01 0x0E = ap (λ (l : List ℕ). get_or l 0 0) h in omega arith

pub or_not : (0xFF ∷ 0x3F ∷ 0x55 ∷ []) ≡ xored block two → ⊥
unfolding ◌⊻◌ part
or_not h = let z : ◌≡◌ {A = ℕ} 0xFF 0xF0 = ap (λ (l : List ℕ). get_or l 0 0) h in omega arith

-- the rest does not stay
pub rest_cleared_not : (0xF0 ∷ 0x3C ∷ 0x00 ∷ []) ≡ xored block two → ⊥
unfolding ◌⊻◌ part
rest_cleared_not h = let z : ◌≡◌ {A = ℕ} 0x00 0x55 = ap (λ (l : List ℕ). get_or l 2 0) h in omega arith

-- ---- shelf_xor_four: all have two bytes, and E4 18 55 is left

abbrev operands : List (List ℕ)
operands = three ∷ four ∷ (0x05 ∷ 0x06 ∷ 0x07 ∷ []) ∷ two ∷ []

-- it does nothing
pub four_idle_not : block ≡ xored_all block operands → ⊥
unfolding ◌⊻◌ part xor_all common
four_idle_not h = let z : ◌≡◌ {A = ℕ} 0x0F 0xE4 = ap (λ (l : List ℕ). get_or l 0 0) h in omega arith

-- it takes the first operand only, or leaves the fourth out
pub first_operand_only_not : (0x0E ∷ 0x31 ∷ 0x55 ∷ []) ≡ xored_all block operands → ⊥
unfolding ◌⊻◌ part xor_all common
first_operand_only_not h = let z : ◌≡◌ {A = ℕ} 0x0E 0xE4 = ap (λ (l : List ℕ). get_or l 0 0) h in omega arith

pub fourth_left_out_not : (0x1B ∷ 0x17 ∷ 0x55 ∷ []) ≡ xored_all block operands → ⊥
unfolding ◌⊻◌ part xor_all common
fourth_left_out_not h = let z : ◌≡◌ {A = ℕ} 0x1B 0xE4 = ap (λ (l : List ℕ). get_or l 0 0) h in omega arith

-- it takes the third operand twice, and not the fourth
pub third_twice_not : (0x1E ∷ 0x11 ∷ 0x55 ∷ []) ≡ xored_all block operands → ⊥
unfolding ◌⊻◌ part xor_all common
third_twice_not h = let z : ◌≡◌ {A = ℕ} 0x1E 0xE4 = ap (λ (l : List ℕ). get_or l 0 0) h in omega arith

-- it goes on past the end of the shortest
pub past_shortest_not : (0xE4 ∷ 0x18 ∷ 0x16 ∷ []) ≡ xored_all block operands → ⊥
unfolding ◌⊻◌ part xor_all common
past_shortest_not h = let z : ◌≡◌ {A = ℕ} 0x16 0x55 = ap (λ (l : List ℕ). get_or l 2 0) h in omega arith

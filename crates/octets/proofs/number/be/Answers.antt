-- `octets::number::be` meets its contract. A turn adds a byte to the number, and what n bytes write is below 256 ^ n.
use Rattle.std.proofs.Common.{◌≡◌, List, ℕ, ◌+◌, ◌-◌, ◌*◌, ◌≤◌, ◌<◌, ◌^◌, length, get_or, take, drop, refl, ap, ◌∙◌, arith, lit<}
use Rattle.std.proofs.Math.Nat.{pow-le-pow_right}
use Rattle.octets.specs.Octets.{Octets}
use Rattle.octets.specs.Part.{part, part_snoc, get_or_part, mid_part, mid_length}
use Rattle.octets.specs.Number.{num, num_snoc, be, be_lt}
use Rattle.octets.proofs.number.be.Goals as goal

module _ (xs : List ℕ) (at n i : ℕ) (h : at + n ≤ length xs) (t : i < length (take (at + n - at) (drop at xs))) where
  within : i < n
  within = omega (arith, mid_length xs at n h)

  next : (v x : ℕ) → v ≡ be i xs at → x ≡ get_or (take (at + n - at) (drop at xs)) i 0 → v * 256 + x ≡ be (i + 1) xs at
  next v x e f =
      let own = f ∙ ap (λ (ys : List ℕ). get_or ys i 0) (mid_part xs at n) ∙ get_or_part xs at n i within in
      let l = within in
      rw (part_snoc xs at i (omega arith), num_snoc, ← e, ← own)

  -- and is below 2 ^ 64, with the byte or without
  next_lt : n ≤ 8 → Octets xs → be i xs at * 256 + get_or (take (at + n - at) (drop at xs)) i 0 < 256 ^ 8
  next_lt k o =
      let l = within in
      let p : 256 ^ (i + 1) ≤ 256 ^ 8 = pow-le-pow_right (lit< tt) {j = 8} (omega arith) in
      omega (arith, next (be i xs at) _ refl refl, be_lt (i + 1) xs at (omega arith) o)

pub loop-x-init : goal.loop-x-init
unfolding num part
loop-x-init g c = refl

pub overflow_mul-v : goal.overflow_mul-v
overflow_mul-v g c =
    let xs = c.args.xs.now in
    omega (arith, next_lt xs c.args.at g.row.N c.loop-x.x-index c.requires.0 c.loop-x-test.true c.requires.1 (λ i. (c.type_inv.xs i).fits))

pub overflow_add-v : goal.overflow_add-v
overflow_add-v g c =
    let xs = c.args.xs.now in
    omega (arith, next_lt xs c.args.at g.row.N c.loop-x.x-index c.requires.0 c.loop-x-test.true c.requires.1 (λ i. (c.type_inv.xs i).fits))

pub loop-x-preserved : goal.loop-x-preserved
loop-x-preserved g c = next c.args.xs.now c.args.at g.row.N c.loop-x.x-index c.requires.0 c.loop-x-test.true c.loop-x.v c.from.result c.loop-x.invariant c.from.ensures

pub returns : goal.returns
returns g c =
    let xs = c.args.xs.now in
    let at = c.args.at in
    let e : c.loop-x.x-index ≡ g.row.N = omega (arith, mid_length xs at g.row.N c.requires.0) in
    let v = rw e at c.loop-x.invariant in
    (v, rw v (be_lt g.row.N xs at c.requires.0 (λ i. (c.type_inv.xs i).fits)))

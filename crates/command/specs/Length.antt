-- What the list's own block and the resolved length do to a command, and how large a length is.
use Rattle.std.specs.Prelude.{ℕ, ◌+◌, ◌-◌, ◌*◌, ◌≤◌, ◌<◌, List, Bool, true, false, cond, ◌≡◌, leb, ltb, eqb}
use Rattle.std.proofs.Common.{mul-le-mul, arith}
use Rattle.std.proofs.Math.Path.{refl}
use borrow.Author.Tests.{leb-false, eqb-true, lt-ltb, le-ltb, lt-leb, le-leb, eq-eqb, ne_eqb}
use Rattle.octets.specs.Number.{be}
use Rattle.geometry.specs.declared.Geometry.{Geometry}
use Rattle.geometry.specs.Frame.{InRange}
use Rattle.command.specs.declared.Command.{Command}
use Rattle.command.specs.Command.{Fits, own_of, resolved_count, resolved_of}

-- ---- only the block, only the length changes

-- all but block and length is the same
pub record SameButPlace (j k : Command) : Type 0 where
  pub code_kept : j.code ≡ k.code
  pub op_kept : j.op ≡ k.op
  pub came_kept : j.came ≡ k.came
  pub flags_kept : j.flags ≡ k.flags
  pub six_kept : j.six ≡ k.six
  pub control_kept : j.control ≡ k.control
  pub list_kept : j.list ≡ k.list
  pub second_kept : j.second ≡ k.second
  pub spot_kept : j.spot ≡ k.spot

module _ (k : Command) (s : List ℕ) where
  pub own_kept : SameButPlace (own_of k s) k
  unfolding own_of
  own_kept = record { code_kept = refl; op_kept = refl; came_kept = refl; flags_kept = refl; six_kept = refl; control_kept = refl; list_kept = refl; second_kept = refl; spot_kept = refl }

  pub own_block : (own_of k s).block.0 ≡ be 4 s 4
  unfolding own_of
  own_block = refl

  pub own_count : (own_of k s).count ≡ k.count
  unfolding own_of
  own_count = refl

either_way : (b : Bool) (n : ℕ) → cond b n n ≡ n
either_way true n = refl
either_way false n = refl

-- a length other than FFFFFFFFh stays
pub resolved_same : (n b B : ℕ) → (n ≡ 0xFFFFFFFF → ⊥) → resolved_count n b B ≡ n
resolved_same n b B h = rw (ne_eqb n 0xFFFFFFFF h)

module _ (k : Command) (B : ℕ) where
  pub resolved_kept : SameButPlace (resolved_of k B) k
  unfolding resolved_of
  resolved_kept = record { code_kept = refl; op_kept = refl; came_kept = refl; flags_kept = refl; six_kept = refl; control_kept = refl; list_kept = refl; second_kept = refl; spot_kept = refl }

  pub resolved_block : (resolved_of k B).block ≡ k.block
  unfolding resolved_of
  resolved_block = refl

  pub resolved_count_lem : (resolved_of k B).count ≡ resolved_count k.count k.block.0 B
  unfolding resolved_of
  resolved_count_lem = refl

  pub resolved_plain : (k.count ≡ 0xFFFFFFFF → ⊥) → resolved_of k B ≡ k
  unfolding resolved_of
  resolved_plain h = rw (resolved_same k.count k.block.0 B h)

  -- "to the last block"
  pub resolved_end : k.count ≡ 0xFFFFFFFF → k.block.0 < B → k.block.0 + (resolved_of k B).count ≡ B
  unfolding resolved_of
  resolved_end e h = rw (eq-eqb k.count 0xFFFFFFFF e, lt-leb B k.block.0 h) (omega arith)

  -- no block is left
  pub resolved_beyond : B ≤ k.block.0 → resolved_of k B ≡ k
  unfolding resolved_of
  resolved_beyond h = rw (le-leb B k.block.0 h, either_way)

-- ---- how large

-- "block + length above B, or REBUILD FFFFFFFFh with block at or above B" is one test of the resolved length
pub range_words : (n b B : ℕ) → B ≤ 65536 → ltb B (b + resolved_count n b B) ≡ cond (eqb n 0xFFFFFFFF) (leb B b) (ltb B (b + n))
range_words n b B h = pick (eqb n 0xFFFFFFFF) (leb B b) refl refl
  where
    pick : (u v : Bool) → eqb n 0xFFFFFFFF ≡ u → leb B b ≡ v → ltb B (b + cond u (cond v n (B - b)) n) ≡ cond u v (ltb B (b + n))
    pick false v p q = refl
    pick true true p q = let e : n ≡ 0xFFFFFFFF = eqb-true _ _ p in lt-ltb B (b + n) (omega arith)
    pick true false p q = let l : b < B = leb-false B b q in le-ltb B (b + (B - b)) (omega arith)

-- some blocks stay some
pub resolved_some : (n b B : ℕ) → (n ≡ 0 → ⊥) → 1 ≤ resolved_count n b B
resolved_some n b B z = pick (eqb n 0xFFFFFFFF) (leb B b) refl
  where
    pick : (u v : Bool) → leb B b ≡ v → 1 ≤ cond u (cond v n (B - b)) n
    pick true true w = omega arith
    pick true false w = let h : b < B = leb-false B b w in omega arith
    pick false v w = omega arith

-- any length in bytes, before its range is known
pub bytes_small : (k : Command) (g : Geometry) → Fits k → InRange g → k.count * g.l ≤ 17592186040320
bytes_small k g f r = let m : k.count ≤ 4294967295 = omega (arith, f.count_small) in mul-le-mul m r.l_high

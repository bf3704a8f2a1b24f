-- What REBUILD and REGENERATE gather by a list that was written from its sources, and both with such a list.
use Rattle.std.specs.Prelude.{ℕ, zero, suc, ◌+◌, ◌*◌, ◌≤◌, ◌<◌, Bool, true, false, cond, ◌≡◌, refl, ◌⊎◌, List, [], ◌∷◌, ◌++◌, map, length, get_or, take, drop, replicate}
use Rattle.std.proofs.Common.{arith, sym, ap, ap₂, subst, ◌∙◌, length-drop, take_all}
use Rattle.octets.specs.Part.{part}
use Rattle.octets.specs.Put.{put}
use Rattle.octets.specs.Xor.{◌⊻◌, xor_regroups, xor_itself}
use Rattle.octets.specs.Operands.{xor_all}
use Rattle.folds.specs.Each.{EachIs}
use Rattle.geometry.specs.declared.Geometry.{Geometry}
use Rattle.geometry.specs.Header.{place, blocks_at}
use Rattle.drives.specs.declared.Came.{Came}
use Rattle.image.specs.Shelf.{shelf_frame}
use Rattle.command.specs.declared.Source.{Source}
use Rattle.command.specs.Command.{source_of}
use Rattle.meaning.specs.declared.Act.TheVariants.{Rebuild, Regenerate}
use Rattle.meaning.specs.Decision.{go}
use Rattle.sense.specs.declared.Answer.TheVariants.{Good}
use Rattle.sense.specs.Sense.{outcome_of}
use Rattle.meaning.specs.Acts.{over, named_blocks, sources_from, gathered}
use Rattle.meaning.specs.Step.{decided}
use Rattle.meaning.specs.Stepped.{Stepped}
use Rattle.demands_one_two.specs.Effects.{result_in}
use Rattle.results.specs.Results.{results}
use Rattle.meaning.specs.Allowed.{Blocks, Limited, Sourced}
use Rattle.callers.specs.Bytes.{rebuild_cdb, regenerate_cdb}
use Rattle.callers.specs.Lists.{list_of, entries_from, entries_of, behind, list_long, list_headed, list_behind}
use Rattle.callers.specs.Does.{summing, blocks, Does, Target}
use Rattle.callers.specs.Sources.{Names, read_all, list_sourced}
use Rattle.callers.specs.Listed.{ListByte, HowLong}
use Rattle.callers.specs.Rebuilds.{rebuild_goes, regenerate_goes}
use Rattle.callers.specs.Goes.{exactly, does}
use Rattle.callers.specs.Results.{free_left}

-- the operands: the sources' blocks, and with Int Data the data d
abbrev pub operands : List ℕ → Geometry → Came → ℕ → List Source → Bool → List ℕ → List (List ℕ)
operands m g a n es int d = map (named_blocks m g a n) es ++ cond int (d ∷ []) []

-- "A source listed twice at one block cancels.": zeros as long as its blocks are left of the two; in what order a list stands never matters
-- (`xor_all_perm`)
pub cancels : (m : List ℕ) (g : Geometry) (a : Came) (n : ℕ) (e : Source) (es : List Source) (int : Bool) (d : List ℕ)
    → xor_all (operands m g a n (e ∷ e ∷ es) int d) ≡ replicate (length (named_blocks m g a n e)) 0 ⊻ xor_all (operands m g a n es int d)
unfolding xor_all
cancels m g a n e es int d =
    let x = named_blocks m g a n e in
    let rest = xor_all (operands m g a n es int d) in
    sym (xor_regroups x x rest) ∙ ap (λ (z : List ℕ). z ⊻ rest) (xor_itself x)

pub named_entries : (m : List ℕ) (g : Geometry) (a : Came) (s : List ℕ) (n i left : ℕ) → sources_from m g a s n i left ≡ map (named_blocks m g a n) (entries_from s i left)
unfolding sources_from entries_from
named_entries m g a s n i zero = refl
named_entries m g a s n i (suc left) = ap (λ (xs : List (List ℕ)). named_blocks m g a n (source_of s i) ∷ xs) (named_entries m g a s n (i + 1) left)

-- what REBUILD and REGENERATE gather is the XOR of the operands that the list names
pub gathered_entries : (m : List ℕ) (g : Geometry) (a : Came) (s : List ℕ) (n : ℕ) (int : Bool) → length s ≡ 8 + 8 * get_or s 0 0 + cond int (n * g.l) 0
    → gathered m g s n (summing a int) ≡ xor_all (operands m g a n (entries_of s) int (behind s))
unfolding gathered part
gathered_entries m g a s n int exact =
    ap₂ (λ (xs ys : List (List ℕ)). xor_all (xs ++ ys)) (named_entries m g a s n 0 (get_or s 0 0)) (pick int exact)
  where
    at : ℕ
    at = 8 + 8 * get_or s 0 0

    pick : (u : Bool) → length s ≡ at + cond u (n * g.l) 0 → cond u (take (n * g.l) (drop at s) ∷ []) [] ≡ cond u (drop at s ∷ []) []
    pick false e = refl
    pick true e = ap (λ (ys : List ℕ). ys ∷ []) (take_all (n * g.l) (drop at s) (omega (arith, length-drop at s)))

module _ (m : List ℕ) (g : Geometry) (a : Came) (t : ℕ) (h : Target m g a t) (b n : ℕ) (es : List Source) (int : Bool) (d : List ℕ)
    (each : EachIs (Names m g a (blocks t b n)) es) (long : length d ≡ cond int (n * g.l) 0) where
  gathered_is : gathered m g (list_of b es d) n (summing a int) ≡ xor_all (operands m g a n es int d)
  gathered_is =
      gathered_entries m g a (list_of b es d) n int (omega (arith, list_long b es d))
      ∙ ap₂ (λ (xs : List Source) (ys : List ℕ). xor_all (operands m g a n xs int ys)) (read_all m g h.shelf a (blocks t b n) b es d each) (list_behind b es d)

  -- one source at least, and so many that a byte counts them
  module _ (one : 1 ≤ length es) (few : length es < 256) (w : Blocks m g (blocks t b n)) (r : List ℕ) (flags : ℕ) (z : ListByte flags int) where
    small : b < 4294967296
    small = omega (arith, w.range.range_in, (shelf_frame m g h.shelf).placed.ranges.b_high)

    sourced : Sourced m g (blocks t b n) (summing a int) (list_of b es d)
    sourced = list_sourced m g h.shelf a (blocks t b n) b es d each int one long

    rebuild_listed : (count : ℕ) → HowLong g.b b n count → (int ≡ false) ⊎ (count ≡ n)
        → decided m a (rebuild_cdb flags count (length es)) (list_of b es d) r ≡ go (Rebuild (blocks t b n) (summing a int)) Good
    rebuild_listed = rebuild_goes m g a t h b n (length es) flags int (list_of b es d) r z (list_headed b es d small) few w sourced

    -- REBUILD: the XOR of the operands is written to the target, and not another byte
    pub rebuild_exactly : (count : ℕ) → HowLong g.b b n count → (int ≡ false) ⊎ (count ≡ n)
        → Stepped m a (rebuild_cdb flags count (length es)) (list_of b es d) r (outcome_of Good 0) (put m (place g t b) (xor_all (operands m g a n es int d))) (put r 0 [])
    rebuild_exactly count how with =
        subst (λ (x : List ℕ). Stepped m a (rebuild_cdb flags count (length es)) (list_of b es d) r (outcome_of Good 0) (put m (place g t b) x) (put r 0 [])) gathered_is
        (exactly m g h.shelf a (rebuild_cdb flags count (length es)) (list_of b es d) r (Rebuild (blocks t b n) (summing a int)) (rebuild_listed count how with))

    pub rebuild_does : (count : ℕ) → HowLong g.b b n count → (int ≡ false) ⊎ (count ≡ n)
        → Does m g a (rebuild_cdb flags count (length es)) (list_of b es d) r [] (over (blocks t b n) (xor_all (operands m g a n es int d)) ∷ []) (results m g)
    rebuild_does count how with =
        subst (λ (x : List ℕ). Does m g a (rebuild_cdb flags count (length es)) (list_of b es d) r [] (over (blocks t b n) x ∷ []) (results m g)) gathered_is
        (does m g h.shelf a (rebuild_cdb flags count (length es)) (list_of b es d) r (Rebuild (blocks t b n) (summing a int)) (rebuild_listed count how with))

    -- REGENERATE: the XOR of the target's own blocks and the operands is retained, where one more fits
    pub regenerate_does : Limited g (blocks t b n) → length (results m g) < g.s
        → Does m g a (regenerate_cdb flags n (length es)) (list_of b es d) r [] []
        (result_in 2 (blocks t b n) (blocks_at m g t b n ⊻ xor_all (operands m g a n es int d)) ∷ results m g)
    regenerate_does most more =
        let v = free_left m g h.shelf more in
        subst (λ (x : List ℕ). Does m g a (regenerate_cdb flags n (length es)) (list_of b es d) r [] [] (result_in 2 (blocks t b n) (blocks_at m g t b n ⊻ x) ∷ results m g)) gathered_is
        (does m g h.shelf a (regenerate_cdb flags n (length es)) (list_of b es d) r (Regenerate (blocks t b n) (summing a int) v.slot)
        (regenerate_goes m g a t h b n (length es) flags int (list_of b es d) r z (list_headed b es d small) few w sourced most v.slot v.free))

-- REBUILD and REGENERATE pass their checks.
use Rattle.std.specs.Prelude.{ℕ, ◌+◌, ◌*◌, ◌/◌, ◌%◌, ◌≤◌, ◌<◌, Bool, true, false, ◌&&◌, ◌≡◌, refl, ◌⊎◌, List, [], ltb, eqb, Option, is_none}
use Rattle.std.proofs.Common.{arith, true≢false, sym, ap, ap₂, ◌∙◌, inl, inr, le-ltb, ne_eqb}
use Rattle.std.proofs.Math.Bool.{and-false}
use Rattle.folds.specs.Least.{index}
use Rattle.geometry.specs.declared.Geometry.{Geometry}
use Rattle.drives.specs.declared.Came.{Came}
use Rattle.slots.specs.Find.{empty_slot}
use Rattle.image.specs.Shelf.{shelf_frame}
use Rattle.sense.specs.declared.Answer.TheVariants.{Good}
use Rattle.command.specs.declared.Op.TheVariants.{Rebuild, Regenerate}
use Rattle.meaning.specs.declared.Span.{Span}
use Rattle.meaning.specs.declared.Act.TheVariants.{Rebuild as ToRebuild, Regenerate as ToRegenerate}
use Rattle.meaning.specs.Decision.{go}
use Rattle.meaning.specs.Checks.{busy}
use Rattle.meaning.specs.Step.{decided}
use Rattle.meaning.specs.Allowed.{Blocks, Sourced, Limited, Free}
use Rattle.callers.specs.Bytes.{listed_saying, rebuild_cdb, regenerate_cdb, rebuild_says, regenerate_says}
use Rattle.callers.specs.Lists.{Headed}
use Rattle.callers.specs.Does.{summing, blocks, Target}
use Rattle.callers.specs.Goes.{◌then◌, goes}
use Rattle.callers.specs.Listed.{ListByte, HowLong, resolves, span_is, all_pass}

-- n blocks of the target from block b on, by a list s of so many sources, which a byte counts
module _ (m : List ℕ) (g : Geometry) (a : Came) (t : ℕ) (h : Target m g a t) (b n sources flags : ℕ) (int : Bool) (s r : List ℕ)
    (z : ListByte flags int) (hd : Headed s sources b) (few : sources < 256)
    (w : Blocks m g (blocks t b n)) (v : Sourced m g (blocks t b n) (summing a int) s) where
  most : g.b ≤ 65536
  most = (shelf_frame m g h.shelf).placed.ranges.b_high

  data_length : (count : ℕ) → (int ≡ false) ⊎ (count ≡ n) → int ≡ true → count ≡ n
  data_length count (inl q) e = absurd (true≢false (sym e ∙ q))
  data_length count (inr q) e = q

  not_last : (count : ℕ) → (int ≡ false) ⊎ (count ≡ n) → (int && eqb count 0xFFFFFFFF) ≡ false
  not_last count (inl q) = rw q
  not_last count (inr q) = ap (λ (x : Bool). int && x) (ne_eqb count 0xFFFFFFFF (λ e. omega (arith, w.range.range_in, most))) ∙ and-false int

  -- REBUILD: the XOR of the sources and the intermediate data is written to the target; with Int Data the length is n itself
  pub rebuild_goes : (count : ℕ) → HowLong g.b b n count → (int ≡ false) ⊎ (count ≡ n)
      → decided m a (rebuild_cdb flags count sources) s r ≡ go (ToRebuild (blocks t b n) (summing a int)) Good
  rebuild_goes count long with =
      let q = resolves g.b b n count w.some w.range.range_in most long in
      let e = data_length count with in
      let end = (ap (λ (x : Bool). x && eqb count 0xFFFFFFFF) z.int_is ∙ not_last count with) in
      goes m g a t h (rebuild_cdb flags count sources) s r Rebuild (listed_saying 0xC3 Rebuild a flags count (8 + 8 * sources)) (ToRebuild (blocks t b n) (summing a int))
      (rebuild_says a flags count (8 + 8 * sources) q.small (omega arith))
      (all_pass m g a t b n count sources flags int s z hd q e w v 0xC3 Rebuild refl _ [] end tt)
      (ap₂ (λ (x : Span) (y : Bool). go (ToRebuild x (summing a y)) Good) (span_is m g a t b n count sources flags int s z hd q e w v 0xC3 Rebuild refl) z.int_is)

  -- REGENERATE: that and the target's own blocks, XORed, are retained in slot i
  pub regenerate_goes : Limited g (blocks t b n) → (i : ℕ) → Free m g i
      → decided m a (regenerate_cdb flags n sources) s r ≡ go (ToRegenerate (blocks t b n) (summing a int) i) Good
  regenerate_goes small i u =
      let q = resolves g.b b n n w.some w.range.range_in most (inl refl) in
      let e : (int ≡ true → n ≡ n) = (λ x. refl) in
      goes m g a t h (regenerate_cdb flags n sources) s r Regenerate (listed_saying 0xC4 Regenerate a flags n (8 + 8 * sources)) (ToRegenerate (blocks t b n) (summing a int) i)
      (regenerate_says a flags n (8 + 8 * sources) q.small (omega arith))
      (all_pass m g a t b n n sources flags int s z hd q e w v 0xC4 Regenerate refl (ltb g.m n) (busy Regenerate m g (listed_saying 0xC4 Regenerate a flags n (8 + 8 * sources)))
      (le-ltb g.m n small) (ap is_none u.takes then tt))
      (ap (λ (x : Span). go (ToRegenerate x (summing a (eqb (flags / 4 % 2) 1)) (index (empty_slot m g))) Good) (span_is m g a t b n n sources flags int s z hd q e w v 0xC4 Regenerate refl)
      ∙ ap₂ (λ (x : Bool) (y : Option ℕ). go (ToRegenerate (blocks t b n) (summing a x) (index y)) Good) z.int_is u.takes)

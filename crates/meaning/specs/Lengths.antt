-- Where the blocks of an act lie, and how long its bytes are.
use Prim.Native.Nat.{ℕ, ◌+◌, ◌*◌, ◌≤◌}
use Rattle.std.proofs.Common.{arith, sym, ◌∙◌}
use Rattle.std.specs.Prelude.{◌≡◌, Bool, true, false, cond, List, length, get_or}
use Rattle.std.proofs.Math.Path.{refl, ap}
use Rattle.octets.specs.Xor.{length_xor_le}
use Rattle.folds.specs.Least.{index}
use Rattle.geometry.specs.declared.Geometry.{Geometry}
use Rattle.geometry.specs.Frame.{Framed}
use Rattle.geometry.specs.Places.{Range, place_after_media, range_room, range_long}
use Rattle.drives.specs.declared.Came.{Came}
use Rattle.command.specs.declared.Source.{Source}
use Rattle.meaning.specs.declared.Span.{Span}
use Rattle.meaning.specs.declared.Summing.{Summing}
use Rattle.meaning.specs.Acts.{span_at, blocks_of, mixed, result_of, laid, home_of, start_of}
use Rattle.meaning.specs.Allowed.{Blocks, NamesOther, Sourced}

-- a span lies on the media, and in the image
pub span_after_media : (g : Geometry) (x : Span) → g.media ≤ span_at g x
span_after_media g x = place_after_media g x.drive x.block.0

pub span_in : (s : List ℕ) (g : Geometry) (x : Span) → Framed s g → Range g x.drive x.block.0 x.count → span_at g x + x.count * g.l ≤ length s
span_in s g x f r = range_room s g x.drive x.block.0 x.count f r

-- what XDWRITE's bytes become is as long as they are
pub length_laid : (adds : Bool) (there bytes : List ℕ) → length there ≡ length bytes → length (laid adds there bytes) ≡ length bytes
length_laid true there bytes e = length_xor_le there bytes (omega arith) ∙ e
length_laid false there bytes e = refl

pub length_mixed : (mirror : Bool) (bytes old : List ℕ) → length old ≡ length bytes → length (mixed mirror bytes old) ≡ length bytes
length_mixed true bytes old e = refl
length_mixed false bytes old e = length_xor_le bytes old (omega arith)

module _ (s : List ℕ) (g : Geometry) (f : Framed s g) (x : Span) (b : Blocks s g x) where
  pub length_blocks : length (blocks_of s g x) ≡ x.count * g.l
  length_blocks = range_long s g x.drive x.block.0 x.count f b.range

  pub length_result : (mirror : Bool) (sent : List ℕ) → length sent ≡ x.count * g.l → length (result_of s g x mirror sent) ≡ x.count * g.l
  length_result mirror sent e = length_mixed mirror sent (blocks_of s g x) (length_blocks ∙ sym e) ∙ e

-- one source: its blocks are those of the drive that its address names, and lie in the image
module _ (s : List ℕ) (g : Geometry) (a : Came) (x : Span) (e : Source) (o : NamesOther s g a x e) where
  pub home_is : home_of s g a e ≡ o.drive
  home_is = ap index o.found

  pub home_range : Range g (home_of s g a e) e.block.0 x.count
  home_range = rw home_is o.range

  pub source_in : Framed s g → start_of s g a e + x.count * g.l ≤ length s
  source_in f = range_room s g (home_of s g a e) e.block.0 x.count f home_range

module _ (s : List ℕ) (g : Geometry) (x : Span) (j : Summing) (sent : List ℕ) (f : Framed s g) (h : Sourced s g x j sent) where
  -- the list is among the bytes sent, and the intermediate data follows it
  pub list_in : 8 + 8 * get_or sent 0 0 ≤ length sent
  list_in = omega (arith, h.exact)

  pub int_exact : j.int ≡ true → length sent ≡ 8 + 8 * get_or sent 0 0 + x.count * g.l
  int_exact q = h.exact ∙ ap (λ (c : Bool). 8 + 8 * get_or sent 0 0 + cond c (x.count * g.l) 0) q

-- A9 as properties of any program: one REBUILD and two over two strings; a list and the same list in another order; a REBUILD and its ranges.
use Rattle.std.specs.Prelude.{ℕ, ◌+◌, ◌*◌, ◌/◌, ◌%◌, ◌≤◌, ◌<◌, Bool, true, false, cond, ◌⊎◌, ◌≡◌, eqb, length, get_or, Some}
use mathlib.Core.List.{List, [], ◌∷◌, ◌++◌, map, Permᴰ}
use Rattle.octets.specs.Part.{part}
use Rattle.octets.specs.Number.{be}
use Rattle.octets.specs.Octets.{Octets}
use Rattle.folds.specs.Each.{EachIs}
use Rattle.geometry.specs.declared.Geometry.{Geometry}
use Rattle.geometry.specs.Header.{blocks_at}
use Rattle.drives.specs.declared.Came.{Came}
use Rattle.drives.specs.Table.{address_of, target_of, source_drive, failed}
use Rattle.results.specs.First.{first_of}
use Rattle.results.specs.Newest.{answers}
use Rattle.results.specs.Results.{results}
use Rattle.image.specs.Shelf.{Shelf}
use Rattle.sense.specs.declared.Answer.TheVariants.{Good}
use Rattle.sense.specs.declared.Outcome.{Outcome}
use Rattle.sense.specs.Sense.{outcome_of}
use Rattle.command.specs.declared.Op.{Op}
use Rattle.command.specs.declared.Op.TheVariants.{XdRead, Rebuild, Regenerate}
use Rattle.command.specs.declared.Source.{Source}
use Rattle.command.specs.Command.{op_of, resolved_count}
use Rattle.meaning.specs.Step.{step_outcome, step_image, step_room}
use Rattle.callers.specs.Bytes.{rebuild_cdb}
use Rattle.callers.specs.Lists.{source, list_of, entries_of, behind}
use Rattle.callers.specs.Sources.{source_at}
use Rattle.callers.specs.Listed.{ListByte, HowLong}

-- ---- programs

-- a command: how it came, CDB, data-out bytes, receive room
pub record Sent : Type 0 where
  pub came : Came
  pub cdb : List ℕ
  pub bytes : List ℕ
  pub room : List ℕ

abbrev pub sent : Came → List ℕ → List ℕ → List ℕ → Sent
sent a c s r = record { came = a; cdb = c; bytes = s; room = r }

pub record Reply : Type 0 where
  pub outcome : Outcome
  pub image : List ℕ
  pub room : List ℕ

abbrev pub reply : Outcome → List ℕ → List ℕ → Reply
reply o m r = record { outcome = o; image = m; room = r }

abbrev pub Program : Type 0
Program = List ℕ → Sent → Reply

abbrev pub ours : Program
ours m x =
    reply (step_outcome m x.came x.cdb x.bytes x.room) (step_image m x.came x.cdb x.bytes x.room) (step_room m x.came x.cdb x.bytes x.room)

-- answered GOOD
abbrev pub IsGood : Program → List ℕ → Sent → Type 0
IsGood step m x = (step m x).outcome.answer ≡ Good

-- GOOD, with this image, and the room as it was
abbrev pub leaving : List ℕ → Sent → Reply
leaving m x = reply (outcome_of Good 0) m x.room

-- ---- what REBUILD and REGENERATE ask for

-- the command x, with a list, asks for n blocks from block b on, of drives of B, from the sources es; with Int Data d where int says so:
-- "byte 1: bit 2 Int Data", "length 2-5, list length 7-8", where "length FFFFFFFFh means to the last block"; in the list "4-7 own block; then 8
-- bytes per source"
pub record Asks (o : Op) (B : ℕ) (x : Sent) (b n : ℕ) (es : List Source) (int : Bool) (d : List ℕ) : Type 0 where
  pub code : op_of (get_or x.cdb 0 0) ≡ o
  pub flag : eqb (get_or x.cdb 1 0 / 4 % 2) 1 ≡ int
  pub long : resolved_count (be 4 x.cdb 2) b B ≡ n
  pub listed : be 2 x.cdb 7 ≡ 8 + 8 * length es
  pub own : be 4 x.bytes 4 ≡ b
  pub sources : entries_of x.bytes ≡ es
  pub rest : behind x.bytes ≡ d

-- the bytes of a REBUILD from block b on, with the sources es: byte 1 of its CDB, and the length as it stands there
abbrev pub rebuilding : Came → ℕ → ℕ → ℕ → List Source → List ℕ → List ℕ → Sent
rebuilding a flags count b es d r = sent a (rebuild_cdb flags count (length es)) (list_of b es d) r

-- it is sent to drive u, byte 1 says Int Data or not, "length FFFFFFFFh means to the last block", and not with Int Data; a byte counts its sources
pub record WellSaid (m : List ℕ) (g : Geometry) (a : Came) (u flags : ℕ) (int : Bool) (count b n : ℕ) (es : List Source) : Type 0 where
  pub found : target_of m g a ≡ Some u
  pub byte : ListByte flags int
  pub how_long : HowLong g.b b n count
  pub exact : (int ≡ false) ⊎ (count ≡ n)
  pub few : length es < 256

-- ---- "the order of entries never matters to a GOOD result"

abbrev pub ByList : List ℕ → Type 0
ByList c = (op_of (get_or c 0 0) ≡ Rebuild) ⊎ (op_of (get_or c 0 0) ≡ Regenerate)

-- the same head, the same entries in another order, the same bytes behind them
pub record Reordered (s s' : List ℕ) : Type 0 where
  pub as_long : length s ≡ length s'
  pub head : part s 0 8 ≡ part s' 0 8
  pub entries : Permᴰ (entries_of s) (entries_of s')
  pub rest : behind s ≡ behind s'

-- one is GOOD where the other is, and then outcome, image and room are the same
abbrev pub SameIfGood : Reply → Reply → Type 0
SameIfGood x y = (x.outcome.answer ≡ Good → x ≡ y) × (y.outcome.answer ≡ Good → x ≡ y)

-- whatever the image, the CDB of either command, the list and the room
abbrev pub OrderFree : Program → Type 0
OrderFree step =
    (m : List ℕ) (a : Came) (c s s' r : List ℕ) → ByList c → Reordered s s' → SameIfGood (step m (sent a c s r)) (step m (sent a c s' r))

-- ---- "we REGENERATE on the first, pass the bytes as intermediate data, and REBUILD on the second"

-- all of a drive's blocks
abbrev pub medium_of : List ℕ → Geometry → ℕ → List ℕ
medium_of m g d = blocks_at m g d 0 g.b

-- "no medium change between": each drive has its address and its blocks; slots and states may be others
pub record SameMedia (m m' : List ℕ) (g : Geometry) : Type 0 where
  pub addresses : (d : ℕ) → d < g.d → address_of m g d ≡ address_of m' g d
  pub media : (d : ℕ) → d < g.d → medium_of m g d ≡ medium_of m' g d

-- REGENERATE x to drive t on image m, from the sources es and with Int Data d of its own or not
pub record First (step : Program) (m : List ℕ) (g : Geometry) (x : Sent) (t b n : ℕ) (es : List Source) (int : Bool) (d : List ℕ) : Type 0 where
  pub shelf : Shelf m g
  pub found : target_of m g x.came ≡ Some t
  pub asks : Asks Regenerate g.b x b n es int d
  pub some_block : 1 ≤ n
  pub good : IsGood step m x

-- its bytes ys, of n blocks, fetched by XDREAD y on image m': the newest result at drive t's block b is there still what it was on image left
pub record Fetched (step : Program) (left m' : List ℕ) (g : Geometry) (y : Sent) (t b n : ℕ) (ys : List ℕ) : Type 0 where
  pub shelf : Shelf m' g
  pub found : target_of m' g y.came ≡ Some t
  pub code : op_of (get_or y.cdb 0 0) ≡ XdRead
  pub block : be 4 y.cdb 2 ≡ b
  pub newest : first_of (answers t b) (results m' g) ≡ first_of (answers t b) (results left g)
  pub good : IsGood step m' y
  pub bytes : ys ≡ part (step m' y).room 0 (n * g.l)

-- REBUILD z to drive u on image m, from the sources es and with these bytes as Int Data
pub record Second (step : Program) (m : List ℕ) (g : Geometry) (z : Sent) (u b n : ℕ) (es : List Source) (ys : List ℕ) : Type 0 where
  pub shelf : Shelf m g
  pub bytes : Octets m
  pub found : target_of m g z.came ≡ Some u
  pub asks : Asks Rebuild g.b z b n es true ys
  pub good : IsGood step m z

-- "all the sources" and "the first string's own target counted besides"
abbrev pub together : List ℕ → Geometry → ℕ → ℕ → List Source → List Source → List Source
together m g t b es fs = source_at m g b t ∷ es ++ fs

-- what the second image must have besides for an entry of the first string, and for its target: the drive is present there, and is not u
abbrev pub Ready : List ℕ → Geometry → Came → ℕ → Source → Type 0
Ready m g a u e = (v : ℕ) → source_drive m g a e.address.0 ≡ Some v → (failed m g v ≡ false) × (v ≡ u → ⊥)

-- one REBUILD to drive u, its list in any order, is then GOOD on the second image and leaves what the second string's left of it
abbrev pub Joins : Program → Type 0
Joins step =
    (g : Geometry) (m m' m'' : List ℕ) (x y z : Sent) (t u b c n : ℕ) (es fs zs : List Source) (int : Bool) (d ys : List ℕ) (a : Came) (flags count : ℕ) (r : List ℕ)
    → First step m g x t b n es int d → Fetched step (step m x).image m' g y t b n ys → Second step m'' g z u c n fs ys → SameMedia m m'' g
    → Permᴰ zs (together m'' g t b es fs) → WellSaid m'' g a u flags int count c n zs → EachIs (Ready m'' g a u) (source_at m'' g b t ∷ es)
    → step m'' (rebuilding a flags count c zs d r) ≡ leaving (step m'' z).image (rebuilding a flags count c zs d r)

-- ---- "a REBUILD cut into adjoining ranges, each answered GOOD, equals the whole"

-- so many blocks of the whole, from its block `from` on
pub record Extent : Type 0 where
  pub from : ℕ
  pub count : ℕ

-- they adjoin in this order, from block o of the whole up to block n
abbrev pub Adjoining : ℕ → ℕ → List Extent → Type 0
Adjoining o n [] = o ≡ n
Adjoining o n (p ∷ ps) = (p.from ≡ o) × Adjoining (o + p.count) n ps

-- a source, and its blocks o further on
abbrev pub onward : ℕ → Source → Source
onward o e = source e.address.0 (e.block.0 + o)

-- a range, and the REBUILD that was sent for it
pub record Cut : Type 0 where
  pub range : Extent
  pub by : Sent

-- to drive u, of the whole's blocks from block b on: every source is moved along, and the intermediate data is the range's own part
pub record CutOf (m : List ℕ) (g : Geometry) (u b : ℕ) (es : List Source) (int : Bool) (d : List ℕ) (p : Cut) : Type 0 where
  pub found : target_of m g p.by.came ≡ Some u
  pub some_block : 1 ≤ p.range.count
  pub asks : Asks Rebuild g.b p.by (b + p.range.from) p.range.count (map (onward p.range.from) es) int
      (part d (p.range.from * g.l) (p.range.count * g.l))

-- one after the other, "each answered GOOD", and what is left at last
abbrev pub EachGood : Program → List Cut → List ℕ → Type 0
EachGood step [] m = Unit {0}
EachGood step (p ∷ ps) m = IsGood step m p.by × EachGood step ps (step m p.by).image

abbrev pub left : Program → List Cut → List ℕ → List ℕ
left step [] m = m
left step (p ∷ ps) m = left step ps (step m p.by).image

-- the whole is then GOOD and leaves what they left, in whatever order ps they were sent
abbrev pub CutFree : Program → Type 0
CutFree step =
    (g : Geometry) (m : List ℕ) (u b n : ℕ) (es : List Source) (int : Bool) (d : List ℕ) (ps qs : List Cut) (a : Came) (flags count : ℕ) (r : List ℕ)
    → Shelf m g → Octets m → 1 ≤ n → length d ≡ cond int (n * g.l) 0 → WellSaid m g a u flags int count b n es
    → EachIs (CutOf m g u b es int d) ps → Permᴰ qs ps → Adjoining 0 n (map (λ p. p.range) qs) → EachGood step ps m
    → step m (rebuilding a flags count b es d r) ≡ leaving (left step ps m) (rebuilding a flags count b es d r)

-- ---- two strings, range by range

-- a range, the commands that were sent for it, the images that they were sent to, and the bytes passed on
pub record Strung : Type 0 where
  pub range : Extent
  pub regenerate : Sent
  pub fetch : Sent
  pub rebuild : Sent
  pub first_on : List ℕ
  pub fetched_on : List ℕ
  pub second_on : List ℕ
  pub bytes : List ℕ

module _ (step : Program) (g : Geometry) (t u b c : ℕ) (es fs : List Source) (int : Bool) (d : List ℕ) where
  pub record StrungOf (p : Strung) : Type 0 where
    pub first : First step p.first_on g p.regenerate t (b + p.range.from) p.range.count (map (onward p.range.from) es) int
        (part d (p.range.from * g.l) (p.range.count * g.l))
    pub fetched : Fetched step (step p.first_on p.regenerate).image p.fetched_on g p.fetch t (b + p.range.from) p.range.count p.bytes
    pub second : Second step p.second_on g p.rebuild u (c + p.range.from) p.range.count (map (onward p.range.from) fs) p.bytes
    pub same : SameMedia p.first_on p.second_on g

  -- one after the other from image m to image e, and whatever is called between changes no medium
  abbrev pub Chain : List Strung → List ℕ → List ℕ → Type 0
  Chain [] m e = SameMedia m e g
  Chain (p ∷ ps) m e = SameMedia m p.first_on g × StrungOf p × Chain ps (step p.second_on p.rebuild).image e

-- the media are then as one REBUILD x of all blocks over all sources leaves them, wherever it is GOOD with the same media
abbrev pub JoinsByRanges : Program → Type 0
JoinsByRanges step =
    (g : Geometry) (m m' e : List ℕ) (t u b c n : ℕ) (es fs zs : List Source) (int : Bool) (d : List ℕ) (ps qs : List Strung) (x : Sent)
    → Chain step g t u b c es fs int d ps m e → Permᴰ qs ps → Adjoining 0 n (map (λ p. p.range) qs) → SameMedia m m' g
    → Shelf m' g → target_of m' g x.came ≡ Some u → 1 ≤ n → Permᴰ zs (together m' g t b es fs) → Asks Rebuild g.b x c n zs int d → IsGood step m' x
    → (v : ℕ) → v < g.d → medium_of e g v ≡ medium_of (step m' x).image g v

-- ---- all of it

pub record InParts (step : Program) : Type 0 where
  pub order_free : OrderFree step
  pub joins : Joins step
  pub cut_free : CutFree step
  pub joins_by_ranges : JoinsByRanges step

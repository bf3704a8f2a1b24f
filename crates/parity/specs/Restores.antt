-- Where the sums are zero, "one drive's blocks there may be overwritten with anything: REBUILD of them from every other drive once and
-- nothing else, at the same blocks, all drives present, brings the old bytes back."
use Rattle.std.specs.Prelude.{ℕ, suc, ◌*◌, ◌<◌, false, ◌≡◌, refl, List, [], map, length, Option, Some}
use Rattle.std.proofs.Common.{arith, sym, ap, subst, ◌∙◌, inl, append-nil}
use Rattle.std.proofs.lemmas.Simd.{map-map}
use Rattle.std.proofs.lemmas.List.{length-map}
use Rattle.octets.specs.Put.{put}
use Rattle.octets.specs.PutPut.{put_put, put_part}
use Rattle.octets.specs.Operands.{xor_all}
use Rattle.folds.specs.Each.{EachIs, each_mem, each_map, perm_length, perm_each}
use Rattle.folds.specs.Least.{index}
use Rattle.geometry.specs.declared.Geometry.{Geometry}
use Rattle.geometry.specs.Header.{place, blocks_at}
use Rattle.geometry.specs.Frame.{Framed}
use Rattle.geometry.specs.Places.{Range, place_after_media}
use Rattle.geometry.specs.Written.{other_drive}
use Rattle.drives.specs.declared.Came.{Came}
use Rattle.drives.specs.Table.{address_of, failed, to, source_drive}
use Rattle.drives.specs.Front.{SameFront, front_put, failed_same, drive_same}
use Rattle.drives.specs.Lookup.{drive_found}
use Rattle.results.specs.Lists.{map_same}
use Rattle.image.specs.Shelf.{Shelf, shelf_frame}
use Rattle.image.specs.Keeps.{shelf_written}
use Rattle.sums.specs.Others.{Other, others_each, length_others}
use Rattle.sums.specs.OldBytes.{ZeroSums, old_bytes, length_rows}
use Rattle.sense.specs.declared.Answer.TheVariants.{Good}
use Rattle.sense.specs.declared.Outcome.{Outcome}
use Rattle.sense.specs.Sense.{outcome_of}
use Rattle.meaning.specs.Stepped.{Stepped}
use Rattle.command.specs.declared.Source.{Source}
use Rattle.meaning.specs.Acts.{named_blocks}
use Rattle.callers.specs.Bytes.{rebuild_cdb}
use Rattle.callers.specs.Lists.{list_of}
use Rattle.callers.specs.Does.{blocks}
use Rattle.callers.specs.Sources.{Names, source_at}
use Rattle.callers.specs.Listed.{together_byte}
use Rattle.callers.specs.Operands.{operands, rebuild_exactly}
use Rattle.parity.specs.AnyStep.{the_step, AllPresent, Overwriting, overwritten, rebuilt, BringsBack}

module _ (m : List ℕ) (g : Geometry) (h : Shelf m g) (up : AllPresent m g) (small : (e : ℕ) → e < g.d → address_of m g e < 4294967296)
    (d b n : ℕ) (ys es : List ℕ) (sec count : ℕ) (w : Overwriting g d b n ys es sec count) where
  abbrev at : ℕ
  at = place g d b

  abbrev t : List ℕ
  t = overwritten m g d b ys

  f : Framed m g
  f = shelf_frame m g h

  range : Range g d b n
  range = record { drive_in = w.drive_in; range_in = w.rows_in }

  each : EachIs (Other g.d d) es
  each = perm_each (Other g.d d) w.every_other (others_each g.d d)

  same_front : SameFront t m g
  same_front = front_put m g at ys (omega (arith, place_after_media g d b, f.placed.slot_ends))

  how_many : suc (length es) ≡ g.d
  how_many = ap suc (perm_length w.every_other) ∙ length_others g.d d w.drive_in

  -- the image that is rebuilt
  shelf : Shelf t g
  shelf = shelf_written m g h at ys (place_after_media g d b)

  -- REBUILD is sent to drive d's own address
  abbrev a : Came
  a = to (address_of m g d)

  found : (e : ℕ) → e < g.d → source_drive t g a (address_of m g e) ≡ Some e
  found e l = drive_same t m g f.placed same_front (address_of m g e) ∙ drive_found m g h.table_fine e l

  present : (e : ℕ) → e < g.d → failed t g e ≡ false
  present e l = failed_same t m g f.placed same_front e l ∙ up e l

  -- each source names its drive
  names : (e : ℕ) → Other g.d d e → Names t g a (blocks d b n) (source_at m g b e)
  names e o =
      record {
        there = record {
          drive = e;
          found = found e o.0;
          range = record { drive_in = o.0; range_in = w.rows_in };
          present = present e o.0;
          other = o.1;
        };
        small = small e o.0;
      }

  -- the other drives' blocks are as before
  same_rows : (e : ℕ) → Other g.d d e → blocks_at t g e b n ≡ blocks_at m g e b n
  same_rows e o = other_drive m g d e b b n n (n * g.l) ys o.1 w.rows_in w.rows_in (omega (arith, w.as_long)) (omega arith)

  abbrev sources : List Source
  sources = map (source_at m g b) es

  named_rows : (e : ℕ) → Other g.d d e → named_blocks t g a n (source_at m g b e) ≡ blocks_at m g e b n
  named_rows e o = ap (λ (x : Option ℕ). blocks_at t g (index x) b n) (found e o.0) ∙ same_rows e o

  -- what is gathered are the old bytes
  gathers : ZeroSums m g b n → xor_all (operands t g a n sources false []) ≡ blocks_at m g d b n
  gathers zeros =
      ap xor_all (append-nil (map (named_blocks t g a n) sources)
      ∙ map-map (named_blocks t g a n) (source_at m g b) es
      ∙ map_same (λ (e : ℕ). named_blocks t g a n (source_at m g b e)) (λ (e : ℕ). blocks_at m g e b n) es (λ e k. named_rows e (each_mem (Other g.d d) es each e k)))
      ∙ old_bytes m g f b n d range es w.every_other zeros

  -- and so it writes them
  writes : ZeroSums m g b n → put t at (xor_all (operands t g a n sources false [])) ≡ m
  writes zeros =
      ap (put t at) (gathers zeros)
      ∙ put_put m at ys (blocks_at m g d b n) (omega (arith, w.as_long, length_rows m g f b n d range d w.drive_in))
      ∙ put_part m at (n * g.l)

  does : (room : List ℕ)
      → Stepped t a (rebuild_cdb sec count (length es)) (list_of b sources []) room (outcome_of Good 0) (put t at (xor_all (operands t g a n sources false []))) (put room 0 [])
  does room =
      let many : length sources ≡ length es = length-map es (source_at m g b) in
      subst (λ (k : ℕ). Stepped t a (rebuild_cdb sec count k) (list_of b sources []) room (outcome_of Good 0) (put t at (xor_all (operands t g a n sources false []))) (put room 0 [])) many
      (rebuild_exactly t g a d (record { shelf = shelf; found = found d w.drive_in; present = present d w.drive_in }) b n sources false []
      (each_map (source_at m g b) (Other g.d d) (Names t g a (blocks d b n)) names es each) refl
      (omega (arith, many, how_many, f.placed.ranges.d_low)) (omega (arith, many, how_many, f.placed.ranges.d_high))
      (record { range = range; present = present d w.drive_in; some = w.some_rows }) room sec (together_byte sec w.together) count w.how_long (inl refl))

  -- from zero sums alone, whatever was done before
  pub restored : ZeroSums m g b n → (room : List ℕ) → BringsBack m (rebuilt the_step m g d b ys es sec count room)
  restored zeros room = record { good = ap (λ (x : Outcome). x.answer) (sym (does room).outcome); back = sym (does room).image ∙ writes zeros }

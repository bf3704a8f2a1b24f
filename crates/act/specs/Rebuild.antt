-- REBUILD and REGENERATE, from what the decision showed to what the command leaves.
use Rattle.std.specs.Prelude.{ℕ, ◌+◌, ◌*◌, ◌≤◌, ◌<◌, ◌≡◌, length, get_or, Option, Some, None}
use Rattle.std.proofs.Common.{arith, ◌∙◌, inr}
use Rattle.std.proofs.Math.Path.{ap, ap₂}
use Rattle.std.proofs.lemmas.Option.{none-some}
use mathlib.Core.List.{List}
use Rattle.octets.specs.Part.{part, Apart}
use Rattle.octets.specs.Put.{put}
use Rattle.octets.specs.Xor.{◌⊻◌, nil_xor}
use Rattle.geometry.specs.declared.Geometry.{Geometry}
use Rattle.geometry.specs.Header.{slot_at}
use Rattle.geometry.specs.Frame.{Framed}
use Rattle.geometry.specs.Places.{place_after_media, places_apart, slot_after_front, slot_before_media, data_ends, data_in}
use Rattle.slots.specs.Record.{bytes_of}
use Rattle.slots.specs.Slots.{used_count}
use Rattle.slots.specs.Change.{entry}
use Rattle.command.specs.Command.{source_of}
use Rattle.meaning.specs.declared.Span.{Span}
use Rattle.meaning.specs.declared.Summing.{Summing}
use Rattle.meaning.specs.declared.Act.TheVariants.{Rebuild, Regenerate}
use Rattle.meaning.specs.Acts.{span_at, home_of, start_of, gathered, leaves}
use Rattle.meaning.specs.Allowed.{Blocks, Sourced, Limited, Free}
use Rattle.meaning.specs.Lengths.{span_after_media, span_in, home_is, home_range, source_in, list_in, int_exact}
use Rattle.gather.specs.declared.Job.{Job}
use Rattle.gather.specs.Job.{summed, Named, Listed, Readable, Ready}

module _ (s : List ℕ) (g : Geometry) (x : Span) (j : Summing) (sent : List ℕ) (frame : Framed s g) (b : Blocks s g x) (h : Sourced s g x j sent) (n : ℕ)
    (e : n ≡ get_or sent 0 0) (few : n < 256) where
  -- ---- the sources

  source_named : (i : ℕ) → i < n → Named s g j.came (source_of sent i)
  source_named i l =
      let r = home_range s g j.came x (source_of sent i) (h.each i (omega arith)) in
      record { drive_in = r.drive_in; block_in = omega (arith, r.range_in) }

  inside : (i : ℕ) → i < n → start_of s g j.came (source_of sent i) + x.count * g.l ≤ length s
  inside i l = source_in s g j.came x (source_of sent i) (h.each i (omega arith)) frame

  sources_listed : Listed s g j.came sent n
  sources_listed =
      record { frame = frame; few = few; long = omega (arith, list_in s g x j sent frame h); each = source_named }

  -- another drive's blocks
  source_apart : (i : ℕ) → i < n → Apart (start_of s g j.came (source_of sent i)) (span_at g x) (x.count * g.l)
  source_apart i l =
      let y = source_of sent i in
      let o = h.each i (omega arith) in
      places_apart g (home_of s g j.came y) x.drive y.block.0 x.block.0 x.count (rw (home_is s g j.came x y o) o.other) (home_range s g j.came x y o) b.range

  sources_readable : (own : Option ℕ) (to : ℕ) → ((from : ℕ) → own ≡ Some from → from + x.count * g.l ≤ length s)
      → Readable s g sent (record { own = own; to = to; count = x.count; sources = n; sum = j })
  sources_readable own to own_in =
      record {
        listed = sources_listed;
        counted = e;
        some_source = omega (arith, h.some_source);
        exact = λ q. omega (arith, int_exact s g x j sent frame h q);
        own_in = own_in;
        inside = inside;
      }

  -- ---- REBUILD

  abbrev rebuilding : ℕ → Job
  rebuilding at = record { own = None; to = at; count = x.count; sources = n; sum = j }

  pub rebuild_ready : (at : ℕ) → at ≡ span_at g x → Ready s g sent (rebuilding at)
  rebuild_ready at p =
      let a : at + x.count * g.l ≤ length s = omega (arith, p, span_in s g x frame b.range) in
      record {
        readable = sources_readable None at (λ from q. absurd (none-some from q));
        past_table = omega (arith, p, span_after_media g x, frame.placed.slot_ends);
        to_in = a;
        own_apart = λ from q. absurd (none-some from q);
        apart = λ i l. rw p (source_apart i l);
      }

  pub rebuilt_by : (at : ℕ) (t : List ℕ) → at ≡ span_at g x → t ≡ put s at (summed s g sent (rebuilding at)) → t ≡ leaves s g sent (Rebuild x j)
  unfolding summed
  rebuilt_by at t p te =
      te
      ∙ ap (put s at) (nil_xor (gathered s g sent x.count j))
      ∙ ap (λ (a : ℕ). put s a (gathered s g sent x.count j)) p

  -- ---- REGENERATE

  module _ (i from at : ℕ) (fe : from ≡ span_at g x) (ae : at ≡ slot_at g i) where
    abbrev regenerating : Job
    regenerating = record { own = Some from; to = at + 16; count = x.count; sources = n; sum = j }

    pub regenerate_ready : Limited g x → Free s g i → Ready s g sent regenerating
    regenerate_ready m k =
        let d : at + 16 + x.count * g.l ≤ g.media =
        omega (arith, slot_before_media g i frame.placed k.slot_in, data_ends g i x.count m) in
        let p = span_after_media g x in
        record {
          readable = sources_readable (Some from) (at + 16) (λ y q. let same : from ≡ y = cc q in omega (arith, fe, span_in s g x frame b.range));
          past_table = omega (arith, slot_after_front g i);
          to_in = omega (arith, data_in s g i x.count frame k.slot_in m);
          own_apart = λ y q. let same : from ≡ y = cc q in inr (omega arith);
          apart = λ y l. inr (omega (arith, place_after_media g (home_of s g j.came (source_of sent y)) (source_of sent y).block.0));
        }

    pub regenerated_by : (t u : List ℕ) → t ≡ put s (at + 16) (summed s g sent regenerating)
        → u ≡ put t at (bytes_of (entry (used_count s g + 1) 2 x.drive x.block.0 x.count)) → u ≡ leaves s g sent (Regenerate x j i)
    unfolding summed
    regenerated_by t u te ue =
        let v = gathered s g sent x.count j in
        let r = bytes_of (entry (used_count s g + 1) 2 x.drive x.block.0 x.count) in
        ue
        ∙ ap (λ (w : List ℕ). put w at r) te
        ∙ ap₂ (λ (p q : ℕ). put (put s (q + 16) (part s p (x.count * g.l) ⊻ v)) q r) fe ae

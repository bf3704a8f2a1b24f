-- XDWRITE, XDWRITE(10) and XDWRITEREAD(10), from what the decision showed to what the command leaves.
use Prim.Native.Nat.{ℕ, ◌+◌, ◌*◌, ◌≤◌}
use Rattle.std.proofs.Common.{arith, ◌∙◌, inl, inr, ⊎_elim, length-take-le}
use Rattle.std.specs.Prelude.{◌≡◌, refl, false, Bool, true, not, take, drop}
use Rattle.std.proofs.Math.Path.{sym, ap, ap₂}
use Rattle.std.proofs.Math.Bool.{cond}
use mathlib.Core.List.{List, [], ◌∷◌, ◌++◌, map}
use Rattle.std.proofs.Math.ListN.{length}
use Rattle.octets.specs.Part.{part, part_all, length_part_le}
use Rattle.octets.specs.Put.{put, put_cut, put_nil}
use Rattle.octets.specs.Xor.{◌⊻◌, length_xor_le}
use Rattle.geometry.specs.declared.Geometry.{Geometry}
use Rattle.geometry.specs.Header.{slot_at, data_at}
use Rattle.geometry.specs.Stores.{store, Slots, Store, stored}
use Rattle.geometry.specs.Frame.{Framed}
use Rattle.geometry.specs.Places.{Range, places_apart, slot_before_media, data_ends, data_in}
use Rattle.slots.specs.Record.{bytes_of}
use Rattle.slots.specs.Slots.{used_count}
use Rattle.slots.specs.Change.{entry}
use Rattle.meaning.specs.declared.Span.{Span}
use Rattle.meaning.specs.declared.Act.TheVariants.{Couple, Retain, XdWriteRead}
use Rattle.meaning.specs.Acts.{span_at, blocks_of, mixed, laid, leaves, hands, block_store, data_over}
use Rattle.meaning.specs.Allowed.{Blocks, Filled, Roomy, Limited, Free}
use Rattle.meaning.specs.Lengths.{span_after_media, span_in}
use Rattle.act.specs.declared.pass.Pass.{Pass}
use Rattle.act.specs.Pass.{passed_of, Passable}

-- ---- the data, alone and before a record

-- nothing stored is nothing written
stored_data : (m : List ℕ) (g : Geometry) (x : Span) (ndisc : Bool) (s : List ℕ) (ws : List Store)
    → stored m (map (block_store g) (data_over x ndisc s) ++ ws) ≡ stored (put m (span_at g x) (cond (not ndisc) s [])) ws
stored_data m g x false s ws = refl
stored_data m g x true s ws = ap (λ (t : List ℕ). stored t ws) (sym (put_nil m (span_at g x)))

-- ---- the result goes to the secondary

abbrev coupling : ℕ → ℕ → Bool → Pass
coupling from to mirror = record { from = from; to = to; mirror = mirror; adds = not mirror }

module _ (s : List ℕ) (g : Geometry) (x y : Span) (mirror : Bool) (from to : ℕ) (sent : List ℕ) (same : x.count ≡ y.count) (f : Filled g x sent)
    (fe : from ≡ span_at g x) (te : to ≡ span_at g y) where
  pub couple_passable : Framed s g → Blocks s g x → Blocks s g y → (x.drive ≡ y.drive → ⊥) → Passable s sent (coupling from to mirror)
  couple_passable frame b c ne =
      let n : y.count * g.l ≡ length sent = ap (λ (k : ℕ). k * g.l) (sym same) ∙ sym f in
      let r : Range g y.drive y.block.0 x.count = rw same c.range in
      record {
        from_in = omega (arith, span_in s g x frame b.range, f);
        to_in = omega (arith, span_in s g y frame c.range);
        apart = ⊎_elim (λ l. inl (omega (arith, f))) (λ l. inr (omega (arith, f))) (places_apart g x.drive y.drive x.block.0 y.block.0 x.count ne b.range r);
      }

  pub coupled_by : (t u : List ℕ) → t ≡ passed_of s sent (coupling from to mirror) → u ≡ put t from sent → u ≡ leaves s g sent (Couple x y mirror)
  unfolding passed_of
  coupled_by t u e ue =
      let m : length sent ≡ y.count * g.l = f ∙ ap (λ (k : ℕ). k * g.l) same in
      let v : List ℕ = mixed mirror sent (part s (span_at g x) (x.count * g.l)) in
      ue
      ∙ ap (λ (w : List ℕ). put w from sent) e
      ∙ ap₂ (λ (a n : ℕ). put (put s to (laid (not mirror) (part s to (length sent)) (mixed mirror sent (part s a n)))) a sent) fe f
      ∙ ap₂ (λ (a n : ℕ). put (put s a (laid (not mirror) (part s a n) v)) (span_at g x) sent) te m

-- ---- the result is retained

abbrev retaining : ℕ → ℕ → Bool → Pass
retaining from at mirror = record { from = from; to = at + 16; mirror = mirror; adds = false }

module _ (s : List ℕ) (g : Geometry) (x : Span) (i : ℕ) (mirror ndisc : Bool) (from at : ℕ) (sent : List ℕ) (f : Filled g x sent)
    (fe : from ≡ span_at g x) (ae : at ≡ slot_at g i) where
  pub retain_passable : Framed s g → Blocks s g x → Limited g x → Free s g i → Passable s sent (retaining from at mirror)
  retain_passable frame b m k =
      let a = span_after_media g x in
      let d : data_at g i + length sent ≤ g.media =
      omega (arith, slot_before_media g i frame.placed k.slot_in, data_ends g i x.count m, f) in
      record {
        from_in = omega (arith, span_in s g x frame b.range, f);
        to_in = omega (arith, data_in s g i x.count frame k.slot_in m, f);
        apart = inr (omega arith);
      }

  pub retained_by : (t u v : List ℕ) → t ≡ passed_of s sent (retaining from at mirror)
      → u ≡ put t from (cond (not ndisc) sent []) → v ≡ put u at (bytes_of (entry (used_count s g + 1) 1 x.drive x.block.0 x.count)) → v ≡ leaves s g sent (Retain x i mirror ndisc)
  unfolding passed_of
  retained_by t u v te ue ve =
      let r : List ℕ = bytes_of (entry (used_count s g + 1) 1 x.drive x.block.0 x.count) in
      let d : List ℕ = cond (not ndisc) sent [] in
      let w : List ℕ = mixed mirror sent (part s (span_at g x) (x.count * g.l)) in
      ve
      ∙ ap (λ (w : List ℕ). put w at r) (ue ∙ ap (λ (w : List ℕ). put w from d) te)
      ∙ ap₂ (λ (a n : ℕ). put (put (put s (at + 16) (mixed mirror sent (part s a n))) a d) at r) fe f
      ∙ ap (λ (a : ℕ). put (put (put s (a + 16) w) (span_at g x) d) a r) ae
      ∙ sym (stored_data (put s (data_at g i) w) g x ndisc sent (store Slots (slot_at g i) r ∷ []))

-- ---- the result goes to the room's front

module _ (g : Geometry) (x : Span) (sent room : List ℕ) (f : Filled g x sent) (r : Roomy g x (length room)) where
  -- the front that the blocks take
  pub front_long : length (take (length sent) room) ≡ length sent
  front_long = length-take-le (length sent) room (omega (arith, f, r))

  -- it became v, and the image t
  pub xdwriteread_by : (s : List ℕ) (disable : Bool) (at : ℕ) (v t : List ℕ) → at ≡ span_at g x
      → v ≡ mixed false (part sent 0 (length (take (length sent) room))) (part s at (length (take (length sent) room)))
      → t ≡ put s at (cond (not disable) sent [])
      → (t ≡ leaves s g sent (XdWriteRead x disable)) × (v ++ drop (length sent) room ≡ put room 0 (hands s g sent (XdWriteRead x disable))) × (length sent ≡ length (hands s g sent (XdWriteRead x disable)))
  xdwriteread_by s disable at v t e ve te =
      let n : length (sent ⊻ blocks_of s g x) ≡ length sent =
      length_xor_le sent (blocks_of s g x) (omega (arith, length_part_le s (span_at g x) (x.count * g.l), f)) in
      let q : v ≡ sent ⊻ blocks_of s g x =
      ve
      ∙ ap (λ (j : ℕ). part sent 0 j ⊻ part s at j) front_long
      ∙ ap₂ (λ (y : List ℕ) (a : ℕ). y ⊻ part s a (length sent)) (part_all sent) e
      ∙ ap (λ (j : ℕ). sent ⊻ part s (span_at g x) j) f in
      let l : length v ≡ length sent = ap length q ∙ n in
      let image =
      te ∙ ap (λ (a : ℕ). put s a (cond (not disable) sent [])) e ∙ sym (stored_data s g x disable sent []) in
      let front = ap (λ (j : ℕ). v ++ drop j room) (sym l) ∙ sym (put_cut room 0 v (omega (arith, f, r))) ∙ ap (put room 0) q in
      (image, front, sym n)

-- What the checks of each command grant, stage by stage.
use Rattle.std.specs.Prelude.{ℕ, ◌+◌, ◌≤◌, ◌<◌, Bool, true, false, not, ◌&&◌, List, ◌≡◌, ltb, eqb, length, get_or, Some, is_none, Ok}
use Rattle.std.proofs.Common.{arith, true≢false, sym}
use Rattle.std.proofs.Math.Path.{refl}
use borrow.Author.Tests.{ltb-false, eqb-true, eqb-false, not-false}
use Rattle.octets.specs.Number.{be}
use Rattle.folds.specs.Least.{index}
use Rattle.rules.specs.Rule.{AllPass}
use Rattle.geometry.specs.declared.Geometry.{Geometry}
use Rattle.geometry.specs.Places.{Range}
use Rattle.drives.specs.Table.{secondary_of, failed}
use Rattle.drives.specs.Lookup.{drive_inside}
use Rattle.slots.specs.Record.{slot_of}
use Rattle.slots.specs.Find.{empty_slot, newest_of}
use Rattle.results.specs.Best.{newest_at, newest_used}
use Rattle.image.specs.Shelf.{Shelf, shelf_frame}
use Rattle.sense.specs.declared.Answer.{Answer}
use Rattle.sense.specs.declared.Answer.TheVariants.{Good}
use Rattle.command.specs.declared.Op.{Op}
use Rattle.command.specs.declared.Op.TheVariants.{XdWrite, XpWrite, XdRead, Rebuild, Regenerate, Read, Write, XdWriteTen, XdWriteRead, Unknown}
use Rattle.command.specs.declared.Command.{Command}
use Rattle.command.specs.Command.{UpToM, NotToEnd, mirror_of, ndisc_of, sec_of, int_of, own_of, resolved_of, resolved_count, list_bytes}
use Rattle.command.specs.Length.{resolved_some, resolved_same}
use Rattle.command.specs.Sent.{sent_exact}
use Rattle.meaning.specs.declared.Span.{Span}
use Rattle.meaning.specs.declared.Act.{Act}
use Rattle.meaning.specs.declared.Act.TheVariants.{Couple, Retain}
use Rattle.meaning.specs.declared.Seen.{Seen}
use Rattle.meaning.specs.Decision.{stop, go}
use Rattle.meaning.specs.Sources.{first_bad}
use Rattle.meaning.specs.Checks.{is_unknown, limits, own_second, acts, resolved, span_of, second_of, sum_of}
use Rattle.meaning.specs.Allowed.{Blocks, Held, Free, empty_free, Sourced, Allowed}
use Rattle.grants.specs.Passed.{not_zero, with_it, without_it, found, elsewhere, clear, Passed, sixteen_fields, ten_limit, list_limit, ListRead, list_read}
use Rattle.grants.specs.Entries.{entries}

pub no_stop : (n : ℕ) (w : Seen) (z : Answer) (x : Act) (y : Answer) → stop n w z ≡ go x y → ⊥
no_stop n w z x y e = let q : ◌≡◌ {A = ℕ} 0 1 = cc in omega arith

-- the slot that answers, where its length is the span's
pub held_at : (m : List ℕ) (g : Geometry) → Shelf m g → (x : Span) (i : ℕ) → newest_of m g x.drive x.block.0 ≡ Some i → (slot_of m g i).len ≡ x.count → Held m g x i
held_at m g v x i e l =
    let n = newest_at m g x.drive x.block.0 i e in
    let u = newest_used m g x.drive x.block.0 v.slots_fine i n in
    record { answers = e; slot_in = n.inside; same_len = l; limited = omega (arith, u.fits.len_high) }

-- where the checks from 4 on pass the operation does something, and that is granted
pub record Grants (o : Op) (m : List ℕ) (g : Geometry) (t : ℕ) (k : Command) (s : List ℕ) (r : ℕ) : Type 0 where
  pub act : Act
  pub goes : acts o m g t k s ≡ go act Good
  pub allowed : Allowed m g s r act

module _ (m : List ℕ) (g : Geometry) (t : ℕ) (s : List ℕ) (r : ℕ) (v : Shelf m g) (inside : t < g.d) (up : failed m g t ≡ false) (k : Command) where
  -- blocks of the target
  own : (k : Command) → 1 ≤ k.count → k.block.0 + k.count ≤ g.b → Blocks m g (span_of t k)
  own k h l = record { range = record { drive_in = inside; range_in = l }; present = up; some = h }

  free : is_none (empty_slot m g) ≡ false → Free m g (index (empty_slot m g))
  free e = empty_free m g _ (found (empty_slot m g) e)

  -- of a command that names its blocks: they are there, and not none
  named : eqb k.count 0 ≡ false → ltb g.b (k.block.0 + k.count) ≡ false → Blocks m g (span_of t k)
  named i w = own k (not_zero _ i) (ltb-false _ _ w)

  -- the act x
  does : (o : Op) (x : Act) → acts o m g t k s ≡ go x Good → Allowed m g s r x → Grants o m g t k s r
  does o x e h = record { act = x; goes = e; allowed = h }

  of_read : Passed Read m g t k s r → Grants Read m g t k s r
  of_read p = does Read _ refl (named p.idle_pass.0 p.range_pass.0, ltb-false _ _ p.room_pass.0)

  of_write : Passed Write m g t k s r → Grants Write m g t k s r
  of_write p = does Write _ refl (named p.idle_pass.0 p.range_pass.0, p.sent)

  of_xpwrite : Passed XpWrite m g t k s r → Grants XpWrite m g t k s r
  of_xpwrite p = does XpWrite _ refl (named p.idle_pass.0 p.range_pass.0, p.sent)

  of_xdread : Passed XdRead m g t k s r → Grants XdRead m g t k s r
  of_xdread p =
      does XdRead _ refl
      (held_at m g v (span_of t k) _ (found (newest_of m g t k.block.0) p.range_pass.0) (eqb-true _ _ (not-false _ p.range_pass.1.0)), ltb-false _ _ p.room_pass.0)

  -- with Sec Ctl 11, and without
  of_xdwrite : Passed XdWrite m g t k s r → Grants XdWrite m g t k s r
  of_xdwrite p = pick (eqb (sec_of k) 3) refl
    where
      f : AllPass (limits UpToM 6 g k) × AllPass (own_second m g t k)
      f = sixteen_fields UpToM XdWrite m g t k p.fields_pass

      pick : (b : Bool) → eqb (sec_of k) 3 ≡ b → Grants XdWrite m g t k s r
      pick true q =
          does XdWrite (Retain (span_of t k) (index (empty_slot m g)) (mirror_of k) (ndisc_of k)) (rw q)
          (named p.idle_pass.0 p.range_pass.0, p.sent, ltb-false _ _ f.0.0, free (with_it (eqb (sec_of k) 3) _ q p.busy_pass.0))
      pick false q =
          let unless : (z : Bool) → (not (eqb (sec_of k) 3) && z) ≡ false → z ≡ false = (λ z h. without_it (eqb (sec_of k) 3) z q h) in
          let there_is = found (secondary_of m g k.came k.second.0) (unless _ p.nested_pass.0) in
          let there : Range g (index (secondary_of m g k.came k.second.0)) k.spot.0 k.count =
          record { drive_in = (drive_inside m g _ _ there_is).0; range_in = ltb-false _ _ (unless _ p.nested_pass.1.1.0) } in
          does XdWrite (Couple (span_of t k) (second_of (secondary_of m g k.came k.second.0) k) (mirror_of k)) (rw q) (
            named p.idle_pass.0 p.range_pass.0,
            record { range = there; present = unless _ p.nested_pass.1.0; some = not_zero _ p.idle_pass.0 },
            refl,
            (λ h. elsewhere _ _ t there_is (unless _ f.1.0) (sym h)),
            p.sent,
          )

  of_xdwrite_ten : Passed XdWriteTen m g t k s r → Grants XdWriteTen m g t k s r
  of_xdwrite_ten p =
      does XdWriteTen _ refl
      (named p.idle_pass.0 p.range_pass.0, p.sent, ltb-false _ _ (ten_limit UpToM XdWriteTen m g t k p.fields_pass).0, free p.busy_pass.0)

  of_xdwriteread : Passed XdWriteRead m g t k s r → Grants XdWriteRead m g t k s r
  of_xdwriteread p = does XdWriteRead _ refl (named p.idle_pass.0 p.range_pass.0, p.sent, ltb-false _ _ p.room_pass.0)

  -- the list and what follows it
  sourced : length s ≡ list_bytes k g.l → eqb k.list 0 ≡ false → ListRead m g t k s → first_bad m g k.came s (resolved g k s).count 0 (get_or s 0 0) ≡ Ok tt
      → (int_of k ≡ true → (resolved g k s).count ≡ k.count)
      → Sourced m g (span_of t (resolved g k s)) (sum_of k) s
  sourced len list l bad same =
      record {
        some_source = not_zero _ l.some_source;
        exact = sent_exact k g.l (get_or s 0 0) _ (length s) len (eqb-false _ _ list) l.as_long same;
        each = entries m g k.came s (span_of t (resolved g k s)) (get_or s 0 0) bad l.none_own;
      }

  -- the target's blocks, from the list's own block on
  listed : eqb k.count 0 ≡ false → (resolved g k s).block.0 + (resolved g k s).count ≤ g.b → Blocks m g (span_of t (resolved g k s))
  unfolding resolved_of own_of
  listed h l = own (resolved g k s) (resolved_some k.count (be 4 s 4) g.b (eqb-false _ _ h)) l

  of_rebuild : Passed Rebuild m g t k s r → Grants Rebuild m g t k s r
  unfolding resolved_of own_of
  of_rebuild p =
      let l = list_read m g t k s p.list_pass in
      let ends = list_limit NotToEnd Rebuild m g t k p.fields_pass in
      does Rebuild _ refl (
        listed l.some_block (ltb-false _ _ p.range_pass.0),
        sourced p.sent p.idle_pass.0 l (clear _ p.nested_pass.0)
            (λ h. resolved_same k.count (be 4 s 4) g.b (eqb-false _ _ (with_it (int_of k) _ h ends.0))),
      )

  of_regenerate : Passed Regenerate m g t k s r → Grants Regenerate m g t k s r
  unfolding resolved_of own_of
  of_regenerate p =
      let l = list_read m g t k s p.list_pass in
      let low : k.count ≤ g.m = ltb-false _ _ (list_limit UpToM Regenerate m g t k p.fields_pass).0 in
      let small : g.m ≤ 256 = (shelf_frame m g v).placed.ranges.m_high in
      let same : resolved_count k.count (be 4 s 4) g.b ≡ k.count = resolved_same k.count (be 4 s 4) g.b (λ h. omega arith) in
      does Regenerate _ refl (
        listed l.some_block (ltb-false _ _ p.range_pass.0),
        sourced p.sent p.idle_pass.0 l (clear _ p.nested_pass.0) (λ h. same),
        omega (arith, same),
        free p.busy_pass.0,
      )

  pub of_each : (o : Op) → is_unknown o ≡ false → Passed o m g t k s r → Grants o m g t k s r
  of_each XdWrite u = of_xdwrite
  of_each XpWrite u = of_xpwrite
  of_each XdRead u = of_xdread
  of_each Rebuild u = of_rebuild
  of_each Regenerate u = of_regenerate
  of_each Read u = of_read
  of_each Write u = of_write
  of_each XdWriteTen u = of_xdwrite_ten
  of_each XdWriteRead u = of_xdwriteread
  of_each Unknown u = absurd (true≢false u)

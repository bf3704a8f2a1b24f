-- "On any one image a 1994 code is proved to act as before." (02, A1): today's step is 01's for every call that is not 50h to 53h, and so
-- are today's reset and marking for every call: answer, sense, byte count, image and receive room.
use Rattle.std.specs.Prelude.{ℕ, ◌/◌, Bool, true, false, not, ◌&&◌, cond, ◌≡◌, ltb, length, get_or, Option, is_none}
use mathlib.Core.List.{List, [], ◌∷◌, ◌++◌, map}
use Rattle.std.proofs.Math.Path.{refl, sym, ap, ap₂}
use Rattle.std.proofs.Common.{◌∙◌}
use Rattle.std.proofs.Math.Dec.{eqb}
use Rattle.octets.specs.Put.{put}
use Rattle.octets.specs.Xor.{◌⊻◌}
use Rattle.octets.specs.Number.{be, to_be}
use Rattle.rules.specs.Rule.{rule, first, AllPass}
use Rattle.rules.proofs.Rule.{first_append, first_both, none_decides}
use Rattle.folds.specs.Least.{index}
use Rattle.geometry.specs.declared.Geometry.{Geometry}
use Rattle.geometry.specs.Header.{geometry_of, slot_at, place}
use Rattle.drives.specs.Table.{drive_of, to, marked}
use Rattle.slots.specs.Record.{slot_of}
use Rattle.slots.specs.Record as slots
use Rattle.slots.specs.Change.{released}
use Rattle.slots.specs.Find.{empty_slot}
use Rattle.sense.specs.declared.Answer.TheVariants.{Good, WrongCount}
use Rattle.sense.specs.Sense.{no_sense, plain_sense, absent_sense, nested_sense}
use Rattle.command.specs.declared.Op.{Op}
use Rattle.command.specs.declared.Op.TheVariants.{XdWrite, XpWrite, XdRead, Rebuild, Regenerate, Read, Write, Unknown}
use Rattle.command.specs.Command.{op_of_1994, sixteen_of, ten_of, listed_of, command_of, own_of, resolved_of, list_bytes, source_of}
use Rattle.meaning.specs.declared.Span.{Span}
use Rattle.meaning.specs.Decision.{Decision, stop, go}
use Rattle.meaning.specs.declared.Act.TheVariants.{XdRead as ToXdRead, Couple, Retain}
use Rattle.meaning.specs.declared.Seen.TheVariants.{Dash}
use Rattle.meaning.specs.Sources.{own_entry, first_bad}
use Rattle.meaning.specs.Checks.{Check, calls, cdb_calls, known, fields, sends, idle, lists, ranges, busy, source_rules, checks, carried_out, decide_for, decide_of}
use Rattle.meaning.specs.Acts.{mixed, passed_on}
use Rattle.meaning.specs.Step.{answered, untouched, image_after, room_after, outcome_after, step_image, step_room, step_outcome, reset_answer, reset_image, mark_calls, mark_answer, mark_image}
use Rattle.grants.specs.Granted.{granted_by}
use Rattle.meaning.specs.Codes.{is_published, same_op}
use Rattle.frozen.specs.Image as old
use Rattle.frozen.specs.Results as then
use Rattle.frozen.specs.Answers as told
use Rattle.frozen.specs.Commands as was
use Rattle.frozen.specs.Step as signed
use Rattle.frozen.specs.Order.{retain_order, couple_order}
use Rattle.frozen.proofs.Alike.{bit_not, bit_either, released_alike, dropped_alike, newest_alike, gathered_alike}
use Rattle.frozen.proofs.Judged.{valid_alike}
use Rattle.frozen.specs.Lists.{bytes_of, forget, by_fault}
use Rattle.frozen.proofs.Lists.{first_forget, first_view, sources_alike}
use Rattle.frozen.specs.Today.{shown}

-- ---- a step: image m, target address a, CDB c, data-out bytes s, receive room r

module _ (m : List ℕ) (a : ℕ) (c s r : List ℕ) where
  abbrev h : old.Header
  h = old.header_of m

  abbrev g : Geometry
  g = geometry_of m

  abbrev t : ℕ
  t = index (old.drive_of m h a)

  -- n blocks of the target from block b on
  abbrev span_at : ℕ → ℕ → Span
  span_at b n = record { drive = t; block = record { 0 = b }; count = n }

  abbrev view : Decision → signed.Outcome
  view d = shown (outcome_after d m s) (image_after d m s) (room_after d m s r)

  abbrev refuse : ℕ → Unit {0} → told.Answer → signed.Outcome
  refuse = signed.refuse m r

  -- the checks in front of a command's own, and with them
  abbrev ahead : ℕ → List was.Check
  ahead size = signed.calls m a ++ signed.known m h t size c

  abbrev Same : Op → was.Plan → Type 0
  Same o p = view (decide_for o m (to a) c s (length r)) ≡ signed.by_plan p m a c r

  abbrev carry : was.Done → signed.Outcome
  carry d = signed.carry_out d r

  -- the lists are alike, and so is what is done where no check applies
  by_lists : (o : Op) (p : was.Plan) (us : List was.Check) (d : signed.Outcome) → map forget (checks o m (to a) c s (length r)) ≡ us
      → (AllPass (checks o m (to a) c s (length r)) → view (carried_out o m (to a) c s) ≡ d) → first refuse us d ≡ signed.by_plan p m a c r → Same o p
  by_lists o p us d e k q =
      let rs = checks o m (to a) c s (length r) in
      first_view view stop rs (carried_out o m (to a) c s)
      ∙ first_both (λ n w x. view (stop n w x)) (λ n w x. view (stop n w x)) ◌≡◌ rs (view (carried_out o m (to a) c s)) d (λ n w x. refl) k
      ∙ sym (first_forget refuse rs d)
      ∙ ap (λ (rs : List was.Check). first refuse rs d) e
      ∙ q

  -- READ, WRITE and XPWRITE, and a code that is unknown, whose data-out bytes nobody asks for
  abbrev unknown : was.Plan
  unknown = was.plan 0 [] (was.leaves m)

  plain : Same Read (was.read m h t c s (length r)) × Same Write (was.write m h t c s (length r)) × Same XpWrite (was.xpwrite m h t c s (length r)) × Same Unknown unknown
  unfolding slot_of slot_at place drive_of ten_of no_sense plain_sense to_be
  plain = (
    by_lists Read (was.read m h t c s (length r)) (ahead 10 ++ (was.read m h t c s (length r)).checks) _ (rw (valid_alike m)) (λ p. refl) refl,
    by_lists Write (was.write m h t c s (length r)) (ahead 10 ++ (was.write m h t c s (length r)).checks) _ (rw (valid_alike m)) (λ p. refl) refl,
    by_lists XpWrite (was.xpwrite m h t c s (length r)) (ahead 10 ++ (was.xpwrite m h t c s (length r)).checks) _ (rw (valid_alike m)) (λ p. refl) refl,
    by_lists Unknown unknown (ahead 0 ++ was.sends 0 s ∷ []) _ (rw (valid_alike m)) (λ p. refl) refl,
  )

  -- XDREAD: the same result answers, and goes
  xdread : Same XdRead (was.xdread m h t c s (length r))
  unfolding released slot_of slot_at place drive_of ten_of no_sense plain_sense to_be
  xdread =
      let f = newest_alike m h t (was.block c) in
      let p = was.xdread_from m h t c s (length r) in
      let i = index (then.newest m h t (was.block c)) in
      by_lists XdRead (was.xdread m h t c s (length r)) (ahead 10 ++ (was.xdread m h t c s (length r)).checks) (carry (was.xdread m h t c s (length r)).done)
      (rw (valid_alike m) (ap (λ (x : Option ℕ). ahead 10 ++ (p x).checks) f))
      (λ q. ap (λ (x : Option ℕ). view (go (ToXdRead (span_at (was.block c) (was.count c)) (index x)) Good)) f
      ∙ ap (λ (x : List ℕ). carry (record { image = x; hands = (p (then.newest m h t (was.block c))).done.hands })) (released_alike h m i))
      refl

  -- XDWRITE: retained, with the data written or not, or sent to the secondary
  xdwrite : Same XdWrite (was.xdwrite m h t c s)
  unfolding slot_of slot_at place drive_of empty_slot slots.bytes_of sixteen_of no_sense plain_sense absent_sense nested_sense to_be
  xdwrite =
      by_lists XdWrite (was.xdwrite m h t c s) (ahead 16 ++ (was.xdwrite m h t c s).checks) (carry (was.xdwrite m h t c s).done) (rw (valid_alike m))
      (λ p. pick (eqb (was.sec_ctl c) 3) (none_decides stop (checks XdWrite m (to a) c s (length r)) (carried_out XdWrite m (to a) c s) p))
      refl
    where
      x : Span
      x = span_at (was.block c) (was.many c)

      y : Span
      y = record { drive = index (was.second m h t c s); block = record { 0 = be 4 c 11 }; count = was.many c }

      i : ℕ
      i = index (then.empty_slot m h)

      mirror : Bool
      mirror = eqb (was.mirror c) 1

      ndisc : Bool
      ndisc = eqb (was.ndisc c) 1

      -- the result, and what it goes to the secondary as
      its : mixed mirror s (old.blocks m h t (was.block c) (was.many c)) ≡ was.result m h t c s
      its = bit_either (get_or c 1 0 / 64) s (s ⊻ old.blocks m h t (was.block c) (was.many c))

      passed : passed_on m g x y mirror s
          ≡ cond (eqb (was.mirror c) 0) (old.blocks m h (index (was.second m h t c s)) (be 4 c 11) (was.many c) ⊻ was.result m h t c s) (was.result m h t c s)
      passed =
          ap₂ (λ (b : Bool) (z : List ℕ). cond b (old.blocks m h (index (was.second m h t c s)) (be 4 c 11) (was.many c) ⊻ z) z) (sym (bit_not (get_or c 1 0 / 64))) its

      pick : (b : Bool) → decide_for XdWrite m (to a) c s (length r) ≡ cond b (go (Retain x i mirror ndisc) Good) (go (Couple x y mirror) Good)
          → view (cond b (go (Retain x i mirror ndisc) Good) (go (Couple x y mirror) Good))
          ≡ carry (cond b (was.leaves (was.to_slot m h t c s)) (was.leaves (was.to_second m h t c s)))
      pick true e =
          let f = granted_by XdWrite m (to a) c s (length r) (Retain x i mirror ndisc) Good e in
          let there = put m (old.block_at h t (was.block c)) s in
          ap (λ (z : List ℕ). carry (was.leaves z))
          (retain_order m g f.valid s (length r) x i mirror ndisc f.allowed
          ∙ ap₂ (λ (o z : List ℕ). then.retained_over o m h i 1 t (was.block c) (was.many c) z) (bit_either (get_or c 1 0 / 32) m there) its)
      pick false e =
          let f = granted_by XdWrite m (to a) c s (length r) (Couple x y mirror) Good e in
          ap (λ (z : List ℕ). carry (was.leaves z))
          (couple_order m g f.valid s (length r) x y mirror f.allowed
          ∙ ap (put (put m (old.block_at h t (was.block c)) s) (old.block_at h (index (was.second m h t c s)) (be 4 c 11))) passed)

  -- REBUILD and REGENERATE: the checks in front of the source entries' are alike, and then those
  abbrev before : Op → List Check
  before o =
      calls m (to a)
      ++ cdb_calls o c
      ++ known m g t o
      ++ fields o m g t (command_of o (to a) c)
      ++ rule 5 Dash (not (eqb (length s) (sends o g (command_of o (to a) c)))) WrongCount
      ∷ idle o (command_of o (to a) c)
      ++ lists o m g t (command_of o (to a) c) s
      ++ ranges o m g t (command_of o (to a) c) s
      ++ busy o m g (command_of o (to a) c)

  abbrev n : ℕ
  n = was.resolved c s h

  abbrev entries : List was.Check
  entries = was.source_checks m h s n 0 (was.sources s)

  by_entries : (rs : List Check) (us : List was.Check) (d : Decision) (e : signed.Outcome) → map forget rs ≡ us → view d ≡ e
      → view (first stop (rs ++ source_rules (first_bad m g (to a) s n 0 (was.sources s))) d) ≡ first refuse (us ++ entries) e
  by_entries rs us d e p q =
      let f = first_bad m g (to a) s n 0 (was.sources s) in
      first_view view stop (rs ++ source_rules f) d
      ∙ first_append (λ k w x. view (stop k w x)) rs (source_rules f) (view d)
      ∙ sym (first_forget refuse rs (by_fault refuse m h n f (view d)))
      ∙ ap (λ (xs : List was.Check). first refuse xs (by_fault refuse m h n f (view d))) p
      ∙ ap (first refuse us) (sym (sources_alike refuse m h n (to a) s 0 (was.sources s) (view d)))
      ∙ sym (first_append refuse us entries (view d))
      ∙ ap (first refuse (us ++ entries)) q

  -- the bit that says whether Int Data is sent, whichever it is
  by_int : (P : Type 0) → ((b : Bool) → eqb (was.int c) 1 ≡ b → eqb (was.int c) 0 ≡ not b → P) → P
  by_int P f = f (eqb (was.int c) 1) refl (bit_not (get_or c 1 0 / 4))

  rebuild : Same Rebuild (was.rebuild m h t c s)
  unfolding slot_of slot_at place drive_of listed_of own_of resolved_of list_bytes source_of own_entry no_sense plain_sense to_be
  rebuild =
      by_entries (before Rebuild) (ahead 10 ++ was.list_checks m h t c s (not (eqb (was.int c) 0) && eqb (be 4 c 2) 0xFFFFFFFF)) (carried_out Rebuild m (to a) c s)
      (carry (was.rebuild m h t c s).done) (by_int _ pick)
      (ap (λ (x : List ℕ). carry (was.leaves (put m (old.block_at h t (was.own s)) x))) (gathered_alike m h (to a) s n c))
    where
      pick : (b : Bool) → eqb (was.int c) 1 ≡ b → eqb (was.int c) 0 ≡ not b
          → map forget (before Rebuild) ≡ ahead 10 ++ was.list_checks m h t c s (not (eqb (was.int c) 0) && eqb (be 4 c 2) 0xFFFFFFFF)
      pick true p q = rw (valid_alike m, p, q)
      pick false p q = rw (valid_alike m, p, q)

  regenerate : Same Regenerate (was.regenerate m h t c s)
  unfolding slot_of slot_at place drive_of empty_slot slots.bytes_of listed_of own_of resolved_of list_bytes source_of own_entry no_sense plain_sense to_be
  regenerate =
      by_entries (before Regenerate) (ahead 10 ++ was.list_checks m h t c s (ltb h.M (be 4 c 2)) ++ was.check 9 (is_none (then.empty_slot m h)) told.busy ∷ [])
      (carried_out Regenerate m (to a) c s) (carry (was.regenerate m h t c s).done) (by_int _ pick)
      (ap (λ (x : List ℕ). carry (was.leaves (then.retained_over m m h (index (then.empty_slot m h)) 2 t (was.own s) n (old.blocks m h t (was.own s) n ⊻ x)))) (gathered_alike m h (to a) s n c))
    where
      pick : (b : Bool) → eqb (was.int c) 1 ≡ b → eqb (was.int c) 0 ≡ not b
          → map forget (before Regenerate)
          ≡ ahead 10 ++ was.list_checks m h t c s (ltb h.M (be 4 c 2)) ++ was.check 9 (is_none (then.empty_slot m h)) told.busy ∷ []
      pick true p q = rw (valid_alike m, p, q)
      pick false p q = rw (valid_alike m, p, q)

  -- "Code | Command": by 01's table alone
  line : (b : Bool) (o o' : Op) (p p' : was.Plan) → Same o p → Same o' p' → Same (cond b o o') (cond b p p')
  line true o o' p p' e e' = e
  line false o o' p p' e e' = e'

  by_code : (code : ℕ) → Same (op_of_1994 code) (was.command_of code m h t c s (length r))
  by_code code =
      line (eqb code 0xC0) XdWrite _ (was.xdwrite m h t c s) _ xdwrite
      (line (eqb code 0xC1) XpWrite _ (was.xpwrite m h t c s (length r)) _ plain.2
      (line (eqb code 0xC2) XdRead _ (was.xdread m h t c s (length r)) _ xdread
      (line (eqb code 0xC3) Rebuild _ (was.rebuild m h t c s) _ rebuild
      (line (eqb code 0xC4) Regenerate _ (was.regenerate m h t c s) _ regenerate
      (line (eqb code 0x28) Read _ (was.read m h t c s (length r)) _ plain.0
      (line (eqb code 0x2A) Write Unknown (was.write m h t c s (length r)) unknown plain.1 plain.3))))))

  -- a CDB whose first byte is not 50h to 53h, an empty one too
  pub step_as_signed : is_published (get_or c 0 0) ≡ false → shown (step_outcome m (to a) c s r) (step_image m (to a) c s r) (step_room m (to a) c s r) ≡ signed.step m a c s r
  unfolding decide_of step_outcome step_image step_room
  step_as_signed q = ap (λ (o : Op). view (decide_for o m (to a) c s (length r))) (same_op (get_or c 0 0) q) ∙ by_code (get_or c 0 0)

-- ---- a reset and a marking, every one

module _ (m : List ℕ) (a : ℕ) where
  abbrev called : Type 0
  called = map forget (calls m (to a)) ≡ signed.calls m a

  calls_alike : called
  unfolding slot_of slot_at drive_of no_sense
  calls_alike = rw (valid_alike m)

  pub reset_as_signed : (bytes_of (reset_answer m (to a)) ≡ signed.reset_answer m a) × (reset_image m (to a) ≡ signed.reset_image m a)
  unfolding reset_answer reset_image no_sense drive_of
  reset_as_signed = (
    first_view bytes_of answered (calls m (to a)) Good
        ∙ sym (first_forget signed.told (calls m (to a)) (bytes_of Good))
        ∙ ap (λ (xs : List was.Check). first signed.told xs told.good) calls_alike,
    ap (first (untouched m) (calls m (to a))) (dropped_alike (old.header_of m) m (index (old.drive_of m (old.header_of m) a)))
        ∙ sym (first_forget (signed.kept m) (calls m (to a)) (signed.reset_leaves m a))
        ∙ ap (λ (xs : List was.Check). first (signed.kept m) xs (signed.reset_leaves m a)) calls_alike,
  )

  pub mark_as_signed : (state : ℕ) → (bytes_of (mark_answer m (to a) state) ≡ signed.mark_answer m a state) × (mark_image m (to a) state ≡ signed.mark_image m a state)
  unfolding mark_answer mark_image marked no_sense drive_of
  mark_as_signed state =
      let both : map forget (mark_calls m (to a) state) ≡ signed.mark_calls m a state = ap (λ (xs : List was.Check). xs ++ was.check 1 (ltb 1 state) (told.call 6) ∷ []) calls_alike in (
        first_view bytes_of answered (mark_calls m (to a) state) Good
            ∙ sym (first_forget signed.told (mark_calls m (to a) state) (bytes_of Good))
            ∙ ap (λ (xs : List was.Check). first signed.told xs told.good) both,
        sym (first_forget (signed.kept m) (mark_calls m (to a) state) (signed.mark_leaves m a state))
            ∙ ap (λ (xs : List was.Check). first (signed.kept m) xs (signed.mark_leaves m a state)) both,
      )

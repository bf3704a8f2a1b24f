-- GOOD, where there is a list and a length: the command was carried out. What REBUILD then wrote, and what REGENERATE retained.
use Rattle.std.specs.Prelude.{ℕ, ◌+◌, ◌*◌, ◌≤◌, Bool, true, false, not, cond, ◌≡◌, eqb, get_or, Option, Some}
use Rattle.folds.specs.Cases.{some_same}
use Rattle.std.proofs.Common.{arith, true≢false, subst, ◌∙◌, length-drop, ne_eqb}
use Rattle.std.proofs.Math.Path.{refl, sym, ap, ap₂}
use mathlib.Core.List.{List, [], ◌∷◌, map}
use Rattle.std.proofs.Math.ListN.{length}
use Rattle.octets.specs.Part.{part, length_part, length_part_le}
use Rattle.octets.specs.Put.{put}
use Rattle.octets.specs.PutPut.{part_put}
use Rattle.octets.specs.Number.{be}
use Rattle.octets.specs.Xor.{◌⊻◌}
use Rattle.octets.specs.Operands.{xor_all}
use Rattle.folds.specs.Every.{every}
use Rattle.folds.specs.Each.{EachIs}
use Rattle.folds.specs.Least.{index}
use Rattle.rules.specs.Rule.{rule, first}
use Rattle.geometry.specs.declared.Geometry.{Geometry}
use Rattle.geometry.specs.Header.{data_at, place, blocks_at}
use Rattle.geometry.specs.Places.{data_in}
use Rattle.drives.specs.declared.Came.{Came}
use Rattle.drives.specs.Table.{state_of, target_of}
use Rattle.slots.specs.Find.{empty_slot, newest_of}
use Rattle.slots.specs.Change.{released}
use Rattle.results.specs.First.{first_of, sans_first}
use Rattle.results.specs.Newest.{answers}
use Rattle.results.proofs.Newest.{newest_result}
use Rattle.results.specs.Results.{Result, results, result_at, with_result, Sound}
use Rattle.image.specs.Shelf.{Shelf, shelf_frame}
use Rattle.sense.specs.declared.Answer.{Answer}
use Rattle.sense.specs.declared.Answer.TheVariants.{Good}
use Rattle.sense.specs.Answers.{number_of}
use Rattle.command.specs.declared.Op.{Op}
use Rattle.command.specs.declared.Op.TheVariants.{XdRead, Rebuild, Regenerate}
use Rattle.command.specs.declared.Source.{Source}
use Rattle.command.specs.Command.{op_of, command_of, ten_of, listed_of, own_of, resolved_of, resolved_count}
use Rattle.meaning.specs.declared.Span.{Span}
use Rattle.meaning.specs.declared.Act.TheVariants.{XdRead as ToXdRead, Rebuild as ToRebuild, Regenerate as ToRegenerate}
use Rattle.meaning.specs.Decision.{Decision, stop, go}
use Rattle.meaning.specs.Acts.{over, gathered}
use Rattle.meaning.specs.Allowed.{Blocks, NamesOther, Sourced}
use Rattle.meaning.proofs.Lengths.{length_gathered}
use Rattle.meaning.specs.Checks.{Check, checks, carried_out, acts, decide_of}
use Rattle.meaning.specs.Step.{decided, outcome_after, step_outcome, step_image, step_room}
use Rattle.grants.proofs.Good.{fault_fine}
use Rattle.grants.specs.Granted.{allowed_at}
use Rattle.demands_one_two.specs.Effects.{result_in, in_form}
use Rattle.demands_one_two.specs.Fine.{fine}
use Rattle.callers.specs.After.{After}
use Rattle.callers.specs.Does.{summing, blocks}
use Rattle.callers.specs.Goes.{exactly, does}
use Rattle.callers.specs.Lists.{entries_long, each_entry}
use Rattle.callers.specs.Operands.{operands, gathered_entries}
use Rattle.divided.specs.InParts.{Sent, Asks, IsGood, ours}

-- ---- no check answers GOOD

-- a check whose answer is GOOD does not apply
abbrev silent : Check → Bool
silent (rule n w b a) = cond (eqb (number_of a) 0) (not b) true

unfoldable all_silent : List Check → Bool
all_silent qs = every (map silent qs)

-- then a GOOD answer comes from behind them
from_behind : (m s : List ℕ) (qs : List Check) (d : Decision) → all_silent qs ≡ true → (outcome_after (first stop qs d) m s).answer ≡ Good → first stop qs d ≡ d
unfolding all_silent every
from_behind m s [] d h e = refl
from_behind m s (rule n w true a ∷ qs) d h e =
    absurd (true≢false (sym (subst (λ (z : Answer). cond (cond (eqb (number_of z) 0) false true) (every (map silent qs)) false ≡ true) e h)))
from_behind m s (rule n w false a ∷ qs) d h e = from_behind m s qs d (tail (cond (eqb (number_of a) 0) true true) h) e
  where
    tail : (b : Bool) → cond b (every (map silent qs)) false ≡ true → every (map silent qs) ≡ true
    tail true q = q
    tail false q = absurd (true≢false (sym q))

module _ (m : List ℕ) (a : Came) (c s r : List ℕ) where
  good_behind : (o : Op) → op_of (get_or c 0 0) ≡ o → all_silent (checks o m a c s (length r)) ≡ true → (step_outcome m a c s r).answer ≡ Good
      → decided m a c s r ≡ carried_out o m a c s
  unfolding decide_of step_outcome
  good_behind o q h e =
      let by : Op → Decision = (λ o. first stop (checks o m a c s (length r)) (carried_out o m a c s)) in
      ap by q ∙ from_behind m s (checks o m a c s (length r)) (carried_out o m a c s) h (ap (λ (z : Op). (outcome_after (by z) m s).answer) (sym q) ∙ e)

  -- with a list and a length none of REBUILD's and of REGENERATE's does
  module _ (list : eqb (be 2 c 7) 0 ≡ false) (count : eqb (be 4 c 2) 0 ≡ false) where
    rebuild_silent : all_silent (checks Rebuild m a c s (length r)) ≡ true
    unfolding all_silent every listed_of
    rebuild_silent = rw (list, count, fault_fine)

    regenerate_silent : all_silent (checks Regenerate m a c s (length r)) ≡ true
    unfolding all_silent every listed_of
    regenerate_silent = rw (list, count, fault_fine)

-- ---- what was asked was done

module _ (m : List ℕ) (g : Geometry) (h : Shelf m g) (x : Sent) (t : ℕ) (found : target_of m g x.came ≡ Some t)
    (b n : ℕ) (some : 1 ≤ n) (es : List Source) (int : Bool) (d : List ℕ) where
  abbrev a : Came
  a = x.came

  abbrev c : List ℕ
  c = x.cdb

  abbrev s : List ℕ
  s = x.bytes

  module _ (o : Op) (q : Asks o g.b x b n es int d) where
    list_some : eqb (be 2 c 7) 0 ≡ false
    list_some = ne_eqb (be 2 c 7) 0 (λ e. omega (arith, q.listed))

    count_some : eqb (be 4 c 2) 0 ≡ false
    count_some = ne_eqb (be 4 c 2) 0 (λ e. let z : resolved_count 0 b g.b ≡ n = ap (λ (k : ℕ). resolved_count k b g.b) (sym e) ∙ q.long in omega arith)

    -- of the image's own geometry, to the drive that was found
    of_shelf : carried_out o m a c s ≡ acts o m g t (command_of o a c) s
    of_shelf =
        ap (λ (k : Geometry). acts o m k (index (target_of m k a)) (command_of o a c) s) h.header
        ∙ ap (λ (f : Option ℕ). acts o m g (index f) (command_of o a c) s) found

    span_asked : blocks t (be 4 s 4) (resolved_count (be 4 c 2) (be 4 s 4) g.b) ≡ blocks t b n
    span_asked = ap₂ (blocks t) q.own (ap (λ (k : ℕ). resolved_count (be 4 c 2) k g.b) q.own ∙ q.long)

    sum_asked : Sourced m g (blocks t b n) (summing a int) s → gathered m g s n (summing a int) ≡ xor_all (operands m g a n es int d)
    sum_asked v =
        gathered_entries m g a s n int v.exact
        ∙ ap₂ (λ (ys : List Source) (z : List ℕ). xor_all (operands m g a n ys int z)) q.sources q.rest

    each_asked : Sourced m g (blocks t b n) (summing a int) s → EachIs (NamesOther m g a (blocks t b n)) es
    each_asked v = subst (EachIs (NamesOther m g a (blocks t b n))) q.sources (each_entry _ s 0 (get_or s 0 0) (λ j l. v.each j (omega arith)))

    some_asked : Sourced m g (blocks t b n) (summing a int) s → 1 ≤ length es
    some_asked v = omega (arith, v.some_source, entries_long s 0 (get_or s 0 0), ap length q.sources)

    -- the intermediate data is as long as the blocks
    long_asked : Sourced m g (blocks t b n) (summing a int) s → length d ≡ cond int (n * g.l) 0
    long_asked v = ap length (sym q.rest) ∙ length-drop (8 + 8 * get_or s 0 0) s ∙ omega (arith, v.exact)

  -- a REBUILD that was answered GOOD
  pub record Rebuilt : Type 0 where
    pub target_blocks : Blocks m g (blocks t b n)
    pub each : EachIs (NamesOther m g a (blocks t b n)) es
    pub some_source : 1 ≤ length es
    pub data_long : length d ≡ cond int (n * g.l) 0
    pub sum_long : length (xor_all (operands m g a n es int d)) ≡ n * g.l
    pub image : step_image m a c s x.room ≡ put m (place g t b) (xor_all (operands m g a n es int d))
    pub after : After m (step_image m a c s x.room) g (state_of m g) (over (blocks t b n) (xor_all (operands m g a n es int d)) ∷ []) (results m g)

  module _ (q : Asks Rebuild g.b x b n es int d) (good : IsGood ours m x) where
    rebuild_went : decided m a c s x.room ≡ go (ToRebuild (blocks t b n) (summing a int)) Good
    unfolding listed_of own_of resolved_of
    rebuild_went =
        good_behind m a c s x.room Rebuild q.code (rebuild_silent m a c s x.room (list_some Rebuild q) (count_some Rebuild q)) good
        ∙ of_shelf Rebuild q
        ∙ ap₂ (λ (y : Span) (i : Bool). go (ToRebuild y (summing a i)) Good) (span_asked Rebuild q) q.flag

    pub rebuilt : Rebuilt
    rebuilt =
        let w = allowed_at m g h a c s (length x.room) _ Good rebuild_went in
        record {
          target_blocks = w.0;
          each = each_asked Rebuild q w.1;
          some_source = some_asked Rebuild q w.1;
          data_long = long_asked Rebuild q w.1;
          sum_long = ap length (sym (sum_asked Rebuild q w.1)) ∙ length_gathered m g (blocks t b n) (summing a int) s (shelf_frame m g h) w.1;
          image = sym (exactly m g h a c s x.room _ rebuild_went).image ∙ ap (put m (place g t b)) (sum_asked Rebuild q w.1);
          after = subst (λ (ys : List ℕ). After m (step_image m a c s x.room) g (state_of m g) (over (blocks t b n) ys ∷ []) (results m g)) (sum_asked Rebuild q w.1)
              (does m g h a c s x.room _ rebuild_went).after;
        }

  -- a REGENERATE that was, and its result
  abbrev result : Result
  result = result_in 2 (blocks t b n) (blocks_at m g t b n ⊻ xor_all (operands m g a n es int d))

  pub record Regenerated : Type 0 where
    pub target_blocks : Blocks m g (blocks t b n)
    pub each : EachIs (NamesOther m g a (blocks t b n)) es
    pub data_long : length d ≡ cond int (n * g.l) 0
    pub free : empty_slot m g ≡ Some (index (empty_slot m g))
    pub sound : Sound g result
    pub image : step_image m a c s x.room ≡ with_result m g result
    pub after : After m (step_image m a c s x.room) g (state_of m g) [] (result ∷ results m g)

  module _ (q : Asks Regenerate g.b x b n es int d) (good : IsGood ours m x) where
    regenerate_went : decided m a c s x.room ≡ go (ToRegenerate (blocks t b n) (summing a int) (index (empty_slot m g))) Good
    unfolding listed_of own_of resolved_of
    regenerate_went =
        good_behind m a c s x.room Regenerate q.code (regenerate_silent m a c s x.room (list_some Regenerate q) (count_some Regenerate q)) good
        ∙ of_shelf Regenerate q
        ∙ ap₂ (λ (y : Span) (i : Bool). go (ToRegenerate y (summing a i) (index (empty_slot m g))) Good) (span_asked Regenerate q) q.flag

    pub regenerated : Regenerated
    regenerated =
        let w = allowed_at m g h a c s (length x.room) _ Good regenerate_went in
        let f = fine m g (shelf_frame m g h) s (length x.room) (ToRegenerate (blocks t b n) (summing a int) (index (empty_slot m g))) w in
        let with : List ℕ → Result = (λ ys. result_in 2 (blocks t b n) (blocks_at m g t b n ⊻ ys)) in
        record {
          target_blocks = w.0;
          each = each_asked Regenerate q w.1;
          data_long = long_asked Regenerate q w.1;
          free = f.possible.0;
          sound = subst (λ (ys : List ℕ). Sound g (with ys)) (sum_asked Regenerate q w.1) f.possible.1;
          image = sym (exactly m g h a c s x.room _ regenerate_went).image
              ∙ in_form g (shelf_frame m g h).placed m (length x.room) _ f
              ∙ ap (λ (ys : List ℕ). with_result m g (with ys)) (sum_asked Regenerate q w.1);
          after = subst (λ (ys : List ℕ). After m (step_image m a c s x.room) g (state_of m g) [] (with ys ∷ results m g)) (sum_asked Regenerate q w.1)
              (does m g h a c s x.room _ regenerate_went).after;
        }

-- ---- XDREAD

-- an XDREAD that was answered GOOD handed out the newest result of its drive at its block
module _ (m : List ℕ) (g : Geometry) (h : Shelf m g) (x : Sent) (t : ℕ) (found : target_of m g x.came ≡ Some t) (code : op_of (get_or x.cdb 0 0) ≡ XdRead) (good : IsGood ours m x) where
  abbrev block : ℕ
  block = be 4 x.cdb 2

  abbrev slot : ℕ
  slot = index (newest_of m g t block)

  xdread_went : decided m x.came x.cdb x.bytes x.room ≡ go (ToXdRead (blocks t block (be 2 x.cdb 7)) slot) Good
  unfolding all_silent every ten_of
  xdread_went =
      good_behind m x.came x.cdb x.bytes x.room XdRead code refl good
      ∙ ap (λ (y : Geometry). acts XdRead m y (index (target_of m y x.came)) (ten_of XdRead x.came x.cdb) x.bytes) h.header
      ∙ ap (λ (f : Option ℕ). acts XdRead m g (index f) (ten_of XdRead x.came x.cdb) x.bytes) found

  abbrev handed : List ℕ
  handed = part m (data_at g slot) (be 2 x.cdb 7 * g.l)

  pub xdread_handed : (z : Result) → first_of (answers t block) (results m g) ≡ Some z → part (step_room m x.came x.cdb x.bytes x.room) 0 (z.len * g.l) ≡ z.bytes
  unfolding result_at
  xdread_handed z first_is =
      let w = allowed_at m g h x.came x.cdb x.bytes (length x.room) _ Good xdread_went in
      let e = exactly m g h x.came x.cdb x.bytes x.room _ xdread_went in
      let its : result_at m g slot ≡ z = some_same (result_at m g slot) z (sym (newest_result m g h.slots_fine t block slot w.0.answers) ∙ first_is) in
      let asked : be 2 x.cdb 7 ≡ z.len = sym w.0.same_len ∙ ap (λ (y : Result). y.len) its in
      let l : length handed ≡ z.len * g.l =
      length_part m (data_at g slot) (be 2 x.cdb 7 * g.l) (data_in m g slot (be 2 x.cdb 7) (shelf_frame m g h) w.0.slot_in w.0.limited) ∙ ap (λ (k : ℕ). k * g.l) asked in
      ap (λ (y : List ℕ). part y 0 (z.len * g.l)) (sym e.room)
      ∙ ap (part (put x.room 0 handed) 0) (sym l)
      ∙ part_put x.room 0 handed (omega (arith, length_part_le m (data_at g slot) (be 2 x.cdb 7 * g.l), w.1))
      ∙ ap (λ (k : ℕ). part m (data_at g slot) (k * g.l)) (sym w.0.same_len)
      ∙ ap (λ (y : Result). y.bytes) its

  pub xdread_image : step_image m x.came x.cdb x.bytes x.room ≡ released m g slot
  unfolding released
  xdread_image = sym (exactly m g h x.came x.cdb x.bytes x.room _ xdread_went).image

  -- and it alone is no longer retained
  pub xdread_after : After m (step_image m x.came x.cdb x.bytes x.room) g (state_of m g) [] (sans_first (answers t block) (results m g))
  xdread_after = (does m g h x.came x.cdb x.bytes x.room _ xdread_went).after

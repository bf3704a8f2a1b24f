-- "the order of entries never matters to a GOOD result"
use Prim.Native.Nat.{ℕ, zero, suc, ◌+◌, ◌*◌, ◌≤◌, ◌<◌}
use Rattle.std.proofs.Common.{arith, true≢false, ◌∙◌, lit≤}
use Rattle.std.proofs.Math.Bool.{Bool, true, false, cond}
use Rattle.std.specs.Prelude.{not, ◌⊎◌, ◌≡◌, ltb, eqb, length, get_or, take, Option, Some, None, is_none, Ok, Err, is_err}
use Rattle.std.proofs.Math.Logic.{inl, inr, ⊎_elim}
use Rattle.std.proofs.Math.Path.{refl, sym, ap, ap₂}
use mathlib.Core.List.Permᴰ
use mathlib.Core.List.{List, [], ◌∷◌, ◌++◌, Permᴰ}
use Rattle.octets.specs.Part.{part, front_byte}
use Rattle.octets.specs.Number.{front_be}
use Rattle.octets.specs.Put.{put}
use Rattle.octets.specs.Xor.{◌⊻◌}
use Rattle.octets.specs.Operands.{xor_all, xor_all_perm}
use Rattle.folds.specs.Least.{least_below, index}
use Rattle.folds.proofs.Least.{least_inside, least_nothing}
use Rattle.folds.specs.Cases.{same}
use Rattle.rules.specs.Rule.{rule, applies, first}
use Rattle.rules.proofs.Rule.{first_cases}
use Rattle.geometry.specs.declared.Geometry.{Geometry}
use Rattle.geometry.specs.Header.{geometry_of}
use Rattle.geometry.specs.Stores.{stored}
use Rattle.drives.specs.declared.Came.{Came}
use Rattle.drives.specs.Table.{source_drive, failed, target_of}
use Rattle.slots.specs.Find.{empty_slot}
use Rattle.sense.specs.Sense.{outcome_of}
use Rattle.sense.specs.declared.Answer.{Answer}
use Rattle.sense.specs.declared.Answer.TheVariants.{Good, WrongCount, BadListLength, BadList, BadRange}
use Rattle.command.specs.declared.Op.{Op}
use Rattle.command.specs.declared.Op.TheVariants.{Rebuild, Regenerate}
use Rattle.command.specs.declared.Source.{Source}
use Rattle.command.specs.declared.Command.{Command}
use Rattle.command.specs.Command.{op_of, source_of, command_of, own_of}
use Rattle.meaning.specs.declared.Summing.{Summing}
use Rattle.meaning.specs.declared.Act.TheVariants.{Rebuild as ToRebuild, Regenerate as ToRegenerate}
use Rattle.meaning.specs.declared.Fault.TheVariants.{Absent, Failed, Beyond}
use Rattle.meaning.specs.declared.Seen.{Seen}
use Rattle.meaning.specs.declared.Seen.TheVariants.{Dash, Cdb, List as InList}
use Rattle.meaning.specs.Decision.{Decision, stop, go}
use Rattle.meaning.specs.Sources.{Vetted, is_at, own_entry, drive_bad, entry_bad, or_next, first_bad}
use Rattle.meaning.specs.Checks.{Check, fault_answer, calls, cdb_calls, known, fields, sends, idle, lists, list_rules, resolved, ranges, in_range, busy, nested, source_rules, rooms, span_of, sum_of, checks, carried_out, decide_of}
use Rattle.meaning.specs.Acts.{over, Stays, Comes, effect, stores_in, blocks_of, named_blocks, gathered}
use Rattle.meaning.specs.Step.{outcome_after, image_after, room_after, step_outcome, step_image, step_room}
use Rattle.callers.specs.Goes.{◌then◌}
use Rattle.callers.specs.Lists.{entries_from, entries_of, behind}
use Rattle.callers.specs.Operands.{named_entries}
use Rattle.divided.specs.InParts.{Reply, reply, sent, ours, Reordered, OrderFree}

-- ---- two lists of checks

abbrev answer_of : Check → Answer
answer_of (rule n w b a) = a

-- the one is the other, or both apply or neither does, and then GOOD is not the answer
abbrev Alike : Check → Check → Type 0
Alike x y = (x ≡ y) ⊎ ((applies x ≡ applies y) × (applies x ≡ true → answer_of x ≡ Good → ⊥))

unfoldable Pairs : List Check → List Check → Type 0
Pairs [] [] = Unit {0}
Pairs [] (y ∷ ys) = ⊥
Pairs (x ∷ xs) [] = ⊥
Pairs (x ∷ xs) (y ∷ ys) = Alike x y × Pairs xs ys

-- then a GOOD decision by the first is one by the second
module _ (m s : List ℕ) where
  pairs_decide : (xs ys : List Check) (d e : Decision) → Pairs xs ys → d ≡ e → (outcome_after (first stop xs d) m s).answer ≡ Good → first stop xs d ≡ first stop ys e
  unfolding Pairs
  pairs_decide [] [] d e h q g = q
  pairs_decide [] (y ∷ ys) d e h q g = elim h [ ]
  pairs_decide (rule n w false a ∷ xs) [] d e h q g = elim h [ ]
  pairs_decide (rule n w true a ∷ xs) [] d e h q g = elim h [ ]
  pairs_decide (rule n w true a ∷ xs) (y ∷ ys) d e (inl p, h) q g = ap (λ (z : Check). first stop (z ∷ ys) e) p
  pairs_decide (rule n w false a ∷ xs) (y ∷ ys) d e (inl p, h) q g = pairs_decide xs ys d e h q g ∙ ap (λ (z : Check). first stop (z ∷ ys) e) p
  pairs_decide (rule n w true a ∷ xs) (rule n' w' b' a' ∷ ys) d e (inr (p, never), h) q g = absurd (never refl g)
  pairs_decide (rule n w false a ∷ xs) (rule n' w' b' a' ∷ ys) d e (inr (p, never), h) q g = rw (← p) (pairs_decide xs ys d e h q g)

-- ---- some entry of a list

abbrev some : (Source → Bool) → List Source → Bool
some p [] = false
some p (e ∷ es) = cond (p e) true (some p es)

some_perm : (p : Source → Bool) {es fs : List Source} → Permᴰ es fs → some p es ≡ some p fs
some_perm p Permᴰ.nil = refl
some_perm p (Permᴰ.cons e q) = ap₂ (λ (x : Source) (b : Bool). cond (p x) true b) e (some_perm p q)
some_perm p (Permᴰ.swap {a} {b} {l = l} e f) = either (p a) (p b) (some p l) ∙ ap₂ (λ (x y : Source). cond (p x) true (cond (p y) true (some p l))) f e
  where
    either : (u v w : Bool) → cond u true (cond v true w) ≡ cond v true (cond u true w)
    either true true w = refl
    either true false w = refl
    either false v w = refl
some_perm p (Permᴰ.trans q r) = some_perm p q ∙ some_perm p r

module _ (p : Source → Bool) (s : List ℕ) where
  some_none : (i left : ℕ) → ((j : ℕ) → j < i + left → p (source_of s j) ≡ false) → some p (entries_from s i left) ≡ false
  unfolding entries_from
  some_none i zero h = refl
  some_none i (suc left) h = rw (h i (omega arith)) (some_none (i + 1) left (λ j l. h j (omega arith)))

  some_there : (j i left : ℕ) → i ≤ j → j < i + left → p (source_of s j) ≡ true → some p (entries_from s i left) ≡ true
  unfolding entries_from
  some_there j i zero l h e = absurd (omega arith)
  some_there j i (suc left) l h e =
      ⊎_elim (λ (q : i ≡ j). ap (λ (b : Bool). cond b true (some p (entries_from s (i + 1) left))) (ap (λ (k : ℕ). p (source_of s k)) q ∙ e))
      (λ ne. ap (cond (p (source_of s i)) true) (some_there j (i + 1) left (omega arith) (omega arith) e) ∙ either (p (source_of s i)))
      (same i j)
    where
      either : (b : Bool) → cond b true true ≡ true
      either true = refl
      either false = refl

module _ (m : List ℕ) (g : Geometry) (a : Came) where
  -- the target is among the entries
  own_some : (s : List ℕ) (n t : ℕ) → not (is_none (own_entry m g a s n t)) ≡ some (λ e. is_at t (source_drive m g a e.address.0)) (entries_from s 0 n)
  unfolding own_entry
  own_some s n t = pick (least_below n p) refl
    where
      p : ℕ → Bool
      p i = is_at t (source_drive m g a (source_of s i).address.0)

      pick : (f : Option ℕ) → least_below n p ≡ f → not (is_none f) ≡ some (λ e. is_at t (source_drive m g a e.address.0)) (entries_from s 0 n)
      pick (Some i) e = let w = least_inside p n i e in sym (some_there _ s i 0 n (omega arith) (omega (arith, w.0)) w.1)
      pick None e = sym (some_none _ s 0 n (λ j l. least_nothing p n e j (omega arith)))

  module _ (count : ℕ) where
    abbrev bad : Source → Bool
    bad e = is_err (drive_bad m g count 0 e.block.0 (source_drive m g a e.address.0))

    -- entry i, which names drive d: it is failed, or the blocks end beyond its last
    abbrev judged : ℕ → ℕ → Bool → Bool → Vetted
    judged i d down beyond = cond down (Err (Failed i d)) (cond beyond (Err (Beyond i)) (Ok tt))

    -- whatever its place in the list
    bad_anywhere : (i b : ℕ) (f : Option ℕ) → is_err (drive_bad m g count i b f) ≡ is_err (drive_bad m g count 0 b f)
    unfolding drive_bad
    bad_anywhere i b None = refl
    bad_anywhere i b (Some d) = pick (failed m g d) (ltb g.b (b + count))
      where
        pick : (u v : Bool) → is_err (judged i d u v) ≡ is_err (judged 0 d u v)
        pick true v = refl
        pick false true = refl
        pick false false = refl

    fault_next : (x y : Vetted) → is_err (or_next x y) ≡ cond (is_err x) true (is_err y)
    fault_next (Ok u) y = refl
    fault_next (Err x) y = refl

    -- an entry is bad
    fault_some : (s : List ℕ) (i left : ℕ) → is_err (first_bad m g a s count i left) ≡ some bad (entries_from s i left)
    unfolding first_bad entries_from entry_bad
    fault_some s i zero = refl
    fault_some s i (suc left) =
        fault_next (entry_bad m g a s count i) (first_bad m g a s count (i + 1) left)
        ∙ ap₂ (λ (u v : Bool). cond u true v) (bad_anywhere i (source_of s i).block.0 (source_drive m g a (source_of s i).address.0)) (fault_some s (i + 1) left)

-- ---- the checks of a list and of the same list in another order

pairs_same : (xs : List Check) → Pairs xs xs
unfolding Pairs
pairs_same [] = tt
pairs_same (x ∷ xs) = (inl refl, pairs_same xs)

pairs_append : (xs xs' ys ys' : List Check) → Pairs xs xs' → Pairs ys ys' → Pairs (xs ++ ys) (xs' ++ ys')
unfolding Pairs
pairs_append [] [] ys ys' h k = k
pairs_append [] (x' ∷ xs') ys ys' h k = elim h [ ]
pairs_append (x ∷ xs) [] ys ys' h k = elim h [ ]
pairs_append (x ∷ xs) (x' ∷ xs') ys ys' (h, hs) k = (h, pairs_append xs xs' ys ys' hs k)

module _ (m : List ℕ) (a : Came) (c s s' : List ℕ) (w : Reordered s s') where
  abbrev g : Geometry
  g = geometry_of m

  abbrev t : ℕ
  t = index (target_of m g a)

  number : get_or s 0 0 ≡ get_or s' 0 0
  number = front_byte s s' _ w.head 0 (lit≤ tt)

  -- one of two numbers that are the same in both
  by : {A : Type 0} (f : A → Check) {x y : A} → x ≡ y → Alike (f x) (f y)
  by f e = inl (ap f e)

  module _ (k : Command) where
    same_place : resolved g k s ≡ resolved g k s'
    unfolding own_of
    same_place = let e = front_be s s' _ w.head 4 4 (lit≤ tt) in rw e

    own_alike : (x y : Seen) → Alike (rule 7 x (not (is_none (own_entry m g k.came s (get_or s 0 0) t))) BadList) (rule 7 y (not (is_none (own_entry m g k.came s' (get_or s' 0 0) t))) BadList)
    own_alike x y =
        inr (
          own_some m g k.came s (get_or s 0 0) t ∙ some_perm _ w.entries ∙ sym (own_some m g k.came s' (get_or s' 0 0) t),
          λ q e. let z : ◌≡◌ {A = ℕ} 0 1 = cc in omega arith,
        )

    list_pairs : Pairs (list_rules m g t k s) (list_rules m g t k s')
    unfolding Pairs
    list_pairs =
        inl refl
        then by (λ (n : ℕ). rule 7 (Cdb 7) (not (eqb k.list (8 + 8 * n))) BadListLength) number
        then by (λ (n : ℕ). rule 7 (InList 0) (eqb n 0) BadList) number
        then by (λ (n : ℕ). rule 7 (InList 1) (not (eqb n 1)) BadList) (front_byte s s' _ w.head 1 (lit≤ tt))
        then by (λ (n : ℕ). rule 7 (InList 2) (not (eqb n 0)) BadList) (front_be s s' _ w.head 2 2 (lit≤ tt))
        then own_alike _ _
        then inl refl
        then tt

    range_pairs : Pairs (in_range (InList 4) g (resolved g k s)) (in_range (InList 4) g (resolved g k s'))
    unfolding Pairs
    range_pairs = by (λ (j : Command). rule 8 (InList 4) (ltb g.b (j.block.0 + j.count)) BadRange) same_place then tt

    -- a fault is never GOOD
    fault_never : (f : Vetted) → is_err f ≡ true → fault_answer f ≡ Good → ⊥
    fault_never (Ok u) q e = true≢false (sym q)
    fault_never (Err (Absent i)) q e = let z : ◌≡◌ {A = ℕ} 0 1 = cc in omega arith
    fault_never (Err (Failed i d)) q e = let z : ◌≡◌ {A = ℕ} 0 1 = cc in omega arith
    fault_never (Err (Beyond i)) q e = let z : ◌≡◌ {A = ℕ} 0 1 = cc in omega arith

    abbrev fault : List ℕ → Vetted
    fault s = first_bad m g k.came s (resolved g k s).count 0 (get_or s 0 0)

    nested_pairs : Pairs (source_rules (fault s)) (source_rules (fault s'))
    unfolding Pairs
    nested_pairs =
        inr (
          fault_some m g k.came (resolved g k s).count s 0 (get_or s 0 0)
              ∙ some_perm _ w.entries
              ∙ ap (λ (j : Command). some (bad m g k.came j.count) (entries_of s')) same_place
              ∙ sym (fault_some m g k.came (resolved g k s').count s' 0 (get_or s' 0 0)),
          fault_never (fault s),
        )
        then tt

  five_pairs : (n : ℕ) (xs : List Check) → Pairs (rule 5 Dash (not (eqb (length s) n)) WrongCount ∷ xs) (rule 5 Dash (not (eqb (length s') n)) WrongCount ∷ xs)
  unfolding Pairs
  five_pairs n xs = (by (λ (z : ℕ). rule 5 Dash (not (eqb z n)) WrongCount) w.as_long, pairs_same xs)

  -- all of them, of an operation with a list
  all_pairs : (o : Op) (room : ℕ) → (let k = command_of o a c in Pairs (lists o m g t k s) (lists o m g t k s') × Pairs (ranges o m g t k s) (ranges o m g t k s') × Pairs (nested o m g k s) (nested o m g k s'))
      → Pairs (checks o m a c s room) (checks o m a c s' room)
  all_pairs o room (l, r, n) =
      let k = command_of o a c in
      let start = pairs_append _ _ _ _ (pairs_same (fields o m g t k)) (five_pairs (sends o g k) (idle o k)) in
      pairs_append _ _ _ _ (pairs_same (calls m a ++ cdb_calls o c ++ known m g t o))
      (pairs_append _ _ _ _ (pairs_append _ _ _ _ (pairs_append _ _ _ _ (pairs_append _ _ _ _ (pairs_append _ _ _ _ start l) r) (pairs_same (busy o m g k))) n) (pairs_same (rooms o g k room)))

  rebuild_pairs : (room : ℕ) → Pairs (checks Rebuild m a c s room) (checks Rebuild m a c s' room)
  rebuild_pairs room = let k = command_of Rebuild a c in all_pairs Rebuild room (list_pairs k, range_pairs k, nested_pairs k)

  regenerate_pairs : (room : ℕ) → Pairs (checks Regenerate m a c s room) (checks Regenerate m a c s' room)
  regenerate_pairs room = let k = command_of Regenerate a c in all_pairs Regenerate room (list_pairs k, range_pairs k, nested_pairs k)

  -- ---- what is done

  gathered_same : (n : ℕ) (j : Summing) → gathered m g s n j ≡ gathered m g s' n j
  unfolding gathered part
  gathered_same n j =
      let named = named_blocks m g j.came n in
      let after : List ℕ → List (List ℕ) = (λ d. cond j.int (take (n * g.l) d ∷ []) []) in
      ap (λ (xs : List (List ℕ)). xor_all (xs ++ after (behind s))) (named_entries m g j.came s n 0 (get_or s 0 0))
      ∙ xor_all_perm (Permᴰ.append_right (after (behind s)) (Permᴰ.map named w.entries))
      ∙ ap₂ (λ (xs : List (List ℕ)) (d : List ℕ). xor_all (xs ++ after d)) (sym (named_entries m g j.came s' n 0 (get_or s' 0 0))) w.rest

  module _ (r : List ℕ) where
    -- what a decision makes of each
    abbrev made : List ℕ → Decision → Reply
    made s d = reply (outcome_after d m s) (image_after d m s) (room_after d m s r)

    abbrev by_checks : Op → List ℕ → Decision
    by_checks o s = first stop (checks o m a c s (length r)) (carried_out o m a c s)

    by_decision : (o : Op) → op_of (get_or c 0 0) ≡ o → Pairs (checks o m a c s (length r)) (checks o m a c s' (length r))
        → carried_out o m a c s ≡ carried_out o m a c s' → made s (carried_out o m a c s') ≡ made s' (carried_out o m a c s')
        → (step_outcome m a c s r).answer ≡ Good → ours m (sent a c s r) ≡ ours m (sent a c s' r)
    unfolding decide_of step_outcome step_image step_room
    by_decision o e p act same good =
        ap (λ (z : Op). made s (by_checks z s)) e
        ∙ ap (made s) (pairs_decide m s _ _ _ _ p act (ap (λ (z : Op). (outcome_after (by_checks z s) m s).answer) (sym e) ∙ good))
        ∙ first_cases stop (λ (d : Decision). made s d ≡ made s' d) (checks o m a c s' (length r)) (carried_out o m a c s') (λ n x z. refl) (λ q. same)
        ∙ ap (λ (z : Op). made s' (by_checks z s')) (sym e)

    of_rebuild : op_of (get_or c 0 0) ≡ Rebuild → (step_outcome m a c s r).answer ≡ Good → ours m (sent a c s r) ≡ ours m (sent a c s' r)
    of_rebuild e =
        let k = command_of Rebuild a c in
        let x = span_of t (resolved g k s') in
        by_decision Rebuild e (rebuild_pairs (length r)) (ap (λ (j : Command). go (ToRebuild (span_of t j) (sum_of k)) Good) (same_place k))
        (ap (λ (ys : List ℕ). reply (outcome_of Good 0) (stored m (stores_in m g (effect [] (over x ys ∷ []) Stays))) (put r 0 [])) (gathered_same x.count (sum_of k)))

    of_regenerate : op_of (get_or c 0 0) ≡ Regenerate → (step_outcome m a c s r).answer ≡ Good → ours m (sent a c s r) ≡ ours m (sent a c s' r)
    of_regenerate e =
        let k = command_of Regenerate a c in
        let x = span_of t (resolved g k s') in
        let i = index (empty_slot m g) in
        by_decision Regenerate e (regenerate_pairs (length r)) (ap (λ (j : Command). go (ToRegenerate (span_of t j) (sum_of k) i) Good) (same_place k))
        (ap (λ (ys : List ℕ). reply (outcome_of Good 0) (stored m (stores_in m g (effect [] [] (Comes i 2 x (blocks_of m g x ⊻ ys))))) (put r 0 [])) (gathered_same x.count (sum_of k)))

-- ---- the law

-- the one is the other in another order, and so is the other of the one
back : (s s' : List ℕ) → Reordered s s' → Reordered s' s
back s s' w = record { as_long = sym w.as_long; head = sym w.head; entries = Permᴰ.symm w.entries; rest = sym w.rest }

pub order_free : OrderFree ours
order_free m a c s s' r (inl e) w = (of_rebuild m a c s s' w r e, λ q. sym (of_rebuild m a c s' s (back s s' w) r e q))
order_free m a c s s' r (inr e) w = (of_regenerate m a c s s' w r e, λ q. sym (of_regenerate m a c s' s (back s s' w) r e q))

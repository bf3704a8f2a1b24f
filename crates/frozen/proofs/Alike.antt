-- What lies where, and what comes and goes: today's definitions are 01's, over a header in place of a geometry.
use Prim.Native.Nat.{ℕ, zero, suc, ◌+◌, ◌*◌, ◌/◌, ◌%◌, ◌<◌}
use Rattle.std.specs.Prelude.{Bool, not, ◌≡◌, get_or, Option, Some, None}
use Rattle.std.specs.Option.{option_map}
use Rattle.std.proofs.Math.Bool.{true, false, cond}
use mathlib.Core.List.{List, [], ◌∷◌, ◌++◌}
use Rattle.std.proofs.Math.Path.{refl, ap, ap₂}
use Rattle.std.proofs.Common.{sym, ◌∙◌, mod-lt, zero-lt-suc, not-suc-le-zero, le_of_suc-le-suc}
use Rattle.std.proofs.Math.Dec.{ltb, eqb}
use Rattle.octets.specs.Part.{part}
use Rattle.octets.specs.Operands.{xor_all}
use Rattle.folds.specs.Every.{every}
use Rattle.geometry.specs.Header.{slot_at, place}
use Rattle.drives.specs.declared.Came.{Came}
use Rattle.geometry.specs.Stores.{stored_if, in_turn_lem}
use Rattle.drives.specs.Table.{drive_of}
use Rattle.slots.specs.declared.Best.{Best}
use Rattle.slots.specs.Record.{slot_of}
use Rattle.slots.specs.Find.{top_of, better, best_of, newest_of}
use Rattle.slots.specs.Change.{fall_stores, gone_stores, of_drive, drop_stores, lowered, released, drop_one, dropped_to, dropped}
use Rattle.command.specs.Command.{source_of}
use Rattle.meaning.specs.Acts.{sources_from, gathered}
use Rattle.frozen.specs.Image as old
use Rattle.frozen.specs.Results as then
use Rattle.frozen.specs.Commands as was
use Rattle.frozen.specs.Alike.{geo, best_to}

-- ---- a bit of byte 1, which is yes or no today and was a number

pub bit_not : (n : ℕ) → eqb (n % 2) 0 ≡ not (eqb (n % 2) 1)
bit_not n = pick (n % 2) (mod-lt n (zero-lt-suc 1))
  where
    pick : (k : ℕ) → k < 2 → eqb k 0 ≡ not (eqb k 1)
    pick zero l = refl
    pick (suc zero) l = refl
    pick (suc (suc k)) l = absurd (not-suc-le-zero (le_of_suc-le-suc (le_of_suc-le-suc l)))

pub bit_either : {A : Type 0} (n : ℕ) (x y : A) → cond (eqb (n % 2) 1) x y ≡ cond (eqb (n % 2) 0) y x
bit_either n x y = pick (eqb (n % 2) 1) ∙ ap (λ (b : Bool). cond b y x) (sym (bit_not n))
  where
    pick : (b : Bool) → cond b x y ≡ cond (not b) y x
    pick true = refl
    pick false = refl

-- ---- the image

module _ (m : List ℕ) (h : old.Header) where
  -- ---- the newest

  best_top : (d b n : ℕ) → top_of (best_to (then.best_of m h d b n)) ≡ (then.best_of m h d b n).top
  unfolding then.best_of
  best_top d b zero = refl
  best_top d b (suc n) =
      pick (best_top d b n) (every (then.wanted d b (old.slot m h n) ∷ ltb (then.best_of m h d b n).top (old.slot m h n).rank ∷ []))
    where
      pick : top_of (best_to (then.best_of m h d b n)) ≡ (then.best_of m h d b n).top
          → (t : Bool) → let x = cond t (record { top = (old.slot m h n).rank; found = Some n }) (then.best_of m h d b n) in top_of (best_to x) ≡ x.top
      pick e true = refl
      pick e false = e

  best_alike : (d b n : ℕ) → best_of m (geo h) d b n ≡ best_to (then.best_of m h d b n)
  unfolding best_of better slot_of slot_at then.best_of
  best_alike d b zero = refl
  best_alike d b (suc n) =
      let r = old.slot m h n in
      ap (λ (x : Option Best). better d b x n (slot_of m (geo h) n)) (best_alike d b n)
      ∙ ap (λ (t : ℕ). cond (every (then.wanted d b r ∷ ltb t r.rank ∷ [])) (Some (record { slot = n; rank = r.rank })) (best_to (then.best_of m h d b n))) (best_top d b n)
      ∙ pick (every (then.wanted d b r ∷ ltb (then.best_of m h d b n).top r.rank ∷ []))
    where
      pick : (t : Bool) → cond t (Some (record { slot = n; rank = (old.slot m h n).rank })) (best_to (then.best_of m h d b n)) ≡ best_to (cond t (record { top = (old.slot m h n).rank; found = Some n }) (then.best_of m h d b n))
      pick true = refl
      pick false = refl

  found_back : (x : then.Best) → option_map (λ (y : Best). y.slot) (best_to x) ≡ x.found
  found_back x = back x.found
    where
      back : (f : Option ℕ) → option_map (λ (y : Best). y.slot) (option_map (λ i. record { slot = i; rank = x.top }) f) ≡ f
      back None = refl
      back (Some i) = refl

  pub newest_alike : (d b : ℕ) → newest_of m (geo h) d b ≡ then.newest m h d b
  unfolding newest_of
  newest_alike d b = ap (option_map (λ (x : Best). x.slot)) (best_alike d b h.S) ∙ found_back _

-- ---- a result goes, and all of a drive's go

module _ (h : old.Header) where
  lowered_alike : (rank n : ℕ) (m : List ℕ) → lowered (geo h) rank n m ≡ then.lowered h rank n m
  unfolding lowered slot_of slot_at then.lowered
  lowered_alike rank zero m = refl
  lowered_alike rank (suc n) m =
      let t = lowered (geo h) rank n m in
      in_turn_lem (fall_stores (geo h) rank) m n ∙ stored_if t (ltb rank (slot_of t (geo h) n).rank) _ ∙ ap (then.lower_one h rank n) (lowered_alike rank n m)

  pub released_alike : (m : List ℕ) (i : ℕ) → released m (geo h) i ≡ then.released m h i
  unfolding released lowered slot_of slot_at
  released_alike m i = lowered_alike _ h.S _

  drop_alike : (d i : ℕ) (m : List ℕ) → drop_one (geo h) d i m ≡ then.drop_one h d i m
  unfolding drop_one released slot_of slot_at
  drop_alike d i m =
      stored_if m (of_drive d (slot_of m (geo h) i)) (gone_stores (geo h) i m)
      ∙ ap (λ (t : List ℕ). cond (every (old.used (old.slot m h i) ∷ eqb (old.slot m h i).drive d ∷ [])) t m) (released_alike m i)

  to_alike : (d n : ℕ) (m : List ℕ) → dropped_to (geo h) d n m ≡ then.dropped_to h d n m
  unfolding dropped_to drop_one then.dropped_to
  to_alike d zero m = refl
  to_alike d (suc n) m = in_turn_lem (drop_stores (geo h) d) m n ∙ ap (drop_one (geo h) d n) (to_alike d n m) ∙ drop_alike d n (then.dropped_to h d n m)

  pub dropped_alike : (m : List ℕ) (d : ℕ) → dropped m (geo h) d ≡ then.dropped m h d
  unfolding dropped
  dropped_alike m d = to_alike d h.S m

-- ---- the sources

module _ (m : List ℕ) (h : old.Header) (a : Came) (s : List ℕ) (n : ℕ) where
  operands_alike : (i left : ℕ) → sources_from m (geo h) a s n i left ≡ was.operands_from m h s n i left
  unfolding sources_from source_of drive_of place was.operands_from
  operands_alike i zero = refl
  operands_alike i (suc left) = ap (λ (xs : List (List ℕ)). was.blocks_named m h s n i ∷ xs) (operands_alike (i + 1) left)

  pub gathered_alike : (c : List ℕ) → gathered m (geo h) s n (record { int = eqb (was.int c) 1; came = a }) ≡ was.gathered m h c s n
  unfolding gathered
  gathered_alike c =
      ap₂ (λ (xs ys : List (List ℕ)). xor_all (xs ++ ys)) (operands_alike 0 (was.sources s)) (bit_either (get_or c 1 0 / 4) (part s (8 + 8 * was.sources s) (n * h.L) ∷ []) [])

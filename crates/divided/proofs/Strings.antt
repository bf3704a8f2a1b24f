-- "this leaves the target's medium as one REBUILD over all the sources would"
use Rattle.std.specs.Prelude.{ℕ, ◌≤◌, Bool, true, cond, ◌≡◌, length, Option, Some}
use Rattle.std.proofs.Common.{arith, sym, ap₂, ◌∙◌}
use Rattle.std.proofs.Math.Path.{ap}
use mathlib.Core.List.Permᴰ
use mathlib.Core.List.{List, [], ◌∷◌, ◌++◌, map, map-append, Permᴰ}
use Rattle.octets.specs.Xor.{◌⊻◌, xor_commutes, xor_regroups, xor_swaps}
use Rattle.octets.specs.Operands.{xor_all, xor_all_one, xor_all_append, xor_all_perm}
use Rattle.folds.specs.Each.{EachIs, each_append, each_implies, perm_each, perm_length}
use Rattle.folds.specs.Least.{index}
use Rattle.geometry.specs.declared.Geometry.{Geometry}
use Rattle.geometry.specs.Header.{blocks_at}
use Rattle.drives.specs.declared.Came.{Came}
use Rattle.drives.specs.Lookup.{drive_found}
use Rattle.results.specs.First.{first_of, first_hit}
use Rattle.results.specs.Newest.{answers}
use Rattle.results.proofs.Newest.{answers_own}
use Rattle.results.specs.Results.{results}
use Rattle.command.specs.declared.Source.{Source}
use Rattle.meaning.specs.Acts.{named_blocks}
use Rattle.meaning.specs.Allowed.{NamesOther}
use Rattle.demands_one_two.specs.Effects.{result_in}
use Rattle.callers.specs.Does.{blocks}
use Rattle.callers.specs.Sources.{source_at}
use Rattle.callers.specs.Operands.{operands}
use Rattle.divided.specs.InParts.{Sent, ours, leaving, rebuilding, WellSaid, First, Fetched, Second, SameMedia, together, Ready, Joins}
use Rattle.divided.specs.Carried.{Regenerated, regenerated, Rebuilt, rebuilt, xdread_handed}
use Rattle.divided.specs.Media.{same_itself, same_blocks, each_named, names_on, names_anyhow}
use Rattle.divided.specs.Whole.{whole}

-- what is XORed with the rest first, and what at last
in_turn_lem : (t e f r : List ℕ) → (t ⊻ (e ⊻ f)) ⊻ r ≡ f ⊻ (t ⊻ (e ⊻ r))
in_turn_lem t e f r =
    ap (λ (k : List ℕ). k ⊻ r) (sym (xor_regroups t e f)) ∙ xor_swaps (t ⊻ e) f r ∙ xor_commutes ((t ⊻ e) ⊻ r) f ∙ ap (◌⊻◌ f) (xor_regroups t e r)

-- ---- the first string

module _ (g : Geometry) (m m' : List ℕ) (x y : Sent) (t b n : ℕ) (es : List Source) (int : Bool) (d ys : List ℕ)
    (p : First ours m g x t b n es int d) (q : Fetched ours (ours m x).image m' g y t b n ys) where
  pub first_done : Regenerated m g p.shelf x t p.found b n p.some_block es int d
  first_done = regenerated m g p.shelf x t p.found b n p.some_block es int d p.asks p.good

  -- the bytes passed on are the result that REGENERATE retained
  abbrev its : List ℕ
  its = blocks_at m g t b n ⊻ xor_all (operands m g x.came n es int d)

  pub fetched : ys ≡ its
  fetched =
      let k = result_in 2 (blocks t b n) its in
      let newest : first_of (answers t b) (results m' g) ≡ Some k =
      q.newest ∙ ap (first_of (answers t b)) first_done.after.retained ∙ first_hit (answers t b) k (results m g) (answers_own k) in
      q.bytes
      ∙ xdread_handed m' g q.shelf y t q.found q.code q.good k (ap (λ (i : ℕ). first_of (answers t i) (results m' g)) q.block ∙ newest)

-- ---- and the second

module _ (g : Geometry) (m m' m'' : List ℕ) (x y z : Sent) (t u b c n : ℕ) (es fs : List Source) (int : Bool) (d ys : List ℕ)
    (p : First ours m g x t b n es int d) (q : Fetched ours (ours m x).image m' g y t b n ys) (v : Second ours m'' g z u c n fs ys) (w : SameMedia m m'' g) where
  did_first : Regenerated m g p.shelf x t p.found b n p.some_block es int d
  did_first = first_done g m m' x y t b n es int d ys p q

  pub second_done : Rebuilt m'' g v.shelf z u v.found c n p.some_block fs true ys
  second_done = rebuilt m'' g v.shelf z u v.found c n p.some_block fs true ys v.asks v.good

  abbrev passed : List ℕ
  passed = its g m m' x y t b n es int d ys p q

  -- ---- their XOR is that of all of them

  module _ (a : Came) (zs : List Source) (all : Permᴰ zs (together m'' g t b es fs)) where
    abbrev named : Source → List ℕ
    named = named_blocks m'' g a n

    abbrev rest : List (List ℕ)
    rest = cond int (d ∷ []) []

    -- the first string's own target, as a source
    own_named : named (source_at m'' g b t) ≡ blocks_at m g t b n
    own_named =
        ap (λ (f : Option ℕ). blocks_at m'' g (index f) b n) (drive_found m'' g v.shelf.table_fine t did_first.target_blocks.range.drive_in)
        ∙ sym (same_blocks m m'' g w t b n did_first.target_blocks.range)

    passed_is : passed ≡ named (source_at m'' g b t) ⊻ (xor_all (map named es) ⊻ xor_all rest)
    passed_is =
        ap₂ ◌⊻◌ (sym own_named)
        (ap (λ (xs : List (List ℕ)). xor_all (xs ++ rest)) (each_named m m'' g w x.came a (blocks t b n) es did_first.each) ∙ xor_all_append (map named es) rest)

    all_is : xor_all (operands m'' g a n zs int d) ≡ (named (source_at m'' g b t) ⊻ (xor_all (map named es) ⊻ xor_all (map named fs))) ⊻ xor_all rest
    unfolding xor_all
    all_is =
        xor_all_append (map named zs) rest
        ∙ ap (λ (k : List ℕ). k ⊻ xor_all rest)
        (xor_all_perm (Permᴰ.map named all)
        ∙ ap (λ (xs : List (List ℕ)). named (source_at m'' g b t) ⊻ xor_all xs) (map-append named es fs)
        ∙ ap (◌⊻◌ (named (source_at m'' g b t))) (xor_all_append (map named es) (map named fs)))

    second_is : xor_all (operands m'' g z.came n fs true ys) ≡ xor_all (map named fs) ⊻ passed
    second_is =
        ap₂ (λ (xs : List (List ℕ)) (k : List ℕ). xor_all (xs ++ k ∷ [])) (each_named m'' m'' g (same_itself m'' g) z.came a (blocks u c n) fs second_done.each) (fetched g m m' x y t b n es int d ys p q)
        ∙ xor_all_append (map named fs) (passed ∷ [])
        ∙ ap (◌⊻◌ (xor_all (map named fs))) (xor_all_one passed)

    pub sum_is : xor_all (operands m'' g a n zs int d) ≡ xor_all (operands m'' g z.came n fs true ys)
    sum_is =
        all_is
        ∙ in_turn_lem (named (source_at m'' g b t)) (xor_all (map named es)) (xor_all (map named fs)) (xor_all rest)
        ∙ ap (◌⊻◌ (xor_all (map named fs))) (sym passed_is)
        ∙ sym second_is

    -- ---- the one REBUILD

    abbrev Named : Source → Type 0
    Named = NamesOther m'' g a (blocks u c n)

    first_named : (es : List Source) → EachIs (NamesOther m g x.came (blocks t b n)) es → EachIs (Ready m'' g a u) es → EachIs Named es
    first_named [] h k = tt
    first_named (e ∷ es) h k = (names_on m m'' g w x.came a (blocks t b n) u c e h.0 k.0, first_named es h.1 k.1)

    own_is : Ready m'' g a u (source_at m'' g b t) → Named (source_at m'' g b t)
    own_is k =
        let r = did_first.target_blocks.range in
        let f = drive_found m'' g v.shelf.table_fine t r.drive_in in
        record { drive = t; found = f; range = r; present = (k t f).0; other = (k t f).1 }

    all_named : EachIs (Ready m'' g a u) (source_at m'' g b t ∷ es) → EachIs Named zs
    all_named k =
        perm_each Named all (
          own_is k.0,
          each_append Named es fs (first_named es did_first.each k.1)
              (each_implies (NamesOther m'' g z.came (blocks u c n)) Named (λ e o. names_anyhow m'' g z.came a (blocks u c n) e o) fs second_done.each),
        )

    pub in_one : (flags count : ℕ) (r : List ℕ) → WellSaid m'' g a u flags int count c n zs → EachIs (Ready m'' g a u) (source_at m'' g b t ∷ es)
        → ours m'' (rebuilding a flags count c zs d r) ≡ leaving (ours m'' z).image (rebuilding a flags count c zs d r)
    in_one flags count r said k =
        let one : 1 ≤ length zs = omega (arith, perm_length all) in
        whole m'' g v.shelf v.bytes a u flags int count c n zs d said second_done.target_blocks (all_named k) one did_first.data_long r _ sum_is
        ∙ ap (λ (i : List ℕ). leaving i (rebuilding a flags count c zs d r)) (sym second_done.image)

pub joins : Joins ours
joins g m m' m'' x y z t u b c n es fs zs int d ys a flags count r p q v w all said k = in_one g m m' m'' x y z t u b c n es fs int d ys p q v w a zs all flags count r said k

-- What two strings leave besides the target's blocks: every medium as the one REBUILD leaves it, and no result more than before.
use Rattle.std.specs.Prelude.{ℕ, ◌*◌, ◌≤◌, ◌<◌, Bool, true, cond, length, ◌≡◌, Option, Some}
use Rattle.std.proofs.Common.{arith, ⊎_elim, sym, ap, ap₂, ◌∙◌}
use mathlib.Core.List.{List, [], ◌∷◌, ◌++◌, Permᴰ}
use Rattle.octets.specs.Part.{part}
use Rattle.octets.specs.Put.{put}
use Rattle.octets.specs.PutPut.{part_put_below, put_comm}
use Rattle.octets.specs.Number.{be}
use Rattle.octets.specs.Octets.{Octets}
use Rattle.octets.specs.Xor.{◌⊻◌}
use Rattle.octets.specs.Operands.{xor_all}
use Rattle.folds.specs.Least.{index}
use Rattle.folds.specs.Cases.{same}
use Rattle.geometry.specs.declared.Geometry.{Geometry}
use Rattle.geometry.specs.Header.{data_at, place, blocks_at}
use Rattle.geometry.specs.Places.{place_after_media, slot_before_media, data_ends}
use Rattle.drives.specs.Table.{state_of, target_of}
use Rattle.slots.specs.Find.{empty_slot, newest_of}
use Rattle.slots.specs.Facts.{empty_inside}
use Rattle.slots.specs.Change.{released}
use Rattle.results.specs.First.{sans_first, sans_hit}
use Rattle.results.specs.Newest.{answers}
use Rattle.results.proofs.Newest.{answers_own}
use Rattle.results.specs.Results.{Result, results, with_result}
use Rattle.results.proofs.Passing.{passing, newest_new}
use Rattle.image.specs.Shelf.{Shelf, shelf_frame}
use Rattle.command.specs.declared.Op.TheVariants.{Rebuild}
use Rattle.command.specs.declared.Source.{Source}
use Rattle.demands_one_two.specs.Effects.{result_in}
use Rattle.callers.specs.After.{After}
use Rattle.callers.specs.Does.{blocks}
use Rattle.callers.specs.Operands.{operands}
use Rattle.divided.specs.InParts.{Sent, ours, IsGood, Asks, First, Fetched, Second, medium_of, SameMedia, together}
use Rattle.divided.specs.Between.{after_media}
use Rattle.divided.specs.Carried.{Regenerated, Rebuilt, rebuilt, xdread_image, xdread_after}
use Rattle.divided.specs.Media.{other_medium, each_named, medium_put, then_same}
use Rattle.divided.proofs.Strings.{first_done, fetched, second_done, sum_is}

-- a REBUILD that was answered GOOD leaves header, drive table and slots as they were
module _ (m : List ℕ) (g : Geometry) (h : Shelf m g) (x : Sent) (u : ℕ) (found : target_of m g x.came ≡ Some u) (b n : ℕ) (some : 1 ≤ n) (es : List Source) (int : Bool) (d : List ℕ)
    (asks : Asks Rebuild g.b x b n es int d) (good : IsGood ours m x) where
  pub before_media : part (ours m x).image 0 g.media ≡ part m 0 g.media
  before_media =
      ap (λ (s : List ℕ). part s 0 g.media) (rebuilt m g h x u found b n some es int d asks good).image
      ∙ part_put_below m (place g u b) _ 0 g.media (omega (arith, place_after_media g u b))

module _ (g : Geometry) (m m' m'' : List ℕ) (x y z : Sent) (t u b c n : ℕ) (es fs : List Source) (int : Bool) (d ys : List ℕ)
    (p : First ours m g x t b n es int d) (q : Fetched ours (ours m x).image m' g y t b n ys) (v : Second ours m'' g z u c n fs ys) (w : SameMedia m m'' g) where
  abbrev bytes : List ℕ
  bytes = xor_all (operands m'' g z.came n fs true ys)

  did : Rebuilt m'' g v.shelf z u v.found c n p.some_block fs true ys
  did = second_done g m m' m'' x y z t u b c n es fs int d ys p q v w

  -- ---- the one REBUILD o on any image with the same media

  module _ (k : List ℕ) (same_as : SameMedia k m'' g) (h : Shelf k g) (o : Sent) (found : target_of k g o.came ≡ Some u) (zs : List Source) (all : Permᴰ zs (together m'' g t b es fs))
      (asks : Asks Rebuild g.b o c n zs int d) (good : IsGood ours k o) where
    once : Rebuilt k g h o u found c n p.some_block zs int d
    once = rebuilt k g h o u found c n p.some_block zs int d asks good

    wrote : (ours k o).image ≡ put k (place g u c) bytes
    wrote =
        once.image
        ∙ ap (put k (place g u c))
        (ap (λ (xs : List (List ℕ)). xor_all (xs ++ cond int (d ∷ []) [])) (each_named k m'' g same_as o.came o.came (blocks u c n) zs once.each)
        ∙ sum_is g m m' m'' x y z t u b c n es fs int d ys p q v w o.came zs all)

    target_alike : medium_of (ours k o).image g u ≡ medium_of (ours m'' z).image g u
    target_alike =
        ap (λ (s : List ℕ). medium_of s g u) wrote
        ∙ medium_put k g u c bytes
        ∙ ap (λ (s : List ℕ). put s (c * g.l) bytes) (same_as.media u did.target_blocks.range.drive_in)
        ∙ sym (ap (λ (s : List ℕ). medium_of s g u) did.image ∙ medium_put m'' g u c bytes)

    pub media_alike : (i : ℕ) → i < g.d → medium_of (ours k o).image g i ≡ medium_of (ours m'' z).image g i
    media_alike i l =
        ⊎_elim
        (λ e. ap (medium_of (ours k o).image g) e ∙ target_alike ∙ ap (medium_of (ours m'' z).image g) (sym e))
        (λ ne. other_medium k _ g _ _ _ once.after i l ne ∙ same_as.media i l ∙ sym (other_medium m'' _ g _ _ _ did.after i l ne))
        (same i u)

-- ---- one after the other, with nothing between

module _ (g : Geometry) (m : List ℕ) (x y : Sent) (t b n : ℕ) (es : List Source) (int : Bool) (d ys : List ℕ) where
  -- what REGENERATE leaves, and then XDREAD
  abbrev pub kept : List ℕ
  kept = (ours m x).image

  abbrev pub read : List ℕ
  read = (ours kept y).image

  module _ (p : First ours m g x t b n es int d) (q : Fetched ours kept kept g y t b n ys) where
    abbrev its : Result
    its = result_in 2 (blocks t b n) (blocks_at m g t b n ⊻ xor_all (operands m g x.came n es int d))

    did_first : Regenerated m g p.shelf x t p.found b n p.some_block es int d
    did_first = first_done g m kept x y t b n es int d ys p q

    did_fetch : After kept read g (state_of kept g) [] (sans_first (answers t (be 4 y.cdb 2)) (results kept g))
    did_fetch = xdread_after kept g q.shelf y t q.found q.code q.good

    -- the media are as before
    pub media_as_before : SameMedia m read g
    media_as_before = then_same m kept read g (after_media m kept g (state_of m g) _ did_first.after) (after_media kept read g (state_of kept g) _ did_fetch)

    -- the result came and went, and all that is left is its bytes, in the data of the slot that it had
    pub read_is : Octets m → read ≡ put m (data_at g (index (empty_slot m g))) ys
    read_is bytes =
        let k = index (empty_slot m g) in
        let f = shelf_frame m g p.shelf in
        let i = newest_new m g f p.shelf.slots_fine k did_first.free its did_first.sound in
        xdread_image kept g q.shelf y t q.found q.code q.good
        ∙ ap₂ (λ (s : List ℕ) (j : ℕ). released s g (index (newest_of s g t j))) did_first.image q.block
        ∙ ap (λ (o : Option ℕ). released (with_result m g its) g (index o)) i
        ∙ passing m g f p.shelf.slots_fine k did_first.free its did_first.sound bytes
        ∙ ap (put m (data_at g k)) (sym (fetched g m kept x y t b n es int d ys p q))

    -- so the results by age are as before
    results_read : results read g ≡ results m g
    results_read =
        did_fetch.retained
        ∙ ap₂ (λ (i : ℕ) (rs : List Result). sans_first (answers t i) rs) q.block did_first.after.retained
        ∙ sans_hit (answers t b) its (results m g) (answers_own its)

    -- after the second string's REBUILD too, and so are the states
    module _ (z : Sent) (u c : ℕ) (fs : List Source) (v : Second ours read g z u c n fs ys) where
      did_second : Rebuilt read g v.shelf z u v.found c n p.some_block fs true ys
      did_second = rebuilt read g v.shelf z u v.found c n p.some_block fs true ys v.asks v.good

      pub results_as_before : results (ours read z).image g ≡ results m g
      results_as_before = did_second.after.retained ∙ results_read

      pub states_as_before : (i : ℕ) → i < g.d → state_of (ours read z).image g i ≡ state_of m g i
      states_as_before i l = did_second.after.state_is i l ∙ did_fetch.state_is i l ∙ did_first.after.state_is i l

      -- the one REBUILD o on the first image leaves the same bytes, but for those in that slot
      pub but_for_a_slot : Octets m → (o : Sent) → target_of m g o.came ≡ Some u → (zs : List Source) → Permᴰ zs (together read g t b es fs) → Asks Rebuild g.b o c n zs int d → IsGood ours m o
          → (ours read z).image ≡ put (ours m o).image (data_at g (index (empty_slot m g))) ys
      but_for_a_slot bytes o found zs all asks good =
          let i = index (empty_slot m g) in
          let sum = xor_all (operands read g z.came n fs true ys) in
          let f = shelf_frame m g p.shelf in
          let l = (empty_inside m g i did_first.free).0 in
          let long : length ys ≡ n * g.l = ap length (fetched g m kept x y t b n es int d ys p q) ∙ did_first.sound.exact in
          let one = wrote g m kept read x y z t u b c n es fs int d ys p q v media_as_before m media_as_before p.shelf o found zs all asks good in
          did_second.image
          ∙ ap (λ (s : List ℕ). put s (place g u c) sum) (read_is bytes)
          ∙ put_comm m (data_at g i) ys (place g u c) sum
          (omega (arith, place_after_media g u c, slot_before_media g i f.placed l, data_ends g i n did_first.sound.fits.len_high))
          ∙ ap (λ (s : List ℕ). put s (data_at g i) ys) (sym one)

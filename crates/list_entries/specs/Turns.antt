-- One turn of each search among the source entries.
use Rattle.std.specs.Prelude.{ℕ, suc, ◌+◌, ◌-◌, ◌≤◌, ◌<◌, List, Bool, true, false, ◌≡◌, Option, Some, None, Ok, Err}
use Rattle.std.proofs.Common.{arith, sym, ap, ◌∙◌}
use Rattle.std.proofs.Math.Path.{refl}
use borrow.Author.Tests.{lt-ltb, le-ltb}
use Rattle.geometry.specs.declared.Geometry.{Geometry}
use Rattle.drives.specs.declared.Came.{Came}
use Rattle.drives.specs.Table.{source_drive, failed}
use Rattle.command.specs.declared.Source.{Source}
use Rattle.command.specs.Command.{source_of}
use Rattle.meaning.specs.declared.Fault.TheVariants.{Absent, Failed, Beyond}
use Rattle.meaning.specs.Sources.{Vetted, is_at, drive_bad, entry_bad, or_next, first_bad}

-- ---- the first that is the target

-- the test of entry i, as it was made
pub own_is : (m : List ℕ) (g : Geometry) (a : Came) (s : List ℕ) (t i : ℕ) (y : Source) (f : Option ℕ) (b : Bool) → y ≡ source_of s i
    → f ≡ source_drive m g a y.address.0
    → b ≡ is_at t f
    → is_at t (source_drive m g a (source_of s i).address.0) ≡ b
own_is m g a s t i y f b ey ef eb = sym (eb ∙ ap (is_at t) ef ∙ ap (λ (x : Source). is_at t (source_drive m g a x.address.0)) ey)

-- ---- the first that fails

pub all_left : (n : ℕ) → n ≡ n - 0
all_left n = omega arith

left_suc : (n i : ℕ) → i < n → n - i ≡ suc (n - (i + 1))
left_suc n i h = omega arith

left_none : (n i : ℕ) → n ≤ i → n - i ≡ 0
left_none n i h = omega arith

module _ (m : List ℕ) (g : Geometry) (a : Came) (s : List ℕ) (count : ℕ) where
  pub bad_end : (i n : ℕ) → n ≤ i → first_bad m g a s count i (n - i) ≡ Ok tt
  unfolding first_bad
  bad_end i n h = rw (left_none n i h)

  -- the lookup of entry i gives f, which has the fault x
  pub bad_at : (i n : ℕ) (y : Source) (f : Option ℕ) (x : Vetted) → i < n → y ≡ source_of s i → source_drive m g a y.address.0 ≡ f
      → drive_bad m g count i y.block.0 f ≡ x
      → first_bad m g a s count i (n - i) ≡ or_next x (first_bad m g a s count (i + 1) (n - (i + 1)))
  unfolding first_bad entry_bad
  bad_at i n y f x h e d q = rw (left_suc n i h) (simp (← e, d, q))

-- the fault of entry i, where its lookup gives drive k, or nothing
module _ (m : List ℕ) (g : Geometry) (count i b : ℕ) where
  pub bad_absent : drive_bad m g count i b None ≡ Err (Absent i)
  unfolding drive_bad
  bad_absent = refl

  module _ (k : ℕ) where
    pub bad_failed : failed m g k ≡ true → drive_bad m g count i b (Some k) ≡ Err (Failed i k)
    unfolding drive_bad
    bad_failed h = rw h

    pub bad_beyond : failed m g k ≡ false → g.b < b + count → drive_bad m g count i b (Some k) ≡ Err (Beyond i)
    unfolding drive_bad
    bad_beyond h l = rw (h, lt-ltb g.b (b + count) l)

    pub bad_clear : failed m g k ≡ false → b + count ≤ g.b → drive_bad m g count i b (Some k) ≡ Ok tt
    unfolding drive_bad
    bad_clear h l = rw (h, le-ltb g.b (b + count) l)

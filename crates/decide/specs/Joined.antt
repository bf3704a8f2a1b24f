-- The stages join to the list of checks.
use Rattle.std.specs.Prelude.{ℕ, true, false, List, ◌≡◌, eqb, length, get_or}
use Rattle.std.proofs.Math.Path.{refl, sym, ap}
use Rattle.std.proofs.Common.{◌∙◌}
use Rattle.std.proofs.Math.Logic.{⊎_elim}
use Rattle.std.specs.Int.Bits.{bit_and}
use borrow.Author.Tests.{eq-eqb, ne_eqb}
use Rattle.folds.specs.Cases.{either}
use Rattle.geometry.specs.declared.Geometry.{Geometry}
use Rattle.drives.specs.declared.Came.{Came}
use Rattle.drives.specs.Table.{failed}
use Rattle.sense.specs.declared.Answer.TheVariants.{TargetFailed, BadField}
use Rattle.command.specs.declared.Op.{Op}
use Rattle.command.specs.declared.Op.TheVariants.{XdWrite, XpWrite, XdRead, Rebuild, Regenerate, Read, Write, XdWriteTen, XdWriteRead, Unknown}
use Rattle.command.specs.declared.Command.{Command}
use Rattle.command.specs.Command.{op_of, size_of, zero_bits, command_of, sec_of, own_of, resolved_of}
use Rattle.command.specs.Lossless.{command_kept}
use Rattle.meaning.specs.declared.Seen.TheVariants.{Cdb, Drive}
use Rattle.meaning.specs.Decision.{stop}
use Rattle.meaning.specs.Checks.{decide_of}
use Rattle.decide_one.specs.Stages.{roomy_of, plain_stage, limited_stage, read_of, write_of, xpwrite_of, xdread_of, matched_of, answered_of, retained_of, xdwrite_ten_of, xdwriteread_of}
use Rattle.decide_two.specs.Stages.{check_10_of, check10, from_check_9, limited_of, xdwrite_of}
use Rattle.decide_list.specs.Stages.{fault_or, rebuilt_of, gathered_of, regenerated_of, placed_of, length_of, owned_of, headed_of, list_sized_of, counted_of, fields_of, rebuild_of, regenerate_of}
use Rattle.decide.specs.Called.{Addressed, addressed_found}
use Rattle.decide.specs.Stages.{each_of, flagged_of, checked_of, from_check_2, from_call_3}

-- ---- each command's stages are its list of checks

module _ (m : List ℕ) (g : Geometry) (t : ℕ) (k : Command) (s : List ℕ) (r : ℕ) where
  as_xdwrite : flagged_of XdWrite m g t k s r ≡ checked_of XdWrite m g t k s r
  unfolding flagged_of checked_of xdwrite_of limited_of from_check_9 retained_of check10 check_10_of
  as_xdwrite = ⊎_elim (λ e. rw e) (λ e. rw e) (either (eqb (sec_of k) 3))

  as_rebuild : flagged_of Rebuild m g t k s r ≡ checked_of Rebuild m g t k s r
  unfolding flagged_of checked_of rebuild_of fields_of counted_of list_sized_of headed_of owned_of length_of placed_of rebuilt_of fault_or resolved_of own_of
  as_rebuild = refl

  as_regenerate : flagged_of Regenerate m g t k s r ≡ checked_of Regenerate m g t k s r
  unfolding flagged_of checked_of regenerate_of fields_of counted_of list_sized_of headed_of owned_of length_of placed_of regenerated_of gathered_of fault_or resolved_of own_of
  as_regenerate = refl

  pub joined : (o : Op) → (size_of o ≡ 0 → ⊥) → flagged_of o m g t k s r ≡ checked_of o m g t k s r
  unfolding flagged_of checked_of read_of write_of xpwrite_of limited_stage plain_stage roomy_of xdread_of matched_of answered_of xdwrite_ten_of xdwriteread_of retained_of
  joined XdWrite h = as_xdwrite
  joined XpWrite h = refl
  joined XdRead h = refl
  joined Rebuild h = as_rebuild
  joined Regenerate h = as_regenerate
  joined Read h = refl
  joined Write h = refl
  joined XdWriteTen h = refl
  joined XdWriteRead h = refl
  joined Unknown h = absurd (h refl)

-- ---- where the tests of a stage have passed

module _ (m : List ℕ) (g : Geometry) (t : ℕ) (k : Command) (s : List ℕ) (r : ℕ) (o : Op) where
  module _ (bits : ℕ) (e : bits ≡ zero_bits o) where
    pub flags_bad : (bit_and k.flags bits ≡ 0 → ⊥) → stop 4 (Cdb 1) BadField ≡ flagged_of o m g t k s r
    unfolding flagged_of
    flags_bad h = rw (ne_eqb (bit_and k.flags (zero_bits o)) 0 (λ q. h (ap (bit_and k.flags) e ∙ q)))

    -- the code is told
    pub flags_on : bit_and k.flags bits ≡ 0 → (o' : Op) → o ≡ o' → each_of o' m g t k s r ≡ flagged_of o m g t k s r
    unfolding flagged_of
    flags_on h o' q = rw (eq-eqb (bit_and k.flags (zero_bits o)) 0 (ap (bit_and k.flags) (sym e) ∙ h)) (ap (λ (x : Op). each_of x m g t k s r) (sym q))

module _ (m : List ℕ) (g : Geometry) (a : Came) (t : ℕ) (c s : List ℕ) (r : ℕ) where
  pub check_2_failed : (o : Op) → (size_of o ≡ 0 → ⊥) → length c ≡ size_of o → failed m g t ≡ true
      → stop 3 (Drive t) TargetFailed ≡ from_check_2 o m g a t c s r
  unfolding from_check_2
  check_2_failed o z l f = rw (ne_eqb (size_of o) 0 z, eq-eqb (length c) (size_of o) l, f)

  pub check_2_on : (o : Op) (k : Command) → k ≡ command_of o a c → (size_of o ≡ 0 → ⊥) → length c ≡ size_of o → failed m g t ≡ false
      → flagged_of k.op m g t k s r ≡ from_check_2 o m g a t c s r
  unfolding from_check_2
  check_2_on o k e z l f =
      let p : k.op ≡ o = ap (λ (x : Command). x.op) e ∙ (command_kept o a c).0 in
      ap (λ (x : Op). flagged_of x m g t k s r) p
      ∙ joined m g t k s r o z
      ∙ ap (λ (x : Command). checked_of o m g t x s r) e
      ∙ sym (rw (ne_eqb (size_of o) 0 z, eq-eqb (length c) (size_of o) l, f))

  pub call_3_on : (o : Op) (b : ℕ) → b ≡ get_or c 0 0 → o ≡ op_of b → (length c ≡ 0 → ⊥) → from_check_2 o m g a t c s r ≡ from_call_3 m g a t c s r
  unfolding from_call_3
  call_3_on o b e h z = rw (h, e, ne_eqb (length c) 0 z)

  pub decide_on : Addressed m a g t → from_call_3 m g a t c s r ≡ decide_of m a c s r
  unfolding decide_of from_call_3 from_check_2 checked_of
  decide_on x = ap (λ (y : Geometry). from_call_3 m y a t c s r) x.header ∙ rw (x.valid, addressed_found m a g t x)

-- A REBUILD or REGENERATE that was written from its sources asks for what it was written from.
use Rattle.std.specs.Prelude.{ℕ, ◌+◌, ◌*◌, ◌/◌, ◌%◌, ◌≤◌, ◌<◌, Bool, ◌≡◌, refl, List, eqb, get_or}
use Rattle.std.proofs.Common.{arith, inl, ◌∙◌}
use Rattle.std.proofs.Math.Path.{ap}
use Rattle.std.proofs.Math.ListN.{length}
use Rattle.octets.specs.Number.{be}
use Rattle.folds.specs.Each.{EachIs}
use Rattle.drives.specs.declared.Came.{Came}
use Rattle.command.specs.declared.Command.{Command}
use Rattle.command.specs.declared.Op.{Op}
use Rattle.command.specs.declared.Op.TheVariants.{Rebuild, Regenerate}
use Rattle.command.specs.declared.Source.{Source}
use Rattle.command.specs.Command.{op_of, listed_of, resolved_count}
use Rattle.callers.specs.Bytes.{listed_saying, rebuild_cdb, regenerate_cdb, rebuild_says, regenerate_says}
use Rattle.callers.specs.Lists.{list_of, Fitting, list_headed, list_entries, list_behind}
use Rattle.callers.specs.Listed.{ListByte, HowLong, resolves}
use Rattle.divided.specs.InParts.{Sent, sent, Asks, rebuilding}

abbrev pub regenerating : Came → ℕ → ℕ → ℕ → List Source → List ℕ → List ℕ → Sent
regenerating a flags n b es d r = sent a (regenerate_cdb flags n (length es)) (list_of b es d) r

-- of one block at least, with at most 255 sources, on drives of B blocks
module _ (B b n : ℕ) (es : List Source) (int : Bool) (d : List ℕ) (a : Came) (flags : ℕ) (r : List ℕ) (some : 1 ≤ n) (inside : b + n ≤ B) (most : B ≤ 65536)
    (fit : EachIs Fitting es) (few : length es < 256) (z : ListByte flags int) where
  asks_by : (o : Op) (c : List ℕ) (count : ℕ) → HowLong B b n count → op_of (get_or c 0 0) ≡ o → get_or c 1 0 ≡ flags → be 4 c 2 ≡ count → be 2 c 7 ≡ 8 + 8 * length es
      → Asks o B (sent a c (list_of b es d) r) b n es int d
  asks_by o c count how code byte long list =
      record {
        code = code;
        flag = ap (λ (k : ℕ). eqb (k / 4 % 2) 1) byte ∙ z.int_is;
        long = ap (λ (k : ℕ). resolved_count k b B) long ∙ (resolves B b n count some inside most how).is;
        listed = list;
        own = (list_headed b es d (omega arith)).own;
        sources = list_entries b es d fit;
        rest = list_behind b es d;
      }

  pub rebuild_asks : (count : ℕ) → HowLong B b n count → Asks Rebuild B (rebuilding a flags count b es d r) b n es int d
  unfolding listed_of
  rebuild_asks count how =
      let w = rebuild_says a flags count (8 + 8 * length es) (resolves B b n count some inside most how).small (omega arith) in
      let by : (f : Command → ℕ) → f (listed_of Rebuild a (rebuild_cdb flags count (length es))) ≡ f (listed_saying 0xC3 Rebuild a flags count (8 + 8 * length es)) = (λ f. ap f w.fields) in
      asks_by Rebuild (rebuild_cdb flags count (length es)) count how w.code (by (λ k. k.flags)) (by (λ k. k.count)) (by (λ k. k.list))

  pub regenerate_asks : Asks Regenerate B (regenerating a flags n b es d r) b n es int d
  unfolding listed_of
  regenerate_asks =
      let w = regenerate_says a flags n (8 + 8 * length es) (omega arith) (omega arith) in
      let by : (f : Command → ℕ) → f (listed_of Regenerate a (regenerate_cdb flags n (length es))) ≡ f (listed_saying 0xC4 Regenerate a flags n (8 + 8 * length es)) = (λ f. ap f w.fields) in
      asks_by Regenerate (regenerate_cdb flags n (length es)) n (inl refl) w.code (by (λ k. k.flags)) (by (λ k. k.count)) (by (λ k. k.list))

-- What one call left the next one finds: blocks written are read, and a result retained is handed out.
use Rattle.std.specs.Prelude.{ℕ, ◌<◌, false, List, [], ◌≡◌, refl, length}
use Rattle.std.proofs.Common.{ap, subst, ◌∙◌}
use Rattle.octets.specs.Xor.{◌⊻◌}
use Rattle.geometry.specs.declared.Geometry.{Geometry}
use Rattle.geometry.specs.Header.{blocks_at}
use Rattle.drives.specs.declared.Came.{Came}
use Rattle.results.specs.First.{first_of, sans_first, first_hit, sans_hit}
use Rattle.results.specs.Newest.{answers}
use Rattle.results.proofs.Newest.{answers_own}
use Rattle.results.specs.Results.{Result, results}
use Rattle.command.specs.declared.Op.TheVariants.{XdRead}
use Rattle.command.specs.Command.{op_of}
use Rattle.meaning.specs.Step.{step_image}
use Rattle.meaning.specs.Allowed.{Blocks, Filled, Roomy, Limited}
use Rattle.callers.specs.Bytes.{read_cdb, write_cdb, xdread_cdb, xdwrite_cdb}
use Rattle.callers.specs.Does.{blocks, result_in, Does, Target, next}
use Rattle.callers.specs.Reads.{read_does, xdread_does}
use Rattle.callers.specs.Writes.{write_does}
use Rattle.callers.specs.Xdwrites.{XdwriteByte, retained_xors}

module _ (m : List ℕ) (g : Geometry) (a : Came) (t : ℕ) (h : Target m g a t) (b n : ℕ) (s r : List ℕ) (w : Blocks m g (blocks t b n)) (e : Filled g (blocks t b n) s) where
  -- WRITE and then READ
  module _ (small : n < 65536) where
    abbrev wrote : List ℕ
    wrote = step_image m a (write_cdb 0 b n) s r

    pub written_is_read : (room : List ℕ) → Roomy g (blocks t b n) (length room) → Does wrote g a (read_cdb 0 b n) [] room s [] (results m g)
    written_is_read room fits =
        let d = (write_does m g a t h b n s r 0 refl w e small).after in
        let h' = next m wrote g _ _ d a t h in
        subst (λ (ys : List ℕ). Does wrote g a (read_cdb 0 b n) [] room ys [] (results m g)) d.wrote.0
        (subst (λ (rs : List Result). Does wrote g a (read_cdb 0 b n) [] room (blocks_at wrote g t b n) [] rs) d.retained
        (read_does wrote g a t h' b n room fits 0 refl small (record { range = w.range; present = h'.present; some = w.some })))

  -- XDWRITE with Sec Ctl 11 and then XDREAD, by either code: the old blocks XOR the data, and what was retained before is left
  module _ (most : Limited g (blocks t b n)) (more : length (results m g) < g.s) (flags : ℕ) (z : XdwriteByte flags false false 3) (a' c : ℕ) (la : a' < 16777216) (lc : c < 4294967296) where
    abbrev kept : List ℕ
    kept = step_image m a (xdwrite_cdb flags b n a' c) s r

    abbrev its : Result
    its = result_in 1 (blocks t b n) (s ⊻ blocks_at m g t b n)

    pub retained_is_handed : (code : ℕ) → op_of code ≡ XdRead → (room : List ℕ) → Roomy g (blocks t b n) (length room)
        → Does kept g a (xdread_cdb code b n) [] room (s ⊻ blocks_at m g t b n) [] (results m g)
    retained_is_handed code said room fits =
        let d = (retained_xors m g a t h b n s r w e most more flags z a' c la lc).after in
        let h' = next m kept g _ _ d a t h in
        subst (Does kept g a (xdread_cdb code b n) [] room (s ⊻ blocks_at m g t b n) []) (ap (sans_first (answers t b)) d.retained ∙ sans_hit (answers t b) its (results m g) (answers_own its))
        (xdread_does kept g a t h' b its (ap (first_of (answers t b)) d.retained ∙ first_hit (answers t b) its (results m g) (answers_own its)) room fits code said)

-- From the act at hand to the case of it that the code is in: no proof needs it, and it holds of what the code does.
use Rattle.std.specs.Prelude.{ℕ, ◌≡◌, refl, List, [], length}
use Rattle.std.proofs.Common.{sym}
use Rattle.octets.specs.Put.{put, put_nil}
use Rattle.geometry.specs.declared.Geometry.{Geometry}
use Rattle.meaning.specs.declared.Act.{Act}
use Rattle.meaning.specs.Acts.{leaves, hands}
use Rattle.meaning.specs.Allowed.{Allowed}

module _ (s : List ℕ) (g : Geometry) (sent : List ℕ) (act : Act) (a : Act) (e : act ≡ a) where
  pub allowed_as : (room : ℕ) → Allowed s g sent room act → Allowed s g sent room a
  allowed_as room h = rw e at h

  -- what was done and handed over
  pub done_as : (room t u : List ℕ) (n : ℕ) → t ≡ leaves s g sent a → u ≡ put room 0 (hands s g sent a) → n ≡ length (hands s g sent a)
      → (t ≡ leaves s g sent act) × (u ≡ put room 0 (hands s g sent act)) × (n ≡ length (hands s g sent act))
  done_as room t u n te ue ne = rw e (te, ue, ne)

  -- nothing was handed over
  pub done_quietly : (room t : List ℕ) → t ≡ leaves s g sent a → hands s g sent a ≡ []
      → (t ≡ leaves s g sent act) × (room ≡ put room 0 (hands s g sent act)) × (0 ≡ length (hands s g sent act))
  done_quietly room t te none = rw (e, none) (te, sym (put_nil room 0), refl)

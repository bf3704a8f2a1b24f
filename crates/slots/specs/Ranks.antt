-- Used slots and their ranks, where the slots are right: each rank of 1 to k is some slot's.
use Rattle.std.specs.Prelude.{ℕ, ◌+◌, ◌-◌, ◌≤◌, ◌<◌, true, false, not, ◌≡◌}
use Rattle.std.proofs.Common.{arith, ap, ⊎_elim, eqb-true, eq-eqb, ne_eqb}
use Rattle.folds.specs.Cases.{either}
use Rattle.folds.specs.Every.{each, every_of}
use Rattle.folds.specs.Onto.{onto}
use Rattle.geometry.specs.declared.Geometry.{Geometry}
use Rattle.slots.specs.declared.Slot.{Slot}
use Rattle.slots.specs.Record.{is_used}
use Rattle.slots.specs.RecordLaws.{ranked}
use Rattle.slots.specs.Slots.{used_in, has_rank}
use Rattle.slots.specs.Facts.{Used, Right}

pub has_rank_lem : (n : ℕ) (r : Slot) → is_used r ≡ true → r.rank ≡ n → has_rank n r ≡ true
has_rank_lem n r u e = every_of _ (u, (eq-eqb _ _ e, tt))

pub rank_has : (n : ℕ) (r : Slot) → has_rank n r ≡ true → (is_used r ≡ true) × (r.rank ≡ n)
rank_has n r t = let h = each _ t in (h.0, eqb-true _ _ h.1.0)

pub not_rank : (n : ℕ) (r : Slot) → (is_used r ≡ true → r.rank ≡ n → ⊥) → has_rank n r ≡ false
not_rank n r never = ⊎_elim (λ t. let b = rank_has n r t in absurd (never b.0 b.1)) (λ e. e) (either (has_rank n r))

-- a kind that is not 0
pub used_is : (g : Geometry) (k : ℕ) (r : Slot) → Used g k r → is_used r ≡ true
used_is g k r h = ap not (ne_eqb r.kind 0 (λ e. omega (arith, h.fits.kind_low)))

-- a used slot at another rank, among another number of results
pub used_ranked : (g : Geometry) (k k' n : ℕ) (r : Slot) → Used g k r → 1 ≤ n → n ≤ k' → Used g k' (ranked n r)
used_ranked g k k' n r w a b =
    record {
      fits = w.fits;
      last_zero = w.last_zero;
      rank_low = a;
      rank_high = b;
    }

-- ---- all slots together

-- each rank of 1 to k is some used slot's
pub ranked_some : (g : Geometry) (f : ℕ → Slot) → Right g f → (n : ℕ) → n < used_in g f → (i : ℕ) × ((i < g.s) × (is_used (f i) ≡ true) × ((f i).rank ≡ n + 1))
ranked_some g f h n l =
    let w =
    onto (λ i. is_used (f i)) (λ i. (f i).rank - 1) g.s (λ i j li lj ui uj e. let a = h.used i li ui in let b = h.used j lj uj in h.apart i j li lj ui uj (omega arith))
    (λ i li u. let a = h.used i li u in omega arith) n l in
    let a = h.used w.0 w.1.0 w.1.1 in
    (w.0, (w.1.0, w.1.1, omega (arith, w.1.2)))

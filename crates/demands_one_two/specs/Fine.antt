-- What a decision to go grants, each act needs no more: its effect is fine. This is the one law that goes by act.
use Rattle.std.specs.Prelude.{◌≡◌, refl, Bool, true, false, not, List, [], ℕ, ◌*◌, ◌≤◌, ◌<◌, length}
use Rattle.std.proofs.Common.{sym, ap, ◌∙◌, mul-le-mul, arith, lit<}
use Rattle.octets.specs.Part.{part, length_part}
use Rattle.octets.specs.Xor.{◌⊻◌, length_xor_le}
use Rattle.folds.specs.Each.{EachIs}
use Rattle.geometry.specs.declared.Geometry.{Geometry}
use Rattle.geometry.specs.Header.{data_at}
use Rattle.geometry.specs.Frame.{Framed}
use Rattle.geometry.specs.Places.{data_in}
use Rattle.results.specs.Results.{Sound}
use Rattle.meaning.specs.declared.Span.{Span}
use Rattle.meaning.specs.declared.Act.{Act}
use Rattle.meaning.specs.declared.Act.TheVariants.{Read, Write, XpWrite, XdRead, Couple, Retain, Rebuild, Regenerate, XdWriteRead}
use Rattle.meaning.specs.Acts.{blocks_of, Over, over, Change, effect, result_of, passed_on, data_over, effect_of}
use Rattle.meaning.specs.Allowed.{Blocks, Filled, Roomy, Limited, Allowed}
use Rattle.meaning.specs.Lengths.{length_laid, length_blocks, length_result}
use Rattle.meaning.proofs.Lengths.{length_gathered}
use Rattle.demands_one_two.specs.Effects.{result_in, Covers, Possible, Distinct, Fine}

module _ (m : List ℕ) (g : Geometry) (f : Framed m g) (s : List ℕ) (room : ℕ) where
  -- ---- blocks written

  covering : (x : Span) (ys : List ℕ) → Blocks m g x → length ys ≡ x.count * g.l → Covers g (over x ys)
  covering x ys b e = record { range = b.range; exact = e }

  data_covers : (x : Span) (ndisc : Bool) → Blocks m g x → Filled g x s → EachIs (Covers g) (data_over x ndisc s) × Distinct (data_over x ndisc s)
  data_covers x true b e = (tt, tt)
  data_covers x false b e = ((covering x s b e, tt), (tt, tt))

  length_passed : (x y : Span) (mirror : Bool) → Blocks m g x → Blocks m g y → x.count ≡ y.count → Filled g x s → length (passed_on m g x y mirror s) ≡ y.count * g.l
  length_passed x y mirror bx by e l =
      let q : length (result_of m g x mirror s) ≡ y.count * g.l = length_result m g f x bx mirror s l ∙ ap (λ (k : ℕ). k * g.l) e in
      length_laid (not mirror) (blocks_of m g y) (result_of m g x mirror s) (length_blocks m g f y by ∙ sym q) ∙ q

  -- ---- a result that comes

  sound_in : (kind : ℕ) (x : Span) (bytes : List ℕ) → 1 ≤ kind → kind ≤ 2 → Blocks m g x → Limited g x → length bytes ≡ x.count * g.l → Sound g (result_in kind x bytes)
  sound_in kind x bytes lo hi b most e =
      record { fits = record { kind_low = lo; kind_high = hi; range = b.range; len_low = b.some; len_high = most }; exact = e }

  -- the target's own blocks XOR as many bytes
  length_own : (x : Span) (ys : List ℕ) → Blocks m g x → length ys ≡ x.count * g.l → length (blocks_of m g x ⊻ ys) ≡ x.count * g.l
  length_own x ys b e = let p = length_blocks m g f x b in length_xor_le (blocks_of m g x) ys (omega arith) ∙ p

  -- ---- bytes handed over

  abbrev Handed : List ℕ → Type 0
  Handed ys = (length ys ≤ room) × (length ys < 4294967296)

  -- n blocks, of a drive or of a slot
  handing : (x : Span) (ys : List ℕ) → x.count ≤ 65536 → length ys ≡ x.count * g.l → Roomy g x room → Handed ys
  handing x ys l e r = let p : x.count * g.l ≤ 65536 * 4096 = mul-le-mul l f.placed.ranges.l_high in (omega arith, omega arith)

  in_drive : (x : Span) → Blocks m g x → x.count ≤ 65536
  in_drive x b = omega (arith, b.range.range_in, f.placed.ranges.b_high)

  -- nothing is
  none : Handed []
  none = (omega arith, lit< tt)

  -- at most one drive is written, or two that differ
  made : (hands : List ℕ) (ws : List Over) (c : Change) → Handed hands → EachIs (Covers g) ws → Distinct ws → Possible m g ws c → Fine m g room (effect hands ws c)
  made hands ws c h w d p = record { covers = w; distinct = d; possible = p; fits = h.0; small = h.1 }

  pub fine : (act : Act) → Allowed m g s room act → Fine m g room (effect_of m g s act)
  fine (Read x) (b, r) = made _ _ _ (handing x (blocks_of m g x) (in_drive x b) (length_blocks m g f x b) r) tt tt tt
  fine (Write x) (b, e) = made _ _ _ none (covering x s b e, tt) (tt, tt) tt
  fine (XpWrite x) (b, e) = made _ _ _ none (covering x _ b (length_own x s b e), tt) (tt, tt) tt
  fine (XdRead x i) (h, r) =
      made _ _ _
      (handing x (part m (data_at g i) (x.count * g.l)) (omega (arith, h.limited, f.placed.ranges.m_high)) (length_part m (data_at g i) (x.count * g.l) (data_in m g i x.count f h.slot_in h.limited)) r)
      tt
      tt
      (h.answers, refl)
  fine (Couple x y mirror) (bx, by, e, ne, l) = made _ _ _ none (covering y _ by (length_passed x y mirror bx by e l), (covering x s bx l, tt)) ((λ q. ne (sym q), tt), (tt, tt)) tt
  fine (Retain x i mirror ndisc) (b, e, most, v) =
      made _ _ _ none (data_covers x ndisc b e).0 (data_covers x ndisc b e).1 (v.takes, sound_in 1 x _ (omega arith) (omega arith) b most (length_result m g f x b mirror s e))
  fine (Rebuild x j) (b, w) = made _ _ _ none (covering x _ b (length_gathered m g x j s f w), tt) (tt, tt) tt
  fine (Regenerate x j i) (b, w, most, v) =
      made _ _ _ none tt tt (v.takes, sound_in 2 x _ (omega arith) (omega arith) b most (length_own x _ b (length_gathered m g x j s f w)))
  fine (XdWriteRead x disable) (b, e, r) = made _ _ _ (handing x (s ⊻ blocks_of m g x) (in_drive x b) (length_result m g f x b false s e) r) (data_covers x disable b e).0 (data_covers x disable b e).1 tt

-- `geometry::Frame::of` meets its contract.
use Rattle.std.proofs.Common.{◌≡◌, ◌≤◌, true, List, ℕ, length, refl, sym, ap, subst, ◌∙◌, le-leb}
use borrow.Author.Tests.{lt-leb, eq-eqb, ne_eqb}
use Rattle.folds.specs.Every.{fails, every_of}
use Rattle.geometry.specs.declared.Geometry.{Geometry}
use Rattle.geometry.specs.Header.{geometry_of, framed_ok, ranges_ok, offsets_ok, end_of}
use Rattle.geometry.specs.Frame.{in_range_lem, placed, Framed, framed}
use Rattle.geometry.proofs.Frame.of.Goals as goal

-- all four tests hold
passed : (s : List ℕ) (g : Geometry) → g ≡ geometry_of s → 32 ≤ length s → ranges_ok g ≡ true → offsets_ok g ≡ true → length s ≡ end_of g → framed_ok s ≡ true
unfolding framed_ok
passed s g e n r o l =
    every_of _ (le-leb 32 _ n, (ap ranges_ok (sym e) ∙ r, (ap offsets_ok (sym e) ∙ o, (eq-eqb _ _ (l ∙ ap end_of e), tt))))

pub returns-then-image-lt32 : goal.returns-then-image-lt32
unfolding framed_ok
returns-then-image-lt32 c = fails _ 0 (lt-leb 32 _ c.if-image-lt32.true)

pub returns-then-not-ranges_ok : goal.returns-then-not-ranges_ok
unfolding framed_ok
returns-then-not-ranges_ok c = fails _ 1 (ap ranges_ok (sym c.read-g.ensures) ∙ sym c.ranges_ok.ensures ∙ c.if-not-ranges_ok.true)

pub offsets_ok-requires : goal.offsets_ok-requires
offsets_ok-requires c = in_range_lem _ (sym c.ranges_ok.ensures ∙ c.if-not-ranges_ok.false)

pub returns-then-not-offsets_ok : goal.returns-then-not-offsets_ok
unfolding framed_ok
returns-then-not-offsets_ok c = fails _ 2 (ap offsets_ok (sym c.read-g.ensures) ∙ sym c.offsets_ok.ensures ∙ c.if-not-offsets_ok.true)

pub end-requires : goal.end-requires
end-requires c =
    placed _ (sym c.ranges_ok.ensures ∙ c.if-not-ranges_ok.false) (sym c.offsets_ok.ensures ∙ c.if-not-offsets_ok.false)

pub returns-then-image-end : goal.returns-then-image-end
unfolding framed_ok
returns-then-image-end c =
    fails _ 3 (ne_eqb _ _ (λ q. c.if-image-end.true (q ∙ ap end_of (sym c.read-g.ensures) ∙ sym c.end.ensures)))

pub invariant_of-result : goal.invariant_of-result
invariant_of-result c =
    let ok =
    passed _ _ c.read-g.ensures c.if-image-lt32.false (sym c.ranges_ok.ensures ∙ c.if-not-ranges_ok.false)
    (sym c.offsets_ok.ensures ∙ c.if-not-offsets_ok.false) (c.if-image-end.false ∙ c.end.ensures) in
    record { framed = subst (Framed _) (sym c.read-g.ensures) (framed _ ok) }

pub returns : goal.returns
returns c =
    let ok =
    passed _ _ c.read-g.ensures c.if-image-lt32.false (sym c.ranges_ok.ensures ∙ c.if-not-ranges_ok.false)
    (sym c.offsets_ok.ensures ∙ c.if-not-offsets_ok.false) (c.if-image-end.false ∙ c.end.ensures) in
    (ok, refl, c.read-g.ensures)

-- `passes::xor_parts` meets its contract.
use Rattle.std.proofs.Common.{◌≡◌, ℕ, List, [], ◌+◌, length, get_or, drop, sym, ap, ◌∙◌, arith, length-drop, get_or-drop, drop-drop, drop_of_length-le}
use Rattle.std.proofs.lemmas.List.{take_rest}
use Rattle.octets.specs.Part.{part}
use Rattle.octets.specs.Xor.{◌⊻◌, xor_nil}
use Rattle.octets.specs.Operands.{xor_all}
use Rattle.passes.specs.Parts.{parts_from, parts_at}
use Rattle.passes.specs.Steps.{parts_cut, parts_turn, one_part, four_parts, within_drop}
use Rattle.passes.proofs.xor_parts.Goals as goal

pub loop-left-init : goal.loop-left-init
loop-left-init c =
    let a = c.args in
    let first = c.xor_first-n in
    rw take_rest (
      ap (λ (r : List ℕ). r ⊻ xor_all (parts_at a.xs.now (drop first.result a.places.now) a.o (length a.acc.now))) first.ensures.0
          ∙ parts_cut a.xs.now a.places.now a.o (length a.acc.now) first.result first.ensures.2,
      within_drop a.xs.now a.places.now _ c.requires.0 first.result,
    )

pub loop-left-preserved : goal.loop-left-preserved
loop-left-preserved c =
    let a = c.args in
    let ys = c.loop-left.left.now in
    let inv = c.loop-left.invariant in
    let long : length c.loop-left.acc ≡ length a.acc.now = omega arith in
    rw take_rest
    (parts_turn a.xs.now ys a.o (length a.acc.now) 4 _ _ _ _ c.in-len4-up.len_at_least inv.0 long (four_parts a.xs.now ys a.o _ 0 _ _ c.xor_four_from.ensures), within_drop a.xs.now ys _ inv.1 4)

pub loop-p-preserved : goal.loop-p-preserved
loop-p-preserved c =
    let a = c.args in
    let ys = c.loop-left.left.now in
    let i = c.loop-p.p-index in
    let acc = c.loop-p.acc in
    let l = length acc in
    let one : get_or (drop i ys) 0 0 ≡ get_or ys i 0 = get_or-drop i ys 0 0 ∙ ap (λ (j : ℕ). get_or ys j 0) (omega arith) in
    let took = c.xor_from.ensures ∙ ap (λ (v : ℕ). acc ⊻ part a.xs.now (v + a.o) l) (sym one) ∙ ap (◌⊻◌ acc) (one_part a.xs.now (drop i ys) a.o l 0) in
    rw (← drop-drop 1 i ys) (parts_turn a.xs.now (drop i ys) a.o (length a.acc.now) 1 l _ _ _ (omega (arith, length-drop i ys)) c.loop-p.invariant (omega arith) took)

pub returns : goal.returns
unfolding parts_from xor_all
returns c =
    let a = c.args in
    let ys = c.loop-left.left.now in
    let none : drop c.loop-p.p-index ys ≡ [] = drop_of_length-le ys (omega arith) in
    sym (xor_nil c.loop-p.acc) ∙ ap (λ (zs : List ℕ). c.loop-p.acc ⊻ xor_all (parts_at a.xs.now zs a.o (length a.acc.now))) (sym none) ∙ c.loop-p.invariant

-- `hex_words::digits::unhex` meets its contract.
use Rattle.std.proofs.Common.{◌≡◌, ◌∙◌, ap, length, take, arith, take_all}
use Rattle.folds.specs.All.{all_at}
use Rattle.text.specs.Room.{wrote_none}
use Rattle.hex_words.specs.Digits.{unhex, digit_in}
use Rattle.hex_words.specs.Unhex.{length_unhex, pair_digits, unhex_more, read}
use Rattle.hex_words.proofs.digits.unhex.Goals as goal

pub loop-i-init : goal.loop-i-init
loop-i-init c = wrote_none _ _

pub digit-high-requires : goal.digit-high-requires
digit-high-requires c =
    let w = c.args.w.now in
    rw (pair_digits w _ c.loop-i.i c.as_chunks.ensures.front (omega arith)).0 (all_at _ _ _ (c.requires.0 (omega arith)) (omega arith))

pub digit-low-requires : goal.digit-low-requires
digit-low-requires c =
    let w = c.args.w.now in
    rw (pair_digits w _ c.loop-i.i c.as_chunks.ensures.front (omega arith)).1 (all_at _ _ _ (c.requires.0 (omega arith)) (omega arith))

pub loop-i-preserved : goal.loop-i-preserved
loop-i-preserved c =
    let w = c.args.w.now in
    let digits = pair_digits w _ c.loop-i.i c.as_chunks.ensures.front (omega arith) in
    unhex_more w _ _ _ _ _ (omega arith) (c.digit-high.ensures.0 ∙ ap digit_in digits.0) (c.digit-low.ensures.0 ∙ ap digit_in digits.1) c.loop-i.invariant

pub returns : goal.returns
returns c =
    let at-loop = c.loop-i in
    let w = c.args.w.now in
    let e : take at-loop.i (unhex w) ≡ unhex w = take_all at-loop.i (unhex w) (rw length_unhex (omega arith)) in
    let n : at-loop.i ≡ length c.as_chunks.result.0.now = omega arith in
    read w _ _ _ (rw (← n) (rw e at at-loop.invariant)) c.requires.1

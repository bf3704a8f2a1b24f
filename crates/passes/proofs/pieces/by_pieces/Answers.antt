-- `passes::by_pieces` meets its contract.
use Rattle.std.proofs.Common.{arith, length-take-le}
use Rattle.passes.specs.Pieces.{reached_none, reached_fits, reached_more, reached_all}
use Rattle.passes.proofs.pieces.by_pieces.Goals as goal

pub loop-o-init : goal.loop-o-init
loop-o-init g c = reached_none g.met.P.Piecewise.laws _ _

pub fill-requires : goal.fill-requires
fill-requires g c =
    let laws = g.met.P.Piecewise.laws in
    (reached_fits laws _ _ c.requires.0 _ _ c.loop-o.invariant (omega (arith, c.requires.2)), omega (arith, c.requires.2, length-take-le c.min-k.result c.loop-o.piece))

pub loop-o-preserved : goal.loop-o-preserved
loop-o-preserved g c =
    let laws = g.met.P.Piecewise.laws in
    let long = length-take-le c.min-k.result c.loop-o.piece (omega arith) in
    reached_more laws _ _ c.requires.0 _ _ c.loop-o.invariant _ _ _ _ _ c.requires.1 (omega (arith, long)) (omega (arith, c.requires.2)) c.fill.ensures c.put_at.ensures

-- there are no bytes at all
pub returns : goal.returns
returns g c = reached_all g.met.P.Piecewise.laws _ _ c.requires.0 _ _ c.loop-o.invariant _ c.requires.1 (omega (arith, c.requires.2))

-- that piece was the last
pub returns-2 : goal.returns-2
returns-2 g c =
    let laws = g.met.P.Piecewise.laws in
    let long = length-take-le c.min-k.result c.loop-o.piece (omega arith) in
    let last = reached_more laws _ _ c.requires.0 _ _ c.loop-o.invariant _ _ c.args.n _ _ c.requires.1 (omega (arith, long)) (omega (arith, c.requires.2)) c.fill.ensures c.put_at.ensures in
    reached_all laws _ _ c.requires.0 _ _ last _ c.requires.1 (omega (arith, c.requires.2))

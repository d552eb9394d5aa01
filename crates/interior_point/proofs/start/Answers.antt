use Rattle.std.proofs.Common.{arith}
use Rattle.interior_point.proofs.Turns.{started}
use Rattle.interior_point.proofs.start.Goals as goal

pub certify_l1-p-requires : goal.certify_l1-p-requires
certify_l1-p-requires c = let p = c.requires.0 in
    (record { series = p.series; room = omega (arith, p.room, c.fill.ensures.size, c.fill-2.ensures.size); known = p.known }, c.requires.1)

pub returns : goal.returns
returns c = let a = c.args in
    started a.k a.y.now a.lam c.fill.ensures c.fill-2.ensures c.certify_l1-p.ensures

use Rattle.std.proofs.Common.{arith}
use Rattle.certificate.proofs.Laws.{passed_none, passed_all}
use Rattle.certificate.proofs.passes.Goals as goal

pub returns-then-m-k : goal.returns-then-m-k
returns-then-m-k c = let a = c.args in passed_all (c.pass.ensures a.s.now (passed_none a.dy.now c.head-h.ensures)) (omega arith) (omega arith)

pub returns : goal.returns
returns c = let a = c.args in
    passed_all (c.pass-2.ensures a.s.now (c.pass-d.ensures a.s.now (passed_none a.dy.now c.head-h.ensures))) (omega arith) (omega arith)

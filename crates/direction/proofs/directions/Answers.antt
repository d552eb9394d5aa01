use Rattle.std.proofs.Common.{true, false, arith, rules}
use Rattle.direction.specs.Direction.{dmu1_at, dmu2_at}
use Rattle.direction.specs.Places.{dmu_at}
use Rattle.direction.proofs.Laws.{directed}
use Rattle.direction.proofs.directions.Goals as goal

pub returns : goal.returns
unfolding dmu1_at dmu2_at
returns c =
    let a = c.args in
    let x = c.fill_dmu in
    let y = c.fill_dmu-2 in
    directed a.b a.m a.lam a.inv_t a.s.now x.new.s y.new.s c.cap.result (omega arith)
    (x.ensures.moved (dmu_at false a.lam a.inv_t) (λ z mu dz r p. search rules)) x.ensures.kept
    (y.ensures.moved (dmu_at true a.lam a.inv_t) (λ z mu dz r p. search rules)) y.ensures.kept c.cap.ensures

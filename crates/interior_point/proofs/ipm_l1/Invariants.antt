use Rattle.std.proofs.Common.{◌-◌}
use Rattle.interior_point.proofs.Turns.{Looping}
use Rattle.interior_point.proofs.ipm_l1.Given as goal

abbrev pub invariant-loop-reason : goal.invariant-loop-reason
invariant-loop-reason l = Looping l.k l.y l.lam l.g l.tol l.max_iter l.initial.work l.work l.initial.dual l.dual l.r

abbrev pub decreases-loop-reason : goal.decreases-loop-reason
decreases-loop-reason l = l.max_iter - l.r.n_iter

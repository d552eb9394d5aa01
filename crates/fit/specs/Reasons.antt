-- Document 02, A11: the reason of a fit, beside the rest of its answer.
use Rattle.search.specs.declared.Reason.{Reason}
use Rattle.fit.specs.declared.Numbers.{Numbers}
use Rattle.fit.specs.Fit.{FitResult}

-- the same numbers with another reason
abbrev pub numbers_with : Reason → Numbers → Numbers
numbers_with r s = record { gap = s.gap; first_gap = s.first_gap; best_gap = s.best_gap; objective = s.objective; n_iter = s.n_iter; improvements = s.improvements; converged = s.converged; reason = r }

-- the same fit with another reason
abbrev pub with_reason : Reason → FitResult → FitResult
with_reason r f = record { trend = f.trend; cycle = f.cycle; knots = f.knots; dual = f.dual; lam_max = f.lam_max; numbers = numbers_with r f.numbers }

-- Document 02, A11: the reason of an answer, beside its other numbers.
use Rattle.search.specs.declared.Reason.{Reason}
use Rattle.trend_filter.specs.declared.Summary.{Summary}

-- the same numbers with another reason
abbrev pub reasoned : Reason → Summary → Summary
reasoned r s = record { knots = s.knots; lam_max = s.lam_max; gap = s.gap; first_gap = s.first_gap; best_gap = s.best_gap; objective = s.objective; n_iter = s.n_iter; improvements = s.improvements; converged = s.converged; reason = r }

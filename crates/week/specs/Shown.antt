-- What is shown of a fit of n hours under their settings, from the numbers s that its call answered. For the contracts of this crate.
use Rattle.std.specs.Prelude.{ℕ}
use Rattle.records.specs.declared.Settings.{Settings}
use Rattle.listing.specs.declared.Shown.{Shown}
use Rattle.trend_filter.specs.declared.Summary.{Summary}

abbrev pub shown : Settings → ℕ → Summary → Shown
shown st n s = record {
  n = n;
  order = st.order;
  penalty = st.penalty;
  n_iter = s.n_iter;
  improvements = s.improvements;
  converged = s.converged;
  reason = s.reason;
  lam_max = s.lam_max;
  gap = s.gap;
  objective = s.objective;
  knots = s.knots;
}

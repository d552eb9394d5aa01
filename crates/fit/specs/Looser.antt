-- Document 02, A13, of the whole fit: a looser tolerance costs no more steps (`Rattle.fit.proofs.Looser` proves it).
use Rattle.std.specs.Prelude.{◌≤◌, ◌≡◌, T, Float}
use Rattle.std.specs.Float.Ieee.{le}
use Rattle.questions.specs.Questions.{Asked, Lent}
use Rattle.fit.specs.Fit.{FitResult, fitted, fit}

-- all else alike: the same but for the tolerance
abbrev pub with_tol : Float → Asked → Asked
with_tol tol a = record { y = a.y; lam = a.lam; tol = tol; max_iter = a.max_iter; order = a.order; penalty = a.penalty }

-- Of two fits that are asked alike but for tol, the one whose tol is not smaller has an n_iter that is not greater. The lengths lent may differ. L2 and the closed paths, where both are 0, are included.
abbrev pub LooserFit : Asked → Float → Type 0
LooserFit a looser = T (le a.tol looser) → (l k : Lent) (f g : FitResult) → fit a l ≡ fitted f → fit (with_tol looser a) k ≡ fitted g → g.numbers.n_iter ≤ f.numbers.n_iter

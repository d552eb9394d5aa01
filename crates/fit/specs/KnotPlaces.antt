-- Document 02, A1: where the knots of a fit lie (`Rattle.fit.proofs.Lengths` proves it).
use Rattle.std.specs.Prelude.{◌≡◌}
use Rattle.vectors.specs.Rising.{Rising}
use Rattle.questions.specs.Questions.{Asked, Lent}
use Rattle.fit.specs.Fit.{FitResult, fitted, places, fit}

-- for whatever is asked and lent: they rise strictly, and each is below n - k, so it is a place of the series
abbrev pub KnotPlaces : Asked → Lent → Type 0
KnotPlaces a l = (f : FitResult) → fit a l ≡ fitted f → Rising (places a) f.knots

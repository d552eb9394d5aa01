-- The tests by which a fit goes one way or another, by name: for the contracts and proofs of our own crates.
use Rattle.std.specs.Prelude.{Bool}
use Rattle.std.specs.Float.Ieee.{le, eq}
use Rattle.float64.specs.Ops.{c0}
use Rattle.differences.specs.Diff.{gram_row}
use Rattle.banded.specs.Rows.{sound}
use Rattle.gram.specs.Gram.{gram}
use Rattle.questions.specs.Questions.{Asked}
use Rattle.fit.specs.Fit.{places, lam_max_of}

-- whether lam is 0 or -0, which is tested before lam_max
abbrev pub lam_zero : Asked → Bool
lam_zero a = eq a.lam c0

-- whether lam ≥ lam_max
abbrev pub lam_high : Asked → Bool
lam_high a = le (lam_max_of a) a.lam

-- whether the pivots of D D' are all good
abbrev pub sound_dd : Asked → Bool
sound_dd a = sound a.order (gram a.order (gram_row a.order)) (places a)

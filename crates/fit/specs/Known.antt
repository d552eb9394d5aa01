-- Document 01, "Known fits and edges": the starred ones as one table (`Rattle.fit.proofs.Known` proves it).
use Rattle.std.specs.Prelude.{true, ◌≡◌, List, [], ◌∷◌, ℕ, ◌≤◌, ◌<◌, pos, T, length, Float}
use Rattle.std.specs.Float.{binary64, nan}
use Rattle.std.specs.Float.Ieee.{neg, of_bits, of_int}
use Rattle.square_root.specs.Sqrt.{sqrt_of}
use Rattle.search.specs.declared.Reason.TheVariants.{ClosedPath}
use Rattle.questions.specs.Needs.{needs_of}
use Rattle.questions.specs.Questions.{Asked, Lent, one_or_two}
use Rattle.fit.specs.Fit.{Outcome, refused, fitted, fit}

-- what is asked and lent, and what comes of it
pub record Case : Type 0 where
  pub asked : Asked
  pub lent : Lent
  pub outcome : Outcome

-- what the definition makes of each case
abbrev pub worked : List Case → List Outcome
worked [] = []
worked (c ∷ cs) = fit c.asked c.lent ∷ worked cs

-- what is stated of each
abbrev pub stated : List Case → List Outcome
stated [] = []
stated (c ∷ cs) = c.outcome ∷ stated cs

-- the double of a whole number
abbrev pub whole : ℕ → Float
whole n = of_int binary64 (pos n)

-- tol 1e-8, at most 100 iterations
abbrev pub usual : ℕ → ℕ → Float → List Float → Asked
usual order penalty lam y = record { y = y; lam = lam; tol = of_bits binary64 0x3e45_798e_e230_8c3a; max_iter = 100; order = order; penalty = penalty }

-- what such a fit of n places needs, and no place more
abbrev pub room_for : ℕ → ℕ → Lent
room_for penalty n = let need = needs_of n 100 penalty in record { trend = n; cycle = n; knots = n; dual = n; work = need.work; marks = need.marks }

-- the outcome of a closed path whose three gaps are 0: no iteration and no improvement
abbrev pub flat : List Float → List Float → List ℕ → List Float → Float → Float → Outcome
flat trend cycle knots dual lam_max objective = fitted (record { trend = trend; cycle = cycle; knots = knots; dual = dual; lam_max = lam_max; numbers = record { gap = whole 0; first_gap = whole 0; best_gap = whole 0; objective = objective; n_iter = 0; improvements = 0; converged = true; reason = ClosedPath } })

-- three zeros
abbrev pub zeros : List Float
zeros = whole 0 ∷ whole 0 ∷ whole 0 ∷ []

-- the series of the listing
abbrev pub hours : List Float
hours = whole 8000 ∷ whole 0 ∷ []

-- the starred fits
abbrev pub table : List Case
table =
    -- the listing
    record { asked = usual 1 1 (whole 4000) hours; lent = room_for 1 2; outcome = flat (whole 4000 ∷ whole 4000 ∷ []) (whole 4000 ∷ neg (whole 4000) ∷ []) [] (neg (whole 4000) ∷ []) (whole 4000) (whole 16000000) }
    -- the same with lam 0 and -0
    ∷ record { asked = usual 1 1 (whole 0) hours; lent = room_for 1 2; outcome = flat hours (whole 0 ∷ whole 0 ∷ []) (0 ∷ []) (whole 0 ∷ []) (whole 4000) (whole 0) }
    ∷ record { asked = usual 1 1 (neg (whole 0)) hours; lent = room_for 1 2; outcome = flat hours (whole 0 ∷ whole 0 ∷ []) (0 ∷ []) (whole 0 ∷ []) (whole 4000) (whole 0) }
    -- L2 with lam 1
    ∷ record { asked = usual 1 2 (whole 1) (whole 6 ∷ whole 0 ∷ []); lent = room_for 2 2; outcome = flat (whole 4 ∷ whole 2 ∷ []) (whole 2 ∷ neg (whole 2) ∷ []) (0 ∷ []) (neg (whole 2) ∷ []) (whole 3) (whole 6) }
    ∷ record { asked = usual 1 2 (whole 1) (whole 4 ∷ whole 4 ∷ []); lent = room_for 2 2; outcome = flat (whole 4 ∷ whole 4 ∷ []) (whole 0 ∷ whole 0 ∷ []) [] (whole 0 ∷ []) (whole 0) (whole 0) }
    -- order 2 with n 2, and with n 3
    ∷ record { asked = usual 2 1 (whole 1) hours; lent = room_for 1 2; outcome = refused 2 }
    ∷ record { asked = usual 2 1 (whole 1) zeros; lent = room_for 1 3; outcome = flat zeros zeros [] (whole 0 ∷ []) (whole 0) (whole 0) }
    -- a NaN in y and lam -1
    ∷ record { asked = usual 1 1 (neg (whole 1)) (whole 8000 ∷ nan ∷ []); lent = room_for 1 2; outcome = refused 4 }
    -- lam -5e-324
    ∷ record { asked = usual 1 1 (of_bits binary64 0x8000_0000_0000_0001) hours; lent = room_for 1 2; outcome = refused 5 }
    -- L2, order 2, lam 1e308
    ∷ record { asked = usual 2 2 (of_bits binary64 0x7fe1_ccf3_85eb_c8a0) zeros; lent = room_for 2 3; outcome = refused 10 }
    ∷ []

-- 4, 2^-1074 and 1 + 2^-52
abbrev pub radicands : List Float
radicands = whole 4 ∷ of_bits binary64 1 ∷ of_bits binary64 0x3ff0_0000_0000_0001 ∷ []

-- their roots: 2, 2^-537 and 1
abbrev pub roots : List Float
roots = whole 2 ∷ of_bits binary64 0x1e60_0000_0000_0000 ∷ whole 1 ∷ []

-- the root of each
abbrev pub rooted : List Float → List Float
rooted [] = []
rooted (x ∷ v) = sqrt_of x ∷ rooted v

-- all of it: the fits, the roots, and question 3
pub record Known : Type 0 where
  pub fits : worked table ≡ stated table
  pub square_roots : rooted radicands ≡ roots
  -- n 65,536 passes question 3, and 65,537 does not, whatever y holds
  pub passes : (a : Asked) (l : Lent) → length a.y ≤ 65536 → fit a l ≡ refused 3 → ⊥
  pub refuses : (a : Asked) (l : Lent) → T (one_or_two a.order) → T (one_or_two a.penalty) → 65536 < length a.y → fit a l ≡ refused 3

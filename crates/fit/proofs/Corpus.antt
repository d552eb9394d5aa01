-- Fits that the Rust made, worked out from the definition and compared bit by bit. Written by tests/known_fits.py.
use mathlib.Core.Path.{◌≡◌, refl}
use mathlib.Core.Bool.{true, false}
use mathlib.Core.List.{List, [], ◌∷◌}
use Prim.Native.Nat.{ℕ}
use lib.Ieee.{Float, binary64, of_bits, of_int, add, sub, mul, div, neg, lt, le, eq, is_nan}
use Rattle.float64.specs.Helpers.{abs_of, is_finite, max_of, min_of, clamp_of}
use Rattle.square_root.specs.Sqrt.{isqrt_of, isqrt, nearest_root, sqrt_of}
use Rattle.vectors.specs.Vec.{list, places_to}
use Rattle.vectors.specs.Sums.{sum_to, max_to, norm2_sq, dot, sum_abs, max_abs, inside_to}
use Rattle.differences.specs.Diff.{diff, diff_k, diff_t, diff_kt}
use Rattle.banded.specs.Rows.{less, less_from, reduced, entry, placed, row_to, row, rows, sound}
use Rattle.banded.specs.Solve.{forward_at, forward, divided, back_at, back, solve}
use Rattle.gram.specs.Gram.{gram, product, zstar, lam_max}
use Rattle.vectors.specs.Sums.{more, more_from}
use Rattle.ridge.specs.Ridge.{ridge}
use Rattle.certificate.specs.Certificate.{minus, clamped, certify}
use Rattle.decomposition.specs.Knots.{threshold, knots}
use Rattle.search.specs.Search.{iterate, run}
use Rattle.newton_system.specs.Newton.{diagonal_shift, rhs_at, residual_square_at, system, rhs, residual_square, residual_norm, newton_z}
use Rattle.direction.specs.Direction.{dmu1_at, dmu2_at, step_cap_by, direction, step_cap_to}
use Rattle.line_search.specs.LineSearch.{stepped, along, accepted, trials, search_line}
use Rattle.interior_point.specs.InteriorPoint.{next_t, move, problem, origin, interior_point}
use Rattle.active_set.specs.ActiveSet.{hold_at, free_to, compressed, less_to, compressed_rhs_at, solved}
use Rattle.polish.specs.Polish.{candidate_at, candidate, polish}
use Rattle.l2.specs.L2.{sound_l2, trend_l2, scaled, objective_l2, dual_l2, gap_l2}
use Rattle.questions.specs.Questions.{finite_to, room, question}
use Rattle.fit.specs.Fit.{fitted, path_l2, path_zero, path_flat, polished, search_of, kept_of, path_end, path_l1, path, written, outcome, fit}
use Rattle.fit.proofs.Passed.{on, size_passes, size_refused}
use Rattle.search.specs.declared.Reason.TheVariants.{ClosedPath, GapSmall, LimitSpent, Stalled, PivotLost}
use Rattle.fit.specs.Known.{Case, worked, stated}

-- a double by its bits
abbrev pub F : ℕ → Float
F = of_bits binary64

abbrev pub table_1 : List Case
table_1 =
    -- order 1, penalty 1, y (0.0, -0.0), lam 0.0, tol 2.0, at most 100 iterations: fit 2 1 1 0 0 1 0 0
    record { asked = record { y = F 0x0000000000000000 ∷ F 0x8000000000000000 ∷ []; lam = F 0x0000000000000000; tol = F 0x4000000000000000; max_iter = 100; order = 1; penalty = 1 }; lent = record { trend = 2; cycle = 2; knots = 2; dual = 2; work = 80; marks = 4 }; outcome = fitted (record { trend = F 0x0000000000000000 ∷ F 0x8000000000000000 ∷ []; cycle = F 0x0000000000000000 ∷ F 0x0000000000000000 ∷ []; knots = []; dual = F 0x0000000000000000 ∷ []; lam_max = F 0x0000000000000000; numbers = record { gap = F 0x0000000000000000; first_gap = F 0x0000000000000000; best_gap = F 0x0000000000000000; objective = F 0x0000000000000000; n_iter = 0; improvements = 0; converged = true; reason = ClosedPath } }) }
    -- order 1, penalty 1, y (-448.0, -35.0, 7808.0), lam 5366.333333333333, tol 1e-08, at most 100 iterations: fit 3 1 1 0 0 1 0 0
    ∷ record { asked = record { y = F 0xc07c000000000000 ∷ F 0xc041800000000000 ∷ F 0x40be800000000000 ∷ []; lam = F 0x40b4f65555555555; tol = F 0x3e45798ee2308c3a; max_iter = 100; order = 1; penalty = 1 }; lent = record { trend = 3; cycle = 3; knots = 3; dual = 3; work = 120; marks = 6 }; outcome = fitted (record { trend = F 0x40a3135555555555 ∷ F 0x40a3135555555555 ∷ F 0x40a3135555555556 ∷ []; cycle = F 0xc0a6935555555555 ∷ F 0xc0a3595555555555 ∷ F 0x40b4f65555555555 ∷ []; knots = []; dual = F 0x40a6935555555555 ∷ F 0x40b4f65555555555 ∷ []; lam_max = F 0x40b4f65555555555; numbers = record { gap = F 0xbe30000000000000; first_gap = F 0xbe30000000000000; best_gap = F 0xbe30000000000000; objective = F 0x4174a36585555555; n_iter = 0; improvements = 0; converged = true; reason = ClosedPath } }) }
    -- order 2, penalty 1, y (-1.7976931348623157e+308, 1.7976931348623157e+308, -4e+307, 1.0), lam 1e+308, tol 7.077773385668529e+275, at most 50 iterations: fit 4 2 1 0 0 1 0 0
    ∷ record { asked = record { y = F 0xffefffffffffffff ∷ F 0x7fefffffffffffff ∷ F 0xffcc7b1f3cac7433 ∷ F 0x3ff0000000000000 ∷ []; lam = F 0x7fe1ccf385ebc8a0; tol = F 0x7934715c0b59b093; max_iter = 50; order = 2; penalty = 1 }; lent = record { trend = 4; cycle = 4; knots = 4; dual = 4; work = 160; marks = 8 }; outcome = fitted (record { trend = F 0x7ff8000000000000 ∷ F 0x7ff8000000000000 ∷ F 0x7ff8000000000000 ∷ F 0x7ff8000000000000 ∷ []; cycle = F 0x7ff8000000000000 ∷ F 0x7ff8000000000000 ∷ F 0x7ff8000000000000 ∷ F 0x7ff8000000000000 ∷ []; knots = []; dual = F 0x7ff8000000000000 ∷ F 0x7ff8000000000000 ∷ []; lam_max = F 0x0000000000000000; numbers = record { gap = F 0x7ff8000000000000; first_gap = F 0x7ff8000000000000; best_gap = F 0x7ff8000000000000; objective = F 0x7ff8000000000000; n_iter = 0; improvements = 0; converged = true; reason = ClosedPath } }) }
    -- order 2, penalty 2, y (-4e+307, -1e+308, 8.9e+307, 8.9e+307), lam 1600.0, tol 1e-12, at most 100000 iterations: fit 4 2 2 0 0 1 0 0
    ∷ record { asked = record { y = F 0xffcc7b1f3cac7433 ∷ F 0xffe1ccf385ebc8a0 ∷ F 0x7fdfaf5f8d197479 ∷ F 0x7fdfaf5f8d197479 ∷ []; lam = F 0x4099000000000000; tol = F 0x3d719799812dea11; max_iter = 100000; order = 2; penalty = 2 }; lent = record { trend = 4; cycle = 4; knots = 4; dual = 4; work = 160; marks = 8 }; outcome = fitted (record { trend = F 0x7ff8000000000000 ∷ F 0x7ff8000000000000 ∷ F 0x7ff8000000000000 ∷ F 0x7ff8000000000000 ∷ []; cycle = F 0x7ff8000000000000 ∷ F 0x7ff8000000000000 ∷ F 0x7ff8000000000000 ∷ F 0x7ff8000000000000 ∷ []; knots = []; dual = F 0x7ff8000000000000 ∷ F 0x7ff8000000000000 ∷ []; lam_max = F 0x0000000000000000; numbers = record { gap = F 0x7ff8000000000000; first_gap = F 0x7ff8000000000000; best_gap = F 0x7ff8000000000000; objective = F 0x7ff8000000000000; n_iter = 0; improvements = 0; converged = true; reason = ClosedPath } }) }
    -- order 2, penalty 2, y (-0.0, -0.0, -0.0, -0.0), lam 0.0, tol 0.001, at most 50 iterations: fit 4 2 2 0 0 1 0 0
    ∷ record { asked = record { y = F 0x8000000000000000 ∷ F 0x8000000000000000 ∷ F 0x8000000000000000 ∷ F 0x8000000000000000 ∷ []; lam = F 0x0000000000000000; tol = F 0x3f50624dd2f1a9fc; max_iter = 50; order = 2; penalty = 2 }; lent = record { trend = 4; cycle = 4; knots = 4; dual = 4; work = 160; marks = 8 }; outcome = fitted (record { trend = F 0x8000000000000000 ∷ F 0x0000000000000000 ∷ F 0x0000000000000000 ∷ F 0x8000000000000000 ∷ []; cycle = F 0x0000000000000000 ∷ F 0x8000000000000000 ∷ F 0x8000000000000000 ∷ F 0x0000000000000000 ∷ []; knots = []; dual = F 0x0000000000000000 ∷ F 0x8000000000000000 ∷ []; lam_max = F 0x0000000000000000; numbers = record { gap = F 0x0000000000000000; first_gap = F 0x0000000000000000; best_gap = F 0x0000000000000000; objective = F 0x0000000000000000; n_iter = 0; improvements = 0; converged = true; reason = ClosedPath } }) }
    -- order 2, penalty 2, y (0.0, 1.0, 4.0), lam 0.0004309171157742771, tol 1e-16, at most 10 iterations: fit 3 2 2 0 0 1 0 1
    ∷ record { asked = record { y = F 0x0000000000000000 ∷ F 0x3ff0000000000000 ∷ F 0x4010000000000000 ∷ []; lam = F 0x3f3c3d96eb66c9a7; tol = F 0x3c9cd2b297d889bc; max_iter = 10; order = 2; penalty = 2 }; lent = record { trend = 3; cycle = 3; knots = 3; dual = 3; work = 120; marks = 6 }; outcome = fitted (record { trend = F 0xbf4c2af213818154 ∷ F 0x3ff0070abc84e061 ∷ F 0x400ffe3d50dec7e8 ∷ []; cycle = F 0x3f4c2af213818154 ∷ F 0xbf5c2af213818400 ∷ F 0x3f4c2af213818000 ∷ []; knots = 0 ∷ []; dual = F 0x3f4c2af213818155 ∷ []; lam_max = F 0x3fd5555555555555; numbers = record { gap = F 0x3c10000000000000; first_gap = F 0x3c10000000000000; best_gap = F 0x3c10000000000000; objective = F 0x3f4c2af213818157; n_iter = 0; improvements = 0; converged = true; reason = ClosedPath } }) }
    -- order 1, penalty 2, y (-4e+307, 8.9e+307, 8.9e+307), lam 1.0, tol 5e-324, at most 18446744073709551615 iterations: fit 3 1 2 0 0 1 0 2
    ∷ record { asked = record { y = F 0xffcc7b1f3cac7433 ∷ F 0x7fdfaf5f8d197479 ∷ F 0x7fdfaf5f8d197479 ∷ []; lam = F 0x3ff0000000000000; tol = F 0x0000000000000001; max_iter = 18446744073709551615; order = 1; penalty = 2 }; lent = record { trend = 3; cycle = 3; knots = 3; dual = 3; work = 120; marks = 6 }; outcome = fitted (record { trend = F 0x7fa7da508f9d3aee ∷ F 0x7fd43423c23d88d5 ∷ F 0x7fd9f1c1a7ab7ea8 ∷ []; cycle = F 0xffd138d9b049e177 ∷ F 0x7fc6f67795b7d748 ∷ F 0x7fb6f67795b7d744 ∷ []; knots = 0 ∷ 1 ∷ []; dual = F 0x7fd138d9b049e177 ∷ F 0x7fb6f67795b7d74c ∷ []; lam_max = F 0x7fde9df4c79fc9b7; numbers = record { gap = F 0x7ff8000000000000; first_gap = F 0x7ff8000000000000; best_gap = F 0x7ff8000000000000; objective = F 0x7ff0000000000000; n_iter = 0; improvements = 0; converged = true; reason = ClosedPath } }) }
    ∷ []

pub known_1 : worked table_1 ≡ stated table_1
unfolding abs_of is_finite max_of min_of clamp_of isqrt_of isqrt nearest_root sqrt_of list sum_to max_to norm2_sq dot sum_abs max_abs diff diff_k diff_t diff_kt less less_from reduced entry placed row_to row rows sound forward_at forward divided back_at back solve gram more more_from product zstar lam_max ridge minus clamped certify threshold places_to knots iterate run diagonal_shift rhs_at dmu1_at dmu2_at residual_square_at step_cap_by system rhs direction residual_square residual_norm step_cap_to stepped along inside_to accepted trials newton_z search_line next_t move problem origin interior_point hold_at free_to compressed less_to compressed_rhs_at solved candidate_at candidate polish sound_l2 trend_l2 scaled objective_l2 dual_l2 gap_l2 finite_to room question path_l2 path_zero path_flat polished search_of kept_of path_end path_l1 path written outcome fit of_bits of_int add sub mul div neg lt le eq is_nan
known_1 = refl

abbrev pub table_2 : List Case
table_2 =
    -- order 1, penalty 1, y (69.0, 484.0), lam 2.372173881989627e-12, tol 0.5, at most 10 iterations: fit 2 1 1 1 1 1 1 1
    record { asked = record { y = F 0x4051400000000000 ∷ F 0x407e400000000000 ∷ []; lam = F 0x3d84dda923fec5d0; tol = F 0x3fe0000000000000; max_iter = 10; order = 1; penalty = 1 }; lent = record { trend = 2; cycle = 2; knots = 2; dual = 2; work = 80; marks = 4 }; outcome = fitted (record { trend = F 0x40514000000000a7 ∷ F 0x407e3fffffffffd6 ∷ []; cycle = F 0xbd84e00000000000 ∷ F 0x3d85000000000000 ∷ []; knots = 0 ∷ []; dual = F 0x3d84dda923fec5d0 ∷ []; lam_max = F 0x4069f00000000000; numbers = record { gap = F 0xbad0000000000000; first_gap = F 0x3e10e9aa98ad0156; best_gap = F 0x3db50dddc76dd080; objective = F 0x3e10e9aa98ad013a; n_iter = 1; improvements = 1; converged = true; reason = GapSmall } }) }
    -- order 1, penalty 1, y (1.0, 3.0), lam 5e-324, tol 1e-300, at most 10 iterations: fit 2 1 1 1 0 1 4 1
    ∷ record { asked = record { y = F 0x3ff0000000000000 ∷ F 0x4008000000000000 ∷ []; lam = F 0x0000000000000001; tol = F 0x01a56e1fc2f8f359; max_iter = 10; order = 1; penalty = 1 }; lent = record { trend = 2; cycle = 2; knots = 2; dual = 2; work = 80; marks = 4 }; outcome = fitted (record { trend = F 0x3ff0000000000000 ∷ F 0x4008000000000000 ∷ []; cycle = F 0x0000000000000000 ∷ F 0x0000000000000000 ∷ []; knots = 0 ∷ []; dual = F 0x0000000000000001 ∷ []; lam_max = F 0x3ff0000000000000; numbers = record { gap = F 0x0000000000000000; first_gap = F 0x0000000000000002; best_gap = F 0x0000000000000002; objective = F 0x0000000000000002; n_iter = 1; improvements = 0; converged = true; reason = PivotLost } }) }
    -- order 2, penalty 1, y (1.0, 0.0, 0.0), lam 1e-320, tol 1e-17, at most 3 iterations: fit 3 2 1 1 0 1 4 1
    ∷ record { asked = record { y = F 0x3ff0000000000000 ∷ F 0x0000000000000000 ∷ F 0x0000000000000000 ∷ []; lam = F 0x00000000000007e8; tol = F 0x3c670ef54646d497; max_iter = 3; order = 2; penalty = 1 }; lent = record { trend = 3; cycle = 3; knots = 3; dual = 3; work = 120; marks = 6 }; outcome = fitted (record { trend = F 0x3ff0000000000000 ∷ F 0x0000000000000fd0 ∷ F 0x80000000000007e8 ∷ []; cycle = F 0x0000000000000000 ∷ F 0x8000000000000fd0 ∷ F 0x00000000000007e8 ∷ []; knots = 0 ∷ []; dual = F 0x00000000000007e8 ∷ []; lam_max = F 0x3fc5555555555555; numbers = record { gap = F 0x0000000000000000; first_gap = F 0x00000000000007e8; best_gap = F 0x00000000000007e8; objective = F 0x00000000000007e8; n_iter = 1; improvements = 0; converged = true; reason = PivotLost } }) }
    -- order 1, penalty 1, y (-2.5513968330987768e-151, 5.682798536125608e+68, 3.302076058537749e-05, -1.1758122235838032e+105), lam 3.9307377181849207e+87, tol 0.1, at most 1 iterations: fit 4 1 1 1 1 1 1 1
    ∷ record { asked = record { y = F 0xa0aab9ba4d0dd1b2 ∷ F 0x4e351423cd1cf871 ∷ F 0x3f014ff8b1c5e5f1 ∷ F 0xd5c067ced63c4ade ∷ []; lam = F 0x521f9d7ac12072ff; tol = F 0x3fb999999999999a; max_iter = 1; order = 1; penalty = 1 }; lent = record { trend = 4; cycle = 4; knots = 4; dual = 4; work = 160; marks = 8 }; outcome = fitted (record { trend = F 0xd204ddb24c437f19 ∷ F 0xd204ddb24c437f19 ∷ F 0xd204ddb24c437f1a ∷ F 0xd5c067ced63c4ade ∷ []; cycle = F 0x5204ddb24c437f19 ∷ F 0x5204ddb24c437f19 ∷ F 0x5204ddb24c437f1a ∷ F 0x0000000000000000 ∷ []; knots = 2 ∷ []; dual = F 0xd204ddb24c437f19 ∷ F 0xd214ddb24c437f19 ∷ F 0xd21f4c8b72653ea6 ∷ []; lam_max = F 0x55b89bb6415a704c; numbers = record { gap = F 0x6784bf1a62b43780; first_gap = F 0x67f0354c9d1ccb5c; best_gap = F 0x6784bf1a62b43780; objective = F 0x67f0354c9d1ccb5c; n_iter = 1; improvements = 1; converged = true; reason = GapSmall } }) }
    ∷ []

pub known_2 : worked table_2 ≡ stated table_2
unfolding abs_of is_finite max_of min_of clamp_of isqrt_of isqrt nearest_root sqrt_of list sum_to max_to norm2_sq dot sum_abs max_abs diff diff_k diff_t diff_kt less less_from reduced entry placed row_to row rows sound forward_at forward divided back_at back solve gram more more_from product zstar lam_max ridge minus clamped certify threshold places_to knots iterate run diagonal_shift rhs_at dmu1_at dmu2_at residual_square_at step_cap_by system rhs direction residual_square residual_norm step_cap_to stepped along inside_to accepted trials newton_z search_line next_t move problem origin interior_point hold_at free_to compressed less_to compressed_rhs_at solved candidate_at candidate polish sound_l2 trend_l2 scaled objective_l2 dual_l2 gap_l2 finite_to room question path_l2 path_zero path_flat polished search_of kept_of path_end path_l1 path written outcome fit of_bits of_int add sub mul div neg lt le eq is_nan
known_2 = refl

abbrev pub table_3 : List Case
table_3 =
    -- order 2, penalty 1, y (0.0, -1.0, -4.0), lam 6.906338535827918e-17, tol 1e-08, at most 3 iterations: fit 3 2 1 3 3 0 2 1
    record { asked = record { y = F 0x0000000000000000 ∷ F 0xbff0000000000000 ∷ F 0xc010000000000000 ∷ []; lam = F 0x3c93e7fa76ff9c07; tol = F 0x3e45798ee2308c3a; max_iter = 3; order = 2; penalty = 1 }; lent = record { trend = 3; cycle = 3; knots = 3; dual = 3; work = 120; marks = 6 }; outcome = fitted (record { trend = F 0x3c939e9e29378c9c ∷ F 0xbff0000000000001 ∷ F 0xc010000000000000 ∷ []; cycle = F 0xbc939e9e29378c9c ∷ F 0x3cb0000000000000 ∷ F 0x0000000000000000 ∷ []; knots = 0 ∷ []; dual = F 0xbc939e9e29378c9c ∷ []; lam_max = F 0x3fd5555555555555; numbers = record { gap = F 0x3c4257137203db00; first_gap = F 0x3ca3e7fa76ff9c07; best_gap = F 0x3c4257137203db00; objective = F 0x3ca3e7fa76ff9c07; n_iter = 3; improvements = 3; converged = false; reason = LimitSpent } }) }
    -- order 2, penalty 1, y (-0.07080297008938467, -0.11408835401565974, 0.011902532530548161), lam 0.014655587352171389, tol 1e-08, at most 2 iterations: fit 3 2 1 2 2 1 2 1
    ∷ record { asked = record { y = F 0xbfb22024b8fe5ad3 ∷ F 0xbfbd34e4f55a0ae7 ∷ F 0x3f88605adfaa8ef4 ∷ []; lam = F 0x3f8e03bfa30ccb69; tol = F 0x3e45798ee2308c3a; max_iter = 2; order = 2; penalty = 1 }; lent = record { trend = 3; cycle = 3; knots = 3; dual = 3; work = 120; marks = 6 }; outcome = fitted (record { trend = F 0xbfb5e09cad5ff440 ∷ F 0xbfb5b3f50c96d80d ∷ F 0xbf668d930d88f1d4 ∷ []; cycle = F 0x3f8e03bfa30ccb68 ∷ F 0xbf9e03bfa30ccb68 ∷ F 0x3f8e03bfa30ccb69 ∷ []; knots = 0 ∷ []; dual = F 0x3f8e03bfa30ccb69 ∷ []; lam_max = F 0x3f9ce3cb091cb33c; numbers = record { gap = F 0x0000000000000000; first_gap = F 0x3f6452b488d0a04a; best_gap = F 0x3f430be1d1da924a; objective = F 0x3f5e16c628d46c89; n_iter = 2; improvements = 2; converged = true; reason = LimitSpent } }) }
    ∷ []

pub known_3 : worked table_3 ≡ stated table_3
unfolding abs_of is_finite max_of min_of clamp_of isqrt_of isqrt nearest_root sqrt_of list sum_to max_to norm2_sq dot sum_abs max_abs diff diff_k diff_t diff_kt less less_from reduced entry placed row_to row rows sound forward_at forward divided back_at back solve gram more more_from product zstar lam_max ridge minus clamped certify threshold places_to knots iterate run diagonal_shift rhs_at dmu1_at dmu2_at residual_square_at step_cap_by system rhs direction residual_square residual_norm step_cap_to stepped along inside_to accepted trials newton_z search_line next_t move problem origin interior_point hold_at free_to compressed less_to compressed_rhs_at solved candidate_at candidate polish sound_l2 trend_l2 scaled objective_l2 dual_l2 gap_l2 finite_to room question path_l2 path_zero path_flat polished search_of kept_of path_end path_l1 path written outcome fit of_bits of_int add sub mul div neg lt le eq is_nan
known_3 = refl

abbrev pub table_4 : List Case
table_4 =
    -- order 2, penalty 1, y (0.0, -8.0, -16.0, -23.0), lam 0.29999999999999977, tol 0.5, at most 2 iterations: fit 4 2 1 2 2 1 1 0
    record { asked = record { y = F 0x0000000000000000 ∷ F 0xc020000000000000 ∷ F 0xc030000000000000 ∷ F 0xc037000000000000 ∷ []; lam = F 0x3fd333333333332f; tol = F 0x3fe0000000000000; max_iter = 2; order = 2; penalty = 1 }; lent = record { trend = 4; cycle = 4; knots = 4; dual = 4; work = 160; marks = 8 }; outcome = fitted (record { trend = F 0xbfc9999999999994 ∷ F 0xc01f99999999999a ∷ F 0xc02f333333333333 ∷ F 0xc0374ccccccccccd ∷ []; cycle = F 0x3fc9999999999994 ∷ F 0xbfb9999999999980 ∷ F 0xbfd99999999999a0 ∷ F 0x3fd3333333333340 ∷ []; knots = []; dual = F 0x3fc9999999999994 ∷ F 0x3fd333333333332f ∷ []; lam_max = F 0x3fd3333333333333; numbers = record { gap = F 0x3cc5000000000000; first_gap = F 0x3fd333333333332f; best_gap = F 0x3fb01d4576460d22; objective = F 0x3fc3333333333348; n_iter = 2; improvements = 2; converged = true; reason = GapSmall } }) }
    -- order 1, penalty 1, y (3092301.0, -3344863.0), lam 2.123703465414926e-108, tol 0.001, at most 1447640 iterations: fit 2 1 1 11 1 0 3 1
    ∷ record { asked = record { y = F 0x414797a680000000 ∷ F 0xc14984ef80000000 ∷ []; lam = F 0x2993f34f846a11c0; tol = F 0x3f50624dd2f1a9fc; max_iter = 1447640; order = 1; penalty = 1 }; lent = record { trend = 2; cycle = 2; knots = 2; dual = 2; work = 80; marks = 4 }; outcome = fitted (record { trend = F 0x414797a680000000 ∷ F 0xc14984ef80000000 ∷ []; cycle = F 0x0000000000000000 ∷ F 0x0000000000000000 ∷ []; knots = 0 ∷ []; dual = F 0x299134c440af4562 ∷ []; lam_max = F 0x41488e4b00000000; numbers = record { gap = F 0x2b0c8347c17bf7c0; first_gap = F 0x2afe9e642cdb04af; best_gap = F 0x2a9398e1092a3d80; objective = F 0x2afe9e642cdb04af; n_iter = 11; improvements = 1; converged = false; reason = Stalled } }) }
    ∷ []

pub known_4 : worked table_4 ≡ stated table_4
unfolding abs_of is_finite max_of min_of clamp_of isqrt_of isqrt nearest_root sqrt_of list sum_to max_to norm2_sq dot sum_abs max_abs diff diff_k diff_t diff_kt less less_from reduced entry placed row_to row rows sound forward_at forward divided back_at back solve gram more more_from product zstar lam_max ridge minus clamped certify threshold places_to knots iterate run diagonal_shift rhs_at dmu1_at dmu2_at residual_square_at step_cap_by system rhs direction residual_square residual_norm step_cap_to stepped along inside_to accepted trials newton_z search_line next_t move problem origin interior_point hold_at free_to compressed less_to compressed_rhs_at solved candidate_at candidate polish sound_l2 trend_l2 scaled objective_l2 dual_l2 gap_l2 finite_to room question path_l2 path_zero path_flat polished search_of kept_of path_end path_l1 path written outcome fit of_bits of_int add sub mul div neg lt le eq is_nan
known_4 = refl

abbrev pub table_5 : List Case
table_5 =
    -- order 1, penalty 1, y (3.861483728055782e-162, 7.722967456111564e-162), lam 1.4480563980209183e-162, tol 0.5, at most 1 iterations: fit 2 1 1 1 0 1 2 1
    record { asked = record { y = F 0x1e6bcbc4cfccbcb4 ∷ F 0x1e7bcbc4cfccbcb4 ∷ []; lam = F 0x1e54d8d39bd98d87; tol = F 0x3fe0000000000000; max_iter = 1; order = 1; penalty = 1 }; lent = record { trend = 2; cycle = 2; knots = 2; dual = 2; work = 80; marks = 4 }; outcome = fitted (record { trend = F 0x1e731c174edcc1bc ∷ F 0x1e76958fe8d65952 ∷ []; cycle = F 0x9e54d8d39bd98d88 ∷ F 0x1e54d8d39bd98d88 ∷ []; knots = 0 ∷ []; dual = F 0x1e54d8d39bd98d87 ∷ []; lam_max = F 0x1e5bcbc4cfccbcb4; numbers = record { gap = F 0x8000000000000001; first_gap = F 0x0000000000000001; best_gap = F 0x0000000000000001; objective = F 0x0000000000000000; n_iter = 1; improvements = 0; converged = true; reason = LimitSpent } }) }
    -- order 1, penalty 1, y (-1.0, -8.0, -3.0, -8.0, 9.0, 5.0, -4.0), lam 1.43, tol 1e-08, at most 1 iterations: fit 7 1 1 1 1 0 2 4
    ∷ record { asked = record { y = F 0xbff0000000000000 ∷ F 0xc020000000000000 ∷ F 0xc008000000000000 ∷ F 0xc020000000000000 ∷ F 0x4022000000000000 ∷ F 0x4014000000000000 ∷ F 0xc010000000000000 ∷ []; lam = F 0x3ff6e147ae147ae1; tol = F 0x3e45798ee2308c3a; max_iter = 1; order = 1; penalty = 1 }; lent = record { trend = 7; cycle = 7; knots = 7; dual = 7; work = 280; marks = 14 }; outcome = fitted (record { trend = F 0xc00370a3d70a3d70 ∷ F 0xc0148f5c28f5c290 ∷ F 0xc016000000000000 ∷ F 0xc016000000000000 ∷ F 0x401647ae147ae148 ∷ F 0x401647ae147ae148 ∷ F 0xc0048f5c28f5c290 ∷ []; cycle = F 0x3ff6e147ae147ae0 ∷ F 0xc006e147ae147ae0 ∷ F 0x4004000000000000 ∷ F 0xc004000000000000 ∷ F 0x400b70a3d70a3d70 ∷ F 0xbfe23d70a3d70a40 ∷ F 0xbff6e147ae147ae0 ∷ []; knots = 0 ∷ 1 ∷ 3 ∷ 5 ∷ []; dual = F 0xbff6e147ae147ae1 ∷ F 0x3ff6e147ae147ae1 ∷ F 0xbff11eb851eb8520 ∷ F 0x3ff6e147ae147ae1 ∷ F 0xbff6e147ae147ae1 ∷ F 0xbff6e147ae147ae1 ∷ []; lam_max = F 0x402c924924924926; numbers = record { gap = F 0x3ff5ac083126e960; first_gap = F 0x4050cd70a3d70a3d; best_gap = F 0x4041e29a593606e4; objective = F 0x4049251eb851eb84; n_iter = 1; improvements = 1; converged = false; reason = LimitSpent } }) }
    ∷ []

pub known_5 : worked table_5 ≡ stated table_5
unfolding abs_of is_finite max_of min_of clamp_of isqrt_of isqrt nearest_root sqrt_of list sum_to max_to norm2_sq dot sum_abs max_abs diff diff_k diff_t diff_kt less less_from reduced entry placed row_to row rows sound forward_at forward divided back_at back solve gram more more_from product zstar lam_max ridge minus clamped certify threshold places_to knots iterate run diagonal_shift rhs_at dmu1_at dmu2_at residual_square_at step_cap_by system rhs direction residual_square residual_norm step_cap_to stepped along inside_to accepted trials newton_z search_line next_t move problem origin interior_point hold_at free_to compressed less_to compressed_rhs_at solved candidate_at candidate polish sound_l2 trend_l2 scaled objective_l2 dual_l2 gap_l2 finite_to room question path_l2 path_zero path_flat polished search_of kept_of path_end path_l1 path written outcome fit of_bits of_int add sub mul div neg lt le eq is_nan
known_5 = refl

abbrev pub table_6 : List Case
table_6 =
    -- order 2, penalty 1, y (3.0, -2.0, -6.0, 2.0, -8.0, 1.0, 2.0), lam 6.11, tol 1e-08, at most 1 iterations: fit 7 2 1 1 1 1 2 2
    record { asked = record { y = F 0x4008000000000000 ∷ F 0xc000000000000000 ∷ F 0xc018000000000000 ∷ F 0x4000000000000000 ∷ F 0xc020000000000000 ∷ F 0x3ff0000000000000 ∷ F 0x4000000000000000 ∷ []; lam = F 0x401870a3d70a3d71; tol = F 0x3e45798ee2308c3a; max_iter = 1; order = 2; penalty = 1 }; lent = record { trend = 7; cycle = 7; knots = 7; dual = 7; work = 280; marks = 14 }; outcome = fitted (record { trend = F 0xbfe12f95fc62c930 ∷ F 0xbff092f95fc62c94 ∷ F 0xbff88e27c15af490 ∷ F 0xbffc8e27c15af488 ∷ F 0xc0004713e0ad7a4a ∷ F 0xbff092f95fc62c8e ∷ F 0xbfa2f95fc62c9340 ∷ []; cycle = F 0x400c4be57f18b24c ∷ F 0xbfeeda0d4073a6d8 ∷ F 0xc011dc760fa942dc ∷ F 0x400e4713e0ad7a44 ∷ F 0xc017dc760fa942db ∷ F 0x4000497cafe31647 ∷ F 0x40004be57f18b24d ∷ []; knots = 1 ∷ 3 ∷ []; dual = F 0x400c4be57f18b24c ∷ F 0x401870a3d70a3d71 ∷ F 0x4010dededededee0 ∷ F 0x401870a3d70a3d71 ∷ F 0x40004be57f18b24d ∷ []; lam_max = F 0x4020492492492492; numbers = record { gap = F 0x3d34000000000000; first_gap = F 0x407626147ae147ae; best_gap = F 0x4028c9eb1ce551c4; objective = F 0x404b788c52faea93; n_iter = 1; improvements = 1; converged = true; reason = LimitSpent } }) }
    -- order 2, penalty 1, y (-3.0, 3.0, 0.0, -2.0, -7.0, 9.0, 7.0), lam 2.5, tol 1e-08, at most 1 iterations: fit 7 2 1 1 1 0 2 3
    ∷ record { asked = record { y = F 0xc008000000000000 ∷ F 0x4008000000000000 ∷ F 0x0000000000000000 ∷ F 0xc000000000000000 ∷ F 0xc01c000000000000 ∷ F 0x4022000000000000 ∷ F 0x401c000000000000 ∷ []; lam = F 0x4004000000000000; tol = F 0x3e45798ee2308c3a; max_iter = 1; order = 2; penalty = 1 }; lent = record { trend = 7; cycle = 7; knots = 7; dual = 7; work = 280; marks = 14 }; outcome = fitted (record { trend = F 0xbfe0000000000000 ∷ F 0xbffc000000000000 ∷ F 0xbfe0000000000000 ∷ F 0x3fe8000000000000 ∷ F 0xc006000000000000 ∷ F 0x4008000000000000 ∷ F 0x4021800000000000 ∷ []; cycle = F 0xc004000000000000 ∷ F 0x4013000000000000 ∷ F 0x3fe0000000000000 ∷ F 0xc006000000000000 ∷ F 0xc011000000000000 ∷ F 0x4018000000000000 ∷ F 0xbffc000000000000 ∷ []; knots = 0 ∷ 2 ∷ 3 ∷ []; dual = F 0xc004000000000000 ∷ F 0xbfd0000000000000 ∷ F 0x4004000000000000 ∷ F 0x4004000000000000 ∷ F 0xbffc000000000000 ∷ []; lam_max = F 0x4024000000000002; numbers = record { gap = F 0x4042200000000000; first_gap = F 0x4060400000000000; best_gap = F 0x4042f98dbb2cea84; objective = F 0x4056080000000000; n_iter = 1; improvements = 1; converged = false; reason = LimitSpent } }) }
    ∷ []

pub known_6 : worked table_6 ≡ stated table_6
unfolding abs_of is_finite max_of min_of clamp_of isqrt_of isqrt nearest_root sqrt_of list sum_to max_to norm2_sq dot sum_abs max_abs diff diff_k diff_t diff_kt less less_from reduced entry placed row_to row rows sound forward_at forward divided back_at back solve gram more more_from product zstar lam_max ridge minus clamped certify threshold places_to knots iterate run diagonal_shift rhs_at dmu1_at dmu2_at residual_square_at step_cap_by system rhs direction residual_square residual_norm step_cap_to stepped along inside_to accepted trials newton_z search_line next_t move problem origin interior_point hold_at free_to compressed less_to compressed_rhs_at solved candidate_at candidate polish sound_l2 trend_l2 scaled objective_l2 dual_l2 gap_l2 finite_to room question path_l2 path_zero path_flat polished search_of kept_of path_end path_l1 path written outcome fit of_bits of_int add sub mul div neg lt le eq is_nan
known_6 = refl

abbrev pub table_7 : List Case
table_7 =
    -- order 1, penalty 1, y (1e+308, -1e+308), lam 1e-300, tol 5e-324, at most 100 iterations: fit 2 1 1 10 0 0 3 0
    record { asked = record { y = F 0x7fe1ccf385ebc8a0 ∷ F 0xffe1ccf385ebc8a0 ∷ []; lam = F 0x01a56e1fc2f8f359; tol = F 0x0000000000000001; max_iter = 100; order = 1; penalty = 1 }; lent = record { trend = 2; cycle = 2; knots = 2; dual = 2; work = 80; marks = 4 }; outcome = fitted (record { trend = F 0x7fe1ccf385ebc8a0 ∷ F 0xffe1ccf385ebc8a0 ∷ []; cycle = F 0x0000000000000000 ∷ F 0x0000000000000000 ∷ []; knots = []; dual = F 0x0000000000000000 ∷ []; lam_max = F 0x7ff0000000000000; numbers = record { gap = F 0x7ff8000000000000; first_gap = F 0x7ff8000000000000; best_gap = F 0x7ff8000000000000; objective = F 0x7ff0000000000000; n_iter = 10; improvements = 0; converged = false; reason = Stalled } }) }
    -- order 1, penalty 1, y (1e+308, -1e+308), lam 1e-300, tol 1.7976931348623157e+308, at most 100 iterations: fit 2 1 1 10 0 0 3 0
    ∷ record { asked = record { y = F 0x7fe1ccf385ebc8a0 ∷ F 0xffe1ccf385ebc8a0 ∷ []; lam = F 0x01a56e1fc2f8f359; tol = F 0x7fefffffffffffff; max_iter = 100; order = 1; penalty = 1 }; lent = record { trend = 2; cycle = 2; knots = 2; dual = 2; work = 80; marks = 4 }; outcome = fitted (record { trend = F 0x7fe1ccf385ebc8a0 ∷ F 0xffe1ccf385ebc8a0 ∷ []; cycle = F 0x0000000000000000 ∷ F 0x0000000000000000 ∷ []; knots = []; dual = F 0x0000000000000000 ∷ []; lam_max = F 0x7ff0000000000000; numbers = record { gap = F 0x7ff8000000000000; first_gap = F 0x7ff8000000000000; best_gap = F 0x7ff8000000000000; objective = F 0x7ff0000000000000; n_iter = 10; improvements = 0; converged = false; reason = Stalled } }) }
    -- order 1, penalty 1, y (0.0, 1e+308), lam 10000000000.0, tol 5e-324, at most 100 iterations: fit 2 1 1 0 0 1 1 1
    ∷ record { asked = record { y = F 0x0000000000000000 ∷ F 0x7fe1ccf385ebc8a0 ∷ []; lam = F 0x4202a05f20000000; tol = F 0x0000000000000001; max_iter = 100; order = 1; penalty = 1 }; lent = record { trend = 2; cycle = 2; knots = 2; dual = 2; work = 80; marks = 4 }; outcome = fitted (record { trend = F 0x0000000000000000 ∷ F 0x7fe1ccf385ebc8a0 ∷ []; cycle = F 0x0000000000000000 ∷ F 0x0000000000000000 ∷ []; knots = 0 ∷ []; dual = F 0x0000000000000000 ∷ []; lam_max = F 0x7fd1ccf385ebc8a0; numbers = record { gap = F 0x7ff0000000000000; first_gap = F 0x7ff0000000000000; best_gap = F 0x7ff0000000000000; objective = F 0x7ff0000000000000; n_iter = 0; improvements = 0; converged = true; reason = GapSmall } }) }
    -- order 1, penalty 1, y (0.0, 1e+308), lam 10000000000.0, tol 1.7976931348623157e+308, at most 100 iterations: fit 2 1 1 0 0 1 1 1
    ∷ record { asked = record { y = F 0x0000000000000000 ∷ F 0x7fe1ccf385ebc8a0 ∷ []; lam = F 0x4202a05f20000000; tol = F 0x7fefffffffffffff; max_iter = 100; order = 1; penalty = 1 }; lent = record { trend = 2; cycle = 2; knots = 2; dual = 2; work = 80; marks = 4 }; outcome = fitted (record { trend = F 0x0000000000000000 ∷ F 0x7fe1ccf385ebc8a0 ∷ []; cycle = F 0x0000000000000000 ∷ F 0x0000000000000000 ∷ []; knots = 0 ∷ []; dual = F 0x0000000000000000 ∷ []; lam_max = F 0x7fd1ccf385ebc8a0; numbers = record { gap = F 0x7ff0000000000000; first_gap = F 0x7ff0000000000000; best_gap = F 0x7ff0000000000000; objective = F 0x7ff0000000000000; n_iter = 0; improvements = 0; converged = true; reason = GapSmall } }) }
    -- order 1, penalty 1, y (0.0, 0.25), lam 5e-324, tol 5e-324, at most 100 iterations: fit 2 1 1 0 0 1 1 1
    ∷ record { asked = record { y = F 0x0000000000000000 ∷ F 0x3fd0000000000000 ∷ []; lam = F 0x0000000000000001; tol = F 0x0000000000000001; max_iter = 100; order = 1; penalty = 1 }; lent = record { trend = 2; cycle = 2; knots = 2; dual = 2; work = 80; marks = 4 }; outcome = fitted (record { trend = F 0x0000000000000000 ∷ F 0x3fd0000000000000 ∷ []; cycle = F 0x0000000000000000 ∷ F 0x0000000000000000 ∷ []; knots = 0 ∷ []; dual = F 0x0000000000000000 ∷ []; lam_max = F 0x3fc0000000000000; numbers = record { gap = F 0x0000000000000000; first_gap = F 0x0000000000000000; best_gap = F 0x0000000000000000; objective = F 0x0000000000000000; n_iter = 0; improvements = 0; converged = true; reason = GapSmall } }) }
    -- order 1, penalty 1, y (0.0, 0.25), lam 5e-324, tol 1.7976931348623157e+308, at most 100 iterations: fit 2 1 1 0 0 1 1 1
    ∷ record { asked = record { y = F 0x0000000000000000 ∷ F 0x3fd0000000000000 ∷ []; lam = F 0x0000000000000001; tol = F 0x7fefffffffffffff; max_iter = 100; order = 1; penalty = 1 }; lent = record { trend = 2; cycle = 2; knots = 2; dual = 2; work = 80; marks = 4 }; outcome = fitted (record { trend = F 0x0000000000000000 ∷ F 0x3fd0000000000000 ∷ []; cycle = F 0x0000000000000000 ∷ F 0x0000000000000000 ∷ []; knots = 0 ∷ []; dual = F 0x0000000000000000 ∷ []; lam_max = F 0x3fc0000000000000; numbers = record { gap = F 0x0000000000000000; first_gap = F 0x0000000000000000; best_gap = F 0x0000000000000000; objective = F 0x0000000000000000; n_iter = 0; improvements = 0; converged = true; reason = GapSmall } }) }
    -- order 1, penalty 1, y (8000.0, 0.0), lam 3000.0, tol 0.001, at most 100 iterations: fit 2 1 1 3 3 1 1 1
    ∷ record { asked = record { y = F 0x40bf400000000000 ∷ F 0x0000000000000000 ∷ []; lam = F 0x40a7700000000000; tol = F 0x3f50624dd2f1a9fc; max_iter = 100; order = 1; penalty = 1 }; lent = record { trend = 2; cycle = 2; knots = 2; dual = 2; work = 80; marks = 4 }; outcome = fitted (record { trend = F 0x40b3880000000000 ∷ F 0x40a7700000000000 ∷ []; cycle = F 0x40a7700000000000 ∷ F 0xc0a7700000000000 ∷ []; knots = 0 ∷ []; dual = F 0xc0a7700000000000 ∷ []; lam_max = F 0x40af400000000000; numbers = record { gap = F 0x0000000000000000; first_gap = F 0x4176e36000000000; best_gap = F 0x40b3c81ef24fa800; objective = F 0x416c9c3800000000; n_iter = 3; improvements = 3; converged = true; reason = GapSmall } }) }
    -- order 1, penalty 1, y (8000.0, 0.0), lam 3000.0, tol 0.5, at most 100 iterations: fit 2 1 1 1 1 1 1 1
    ∷ record { asked = record { y = F 0x40bf400000000000 ∷ F 0x0000000000000000 ∷ []; lam = F 0x40a7700000000000; tol = F 0x3fe0000000000000; max_iter = 100; order = 1; penalty = 1 }; lent = record { trend = 2; cycle = 2; knots = 2; dual = 2; work = 80; marks = 4 }; outcome = fitted (record { trend = F 0x40b3880000000000 ∷ F 0x40a7700000000000 ∷ []; cycle = F 0x40a7700000000000 ∷ F 0xc0a7700000000000 ∷ []; knots = 0 ∷ []; dual = F 0xc0a7700000000000 ∷ []; lam_max = F 0x40af400000000000; numbers = record { gap = F 0x0000000000000000; first_gap = F 0x4176e36000000000; best_gap = F 0x414e8c4fc7179844; objective = F 0x416c9c3800000000; n_iter = 1; improvements = 1; converged = true; reason = GapSmall } }) }
    ∷ []

pub known_7 : worked table_7 ≡ stated table_7
unfolding abs_of is_finite max_of min_of clamp_of isqrt_of isqrt nearest_root sqrt_of list sum_to max_to norm2_sq dot sum_abs max_abs diff diff_k diff_t diff_kt less less_from reduced entry placed row_to row rows sound forward_at forward divided back_at back solve gram more more_from product zstar lam_max ridge minus clamped certify threshold places_to knots iterate run diagonal_shift rhs_at dmu1_at dmu2_at residual_square_at step_cap_by system rhs direction residual_square residual_norm step_cap_to stepped along inside_to accepted trials newton_z search_line next_t move problem origin interior_point hold_at free_to compressed less_to compressed_rhs_at solved candidate_at candidate polish sound_l2 trend_l2 scaled objective_l2 dual_l2 gap_l2 finite_to room question path_l2 path_zero path_flat polished search_of kept_of path_end path_l1 path written outcome fit of_bits of_int add sub mul div neg lt le eq is_nan
known_7 = refl

abbrev pub table_8 : List Case
table_8 =
    -- order 1, penalty 1, y (8000.0, 0.0), lam 4000.0, tol 0.001, at most 100 iterations: fit 2 1 1 0 0 1 0 0
    record { asked = record { y = F 0x40bf400000000000 ∷ F 0x0000000000000000 ∷ []; lam = F 0x40af400000000000; tol = F 0x3f50624dd2f1a9fc; max_iter = 100; order = 1; penalty = 1 }; lent = record { trend = 2; cycle = 2; knots = 2; dual = 2; work = 80; marks = 4 }; outcome = fitted (record { trend = F 0x40af400000000000 ∷ F 0x40af400000000000 ∷ []; cycle = F 0x40af400000000000 ∷ F 0xc0af400000000000 ∷ []; knots = []; dual = F 0xc0af400000000000 ∷ []; lam_max = F 0x40af400000000000; numbers = record { gap = F 0x0000000000000000; first_gap = F 0x0000000000000000; best_gap = F 0x0000000000000000; objective = F 0x416e848000000000; n_iter = 0; improvements = 0; converged = true; reason = ClosedPath } }) }
    -- order 1, penalty 1, y (8000.0, 0.0), lam 3000.0, tol 1.0, at most 100 iterations: fit 2 1 1 0 0 1 1 0
    ∷ record { asked = record { y = F 0x40bf400000000000 ∷ F 0x0000000000000000 ∷ []; lam = F 0x40a7700000000000; tol = F 0x3ff0000000000000; max_iter = 100; order = 1; penalty = 1 }; lent = record { trend = 2; cycle = 2; knots = 2; dual = 2; work = 80; marks = 4 }; outcome = fitted (record { trend = F 0x40af400000000000 ∷ F 0x40af400000000000 ∷ []; cycle = F 0x40af400000000000 ∷ F 0xc0af400000000000 ∷ []; knots = []; dual = F 0xc0a7700000000000 ∷ []; lam_max = F 0x40af400000000000; numbers = record { gap = F 0x412e848000000000; first_gap = F 0x4176e36000000000; best_gap = F 0x4176e36000000000; objective = F 0x416e848000000000; n_iter = 0; improvements = 0; converged = true; reason = GapSmall } }) }
    -- order 1, penalty 1, y (8000.0, 0.0), lam 3000.0, tol 0.001, at most 100 iterations: fit 2 1 1 3 3 1 1 1
    ∷ record { asked = record { y = F 0x40bf400000000000 ∷ F 0x0000000000000000 ∷ []; lam = F 0x40a7700000000000; tol = F 0x3f50624dd2f1a9fc; max_iter = 100; order = 1; penalty = 1 }; lent = record { trend = 2; cycle = 2; knots = 2; dual = 2; work = 80; marks = 4 }; outcome = fitted (record { trend = F 0x40b3880000000000 ∷ F 0x40a7700000000000 ∷ []; cycle = F 0x40a7700000000000 ∷ F 0xc0a7700000000000 ∷ []; knots = 0 ∷ []; dual = F 0xc0a7700000000000 ∷ []; lam_max = F 0x40af400000000000; numbers = record { gap = F 0x0000000000000000; first_gap = F 0x4176e36000000000; best_gap = F 0x40b3c81ef24fa800; objective = F 0x416c9c3800000000; n_iter = 3; improvements = 3; converged = true; reason = GapSmall } }) }
    -- order 1, penalty 1, y (8000.0, 0.0), lam 3000.0, tol 0.001, at most 3 iterations: fit 2 1 1 3 3 1 1 1
    ∷ record { asked = record { y = F 0x40bf400000000000 ∷ F 0x0000000000000000 ∷ []; lam = F 0x40a7700000000000; tol = F 0x3f50624dd2f1a9fc; max_iter = 3; order = 1; penalty = 1 }; lent = record { trend = 2; cycle = 2; knots = 2; dual = 2; work = 80; marks = 4 }; outcome = fitted (record { trend = F 0x40b3880000000000 ∷ F 0x40a7700000000000 ∷ []; cycle = F 0x40a7700000000000 ∷ F 0xc0a7700000000000 ∷ []; knots = 0 ∷ []; dual = F 0xc0a7700000000000 ∷ []; lam_max = F 0x40af400000000000; numbers = record { gap = F 0x0000000000000000; first_gap = F 0x4176e36000000000; best_gap = F 0x40b3c81ef24fa800; objective = F 0x416c9c3800000000; n_iter = 3; improvements = 3; converged = true; reason = GapSmall } }) }
    -- order 1, penalty 1, y (1e+308, -1e+308), lam 1e+308, tol 1e-08, at most 100 iterations: fit 2 1 1 10 0 0 3 0
    ∷ record { asked = record { y = F 0x7fe1ccf385ebc8a0 ∷ F 0xffe1ccf385ebc8a0 ∷ []; lam = F 0x7fe1ccf385ebc8a0; tol = F 0x3e45798ee2308c3a; max_iter = 100; order = 1; penalty = 1 }; lent = record { trend = 2; cycle = 2; knots = 2; dual = 2; work = 80; marks = 4 }; outcome = fitted (record { trend = F 0x7fe1ccf385ebc8a0 ∷ F 0xffe1ccf385ebc8a0 ∷ []; cycle = F 0x0000000000000000 ∷ F 0x0000000000000000 ∷ []; knots = []; dual = F 0x0000000000000000 ∷ []; lam_max = F 0x7ff0000000000000; numbers = record { gap = F 0x7ff8000000000000; first_gap = F 0x7ff8000000000000; best_gap = F 0x7ff8000000000000; objective = F 0x7ff0000000000000; n_iter = 10; improvements = 0; converged = false; reason = Stalled } }) }
    -- order 1, penalty 1, y (1e+308, -1e+308), lam 1e+308, tol 1e-08, at most 10 iterations: fit 2 1 1 10 0 0 2 0
    ∷ record { asked = record { y = F 0x7fe1ccf385ebc8a0 ∷ F 0xffe1ccf385ebc8a0 ∷ []; lam = F 0x7fe1ccf385ebc8a0; tol = F 0x3e45798ee2308c3a; max_iter = 10; order = 1; penalty = 1 }; lent = record { trend = 2; cycle = 2; knots = 2; dual = 2; work = 80; marks = 4 }; outcome = fitted (record { trend = F 0x7fe1ccf385ebc8a0 ∷ F 0xffe1ccf385ebc8a0 ∷ []; cycle = F 0x0000000000000000 ∷ F 0x0000000000000000 ∷ []; knots = []; dual = F 0x0000000000000000 ∷ []; lam_max = F 0x7ff0000000000000; numbers = record { gap = F 0x7ff8000000000000; first_gap = F 0x7ff8000000000000; best_gap = F 0x7ff8000000000000; objective = F 0x7ff0000000000000; n_iter = 10; improvements = 0; converged = false; reason = LimitSpent } }) }
    -- order 1, penalty 1, y (8000.0, 0.0), lam 3000.0, tol 0.001, at most 2 iterations: fit 2 1 1 2 2 1 2 1
    ∷ record { asked = record { y = F 0x40bf400000000000 ∷ F 0x0000000000000000 ∷ []; lam = F 0x40a7700000000000; tol = F 0x3f50624dd2f1a9fc; max_iter = 2; order = 1; penalty = 1 }; lent = record { trend = 2; cycle = 2; knots = 2; dual = 2; work = 80; marks = 4 }; outcome = fitted (record { trend = F 0x40b3880000000000 ∷ F 0x40a7700000000000 ∷ []; cycle = F 0x40a7700000000000 ∷ F 0xc0a7700000000000 ∷ []; knots = 0 ∷ []; dual = F 0xc0a7700000000000 ∷ []; lam_max = F 0x40af400000000000; numbers = record { gap = F 0x0000000000000000; first_gap = F 0x4176e36000000000; best_gap = F 0x40d43b8652706000; objective = F 0x416c9c3800000000; n_iter = 2; improvements = 2; converged = true; reason = LimitSpent } }) }
    -- order 2, penalty 1, y (0.0, 1.0, 0.0), lam 2e-308, tol 1e-08, at most 100 iterations: fit 3 2 1 2 1 0 4 1
    ∷ record { asked = record { y = F 0x0000000000000000 ∷ F 0x3ff0000000000000 ∷ F 0x0000000000000000 ∷ []; lam = F 0x000e61acf033d1a4; tol = F 0x3e45798ee2308c3a; max_iter = 100; order = 2; penalty = 1 }; lent = record { trend = 3; cycle = 3; knots = 3; dual = 3; work = 120; marks = 6 }; outcome = fitted (record { trend = F 0x00097de7e636ae34 ∷ F 0x3ff0000000000000 ∷ F 0x00097de7e636ae34 ∷ []; cycle = F 0x80097de7e636ae34 ∷ F 0x0000000000000000 ∷ F 0x80097de7e636ae34 ∷ []; knots = 0 ∷ []; dual = F 0x80097de7e636ae34 ∷ []; lam_max = F 0x3fd5555555555555; numbers = record { gap = F 0x0009c78a13fa46e0; first_gap = F 0x001cc359e067a348; best_gap = F 0x0009c78a13fa46e0; objective = F 0x001cc359e067a348; n_iter = 2; improvements = 1; converged = false; reason = PivotLost } }) }
    -- order 2, penalty 1, y (0.0, 1.0, 0.0), lam 2e-308, tol 1e-08, at most 2 iterations: fit 3 2 1 2 1 0 4 1
    ∷ record { asked = record { y = F 0x0000000000000000 ∷ F 0x3ff0000000000000 ∷ F 0x0000000000000000 ∷ []; lam = F 0x000e61acf033d1a4; tol = F 0x3e45798ee2308c3a; max_iter = 2; order = 2; penalty = 1 }; lent = record { trend = 3; cycle = 3; knots = 3; dual = 3; work = 120; marks = 6 }; outcome = fitted (record { trend = F 0x00097de7e636ae34 ∷ F 0x3ff0000000000000 ∷ F 0x00097de7e636ae34 ∷ []; cycle = F 0x80097de7e636ae34 ∷ F 0x0000000000000000 ∷ F 0x80097de7e636ae34 ∷ []; knots = 0 ∷ []; dual = F 0x80097de7e636ae34 ∷ []; lam_max = F 0x3fd5555555555555; numbers = record { gap = F 0x0009c78a13fa46e0; first_gap = F 0x001cc359e067a348; best_gap = F 0x0009c78a13fa46e0; objective = F 0x001cc359e067a348; n_iter = 2; improvements = 1; converged = false; reason = PivotLost } }) }
    -- order 1, penalty 1, y (-1.0, 0.0, -2.0, -1.0), lam 0.9999999999999997, tol 1.0, at most 100 iterations: fit 4 1 1 0 0 0 1 1
    ∷ record { asked = record { y = F 0xbff0000000000000 ∷ F 0x0000000000000000 ∷ F 0xc000000000000000 ∷ F 0xbff0000000000000 ∷ []; lam = F 0x3feffffffffffffd; tol = F 0x3ff0000000000000; max_iter = 100; order = 1; penalty = 1 }; lent = record { trend = 4; cycle = 4; knots = 4; dual = 4; work = 160; marks = 8 }; outcome = fitted (record { trend = F 0xbcb8000000000000 ∷ F 0x0000000000000000 ∷ F 0xc000000000000000 ∷ F 0xbffffffffffffffe ∷ []; cycle = F 0xbfeffffffffffffd ∷ F 0x0000000000000000 ∷ F 0x0000000000000000 ∷ F 0x3feffffffffffffc ∷ []; knots = 1 ∷ []; dual = F 0x3feffffffffffffd ∷ F 0x3feffffffffffffd ∷ F 0x3feffffffffffffd ∷ []; lam_max = F 0x3ff0000000000000; numbers = record { gap = F 0x400ffffffffffffc; first_gap = F 0x400ffffffffffffd; best_gap = F 0x400ffffffffffffd; objective = F 0x4007fffffffffffe; n_iter = 0; improvements = 0; converged = false; reason = GapSmall } }) }
    -- order 1, penalty 1, y (0.0, 5e-15), lam 2e-19, tol 0.996, at most 10 iterations: fit 2 1 1 10 0 1 1 1
    ∷ record { asked = record { y = F 0x0000000000000000 ∷ F 0x3cf6849b86a12b9b ∷ []; lam = F 0x3c0d83c94fb6d2ac; tol = F 0x3fefdf3b645a1cac; max_iter = 10; order = 1; penalty = 1 }; lent = record { trend = 2; cycle = 2; knots = 2; dual = 2; work = 80; marks = 4 }; outcome = fitted (record { trend = F 0x3c0d83c94fb6d2ac ∷ F 0x3cf684607f0e8c2d ∷ []; cycle = F 0xbc0d83c94fb6d2ac ∷ F 0x3c0d83c94fb70000 ∷ []; knots = 0 ∷ []; dual = F 0x3c0d83c94fb6d2ac ∷ []; lam_max = F 0x3ce6849b86a12b9b; numbers = record { gap = F 0xb5d0000000000000; first_gap = F 0x3914c4e977ba1f5c; best_gap = F 0x3914c4e977ba1f5c; objective = F 0x3914c4b305c2e406; n_iter = 10; improvements = 0; converged = true; reason = GapSmall } }) }
    ∷ []

pub known_8 : worked table_8 ≡ stated table_8
unfolding abs_of is_finite max_of min_of clamp_of isqrt_of isqrt nearest_root sqrt_of list sum_to max_to norm2_sq dot sum_abs max_abs diff diff_k diff_t diff_kt less less_from reduced entry placed row_to row rows sound forward_at forward divided back_at back solve gram more more_from product zstar lam_max ridge minus clamped certify threshold places_to knots iterate run diagonal_shift rhs_at dmu1_at dmu2_at residual_square_at step_cap_by system rhs direction residual_square residual_norm step_cap_to stepped along inside_to accepted trials newton_z search_line next_t move problem origin interior_point hold_at free_to compressed less_to compressed_rhs_at solved candidate_at candidate polish sound_l2 trend_l2 scaled objective_l2 dual_l2 gap_l2 finite_to room question path_l2 path_zero path_flat polished search_of kept_of path_end path_l1 path written outcome fit of_bits of_int add sub mul div neg lt le eq is_nan
known_8 = refl

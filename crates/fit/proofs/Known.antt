-- The starred ones of document 01's known fits and edges: worked out from the definitions, and question 3 by its law.
use mathlib.Core.Path.{refl}
use lib.Ieee.{of_bits, of_int, add, sub, mul, div, neg, lt, le, eq, is_nan}
use Rattle.float64.specs.Helpers.{abs_of, is_finite, max_of, min_of, clamp_of}
use Rattle.square_root.specs.Sqrt.{isqrt_of, isqrt, nearest_root, sqrt_of}
use Rattle.vectors.specs.Vec.{list, places_to}
use Rattle.vectors.specs.Sums.{sum_to, max_to, norm2_sq, dot, sum_abs, max_abs, inside_to}
use Rattle.differences.specs.Diff.{diff, diff_k, diff_t, diff_kt}
use Rattle.banded.specs.Rows.{less, less_from, reduced, entry, placed, row_to, row, rows, sound}
use Rattle.banded.specs.Solve.{forward_at, forward, divided, back_at, back, solve}
use Rattle.gram.specs.Gram.{gram, product, zstar, lam_max}
use Rattle.vectors.specs.Sums.{more, more_from}
use Rattle.ridge.specs.Ridge.{ridge}
use Rattle.certificate.specs.Certificate.{minus, clamped, certify}
use Rattle.decomposition.specs.Knots.{threshold, knots}
use Rattle.search.specs.Search.{iterate, run}
use Rattle.newton_system.specs.Newton.{diagonal_shift, rhs_at, residual_square_at, system, rhs, residual_square, residual_norm, newton_z}
use Rattle.direction.specs.Direction.{dmu1_at, dmu2_at, step_cap_by, direction, step_cap_to}
use Rattle.line_search.specs.LineSearch.{stepped, along, accepted, trials, search_line}
use Rattle.interior_point.specs.InteriorPoint.{next_t, move, problem, origin, interior_point}
use Rattle.active_set.specs.ActiveSet.{hold_at, free_to, compressed, less_to, compressed_rhs_at, solved}
use Rattle.polish.specs.Polish.{candidate_at, candidate, polish}
use Rattle.l2.specs.L2.{sound_l2, trend_l2, scaled, objective_l2, dual_l2, gap_l2}
use Rattle.questions.specs.Questions.{finite_to, room, question}
use Rattle.fit.specs.Fit.{path_l2, path_zero, path_flat, polished, search_of, kept_of, path_end, path_l1, path, written, outcome, fit}
use Rattle.fit.specs.Known.{Known}
use Rattle.fit.proofs.Passed.{on, size_passes, size_refused}

pub known : Known
unfolding abs_of is_finite max_of min_of clamp_of isqrt_of isqrt nearest_root sqrt_of list sum_to max_to norm2_sq dot sum_abs max_abs diff diff_k diff_t diff_kt less less_from reduced entry placed row_to row rows sound forward_at forward divided back_at back solve gram more more_from product zstar lam_max ridge minus clamped certify threshold places_to knots iterate run diagonal_shift rhs_at dmu1_at dmu2_at residual_square_at step_cap_by system rhs direction residual_square residual_norm step_cap_to stepped along inside_to accepted trials newton_z search_line next_t move problem origin interior_point hold_at free_to compressed less_to compressed_rhs_at solved candidate_at candidate polish sound_l2 trend_l2 scaled objective_l2 dual_l2 gap_l2 finite_to room question path_l2 path_zero path_flat polished search_of kept_of path_end path_l1 path written outcome fit of_bits of_int add sub mul div neg lt le eq is_nan
known = record { fits = refl; square_roots = refl; passes = size_passes; refuses = λ a l o p h. size_refused a l (on _ o) (on _ p) h }

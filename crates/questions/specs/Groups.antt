-- Each question by itself, and those before `room` in two groups, as our own functions ask them: the first of a group answered no, and 0 where none is.
use Rattle.std.specs.Prelude.{List, Bool, cond, not, ◌&&◌, ℕ, ◌+◌, leb, eqb, length, Float}
use Rattle.std.specs.Float.Ieee.{lt}
use Rattle.float64.specs.Helpers.{is_finite}
use Rattle.float64.specs.Ops.{c0}
use Rattle.questions.specs.declared.Figures.{Figures}
use Rattle.questions.specs.Questions.{Lent, one_or_two, finite_to, ask}

-- question 1, as our own functions ask it
abbrev pub kinds_known : ℕ → ℕ → Bool
kinds_known order penalty = one_or_two order && one_or_two penalty

-- question 2, as our own functions ask it
abbrev pub long_enough : ℕ → ℕ → Bool
long_enough n order = leb (order + 1) n

-- question 3, as our own functions ask it
abbrev pub short_enough : ℕ → Bool
short_enough n = leb n 65536

-- question 4, as our own functions ask it
abbrev pub all_finite : List Float → Bool
all_finite y = finite_to y (length y)

-- question 5, as our own functions ask it
abbrev pub lam_right : Float → Bool
lam_right lam = is_finite lam && not (lt lam c0)

-- question 6, as our own functions ask it
abbrev pub tol_right : Float → Bool
tol_right tol = is_finite tol && lt c0 tol

-- question 7, as our own functions ask it
abbrev pub limit_right : ℕ → Bool
limit_right max_iter = leb 1 max_iter

-- question 8, as our own functions ask it
abbrev pub answer_room : ℕ → Lent → Bool
answer_room n l = leb n l.trend && leb n l.cycle && leb n l.knots && leb n l.dual

-- question 9, as our own functions ask it
abbrev pub scratch_room : Figures → Lent → Bool
scratch_room need l = leb need.work l.work && leb need.marks l.marks

-- 1 to 3
unfoldable pub sizes : ℕ → ℕ → ℕ → ℕ
sizes n order penalty = ask 1 (kinds_known order penalty) (ask 2 (long_enough n order) (ask 3 (short_enough n) 0))

-- 4 to 7
unfoldable pub values : List Float → Float → Float → ℕ → ℕ
values y lam tol max_iter = ask 4 (all_finite y) (ask 5 (lam_right lam) (ask 6 (tol_right tol) (ask 7 (limit_right max_iter) 0)))

-- what a group gives, or where it gives 0 what the next one does
abbrev pub next : ℕ → ℕ → ℕ
next q r = cond (eqb q 0) r q

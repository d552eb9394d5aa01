-- Document 01, "Questions before and during a fit": questions 1 to 9, each true where the answer is yes.
use Rattle.std.specs.Prelude.{Bool, true, cond, not, ◌&&◌, ◌||◌, List, ℕ, zero, suc, ◌+◌, leb, eqb, length, Float}
use Rattle.std.specs.Float.Ieee.{lt}
use Rattle.float64.specs.Helpers.{is_finite}
use Rattle.float64.specs.Ops.{c0}
use Rattle.vectors.specs.Vec.{at}
use Rattle.questions.specs.declared.Figures.{Figures}
use Rattle.questions.specs.Needs.{needs_of}

-- what is asked for: a series, its penalty weight, a tolerance, the limit on iterations, an order and a penalty (1 is L1, 2 is L2)
pub record Asked : Type 0 where
  pub y : List Float
  pub lam : Float
  pub tol : Float
  pub max_iter : ℕ
  pub order : ℕ
  pub penalty : ℕ

-- the lengths lent
pub record Lent : Type 0 where
  pub trend : ℕ
  pub cycle : ℕ
  pub knots : ℕ
  pub dual : ℕ
  pub work : ℕ
  pub marks : ℕ

-- whether x is 1 or 2
abbrev pub one_or_two : ℕ → Bool
one_or_two x = eqb x 1 || eqb x 2

-- whether the first n places are finite
unfoldable pub finite_to : List Float → ℕ → Bool
finite_to y zero = true
finite_to y (suc n) = finite_to y n && is_finite (at y n)

-- what the fit that is asked for needs (document 02, A7)
abbrev pub needs_for : Asked → Figures
needs_for a = needs_of (length a.y) a.max_iter a.penalty

-- a question's number where its answer is no, and else what the rest gives
abbrev pub ask : ℕ → Bool → ℕ → ℕ
ask number answer rest = cond answer rest number

-- 8. Have trend, cycle, knots and dual each at least n places? 9. Have work and marks each the places that the fit needs?
unfoldable pub room : ℕ → Figures → Lent → ℕ
room n need l =
    ask 8 (leb n l.trend && leb n l.cycle && leb n l.knots && leb n l.dual)
    (ask 9 (leb need.work l.work && leb need.marks l.marks) 0)

-- the first question answered no, and 0 where none is
unfoldable pub question : Asked → Lent → ℕ
question a l =
    let n = length a.y in
    -- 1. Are order and penalty each 1 or 2?
    ask 1 (one_or_two a.order && one_or_two a.penalty)
    -- 2. Is n at least order+1?
    (ask 2 (leb (a.order + 1) n)
    -- 3. Is n at most 65,536?
    (ask 3 (leb n 65536)
    -- 4. Is every y finite?
    (ask 4 (finite_to a.y n)
    -- 5. Is lam finite and not below 0? (−0 passes)
    (ask 5 (is_finite a.lam && not (lt a.lam c0))
    -- 6. Is tol finite and above 0?
    (ask 6 (is_finite a.tol && lt c0 a.tol)
    -- 7. Is max_iter at least 1?
    (ask 7 (leb 1 a.max_iter)
    (room n (needs_for a) l)))))))

-- Document 02, A7: how much the fit of a series of n places needs, whatever the series holds: places of work and of marks, and the most steps that its search takes.
use Rattle.std.specs.Prelude.{cond, ℕ, ◌*◌, min, eqb}
use Rattle.questions.specs.declared.Figures.{Figures}

-- by n, max_iter and penalty (1 is L1, 2 is L2)
abbrev pub needs_of : ℕ → ℕ → ℕ → Figures
needs_of n max_iter penalty =
    let l2 = eqb penalty 2 in
    record {
      work = cond l2 (16 * n) (40 * n);
      marks = cond l2 0 (2 * n);
      steps = cond l2 0 (min max_iter 1447640);
    }

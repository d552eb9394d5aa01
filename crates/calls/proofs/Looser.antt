-- Two calls alike but for tol and for the buffers: the looser one's n_iter is not greater. Assumes nothing.
use mathlib.Core.Path.{sym, ◌∙◌}
use native.Mathlib.Omega.{arith}
use Rattle.fit.specs.Fit.{fit}
use Rattle.fit.specs.Looser.{with_tol}
use Rattle.fit.proofs.Looser.{looser_fit}
use Rattle.trend_filter.specs.Answers.{lent}
use Rattle.calls.specs.Looser.{LooserCalls}
use Rattle.calls.proofs.TwoCalls.{came, steps_told}

pub looser_calls : LooserCalls
looser_calls a looser r s b c d e first second t x z p q =
    let f = came (fit a (lent b)) x (sym first.gives.answer ∙ p) in
    let g = came (fit (with_tol looser a) (lent d)) z (sym second.gives.answer ∙ q) in
    let h = looser_fit a looser t (lent b) (lent d) f.result g.result f.is g.is in
    omega (arith, steps_told f.result x f.told, steps_told g.result z g.told, h)

-- The dual point that a call hands out is its fit's. Assumes nothing.
use mathlib.Core.Path.{◌≡◌, sym, ap, subst, ◌∙◌}
use mathlib.Core.List.{List}
use lib.ListN.{take}
use lib.Ieee.{Float}
use Rattle.std.specs.Prelude.{ℕ, Result}
use Rattle.vectors.proofs.Texts.{take_put}
use Rattle.questions.specs.Questions.{Asked}
use Rattle.fit.specs.Outputs.{Outputs}
use Rattle.fit.specs.Fit.{FitResult, Outcome, fitted, places, fit, after}
use Rattle.fit.specs.Duals.{Rechecks}
use Rattle.fit.proofs.Duals.{dual_point}
use Rattle.trend_filter.specs.declared.Summary.{Summary}
use Rattle.trend_filter.specs.Answers.{Buffers, lent, summary_of, Answered}
use Rattle.calls.specs.Duals.{DualCalls}
use Rattle.calls.proofs.TwoCalls.{came}

handed : (a : Asked) (r : Result Summary ℕ) (b c : Buffers) → Answered a r b c → (f : FitResult) → fit a (lent b) ≡ fitted f → take (places a) c.out.dual ≡ f.dual
unfolding after
handed a r b c h f e =
    take_put b.out.dual f.dual (places a) (ap (λ (o : Outputs). o.dual) (h.gives.out ∙ ap (λ (o : Outcome). after o b.out) e)) (h.sizes f e).dual

pub dual_calls : DualCalls
unfolding summary_of
dual_calls a r b c h x t =
    let g = came (fit a (lent b)) x (sym h.gives.answer ∙ t) in
    let told = subst (λ (s : Summary). Rechecks a g.result.dual s.gap s.objective) g.told (dual_point a (lent b) g.result g.is) in
    subst (λ (d : List Float). Rechecks a d x.gap x.objective) (sym (handed a r b c h g.result g.is)) told

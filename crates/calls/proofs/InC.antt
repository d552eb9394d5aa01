-- Two calls from C: 0 means a fit, whose steps are within the ceiling told before. Assumes nothing.
use mathlib.Core.Path.{◌≡◌, refl, sym, ap, ◌∙◌}
use mathlib.Core.List.{List}
use Prim.Native.Nat.{ℕ}
use native.Mathlib.Omega.{arith}
use borrow.Author.Tests.{eqb-false}
use lib.ListN.{get_or}
use Rattle.std.specs.Prelude.{Result, Ok, Err}
use Rattle.questions.specs.declared.Figures.{Figures}
use Rattle.questions.specs.Questions.{needs_for}
use Rattle.questions.specs.Beforehand.{needed_for}
use Rattle.fit.specs.Fit.{fit}
use Rattle.fit.proofs.Passed.{refused_by}
use Rattle.trend_filter.specs.declared.Summary.{Summary}
use Rattle.trend_filter.specs.Answers.{lent, Answered}
use Rattle.trend_filter.specs.Calls.{code_of, counts_of, filled}
use Rattle.trend_filter.specs.Needs.{needs_code, needs_in}
use Rattle.calls.specs.InC.{ForetellingInC, AskedFirstInC}
use Rattle.calls.proofs.Needs.{refused_came, asked_first}

pub asked_first_in_c : AskedFirstInC
asked_first_in_c a q r b c v₀ v u₀ u w₀ w n h = go h.answer h.answered h.told.code h.told.counts
  where
    go : (z : Result Summary ℕ) → Answered a z b c → r ≡ code_of z → u ≡ filled counts_of z u₀ → ForetellingInC q r w u
    go (Err p) d e k =
        -- no refusal has the number 0
        let not0 : r ≡ 0 → ⊥ = λ t. eqb-false p 0 (refused_by a (lent b) p (omega (arith, e, t)) (refused_came (fit a (lent b)) p (sym d.gives.answer))).1 (sym e ∙ t) in
        record { given = λ t. absurd (not0 t); ceiling = λ t. absurd (not0 t) }
    go (Ok x) d e k =
        let f = asked_first (needed_for a) a (Ok x) b c (record { first = refl; second = d }) in
        let g = f.given x refl in
        let told = ap (λ (s : List ℕ). get_or s 2 0) (n.array ∙ ap (λ (s : Result Figures ℕ). needs_in s w₀) g) in
        let counted = ap (λ (s : List ℕ). get_or s 1 0) k in
        record { given = λ t. n.code ∙ ap needs_code g; ceiling = λ t. omega (arith, told, counted, f.ceiling x refl (needs_for a) g) }

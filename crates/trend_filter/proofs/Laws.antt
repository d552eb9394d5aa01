-- Laws of answers: a refusal, and the fit of a prepared series; that past the questions nothing is refused early. Assumes nothing.
use mathlib.Core.Path.{◌≡◌, refl, sym, ap, ap₂, subst, ◌∙◌}
use mathlib.Core.Bool.{Bool, true, cond}
use mathlib.Core.List.{List}
use mathlib.Core.Option.{Option, none, some}
use Prim.Native.Nat.{ℕ}
use native.Mathlib.Omega.{arith}
use borrow.Author.Tests.{ltb-true, eqb-false}
use lib.Ieee.{Float}
use Rattle.std.specs.Prelude as rust
use Rattle.std.specs.Prelude.{Some, None, Result, Ok, Err}
use Rattle.float64.proofs.Clash.{clash}
use Rattle.vectors.proofs.Laws.{kept_none, kept_then}
use Rattle.questions.specs.Questions.{Asked, Lent, needs_for, question}
use Rattle.questions.proofs.Laws.{passed}
use Rattle.fit.specs.Outputs.{Outputs}
use Rattle.fit.specs.Fit.{Found, Outcome, refused, fitted, lam_max_of, path, written, outcome, fit, after}
use Rattle.fit.specs.Ways.{sound_dd}
use Rattle.fit.proofs.Lengths.{lengths}
use Rattle.fit.proofs.Demand3.{bounds}
use Rattle.fit.proofs.Passed.{fit_passed, refused_by}
use Rattle.closed_paths.proofs.Areas.{kept_wide, work_fits}
use Rattle.prepared_fit.specs.declared.Tally.{Tally}
use Rattle.prepared_fit.specs.Begun.{Stops, Readies, Begins}
use Rattle.prepared_fit.specs.Fitted.{AsksFit, tallied, Fitted}
use Rattle.trend_filter.specs.declared.Summary.{Summary}
use Rattle.trend_filter.specs.Answers.{Buffers, lent, summed, summary_of, answer_of, early, Gives, Answered}

-- ---- past the questions

not-early : (a : Asked) (l : Lent) → question a l ≡ 0 → early (fit a l) ≡ true → ⊥
unfolding early
not-early a l e = go (fit a l) refl
  where
    go : (o : Outcome) → fit a l ≡ o → early o ≡ true → ⊥
    go (refused q) p t = let w = refused_by a l q (ltb-true q 10 t) p in eqb-false q 0 w.1 (sym w.0 ∙ e)
    go (fitted f) p t = clash t refl

-- the preparation
sound-fit : (a : Asked) (l : Lent) → question a l ≡ 0 → sound_dd a ≡ true → fit a l ≡ outcome a (path a)
sound-fit a l e s = fit_passed a l e ∙ ap (λ (b : Bool). cond b (outcome a (path a)) (refused 10)) s

-- which way a call began
pub stops : {a : Asked} {l : Lent} {w₀ w : List Float} {q : ℕ} → Begins a l w₀ w (Err q) → Stops a l w₀ w q
unfolding Begins
stops h = h

pub readies : {a : Asked} {l : Lent} {w₀ w : List Float} {top : Float} → Begins a l w₀ w (Ok top) → Readies a l w₀ w top
unfolding Begins
readies h = h

-- ---- the answer

-- what a caller is told of a prepared series, whose lam_max is top
abbrev pub told_of : Float → rust.Option Tally → Result Summary ℕ
told_of top None = Err 10
told_of top (Some t) = Ok (summed t.numbers t.knots top)

same_told : (a : Asked) (o : Option Found) → told_of (lam_max_of a) (tallied a o) ≡ answer_of (outcome a o)
unfolding tallied answer_of outcome summary_of written
same_told a none = refl
same_told a (some f) = refl

module _ (a : Asked) (b : Buffers) (w : List Float) where
  -- a refusal: trend, cycle, knots and dual are as found
  pub answered_refused : (q : ℕ) → Stops a (lent b) b.work w q → Answered a (Err q) b (record { out = b.out; work = w; marks = b.marks })
  unfolding answer_of after early
  answered_refused q s = record {
    gives = subst (λ (o : Outcome). Gives o (Err q) b.out b.out) (sym s.refuses) (record { answer = refl; out = refl });
    unused = λ e. (s.unused (sym (ap early s.refuses) ∙ e), refl);
    scratch = record { work = kept_wide 0 (needs_for a).work s.kept (omega arith) (omega (arith, work_fits a)); marks = kept_none 0 (needs_for a).marks b.marks };
    sizes = lengths a (lent b);
    bounds = bounds a (lent b);
  }

  module _ (top : Float) (h : Readies a (lent b) b.work w top) where
    pub asks-fit : AsksFit a.order a.penalty a.y top b.out w b.marks
    asks-fit =
        let q = passed a (lent b) h.passes in
        let room = q.work in
        let size = h.kept.size in
        record {
          path = record {
            search = record {
              l1 = record { room = record { series = q.series; work = omega (arith, work_fits a) }; cycle = q.cycle; star = h.star; differences = h.differences };
              dual = omega (arith, q.dual);
              marked = q.marks;
            };
            top_is = h.top_is;
          };
          trend = q.trend;
          knots = q.knots;
        }

    pub answered-fit : (z : Result Summary ℕ) (r : rust.Option Tally) (c : Outputs) (v : List Float) (marks : List ℕ) → z ≡ told_of top r → Fitted a r b.out c w v b.marks marks → Answered a z b (record { out = c; work = v; marks = marks })
    answered-fit z r c v marks e f = record {
      gives = subst (λ (o : Outcome). Gives o z b.out c) (sym (sound-fit a (lent b) h.passes h.sound))
          (record { answer = e ∙ ap₂ told_of h.top_is f.tally ∙ same_told a (path a); out = f.out });
      unused = λ t. absurd (not-early a (lent b) h.passes t);
      scratch = record {
        work = kept_then 0 (needs_for a).work h.kept f.work (omega arith) (omega arith) (omega (arith, work_fits a)) (omega (arith, work_fits a));
        marks = f.marked;
      };
      sizes = lengths a (lent b);
      bounds = bounds a (lent b);
    }

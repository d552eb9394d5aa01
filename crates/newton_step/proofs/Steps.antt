-- One Newton step: the system solved, the directions, the line search and what is taken, one after the other. Assumes nothing.
use mathlib.Core.Path.{◌≡◌, sym, ap, ◌∙◌}
use mathlib.Core.Bool.{Bool, true, false}
use mathlib.Core.List.{List}
use Prim.Native.Nat.{ℕ, ◌+◌, ◌*◌}
use native.Mathlib.Omega.{arith}
use lib.Ieee.{Float}
use Rattle.std.specs.Prelude.{Some, None}
use Rattle.vectors.specs.Parts.{Kept, part}
use Rattle.vectors.proofs.Laws.{kept_then, kept_none}
use Rattle.vectors.proofs.Parts.{length_part}
use Rattle.banded.specs.Rows.{sound}
use Rattle.square_root.specs.Sqrt.{sqrt_of}
use Rattle.newton_system.specs.Newton.{NewtonData, system, newton_z, residual_norm}
use Rattle.newton_system.specs.Rows.{data_of}
use Rattle.newton_sweep.specs.Swept.{NewtonSolved}
use Rattle.newton_sweep.specs.declared.Solved.{Solved}
use Rattle.direction.specs.Direction.{direction, step_cap_to}
use Rattle.direction.specs.Places.{Directed}
use Rattle.line_search.specs.LineSearch.{Trial, trials, search_line}
use Rattle.vectors.specs.Sums.{inside}
use Rattle.dual_point.specs.Places.{point}
use Rattle.line_search.specs.Places.{searched_from, Searched}
use Rattle.dual_point.proofs.Points.{point_below, point-part}
use Rattle.newton_step.specs.Stepped.{step_area, Stepped}
use Rattle.newton_step.specs.declared.Step.TheVariants.{Stayed, Moved}

-- how the line search from p ended, said of its end: the step, whether the last trial is inside, and the trial if it is
record LineEnd (lam : Float) (e : Trial) (m : ℕ) (s : List Float) (step : Float) (within : Bool) : Type 0 where
  step_is : e.step ≡ step
  in_bounds : within ≡ inside lam e.point.z
  taken : within ≡ true → point (3 * m) m s ≡ e.point

-- the line search from a point s₀, whose direction and greatest step stand in s₁
line_done : (c : NewtonData) (m b : ℕ) (cap old : Float) (s₀ s₁ s₂ : List Float) (step : Float) (within : Bool)
    → point 0 m s₁ ≡ point 0 m s₀
    → point b m s₁ ≡ direction c.lam c.inv_t (point 0 m s₀) (newton_z c (point 0 m s₀))
    → cap ≡ step_cap_to (point 0 m s₀) (direction c.lam c.inv_t (point 0 m s₀) (newton_z c (point 0 m s₀))) m
    → old ≡ residual_norm c (point 0 m s₀)
    → Searched c m b cap old s₁ s₂ step within
    → LineEnd c.lam (search_line c (point 0 m s₀)) m s₂ step within
unfolding search_line
line_done c m b cap old s₀ s₁ s₂ step within e f h o w =
    let p = point 0 m s₀ in
    let d = direction c.lam c.inv_t p (newton_z c p) in
    let same : searched_from c m b old s₁ 20 cap (point 0 m s₁) ≡ search_line c p =
    (λ i. trials c (e i) (f i) (o i) 20 (h i) (e i)) ∙ sym (λ i. trials c p d (residual_norm c p) 20 (step_cap_to p d (length_part 0 m s₀ i)) p) in
    record {
      step_is = sym (ap (λ (x : Trial). x.step) same) ∙ w.step_is;
      in_bounds = w.in_bounds ∙ ap (λ (x : Trial). inside c.lam x.point.z) same;
      taken = λ y. w.taken y ∙ ap (λ (x : Trial). x.point) same;
    }

-- ---- the whole step

module _ {k : ℕ} {g dy : List Float} {lam inv_t : Float} {m : ℕ} {s₀ s₁ : List Float} {w : Solved} (z : NewtonSolved k g dy lam inv_t (6 * m) m s₀ s₁ w) where
  abbrev c : NewtonData
  c = data_of k g dy lam inv_t

  abbrev all : ℕ
  all = step_area k m

  pub lost_step : w.good ≡ false → Stepped k g dy lam inv_t 0 m s₀ s₁ None
  lost_step f =
      let no : sound k (system k g lam (point 0 m s₀)) m ≡ false = sym z.answer ∙ f in
      record {
        answer = rw no;
        moves = point_below 0 m z.kept (omega arith) ∙ rw no;
        kept = kept_then 0 all z.kept (kept_none 0 0 s₁) (omega arith) (omega arith) (omega arith) (omega arith);
      }

  -- the direction and the line search made: the point stays, or the trial takes its place
  module _ {greatest old step : Float} {within : Bool} {s₂ s₃ : List Float} {b : ℕ} (f : w.good ≡ true) (at_b : b ≡ 6 * m + m * (k + 1))
      (v : Directed lam inv_t b m s₁ s₂ greatest) (o : old ≡ sqrt_of w.acc) (line : Searched c m b greatest old s₂ s₃ step within) where
    yes : sound k (system k g lam (point 0 m s₀)) m ≡ true
    yes = sym z.answer ∙ f

    p₁ : point 0 m s₁ ≡ point 0 m s₀
    p₁ = point_below 0 m z.kept (omega arith)

    p₂ : point 0 m s₂ ≡ point 0 m s₀
    p₂ = point_below 0 m v.kept (omega arith) ∙ p₁

    end : LineEnd lam (search_line c (point 0 m s₀)) m s₃ step within
    unfolding residual_norm
    end =
        let d : part b m s₁ ≡ newton_z c (point 0 m s₀) = rw at_b (z.dz f) in
        line_done c m b greatest old s₀ s₂ s₃ step within p₂ (v.ways ∙ λ i. direction lam inv_t (p₁ i) (d i))
        (v.cap_is ∙ λ i. step_cap_to (p₁ i) (direction lam inv_t (p₁ i) (d i)) m) (o ∙ ap sqrt_of (z.square f)) line

    searched-kept : Kept 0 all s₀ s₃
    searched-kept =
        kept_then 0 all (kept_then 0 all z.kept v.kept (omega arith) (omega arith) (omega arith) (omega arith)) line.kept (omega arith) (omega arith) (omega arith) (omega arith)

    pub stayed-step : within ≡ false → Stepped k g dy lam inv_t 0 m s₀ s₃ (Some (Stayed step))
    stayed-step out =
        let no : inside lam (search_line c (point 0 m s₀)).point.z ≡ false = sym end.in_bounds ∙ out in
        record { answer = rw (yes, no, end.step_is); moves = point_below 0 m line.kept (omega arith) ∙ p₂ ∙ rw (yes, no); kept = searched-kept }

    pub moved-step : {s₄ : List Float} → within ≡ true → part 0 (3 * m) s₄ ≡ part (3 * m) (3 * m) s₃ → Kept 0 (3 * m) s₃ s₄ → Stepped k g dy lam inv_t 0 m s₀ s₄ (Some (Moved step))
    moved-step {s₄} in_b h x =
        let in_bounds : inside lam (search_line c (point 0 m s₀)).point.z ≡ true = sym end.in_bounds ∙ in_b in
        record {
          answer = rw (yes, in_bounds, end.step_is);
          moves = point-part 0 (3 * m) m s₄ s₃ h ∙ end.taken in_b ∙ rw (yes, in_bounds);
          kept = kept_then 0 all searched-kept x (omega arith) (omega arith) (omega arith) (omega arith);
        }

-- The ways through a trial and through the line search. Assumes nothing.
use mathlib.Core.Path.{◌≡◌, refl, sym, ap, ◌∙◌}
use mathlib.Core.List.{List}
use mathlib.Core.Bool.{Bool, true, false}
use Prim.Native.Nat.{ℕ, suc, ◌+◌, ◌-◌, ◌*◌, ◌≤◌, ◌<◌}
use native.Mathlib.Omega.{arith}
use lib.ListN.{length, take, drop}
use lib.Ieee.{Float}
use Rattle.float64.specs.Ops.{◌⊗◌, half}
use Rattle.float64.proofs.Clash.{impossible}
use Rattle.vectors.specs.Sums.{inside}
use Rattle.vectors.specs.Parts.{Kept, Written}
use Rattle.vectors.proofs.Laws.{kept_then, kept_none}
use Rattle.vectors.proofs.Parts.{range_part}
use Rattle.vectors.proofs.Sums.{both}
use Rattle.dual_point.specs.Dual.{Dual}
use Rattle.dual_point.specs.Places.{point}
use Rattle.dual_point.proofs.Points.{point_below, point_above}
use Rattle.newton_system.specs.Newton.{NewtonData, residual_norm}
use Rattle.line_search.specs.LineSearch.{along, sufficient_decrease, accepted, Trial, trials}
use Rattle.line_search.specs.Places.{moved, searched_from, Attempted, Searched}
use Rattle.line_search.proofs.Moves.{written_within, z_moved, all_moved}

module _ (c : NewtonData) where
  accept_yes : (old step : Float) (q : Dual) (low : Bool) → true ≡ inside c.lam q.z → low ≡ sufficient_decrease (residual_norm c q) step old → low ≡ accepted c old q step
  unfolding accepted
  accept_yes old step q low e h = h ∙ rw (← e)

  accept_no : (old step : Float) (q : Dual) → false ≡ inside c.lam q.z → false ≡ accepted c old q step
  unfolding accepted
  accept_no old step q e = rw (← e)

  -- what is accepted is inside
  accepted-inside : (old step : Float) (q : Dual) → accepted c old q step ≡ true → inside c.lam q.z ≡ true
  unfolding accepted
  accepted-inside old step q h = (both (inside c.lam q.z) (sufficient_decrease (residual_norm c q) step old) h).0

  -- z of the trial made: it is inside, the rest is made and its residual taken, or it is not
  module _ (m b : ℕ) (step old : Float) (s₀ s₁ : List Float) (w : Written (3 * m + 0) (3 * m + m) (moved b (3 * m) step s₀) s₀ s₁) (long : 3 * m + m ≤ length s₁) where
    z-inside : {y : Bool} → y ≡ inside c.lam (take (3 * m + m - 3 * m) (drop (3 * m) s₁)) → y ≡ inside c.lam (along (point 0 m s₀) (point b m s₀) step).z
    z-inside e = e ∙ ap (inside c.lam) (range_part (3 * m) (3 * m + m) m s₁ refl long ∙ z_moved m b step s₀ s₁ w)

    pub trial-inside : {s₂ s₃ : List Float} {low : Bool} → true ≡ inside c.lam (take (3 * m + m - 3 * m) (drop (3 * m) s₁)) → 6 * m ≤ b
        → Written (3 * m + m) (3 * m + 3 * m) (moved b (3 * m) step s₁) s₁ s₂
        → low ≡ sufficient_decrease (residual_norm c (point (3 * m) m s₂)) step old → Kept (6 * m) m s₂ s₃ → Attempted c m b step old s₀ s₃ true low
    trial-inside {s₂} {low = low} y o v h k =
        let made = all_moved m b step s₀ s₁ w s₂ o v in
        record {
          in_bounds = z-inside y;
          taken = λ _. point_below (3 * m) m k (omega arith) ∙ made.0;
          accepts = accept_yes old step (along (point 0 m s₀) (point b m s₀) step) low (z-inside y)
              (h ∙ ap (λ (p : Dual). sufficient_decrease (residual_norm c p) step old) made.0);
          kept = kept_then (3 * m) (4 * m) made.1 k (omega arith) (omega arith) (omega arith) (omega arith);
        }

    pub trial-outside : false ≡ inside c.lam (take (3 * m + m - 3 * m) (drop (3 * m) s₁)) → Attempted c m b step old s₀ s₁ false false
    trial-outside y = record {
      in_bounds = z-inside y;
      taken = λ t. impossible cc;
      accepts = accept_no old step (along (point 0 m s₀) (point b m s₀) step) (z-inside y);
      kept = written_within (3 * m) (4 * m) w (omega arith) (omega arith);
    }

  -- one trial of the definition: accepted, or not
  trial_stop : (p d : Dual) (old : Float) (n : ℕ) (step : Float) (last : Dual) → accepted c old (along p d step) step ≡ true
      → trials c p d old (suc n) step last ≡ record { point = along p d step; step = step }
  unfolding trials
  trial_stop p d old n step last h = rw h

  trial_go : (p d : Dual) (old : Float) (n : ℕ) (step : Float) (last : Dual) → accepted c old (along p d step) step ≡ false
      → trials c p d old (suc n) step last ≡ trials c p d old n (step ⊗ half) (along p d step)
  unfolding trials
  trial_go p d old n step last h = rw h

  -- after i trials: the last of them, whether it is inside, and inside that it stands after the point
  pub record Searching (m b : ℕ) (cap old : Float) (s₀ s : List Float) (step : Float) (within : Bool) (i : ℕ) : Type 0 where
    pub some : i ≤ 20
    pub kept : Kept (3 * m) (4 * m) s₀ s
    pub last : Dual
    pub left : searched_from c m b old s₀ 20 cap (point 0 m s₀) ≡ searched_from c m b old s₀ (20 - i) step last
    pub in_bounds : 0 < i → within ≡ inside c.lam last.z
    pub taken : 0 < i → within ≡ true → point (3 * m) m s ≡ last

  pub begins : (m b : ℕ) (cap old : Float) (s : List Float) → Searching m b cap old s s cap false 0
  begins m b cap old s = record {
    some = omega arith;
    kept = kept_none (3 * m) (4 * m) s;
    last = point 0 m s;
    left = refl;
    in_bounds = λ h. absurd (omega arith);
    taken = λ h. absurd (omega arith);
  }

  module _ (m b : ℕ) (cap old : Float) (s₀ s s' : List Float) (step : Float) (last : Bool) (i : ℕ) (w : Searching m b cap old s₀ s step last i)
      (within good : Bool) (room : 7 * m ≤ b) (h : i < 20) (t : Attempted c m b step old s s' within good) where
    -- the trial, from the first point
    abbrev trial : Dual
    trial = along (point 0 m s₀) (point b m s₀) step

    same : along (point 0 m s) (point b m s) step ≡ trial
    same = λ j. along (point_below 0 m w.kept (omega arith) j) (point_above b m w.kept (omega arith) j) step

    more-kept : Kept (3 * m) (4 * m) s₀ s'
    more-kept = kept_then (3 * m) (4 * m) w.kept t.kept (omega arith) (omega arith) (omega arith) (omega arith)

    answer : good ≡ accepted c old (trial) step
    answer = t.accepts ∙ ap (λ (q : Dual). accepted c old q step) same

    in_bounds : within ≡ inside c.lam trial.z
    in_bounds = t.in_bounds ∙ ap (λ (q : Dual). inside c.lam q.z) same

    left : searched_from c m b old s₀ 20 cap (point 0 m s₀) ≡ searched_from c m b old s₀ (suc (20 - (i + 1))) step w.last
    left = let e : 20 - i ≡ suc (20 - (i + 1)) = omega arith in w.left ∙ rw e

    pub goes : good ≡ false → Searching m b cap old s₀ s' (step ⊗ half) within (i + 1)
    goes f = record {
      some = omega arith;
      kept = more-kept;
      last = trial;
      left = left ∙ trial_go (point 0 m s₀) (point b m s₀) old (20 - (i + 1)) step w.last (sym answer ∙ f);
      in_bounds = λ _. in_bounds;
      taken = λ _ y. t.taken y ∙ same;
    }

    pub stops : good ≡ true → Searched c m b cap old s₀ s' step true
    stops f =
        let a = sym answer ∙ f in
        let e = left ∙ trial_stop (point 0 m s₀) (point b m s₀) old (20 - (i + 1)) step w.last a in
        let y = accepted-inside old step (trial) a in
        record {
          step_is = ap (λ (x : Trial). x.step) e;
          in_bounds = sym (ap (λ (x : Trial). inside c.lam x.point.z) e ∙ y);
          taken = λ _. t.taken (in_bounds ∙ y) ∙ same ∙ sym (ap (λ (x : Trial). x.point) e);
          kept = more-kept;
        }

  pub exhausted : (m b : ℕ) (cap old : Float) (s₀ s : List Float) (step : Float) (within : Bool) → Searching m b cap old s₀ s step within 20
      → Searched c m b cap old s₀ s step within
  unfolding trials
  exhausted m b cap old s₀ s step within w = record {
    step_is = ap (λ (x : Trial). x.step) w.left;
    in_bounds = w.in_bounds (omega arith) ∙ sym (ap (λ (x : Trial). inside c.lam x.point.z) w.left);
    taken = λ y. w.taken (omega arith) y ∙ sym (ap (λ (x : Trial). x.point) w.left);
    kept = w.kept;
  }

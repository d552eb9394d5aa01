-- How the code's account follows the definition of the search. Assumes nothing.
use mathlib.Core.Path.{◌≡◌, refl, sym, ap, ◌∙◌}
use mathlib.Core.Bool.{Bool, true, false, cond}
use mathlib.Core.List.{List}
use Prim.Native.Nat.{ℕ, suc, ◌+◌, ◌-◌, ◌≤◌, ◌<◌}
use native.Mathlib.Numerals.{add-one}
use native.Mathlib.Omega.{arith}
use borrow.Author.Tests.{ltb-true, ltb-false}
use lib.Dec.{eqb, ltb}
use Rattle.std.specs.Prelude.{Option, Some, None}
use lib.ListN.{length}
use lib.Ieee.{Float, nan, lt, le}
use Rattle.float64.proofs.Clash.{impossible}
use Rattle.float64.specs.Ops.{◌⊖◌, ◌⊗◌, ◌⊘◌, c0, c0·99, c1, c1e_10, infinity}
use Rattle.vectors.specs.Vec.{at}
use Rattle.vectors.specs.Parts.{Kept, part_of, part, Written}
use Rattle.vectors.specs.Sums.{inside}
use Rattle.vectors.proofs.Laws.{kept_then, kept_none, list_ext, written_kept}
use Rattle.vectors.proofs.Parts.{length_part, part_below, part_above}
use Rattle.differences.specs.Diff.{diff_k, gram_row}
use Rattle.banded.specs.Rows.{sound}
use Rattle.certificate.specs.Certificate.{certify, gap_of}
use Rattle.certificate.specs.Run.{Certified}
use Rattle.search.specs.declared.Reason.{Reason}
use Rattle.search.specs.declared.Reason.TheVariants.{GapSmall, LimitSpent, Stalled, PivotLost}
use Rattle.search.specs.Search.{lost, moved, Problem, Point, Ended, gap, ended, enough, improved, advance, start_at, run}
use Rattle.search.proofs.Trace.{run_small, run_spent, run_stalled, run_lost, run_moved, idle_room}
use Rattle.dual_point.specs.Dual.{Dual}
use Rattle.newton_system.specs.Newton.{system}
use Rattle.newton_system.specs.Rows.{data_of}
use Rattle.line_search.specs.LineSearch.{Trial, search_line, next_point}
use Rattle.dual_point.specs.Lanes.{search_area}
use Rattle.dual_point.specs.Places.{point}
use Rattle.dual_point.proofs.Points.{point_above}
use Rattle.newton_step.specs.Stepped.{step_area, step_of, Stepped}
use Rattle.newton_step.specs.declared.Step.{Step}
use Rattle.newton_step.specs.declared.Step.TheVariants.{Stayed, Moved}
use Rattle.interior_point.specs.InteriorPoint.{State, next_t, move, problem, origin, interior_point}
use Rattle.interior_point.specs.Account.{landed, state_of, point_of, Standing, Started, left_of, test_by, test_of, improves, lost_run, Settled, Turnable, Turned, search_of, Found}
use Rattle.interior_point.specs.declared.Run.{Run}
use Rattle.interior_point.proofs.Places.{step_small}

-- the account of the start, where v is its gap
abbrev pub start_run : Float → Float → Run
start_run v p = record { t = c1e_10; step = infinity; gap = v; primal = p; first = v; best = v; n_iter = 0; improvements = 0; stalled = 0; lost = false }

-- what a step's answer says: whether the pivots are sound, whether the last trial is inside, and the step
was_lost : (a b : Bool) (x : Float) → step_of a b x ≡ None → a ≡ false
was_lost false b x e = refl
was_lost true false x e = impossible cc
was_lost true true x e = impossible cc

was_stayed : (a b : Bool) (x step : Float) → step_of a b x ≡ Some (Stayed step) → (a ≡ true) × (b ≡ false) × (x ≡ step)
was_stayed false b x step e = impossible cc
was_stayed true false x step e = (refl, refl, cc)
was_stayed true true x step e = impossible cc

was_moved : (a b : Bool) (x step : Float) → step_of a b x ≡ Some (Moved step) → (a ≡ true) × (b ≡ true) × (x ≡ step)
was_moved false b x step e = impossible cc
was_moved true false x step e = impossible cc
was_moved true true x step e = (refl, refl, cc)

-- what is so where another iteration is made
pub record GoesOn (a b c d : Bool) : Type 0 where
  pub found : a ≡ false
  pub wide : b ≡ false
  pub within : c ≡ true
  pub lively : d ≡ false

go_on : (a b c d : Bool) → test_by a b c d ≡ None → GoesOn a b c d
go_on true b c d e = impossible cc
go_on false true c d e = impossible cc
go_on false false false d e = impossible cc
go_on false false true true e = impossible cc
go_on false false true false e = record { found = refl; wide = refl; within = refl; lively = refl }

-- the search ended at p, and why
pub record EndsAt (e : Ended State) (p : Point State) (why : Reason) : Type 0 where
  pub state : p.state ≡ e.state
  pub n_iter : p.n_iter ≡ e.n_iter
  pub first : p.first ≡ e.first
  pub best : p.best ≡ e.best
  pub improvements : p.improvements ≡ e.improvements
  pub reason : why ≡ e.reason

ended_at : (e : Ended State) (p : Point State) (r why : Reason) → ended p r ≡ e → Some r ≡ Some why → EndsAt e p why
ended_at e p r why q s = record {
  state = ap (λ (x : Ended State). x.state) q;
  n_iter = ap (λ (x : Ended State). x.n_iter) q;
  first = ap (λ (x : Ended State). x.first) q;
  best = ap (λ (x : Ended State). x.best) q;
  improvements = ap (λ (x : Ended State). x.improvements) q;
  reason = (let h : why ≡ r = cc in h) ∙ ap (λ (x : Ended State). x.reason) q;
}

module _ (L : Problem State) (tol : Float) (max_iter : ℕ) (e : Ended State) (p : Point State) (gone : Bool) (why : Reason) (h : p.n_iter ≤ max_iter) (left : left_of L tol (max_iter - p.n_iter) p gone ≡ e) where
  -- no pivot was lost: what is left ends in e
  rest : gone ≡ false → run L tol (max_iter - p.n_iter) p ≡ e
  rest u = sym (ap (left_of L tol (max_iter - p.n_iter) p) u) ∙ left

  pub finish : (a b c d : Bool) → gone ≡ a → enough L tol p ≡ b → ltb p.n_iter max_iter ≡ c → eqb p.stall 10 ≡ d
      → test_by a b c d ≡ Some why → EndsAt e p why
  finish true b c d u v w x q = ended_at e p PivotLost why (sym (ap (left_of L tol (max_iter - p.n_iter) p) u) ∙ left) q
  finish false true c d u v w x q = ended_at e p GapSmall why (sym (run_small L tol (max_iter - p.n_iter) p v) ∙ rest u) q
  finish false false false d u v w x q =
      let o : max_iter ≤ p.n_iter = ltb-false p.n_iter max_iter w in
      let z : max_iter - p.n_iter ≡ 0 = omega arith in
      ended_at e p LimitSpent why (sym (run_spent L tol p v) ∙ sym (ap (λ (j : ℕ). run L tol j p) z) ∙ rest u) q
  finish false false true true u v w x q =
      let o : p.n_iter < max_iter = ltb-true p.n_iter max_iter w in
      let z : max_iter - p.n_iter ≡ suc (max_iter - suc p.n_iter) = omega arith in
      ended_at e p Stalled why (sym (run_stalled L tol (max_iter - suc p.n_iter) p v x) ∙ sym (ap (λ (j : ℕ). run L tol j p) z) ∙ rest u) q
  finish false false true false u v w x q = impossible cc

-- n is the length of the series and m of the dual point
module _ (k : ℕ) (y : List Float) (lam : Float) where
  abbrev n : ℕ
  n = length y

  abbrev m : ℕ
  m = length y - k

  -- ---- the certificate

  -- the certificate at z, which is still the z of the point in s
  stands_at : (s d z : List Float) (r : Run) → z ≡ part n m s → part 0 n s ≡ (certify k y lam z).trend → part 0 m d ≡ (certify k y lam z).zc → r.primal ≡ (certify k y lam z).primal
      → r.gap ≡ gap_of (certify k y lam z) → Standing k y lam s d r
  stands_at s d z r e f g h v = record {
    trend = f ∙ λ i. (certify k y lam (e i)).trend;
    dual = g ∙ λ i. (certify k y lam (e i)).zc;
    primal = h ∙ λ i. (certify k y lam (e i)).primal;
    gap = v ∙ λ i. gap_of (certify k y lam (e i));
  }

  -- what the certificate wrote, for an account of its P and gap
  certified : {s₀ s d₀ d : List Float} {p q : Float} → Certified k y lam s₀ s d₀ d p q → (r : Run) → r.primal ≡ p → r.gap ≡ p ⊖ q → Standing k y lam s d r
  certified {s₀} {s} {d₀} {d} c r e f =
      stands_at s d (part n m s₀) r (sym (part_above nan n m c.kept (omega arith))) c.trend c.zc_is (e ∙ c.primal_is) (f ∙ λ i. c.primal_is i ⊖ c.dual_is i)

  -- then the definition's test of the gap is the code's
  enough_is : {s d : List Float} {r : Run} (g : List Float) (tol : Float) → Standing k y lam s d r → enough (problem k g y lam) tol (point_of k y s r) ≡ le r.gap (tol ⊗ r.primal)
  unfolding problem
  enough_is g tol w = sym (λ i. le (w.gap i) (tol ⊗ w.primal i))

  -- ---- the start

  -- z, mu1 and mu2 filled, and then the trend written
  origin_stands : (s₀ s₁ s₂ s₃ : List Float) → Written n (n + m) (λ j. c0) s₀ s₁ → Written (n + m) (n + m + m + m) (λ j. c1) s₁ s₂ → Kept 0 n s₂ s₃
      → point n m s₃ ≡ (origin m).point
  unfolding origin part_of
  origin_stands s₀ s₁ s₂ s₃ v w f = λ i. record {
    z = list_ext m (λ j. at s₃ (n + j)) (λ j. c0) (λ j l. f.above (n + j) (omega arith) ∙ w.below (n + j) (omega arith) ∙ v.inside (n + j) (omega arith) (omega arith)) i;
    mu1 = list_ext m (λ j. at s₃ (n + m + j)) (λ j. c1) (λ j l. f.above (n + m + j) (omega arith) ∙ w.inside (n + m + j) (omega arith) (omega arith)) i;
    mu2 = list_ext m (λ j. at s₃ (n + m + m + j)) (λ j. c1) (λ j l. f.above (n + m + m + j) (omega arith) ∙ w.inside (n + m + m + j) (omega arith) (omega arith)) i;
  }

  start_is : (g s : List Float) (v p : Float) → point n m s ≡ (origin m).point → v ≡ gap_of (certify k y lam (part n m s))
      → point_of k y s (start_run v p) ≡ start_at (problem k g y lam) (origin m)
  unfolding problem origin
  start_is g s v p e f = λ i. record {
    state = record { point = e i; t = c1e_10; step = infinity };
    n_iter = 0;
    first = (f ∙ λ j. gap_of (certify k y lam (e j).z)) i;
    best = (f ∙ λ j. gap_of (certify k y lam (e j).z)) i;
    improvements = 0;
    stall = 0;
  }

  -- the fills, and then the certificate
  pub started : {s₀ s₁ s₂ s₃ d₀ d : List Float} {p q : Float} → Written n (n + m) (λ j. c0) s₀ s₁ → Written (n + m) (n + m + m + m) (λ j. c1) s₁ s₂ → Certified k y lam s₂ s₃ d₀ d p q
      → Started k y lam s₀ s₃ d₀ d (start_run (p ⊖ q) p)
  started {s₀} {s₁} {s₂} {s₃} {d₀} {d} {p} {q} v w c =
      let stands = certified c (start_run (p ⊖ q) p) refl refl in
      let b : Kept (n + m) (m + m) s₁ s₂ = record { size = w.size; below = w.below; above = λ j u. w.above j (omega arith) } in
      let a = kept_then 0 (search_area n) (written_kept v) b (omega arith) (omega arith) (omega arith) (omega arith) in
      record {
        begins = λ g. start_is g s₃ (p ⊖ q) p (origin_stands s₀ s₁ s₂ s₃ v w c.kept) stands.gap;
        standing = stands;
        lost = refl;
        kept = kept_then 0 (search_area n) a c.kept (omega arith) (omega arith) (omega arith) (omega arith);
        dual_kept = c.dual_kept;
      }

  -- ---- one iteration

  -- the move of the definition, t₁ being the next t
  move_is : (g : List Float) (st : State) (v t₁ : Float) → length st.point.z ≡ m → t₁ ≡ next_t m v st
      → move k g y lam v st ≡ cond (sound k (system k g lam st.point) m) (moved (landed lam st t₁ (search_line (data_of k g (diff_k k y) lam (c1 ⊘ t₁)) st.point))) lost
  unfolding move
  move_is g st v t₁ l f =
      let q : next_t (length st.point.z) v st ≡ t₁ = (λ i. next_t (l i) v st) ∙ sym f in
      λ i. cond (sound k (system k g lam st.point) (l i)) (moved (landed lam st (q i) (search_line (data_of k g (diff_k k y) lam (c1 ⊘ q i)) st.point))) lost

  module _ {dy g s₀ s₁ d₀ : List Float} {r : Run} {t₁ : Float} {w : Option Step} (pre : Turnable k y dy lam s₀ d₀ r)
      (next : (p : Dual) → t₁ ≡ next_t m r.gap (record { point = p; t = r.t; step = r.step })) (stepped : Stepped k g (diff_k k y) lam (c1 ⊘ t₁) n m s₀ s₁ w) where
    abbrev stands : Standing k y lam s₀ d₀ r
    stands = pre.standing

    room : n + step_area k m ≤ search_area n
    room = step_small k m n pre.ready.series.order.high (omega arith)

    -- the line search of the step
    abbrev line : Trial
    line = search_line (data_of k g (diff_k k y) lam (c1 ⊘ t₁)) (point n m s₀)

    abbrev L : Problem State
    L = problem k g y lam

    -- its pivots are sound, and its last trial is inside the bounds
    abbrev firm : Bool
    firm = sound k (system k g lam (point n m s₀)) m

    abbrev within : Bool
    within = inside lam line.point.z

    by_flag : (b : Bool) → firm ≡ b → L.move (gap L (state_of k y s₀ r)) (state_of k y s₀ r) ≡ cond b (moved (landed lam (state_of k y s₀ r) t₁ line)) lost
    unfolding problem
    by_flag b e =
        (λ i. move k g y lam (sym stands.gap i) (state_of k y s₀ r))
        ∙ move_is g (state_of k y s₀ r) r.gap t₁ (length_part n m s₀) (next (point n m s₀))
        ∙ λ i. cond (e i) (moved (landed lam (state_of k y s₀ r) t₁ line)) lost

    -- where the point is as it was, so is its certificate
    unmoved : point n m s₁ ≡ point n m s₀ → (x : Run) → x.primal ≡ r.primal → x.gap ≡ r.gap → Standing k y lam s₁ d₀ x
    unmoved same x p v =
        stands_at s₁ d₀ (part n m s₀) x (ap (λ (q : Dual). q.z) (sym same)) (part_below nan 0 n stepped.kept (omega arith) ∙ stands.trend) stands.dual (p ∙ stands.primal) (v ∙ stands.gap)

    step_kept : Kept 0 (search_area n) s₀ s₁
    step_kept = kept_then 0 (search_area n) stepped.kept (kept_none 0 0 s₁) (omega arith) (omega arith) (omega (arith, room)) (omega arith)

    -- a lost pivot
    pub turned-lost : w ≡ None → Turned k g y lam s₀ s₁ d₀ d₀ r (lost_run r)
    turned-lost e =
        let b : firm ≡ false = was_lost firm within line.step (sym stepped.answer ∙ e) in
        let same : point n m s₁ ≡ point n m s₀ = stepped.moves ∙ rw b in
        record {
          ahead = λ tol j q f. run_lost L tol j (point_of k y s₀ r) (enough_is g tol stands ∙ q) f (by_flag false b)
              ∙ λ i. record { state = record { point = sym same i; t = r.t; step = r.step }; n_iter = sym (add-one r.n_iter) i; first = r.first; best = r.best; improvements = r.improvements; reason = PivotLost };
          standing = unmoved same (lost_run r) refl refl;
          n_iter = refl;
          improvements = omega arith;
          stall = omega arith;
          kept = step_kept;
          dual_kept = kept_none 0 m d₀;
        }

    -- a step that ended with p and the gap v, which are those of the point that stands in s
    module _ {step p v : Float} {s d : List Float} {x : Run} (new : Settled r t₁ step p v x) (after : Standing k y lam s d x)
        (sure : firm ≡ true) (there : point n m s ≡ point n m s₁) (len : line.step ≡ step) where
      gap_is : v ≡ gap L (state_of k y s x)
      unfolding problem
      gap_is = sym new.gap ∙ after.gap

      improved-is : improved L (point_of k y s₀ r) (state_of k y s x) ≡ improves r v
      improved-is = λ i. lt (sym gap_is i) (c0·99 ⊗ r.best)

      advanced : (b : Bool) → improves r v ≡ b → point_of k y s x ≡ advance L (point_of k y s₀ r) (state_of k y s x) b
      advanced true e = λ i. record {
        state = state_of k y s x;
        n_iter = (new.n_iter ∙ add-one r.n_iter) i;
        first = new.first i;
        best = (new.best ∙ (λ j. cond (e j) v r.best) ∙ gap_is) i;
        improvements = (new.improvements ∙ (λ j. cond (e j) (r.improvements + 1) r.improvements) ∙ add-one r.improvements) i;
        stall = (new.stall ∙ λ j. cond (e j) 0 (r.stalled + 1)) i;
      }
      advanced false e = λ i. record {
        state = state_of k y s x;
        n_iter = (new.n_iter ∙ add-one r.n_iter) i;
        first = new.first i;
        best = (new.best ∙ λ j. cond (e j) v r.best) i;
        improvements = (new.improvements ∙ λ j. cond (e j) (r.improvements + 1) r.improvements) i;
        stall = (new.stall ∙ (λ j. cond (e j) 0 (r.stalled + 1)) ∙ add-one r.stalled) i;
      }

      at_most : (b : Bool) (a c : ℕ) → c ≤ a → cond b a c ≤ a
      at_most true a c h = omega arith
      at_most false a c h = h

      landed_at : L.move (gap L (state_of k y s₀ r)) (state_of k y s₀ r) ≡ moved (state_of k y s x)
      landed_at =
          let q : point n m s ≡ next_point lam (point n m s₀) line = there ∙ stepped.moves ∙ rw sure in
          by_flag true sure ∙ λ i. moved (record { point = sym q i; t = sym new.t i; step = (len ∙ sym new.step) i })

      turned : Kept 0 n s₁ s → Kept 0 m d₀ d → Turned k g y lam s₀ s d₀ d r x
      turned u z = record {
        ahead = λ tol j h f. run_moved L tol j (point_of k y s₀ r) (state_of k y s x) (improves r v) (enough_is g tol stands ∙ h) f
            landed_at improved-is
            ∙ sym (ap (run L tol j) (advanced (improves r v) refl))
            ∙ sym (ap (left_of L tol j (point_of k y s x)) new.lost);
        standing = after;
        n_iter = new.n_iter;
        improvements = rw new.improvements (at_most (improves r v) (r.improvements + 1) r.improvements (omega arith));
        stall = rw new.stall (no_more (improves r v));
        kept = kept_then 0 (search_area n) stepped.kept u (omega arith) (omega arith) (omega (arith, room)) (omega arith);
        dual_kept = z;
      }
        where
          no_more : (b : Bool) → cond b 0 (r.stalled + 1) ≤ r.stalled + 1
          no_more true = omega arith
          no_more false = omega arith

    -- the point stayed, and so did its P and gap
    pub turned-stayed : {step : Float} {x : Run} → Settled r t₁ step r.primal r.gap x → w ≡ Some (Stayed step) → Turned k g y lam s₀ s₁ d₀ d₀ r x
    turned-stayed {step} {x} new e =
        let b = was_stayed firm within line.step step (sym stepped.answer ∙ e) in
        let same : point n m s₁ ≡ point n m s₀ = stepped.moves ∙ rw (b.0, b.1) in
        turned new (unmoved same x new.primal new.gap) b.0 refl b.2 (kept_none 0 n s₁) (kept_none 0 m d₀)

    -- the point moved: it is inside the bounds, and then has its certificate
    module _ {step : Float} (e : w ≡ Some (Moved step)) where
      sure_in : (firm ≡ true) × (within ≡ true) × (line.step ≡ step)
      sure_in = was_moved firm within line.step step (sym stepped.answer ∙ e)

      pub moved_inside : inside lam (part n m s₁) ≡ true
      moved_inside = let there : point n m s₁ ≡ line.point = stepped.moves ∙ rw (sure_in.0, sure_in.1) in ap (λ (q : Dual). inside lam q.z) there ∙ sure_in.1

      pub turned-moved : {s d : List Float} {p q : Float} {x : Run} → Certified k y lam s₁ s d₀ d p q → Settled r t₁ step p (p ⊖ q) x → Turned k g y lam s₀ s d₀ d r x
      turned-moved {x = x} c new =
          turned new (certified c x new.primal new.gap) sure_in.0 (point_above n m c.kept (omega arith)) sure_in.2 c.kept c.dual_kept

  -- ---- the loop

  -- what holds before each iteration: what is left of the search is the whole
  pub record Looping (g : List Float) (tol : Float) (max_iter : ℕ) (s₀ s d₀ d : List Float) (r : Run) : Type 0 where
    pub left : left_of (problem k g y lam) tol (max_iter - r.n_iter) (point_of k y s r) r.lost ≡ run (problem k g y lam) tol max_iter (start_at (problem k g y lam) (origin m))
    pub standing : Standing k y lam s d r
    pub within : r.n_iter ≤ max_iter
    pub fewer : r.improvements ≤ r.n_iter
    pub idle : r.stalled ≤ 10
    pub kept : Kept 0 (search_area n) s₀ s
    pub dual_kept : Kept 0 m d₀ d

  pub loop_starts : {g : List Float} {tol : Float} {max_iter : ℕ} {s₀ s d₀ d : List Float} {r : Run} → Started k y lam s₀ s d₀ d r → Looping g tol max_iter s s d d r
  loop_starts {g} {tol} {max_iter} {s = s} {d = d} {r = r} w =
      let e = w.begins g in
      let none : r.n_iter ≡ 0 = ap (λ (p : Point State). p.n_iter) e in
      let gains : r.improvements ≡ 0 = ap (λ (p : Point State). p.improvements) e in
      let stall : r.stalled ≡ 0 = ap (λ (p : Point State). p.stall) e in
      let all : max_iter - r.n_iter ≡ max_iter = omega arith in
      record {
        left = ap (left_of (problem k g y lam) tol (max_iter - r.n_iter) (point_of k y s r)) w.lost ∙ λ i. run (problem k g y lam) tol (all i) (e i);
        standing = w.standing;
        within = omega arith;
        fewer = omega arith;
        idle = omega arith;
        kept = kept_none 0 (search_area n) s;
        dual_kept = kept_none 0 m d;
      }

  module _ {g : List Float} {tol : Float} {max_iter : ℕ} {s₀ s d₀ d : List Float} {r : Run} (w : Looping g tol max_iter s₀ s d₀ d r) where
    abbrev P : Problem State
    P = problem k g y lam

    goes_on : test_of r tol max_iter ≡ None → GoesOn r.lost (le r.gap (tol ⊗ r.primal)) (ltb r.n_iter max_iter) (eqb r.stalled 10)
    goes_on h = go_on r.lost (le r.gap (tol ⊗ r.primal)) (ltb r.n_iter max_iter) (eqb r.stalled 10) h

    pub still : test_of r tol max_iter ≡ None → r.n_iter < max_iter
    still h = ltb-true r.n_iter max_iter (goes_on h).within

    pub loop-goes : {s' d' : List Float} {x : Run} → test_of r tol max_iter ≡ None → Turned k g y lam s s' d d' r x → Looping g tol max_iter s₀ s' d₀ d' x
    loop-goes {s'} {d'} {x} h t =
        let o = goes_on h in
        let b = still h in
        let c = t.n_iter in
        let one : max_iter - r.n_iter ≡ suc (max_iter - x.n_iter) = omega arith in
        let f : suc r.stalled ≤ 10 = idle_room r.stalled w.idle o.lively in
        record {
          left = sym (t.ahead tol (max_iter - x.n_iter) o.wide o.lively)
              ∙ sym (ap (λ (j : ℕ). run P tol j (point_of k y s r)) one)
              ∙ sym (ap (left_of P tol (max_iter - r.n_iter) (point_of k y s r)) o.found)
              ∙ w.left;
          standing = t.standing;
          within = omega arith;
          fewer = omega (arith, t.improvements, w.fewer);
          idle = omega (arith, t.stall);
          kept = kept_then 0 (search_area n) w.kept t.kept (omega arith) (omega arith) (omega arith) (omega arith);
          dual_kept = kept_then 0 m w.dual_kept t.dual_kept (omega arith) (omega arith) (omega arith) (omega arith);
        }

    loop-ends : (why : Reason) → test_of r tol max_iter ≡ Some why → EndsAt (run P tol max_iter (start_at P (origin m))) (point_of k y s r) why
    loop-ends why h =
        finish P tol max_iter (run P tol max_iter (start_at P (origin m))) (point_of k y s r) r.lost why w.within w.left
        r.lost (le r.gap (tol ⊗ r.primal)) (ltb r.n_iter max_iter) (eqb r.stalled 10) refl (enough_is g tol w.standing) refl refl h

  -- the whole search
  pub all_found : {g : List Float} {tol : Float} {max_iter : ℕ} {s₀ s₁ s d₀ d₁ d : List Float} {r₁ r : Run} {why : Reason} → g ≡ gram_row k → Started k y lam s₀ s₁ d₀ d₁ r₁
      → Looping g tol max_iter s₁ s d₁ d r → test_of r tol max_iter ≡ Some why → Found k y lam tol max_iter s₀ s d₀ d (record { run = r; reason = why })
  unfolding interior_point
  all_found {g} {tol} {max_iter} {s = s} {why = why} isg v w h =
      let e = loop-ends w why h in
      let q : run (problem k g y lam) tol max_iter (start_at (problem k g y lam) (origin m)) ≡ search_of k y lam tol max_iter =
      λ i. run (problem k (isg i) y lam) tol max_iter (start_at (problem k (isg i) y lam) (origin m)) in
      let p : point n m s ≡ (search_of k y lam tol max_iter).state.point = ap (λ (x : State). x.point) e.state ∙ ap (λ (x : Ended State). x.state.point) q in
      record {
        ends = p;
        trend = w.standing.trend ∙ λ i. (certify k y lam (p i).z).trend;
        dual = w.standing.dual ∙ λ i. (certify k y lam (p i).z).zc;
        gap = w.standing.gap ∙ λ i. gap_of (certify k y lam (p i).z);
        primal = w.standing.primal ∙ λ i. (certify k y lam (p i).z).primal;
        first = e.first ∙ ap (λ (x : Ended State). x.first) q;
        best = e.best ∙ ap (λ (x : Ended State). x.best) q;
        n_iter = e.n_iter ∙ ap (λ (x : Ended State). x.n_iter) q;
        improvements = e.improvements ∙ ap (λ (x : Ended State). x.improvements) q;
        reason = e.reason ∙ ap (λ (x : Ended State). x.reason) q;
        kept = kept_then 0 (search_area n) v.kept w.kept (omega arith) (omega arith) (omega arith) (omega arith);
        dual_kept = kept_then 0 m v.dual_kept w.dual_kept (omega arith) (omega arith) (omega arith) (omega arith);
      }

-- Calls on an area of work: the certificate at z*, L2's system, and what each leaves. Assumes nothing.
use mathlib.Core.Path.{◌≡◌, refl, sym, ap, subst, ◌∙◌}
use mathlib.Core.Bool.{Bool, true, false, cond}
use mathlib.Core.List.{List}
use mathlib.Core.Option.{Option, none, some}
use Prim.Native.Nat.{ℕ, ◌+◌, ◌-◌, ◌*◌, ◌≤◌}
use native.Mathlib.Nat.{add-zero, mul-le-mul_left}
use native.Mathlib.Omega.{arith}
use lib.Dec.{T, eqb}
use lib.ListN.{length, take, drop}
use lib.Ieee.{Float, nan}
use Rattle.float64.specs.Ops.{◌⊖◌}
use Rattle.vectors.specs.Parts.{Kept, part}
use Rattle.vectors.proofs.Laws.{kept_none, kept_then}
use Rattle.vectors.proofs.Parts.{length_part, put_back, part_of_range, part-put}
use Rattle.differences.specs.Diff.{gram_row}
use Rattle.certificate.specs.Certificate.{gap_of}
use Rattle.certificate.specs.Run.{Certified}
use Rattle.dual_point.specs.Lanes.{candidate_trend, search_area}
use Rattle.gram.specs.Gram.{zstar}
use Rattle.gram.specs.Prepared.{preparation}
use Rattle.l2.specs.L2.{sound_l2, trend_l2, gap_l2, objective_l2}
use Rattle.l2.specs.Solved.{SolvedL2}
use Rattle.questions.specs.Questions.{Asked, needs_for}
use Rattle.fit.proofs.Passed.{found_l2}
use Rattle.fit.specs.Fit.{Found, places, certificate_at, closed, path_flat, path_l2}
use Rattle.closed_paths.specs.declared.Trend.{Trend}
use Rattle.closed_paths.specs.declared.Trend.TheVariants.{Series, Solution, Won}
use Rattle.closed_paths.specs.Trends.{solution_lane, ridge_area, path_area, trend_of, found_of}

-- a change within a wider stretch
pub kept_wide : {a n : ℕ} {s₀ s : List Float} (b k : ℕ) → Kept a n s₀ s → b ≤ a → a + n ≤ b + k → Kept b k s₀ s
kept_wide {a} {n} {s₀} {s} b k w h l = kept_then b k w (kept_none b 0 s) h (omega arith) l (omega arith)

-- the preparation and a path's area behind it are within the places of work that a fit needs
pub work_fits : (a : Asked) → preparation (length a.y) + path_area a.penalty (length a.y) ≤ (needs_for a).work
work_fits a = go (eqb a.penalty 2)
  where
    go : (p : Bool) → preparation (length a.y) + cond p (ridge_area (length a.y)) (search_area (length a.y)) ≤ cond p (16 * length a.y) (40 * length a.y)
    go true = omega arith
    go false = omega arith

-- something was found, or nothing
abbrev is_found : Option Found → Type 0
is_found none = T false
is_found (some f) = T true

pub some_none : (f : Found) → some f ≡ none → ⊥
some_none f e = subst is_found e tt

-- what the certificate at z gives
abbrev certified_at : Asked → List Float → Found
certified_at a z = let c = certificate_at a z in record { trend = c.trend; dual = c.zc; numbers = closed (gap_of c) c.primal }

-- the certificate at z*, which stands in w behind the n places for its trend
pub flat-found : (a : Asked) (w x d₀ d : List Float) (primal dual : Float) → let n = length a.y in let s = preparation n in let e = s + n + places a in
    a.order ≤ n → e ≤ length w → length x ≡ e - s → part (s + n) (places a) w ≡ zstar a.order (gram_row a.order) (places a) a.y
    → Certified a.order a.y a.lam (take (e - s) (drop s w)) x d₀ d primal dual
    → found_of a.order a.y (put_back s (e - s) w x) d (record { trend = Won false; numbers = closed (primal ⊖ dual) primal }) ≡ path_flat a
unfolding trend_of path_flat
flat-found a w x d₀ d primal dual low fits size star c =
    let n = length a.y in
    let s = preparation n in
    let e = s + n + places a in
    let start = ap (λ (q : ℕ). part q n (put_back s (e - s) w x)) (sym (add-zero s)) in
    let trend = start ∙ part-put s (e - s) w x (omega arith) size nan 0 n (omega arith) ∙ c.trend in
    let point = part_of_range nan n (places a) s e w (omega arith) fits (omega arith) ∙ star in
    (λ i. record { trend = trend i; dual = c.zc_is i; numbers = closed (c.primal_is i ⊖ c.dual_is i) (c.primal_is i) }) ∙ ap (certified_at a) point

-- ---- L2

-- the system's rows end at the solution's lane
pub rows_fit : (k n : ℕ) → k ≤ 2 → n * (k + 1) ≤ 3 * n
rows_fit k n h = let f : n * (k + 1) ≤ n * 3 = mul-le-mul_left n (omega arith) in omega arith

module _ (k : ℕ) (y : List Float) (lam : Float) (w x : List Float) (ok : Bool) (a e : ℕ) (start : a + length y * (k + 1) ≡ solution_lane (length y)) (end : e ≡ solution_lane (length y) + length y)
    (fits : e ≤ length w) (size : length x ≡ e - a) (c : SolvedL2 k y lam (take (e - a) (drop a w)) x ok) where
  pub solution_stands : ok ≡ true → part (solution_lane (length y)) (length y) (put_back a (e - a) w x) ≡ trend_l2 k y lam
  solution_stands t =
      ap (λ (q : ℕ). part q (length y) (put_back a (e - a) w x)) (sym start)
      ∙ part-put a (e - a) w x (omega arith) size nan (length y * (k + 1)) (length y) (omega arith)
      ∙ c.trend t

-- what L2 finds where every pivot is good
abbrev pub good_l2 : Asked → Found
good_l2 a = let x = trend_l2 a.order a.y a.lam in found_l2 a (gap_l2 a.order a.y a.lam x) (objective_l2 a.order a.y a.lam x)

pub l2_sound : (a : Asked) → sound_l2 a.order a.y a.lam ≡ true → some (good_l2 a) ≡ path_l2 a
unfolding path_l2
l2_sound a e = rw e

pub l2_unsound : (a : Asked) → sound_l2 a.order a.y a.lam ≡ false → none ≡ path_l2 a
unfolding path_l2
l2_unsound a e = rw e

-- a trend has a place for each of the series
pub length_trend : (y w : List Float) (t : Trend) → length (trend_of y w t) ≡ length y
unfolding trend_of
length_trend y w Series = refl
length_trend y w Solution = length_part (solution_lane (length y)) (length y) w
length_trend y w (Won true) = length_part (preparation (length y) + candidate_trend (length y)) (length y) w
length_trend y w (Won false) = length_part (preparation (length y)) (length y) w

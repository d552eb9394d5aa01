-- The search in its area of work, and what it leaves. Assumes nothing.
use mathlib.Core.Path.{◌≡◌, sym, ap, ◌∙◌}
use mathlib.Core.Bool.{cond}
use mathlib.Core.List.{List}
use Prim.Native.Nat.{ℕ, ◌+◌, ◌≤◌}
use native.Mathlib.Nat.{add-zero}
use native.Mathlib.Omega.{arith}
use lib.ListN.{length}
use lib.Ieee.{Float, nan}
use Rattle.vectors.specs.Parts.{part}
use Rattle.vectors.proofs.Parts.{put_back, part-put}
use Rattle.dual_point.specs.Lanes.{search_area, candidate_trend}
use Rattle.gram.specs.Prepared.{preparation}
use Rattle.questions.specs.Questions.{Asked}
use Rattle.fit.specs.Fit.{search_of, path_end}
use Rattle.closed_paths.specs.declared.Finding.{Finding}
use Rattle.closed_paths.specs.Trends.{trend_of, found_of}
use Rattle.search_path.specs.Search.{Reached}

module _ (a : Asked) (w x d : List Float) (r : Finding) (fits : preparation (length a.y) + search_area (length a.y) ≤ length w) (size : length x ≡ search_area (length a.y)) (h : Reached a x d r) where
  abbrev after : List Float
  after = put_back (preparation (length a.y)) (search_area (length a.y)) w x

  won_trend : trend_of a.y after r.trend ≡ (path_end a (search_of a)).trend
  unfolding trend_of
  won_trend =
      let n = length a.y in
      let p = preparation n in
      let put-at = part-put p (search_area n) w x fits size nan in
      let first = ap (λ (q : ℕ). part q n after) (sym (add-zero p)) ∙ put-at 0 n (omega arith) in
      ap (trend_of a.y after) h.place
      ∙ (λ i. cond h.second (put-at (candidate_trend n) n (omega arith) i) (first i))
      ∙ h.trend

  pub search_says : found_of a.order a.y after d r ≡ path_end a (search_of a)
  unfolding path_end
  search_says = λ i. record { trend = won_trend i; dual = h.dual i; numbers = h.numbers i }

-- How a polish ends, from the marks, the candidate and its certificate. Assumes nothing.
use Rattle.std.specs.Prelude.{Some, None}
use mathlib.Core.List.{List}
use mathlib.Core.Option.{Option, none, some}
use mathlib.Core.Path.{◌≡◌, refl, sym, ap, ◌∙◌}
use Prim.Native.Nat.{ℕ, ◌+◌, ◌-◌, ◌*◌, ◌≤◌, ◌<◌}
use native.Mathlib.Nat.{add-zero}
use native.Mathlib.Omega.{arith}
use lib.ListN.{length, get_or, take, drop}
use lib.Seq.{get_or-take}
use lib.Ieee.{Float, nan}
use Rattle.float64.proofs.Clash.{impossible}
use Rattle.float64.specs.Ops.{◌⊖◌}
use Rattle.vectors.specs.Vec.{at, KeptOf}
use Rattle.vectors.specs.Parts.{Kept, part}
use Rattle.vectors.proofs.Laws.{list_ext, kept_none, kept_then}
use Rattle.vectors.proofs.Parts.{length_part, part_of_range, put_back, part-put}
use Rattle.differences.specs.Diff.{diff_k, gram_row}
use Rattle.dual_point.specs.Places.{point}
use Rattle.dual_point.specs.Lanes.{settle_lane, candidate_trend, candidate_lane, polish_area, search_area}
use Rattle.active_set.specs.declared.Hold.{Hold}
use Rattle.active_set.specs.ActiveSet.{hold_at, free_to, compressed_rhs_at, solved}
use Rattle.polish.specs.Polish.{candidate, polish}
use Rattle.active_set.specs.Marks.{Marks, Freed}
use Rattle.polish.specs.Places.{polish_from, Polished}
use Rattle.certificate.specs.Run.{Certified}
use Rattle.polish.specs.declared.Candidate.{Candidate}
use Rattle.active_set.proofs.Laws.{count_le, free_lt}
use Rattle.vectors.proofs.Parts.{kept_part}

-- dy holds D y in its first places
module _ (k : ℕ) (y dy : List Float) (is : take (length y - k) dy ≡ diff_k k y) where
  dy_at : (i : ℕ) → i < length y - k → at dy i ≡ at (diff_k k y) i
  dy_at i l = sym (get_or-take (length y - k) dy i nan l) ∙ ap (λ (v : List Float). at v i) is

  right_dy : (g : List Float) (lam : Float) (h : ℕ → Hold) (i : ℕ) → i < length y - k → compressed_rhs_at k g dy lam h (length y - k) i ≡ compressed_rhs_at k g (diff_k k y) lam h (length y - k) i
  unfolding compressed_rhs_at
  right_dy g lam h i l = rw (dy_at i l)

  solved_dy : (g : List Float) (lam : Float) (h : ℕ → Hold) → solved k g dy lam h (length y - k) ≡ solved k g (diff_k k y) lam h (length y - k)
  unfolding solved
  solved_dy g lam h =
      let f = free_to h (length y - k) in
      rw (list_ext (length f) (λ r. compressed_rhs_at k g dy lam h (length y - k) (get_or f r 0)) (λ r. compressed_rhs_at k g (diff_k k y) lam h (length y - k) (get_or f r 0))
      (λ r l. right_dy g lam h (get_or f r 0) (free_lt h (length y - k) r l)))

  candidate_dy : (g : List Float) (lam : Float) (h : ℕ → Hold) → candidate k g dy lam h (length y - k) ≡ candidate k g (diff_k k y) lam h (length y - k)
  unfolding candidate
  candidate_dy g lam h = rw (solved_dy g lam h)

  pub polish_is : (lam : Float) (w₀ : List Float) {o : Option (List Float)}
      → candidate k (gram_row k) dy lam (hold_at lam (point (length y) (length y - k) w₀)) (length y - k) ≡ o → polish_from k y lam w₀ ≡ o
  unfolding polish
  polish_is lam w₀ e =
      rw (length_part (length y) (length y - k) w₀) (sym (candidate_dy (gram_row k) lam (hold_at lam (point (length y) (length y - k) w₀))) ∙ e)

-- the free places are places
pub freed : {h : ℕ → Hold} {n q : ℕ} {v : List ℕ} (k known : ℕ) → Marks h n (n - k) v q → k ≤ 2 → k ≤ n → 2 * n ≤ length v → n - k ≤ known → Freed k n v known q
freed {h} {n} {q} {v} k known w o l room dy = record {
  order = o;
  marked = room;
  dy = omega arith;
  few = omega (arith, w.count, count_le h (n - k));
  places = λ j u. omega (arith, w.free j u, free_lt h (n - k) j (omega (arith, w.count)));
}

marks_all : (n k : ℕ) {v₀ v : List ℕ} → KeptOf 0 0 (n + (n - k)) v₀ v → KeptOf 0 0 (2 * n) v₀ v
marks_all n k w = record { size = w.size; below = λ j h. absurd (omega arith); above = λ j h. w.above j (omega arith) }

same : {a b : Candidate} → Some a ≡ Some b → a ≡ b
same u = cc

only : {a b : List Float} → some a ≡ some b → a ≡ b
only u = cc

-- w₁ is the run with the candidate, v the marks
module _ (k : ℕ) (y : List Float) (lam : Float) {w₀ w₁ : List Float} (d₀ : List Float) {v₀ v : List ℕ} (marks : KeptOf 0 0 (length y + (length y - k)) v₀ v) (kept : Kept (settle_lane (length y)) (polish_area (length y)) w₀ w₁) where
  pub ended_none : polish_from k y lam w₀ ≡ none → Polished k y lam w₀ w₁ d₀ d₀ v₀ v None
  ended_none p = record {
    there = rw p;
    rated = λ z s c e. impossible cc;
    kept = kept;
    none_there = λ _. refl;
    dual = kept_none 0 (length y - k) d₀;
    marks = marks_all (length y) k marks;
  }

  -- x is what the certificate leaves in the candidate's two lanes, d in the slice for the clamped candidate
  module _ (big : search_area (length y) ≤ length w₀) (l : ℕ) (width : l ≡ length y + (length y - k)) (x : List Float) (size : length x ≡ l) (primal dual : Float)
      (p : polish_from k y lam w₀ ≡ some (part (candidate_lane (length y)) (length y - k) w₁)) (d : List Float) (c : Certified k y lam (take l (drop (candidate_trend (length y)) w₁)) x d₀ d primal dual) where
    abbrev n : ℕ
    n = length y

    dual_point : part n (n - k) (take l (drop (candidate_trend n) w₁)) ≡ part (candidate_lane n) (n - k) w₁
    dual_point =
        let z = kept.size in
        let e : candidate_trend n + l - candidate_trend n ≡ l = omega arith in
        let t : candidate_trend n + n ≡ candidate_lane n = omega arith in
        rw (e, t) at (part_of_range nan n (n - k) (candidate_trend n) (candidate_trend n + l) w₁ (omega arith) (omega arith) (omega arith))

    pub ended_some : (r : Candidate) → r.gap ≡ primal ⊖ dual → r.primal ≡ primal → Polished k y lam w₀ (put_back (candidate_trend n) l w₁ x) d₀ d v₀ v (Some r)
    ended_some r g h =
        let s = kept.size in
        record {
          there = rw p;
          rated = λ z t o e.
              let is : part n (n - k) (take l (drop (candidate_trend n) w₁)) ≡ z = dual_point ∙ only (sym p ∙ t) in
              record {
                gap = ap (λ (x : Candidate). x.gap) (sym (same e)) ∙ g ∙ rw (c.primal_is, c.dual_is, is);
                primal = ap (λ (x : Candidate). x.primal) (sym (same e)) ∙ h ∙ c.primal_is ∙ rw is;
                trend = rw add-zero at (part-put (candidate_trend n) l w₁ x (omega arith) size nan 0 n (omega arith)) ∙ c.trend ∙ rw is;
                dual = c.zc_is ∙ rw is;
              };
          kept = kept_then (settle_lane n) (polish_area n) kept (kept_part (candidate_trend n) l l w₁ x (omega arith) size (omega arith)) (omega arith) (omega arith) (omega arith) (omega arith);
          none_there = λ e. impossible cc;
          dual = c.dual_kept;
          marks = marks_all (length y) k marks;
        }

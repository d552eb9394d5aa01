-- A Newton step on a part of the run. Assumes nothing.
use mathlib.Core.Path.{◌≡◌, ◌∙◌}
use mathlib.Core.Bool.{cond}
use mathlib.Core.List.{List}
use Prim.Native.Nat.{ℕ, ◌+◌, ◌-◌, ◌*◌, ◌≤◌}
use native.Mathlib.Nat.{add-zero, mul-le-mul_left}
use native.Mathlib.Omega.{arith}
use lib.ListN.{length, take, drop}
use lib.Ieee.{Float}
use Rattle.std.specs.Prelude.{Option}
use Rattle.vectors.specs.Sums.{inside}
use Rattle.vectors.proofs.Parts.{put_back, kept_within}
use Rattle.banded.specs.Rows.{sound}
use Rattle.newton_system.specs.Newton.{system}
use Rattle.newton_system.specs.Rows.{data_of}
use Rattle.line_search.specs.LineSearch.{search_line, next_point}
use Rattle.dual_point.specs.Lanes.{search_area}
use Rattle.dual_point.proofs.Points.{point_range, point-put}
use Rattle.newton_step.specs.Stepped.{step_area, step_of, Stepped}
use Rattle.newton_step.specs.declared.Step.{Step}

-- the places of a step, in rows of at most 3
pub step_small : (k m n : ℕ) → k ≤ 2 → m ≤ n → n + step_area k m ≤ search_area n
step_small k m n h l = let f : m * (k + 1) ≤ m * 3 = mul-le-mul_left m (omega arith) in omega arith

pub first_places : (m : ℕ) (s : List Float) → take (m - 0) (drop 0 s) ≡ take m s
first_places m s = let z : m - 0 ≡ m = omega arith in rw z

-- a step on the places from a up to e
pub stepped-at : (k : ℕ) (g dy : List Float) (lam inv_t : Float) (a e m : ℕ) (s x : List Float) (r : Option Step) → a + step_area k m ≤ e → e ≤ length s → length x ≡ e - a
    → Stepped k g dy lam inv_t 0 m (take (e - a) (drop a s)) x r → Stepped k g dy lam inv_t a m s (put_back a (e - a) s x) r
stepped-at k g dy lam inv_t a e m s x r size fits l w =
    let p = point_range m a e s (omega arith) in
    let f : a + (e - a) ≤ length s = omega arith in
    record {
      answer = w.answer ∙ λ i. step_of (sound k (system k g lam (p i)) m) (inside lam (search_line (data_of k g dy lam inv_t) (p i)).point.z) (search_line (data_of k g dy lam inv_t) (p i)).step;
      moves = point-put a (e - a) m s x f l (omega arith) ∙ w.moves ∙ λ i. cond (sound k (system k g lam (p i)) m) (next_point lam (p i) (search_line (data_of k g dy lam inv_t) (p i))) (p i);
      kept = rw add-zero at (kept_within a (e - a) 0 (step_area k m) s x f l w.kept);
    }

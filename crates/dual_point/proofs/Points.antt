-- A point of a run: what stays where the run is written elsewhere, and the point of a range. Assumes nothing.
use mathlib.Core.Path.{◌≡◌, refl, sym, ap, ◌∙◌}
use mathlib.Core.List.{List}
use Prim.Native.Nat.{ℕ, ◌+◌, ◌-◌, ◌*◌, ◌≤◌, ◌<◌}
use native.Mathlib.Omega.{arith}
use lib.ListN.{length, take, drop}
use lib.Seq.{get_or-take, get_or-drop}
use lib.Ieee.{Float, nan}
use Rattle.vectors.specs.Vec.{at}
use Rattle.vectors.specs.Parts.{Kept, part}
use Rattle.vectors.proofs.Parts.{at_part, part_of_ext, put_back, get_d_put}
use Rattle.dual_point.specs.Places.{point}

-- two points are the same where their places are
pub point_ext : (a b m : ℕ) (s t : List Float) → ((j : ℕ) → j < 3 * m → at s (a + j) ≡ at t (b + j)) → point a m s ≡ point b m t
point_ext a b m s t e = λ i. record {
  z = part_of_ext nan a b m s t (λ j l. e j (omega arith)) i;
  mu1 = part_of_ext nan (a + m) (b + m) m s t (λ j l. place (m + j) (a + m + j) (b + m + j) (omega arith) (omega arith) (omega arith)) i;
  mu2 = part_of_ext nan (a + m + m) (b + m + m) m s t (λ j l. place (m + m + j) (a + m + m + j) (b + m + m + j) (omega arith) (omega arith) (omega arith)) i;
}
  where
    place : (q x y : ℕ) → q < 3 * m → a + q ≡ x → b + q ≡ y → at s x ≡ at t y
    place q x y l u v = ap (at s) (sym u) ∙ e q l ∙ ap (at t) v

pub point_below : {a n : ℕ} {s₀ s : List Float} (e m : ℕ) → Kept a n s₀ s → e + m + m + m ≤ a → point e m s ≡ point e m s₀
point_below {s₀ = s₀} {s = s} e m w h = point_ext e e m s s₀ (λ j l. w.below (e + j) (omega arith))

pub point_above : {a n : ℕ} {s₀ s : List Float} (e m : ℕ) → Kept a n s₀ s → a + n ≤ e → point e m s ≡ point e m s₀
point_above {s₀ = s₀} {s = s} e m w h = point_ext e e m s s₀ (λ j l. w.above (e + j) (omega arith))

-- a stretch of 3 m places that is the same
pub point-part : (a b m : ℕ) (s t : List Float) → part a (3 * m) s ≡ part b (3 * m) t → point a m s ≡ point b m t
point-part a b m s t e =
    point_ext a b m s t (λ j l. sym (at_part a (3 * m) s j (a + j) l refl) ∙ ap (λ (v : List Float). at v j) e ∙ at_part b (3 * m) t j (b + j) l refl)

-- the point that a range begins with
pub point_range : (m c e : ℕ) (s : List Float) → c + 3 * m ≤ e → point 0 m (take (e - c) (drop c s)) ≡ point c m s
point_range m c e s h =
    point_ext 0 c m (take (e - c) (drop c s)) s (λ j l. let z : 0 + j ≡ j = omega arith in rw z (get_or-take (e - c) (drop c s) j nan (omega arith) ∙ get_or-drop c s j nan))

-- and the point of a run whose n places from a on became x
pub point-put : (a n m : ℕ) (s x : List Float) → a + n ≤ length s → length x ≡ n → 3 * m ≤ n → point a m (put_back a n s x) ≡ point 0 m x
point-put a n m s x f e h =
    point_ext a 0 m (put_back a n s x) x (λ j l. let z : 0 + j ≡ j = omega arith in rw z (sym (get_d_put a n s x f e nan j (omega arith))))

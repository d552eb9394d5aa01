-- The step cap, place by place, and the direction written after dz. Assumes nothing.
use mathlib.Core.Path.{◌≡◌, refl, sym, ap, ◌∙◌}
use mathlib.Core.List.{List}
use mathlib.Core.Bool.{Bool, true, false}
use Prim.Native.Nat.{ℕ, ◌+◌, ◌≤◌, ◌<◌}
use native.Mathlib.Omega.{arith}
use native.Mathlib.Numerals.{add-one}
use lib.ListN.{length}
use lib.Ieee.{Float, nan, inf, fin, binary64, lt, is_nan, of_bits}
use Rattle.vectors.specs.Vec.{at, list}
use Rattle.vectors.specs.Parts.{Kept, part}
use Rattle.vectors.proofs.Laws.{list_ext, kept_then}
use Rattle.vectors.proofs.Parts.{length_part, at_part, part_below}
use Rattle.dual_point.specs.Places.{point}
use Rattle.dual_point.proofs.Points.{point_below}
use Rattle.direction.specs.Direction.{dmu1_at, dmu2_at, direction, step_cap_by, step_cap_to}
use Rattle.direction.specs.Places.{dmu_at, Directed}

-- ---- the step cap

pub cap_more : (b m : ℕ) (s : List Float) (i : ℕ) (x y : Float) → i < m → x ≡ step_cap_to (point 0 m s) (point b m s) i
    → y ≡ step_cap_by x (at s (m + i)) (at s (b + m + i)) → step_cap_by y (at s (m + m + i)) (at s (b + m + m + i)) ≡ step_cap_to (point 0 m s) (point b m s) (i + 1)
unfolding step_cap_to
cap_more b m s i x y h e f =
    rw (
      add-one i,
      f,
      e,
      at_part (0 + m) m s i (m + i) h (omega arith),
      at_part (0 + m + m) m s i (m + m + i) h (omega arith),
      at_part (b + m) m s i (b + m + i) h refl,
      at_part (b + m + m) m s i (b + m + m + i) h refl,
    )

-- what is below a number is a number
pub less_number : (q step : Float) → lt q step ≡ true → is_nan q ≡ false
unfolding lt is_nan
less_number nan step e = sym e
less_number (inf s) step e = refl
less_number (fin s m d) step e = refl

pub one_number : is_nan (of_bits binary64 0x3ff0_0000_0000_0000) ≡ false
unfolding is_nan of_bits
one_number = refl

-- ---- the direction

-- a multiplier's lane, as a part
dmu_done : (lower : Bool) (b c x m : ℕ) (lam inv_t : Float) (s : List Float) → x ≡ c
    → list m (λ i. dmu_at lower lam inv_t (at s i) (at s (c + i)) (at s (b + i))) ≡ list (length (part 0 m s)) (λ i. dmu_at lower lam inv_t (at (part 0 m s) i) (at (part x m s) i) (at (part b m s) i))
dmu_done lower b c x m lam inv_t s e =
    list_ext m (λ i. dmu_at lower lam inv_t (at s i) (at s (c + i)) (at s (b + i))) (λ i. dmu_at lower lam inv_t (at (part 0 m s) i) (at (part x m s) i) (at (part b m s) i))
    (λ j l. rw (at_part 0 m s j j l (omega arith), at_part x m s j (c + j) l (omega arith), at_part b m s j (b + j) l refl))
    ∙ ap (λ (n : ℕ). list n (λ i. dmu_at lower lam inv_t (at (part 0 m s) i) (at (part x m s) i) (at (part b m s) i))) (sym (length_part 0 m s))

-- dmu1 and then dmu2 written after dz
pub directed : (b m : ℕ) (lam inv_t : Float) (s₀ s s' : List Float) (cap : Float) → m + m + m ≤ b
    → part (b + m) m s ≡ list m (λ i. dmu_at false lam inv_t (at s₀ i) (at s₀ (m + i)) (at s₀ (b + i))) → Kept (b + m) m s₀ s
    → part (b + (m + m)) m s' ≡ list m (λ i. dmu_at true lam inv_t (at s i) (at s (m + m + i)) (at s (b + i))) → Kept (b + (m + m)) m s s'
    → cap ≡ step_cap_to (point 0 m s') (point b m s') m → Directed lam inv_t b m s₀ s' cap
unfolding direction dmu1_at dmu2_at
directed b m lam inv_t s₀ s s' cap o e v f w t =
    let x : b + (m + m) ≡ b + m + m = omega arith in
    let ways : point b m s' ≡ direction lam inv_t (point 0 m s₀) (part b m s₀) = λ i. record {
      z = (part_below nan b m w (omega arith) ∙ part_below nan b m v (omega arith)) i;
      mu1 = (part_below nan (b + m) m w (omega arith) ∙ e ∙ dmu_done false b m (0 + m) m lam inv_t s₀ (omega arith)) i;
      mu2 = (ap (λ (q : ℕ). part q m s') (sym x) ∙ f ∙ dmu_done true b (m + m) (0 + m + m) m lam inv_t s (omega arith)
          ∙ λ j. (direction lam inv_t (point_below 0 m v (omega arith) j) (part_below nan b m v (omega arith) j)).mu2) i;
    } in
    let both = kept_then (b + m) (m + m) v w (omega arith) (omega arith) (omega arith) (omega arith) in
    record { ways = ways; cap_is = t ∙ (λ i. step_cap_to (point_below 0 m both (omega arith) i) (ways i) m); kept = both }

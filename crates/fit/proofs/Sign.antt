-- Signs: a lam that passes question 5 and is no zero is finite and above 0, and then P is a NaN or has a clear sign.
use mathlib.Core.Path.{◌≡◌, sym, subst}
use Prim.Native.Nat.{ℕ, zero, suc}
use mathlib.Core.Bool.{Bool, true, false, not, ◌||◌}
use mathlib.Core.List.{List}
use lib.Dec.{T}
use lib.ListN.{length}
use lib.Ieee.{Float, nan, inf, fin, binary64, of_bits, mul, lt, le, eq, is_nan}
use lib.Ieee.Positive.{positive, above}
use Rattle.float64.specs.Helpers.{abs_of, is_finite}
use Rattle.float64.specs.Ops.{◌⊗◌, c0, half}
use Rattle.vectors.specs.Vec.{at}
use Rattle.vectors.specs.Sums.{sum_to, norm2_sq, sum_abs}
use Rattle.differences.specs.Diff.{diff_k, diff_kt}
use Rattle.certificate.specs.Certificate.{minus, certify}
use Rattle.search.specs.Demand3.{clear}
use Rattle.search.proofs.Clear.{add-clear, mul-clear, square_clear, awake}
use Rattle.interior_point.specs.InteriorPoint.{State, problem}

finite_above : (x : Float) → is_finite x ≡ true → T (is_nan x || above x) → T (positive x)
unfolding is_finite is_nan
finite_above nan f h = subst T (sym f) tt
finite_above (inf s) f h = subst T (sym f) tt
finite_above (fin true m e) f h = h
finite_above (fin false m e) f h = h

neither : (a b : Bool) → a ≡ false → b ≡ false → T (not (a || b))
neither a b e f = subst (λ (x : Bool). T (not (x || b))) (sym e) (subst (λ (x : Bool). T (not x)) (sym f) tt)

not-le : (x : Float) → lt x c0 ≡ false → eq x c0 ≡ false → T (not (le x c0))
unfolding le
not-le x l q = neither (lt x c0) (eq x c0) l q

zero_clear : T (clear c0)
unfolding of_bits
zero_clear = tt

half-clear : T (clear half)
unfolding of_bits
half-clear = tt

above_zero : (x : Float) → T (not (le x c0)) → T (is_nan x || above x)
unfolding of_bits
above_zero x h = awake x c0 tt h

pub lam_positive : (x : Float) → is_finite x ≡ true → lt x c0 ≡ false → eq x c0 ≡ false → T (positive x)
lam_positive x f l q = finite_above x f (above_zero x (not-le x l q))

positive_clear : (x : Float) → T (positive x) → T (clear x)
positive_clear nan p = tt
positive_clear (inf s) p = absurd p
positive_clear (fin true m e) p = absurd p
positive_clear (fin false m e) p = tt

abs_clear : (x : Float) → T (clear (abs_of x))
unfolding abs_of
abs_clear nan = tt
abs_clear (inf s) = tt
abs_clear (fin s m e) = tt

sum-clear : (f : ℕ → Float) (n : ℕ) → ((i : ℕ) → T (clear (f i))) → T (clear (sum_to f n))
unfolding sum_to
sum-clear f zero h = zero_clear
sum-clear f (suc n) h = add-clear binary64 (sum_to f n) (f n) (sum-clear f n h) (h n)

norm_clear : (v : List Float) → T (clear (norm2_sq v))
unfolding norm2_sq
norm_clear v = sum-clear (λ i. mul binary64 (at v i) (at v i)) (length v) (λ i. square_clear binary64 (at v i))

sizes-clear : (v : List Float) → T (clear (sum_abs v))
unfolding sum_abs
sizes-clear v = sum-clear (λ i. abs_of (at v i)) (length v) (λ i. abs_clear (at v i))

-- P = 0.5·Σ(D'z)² + lam·Σ|D x|
pub primal_clear : (k : ℕ) (g y : List Float) (lam : Float) → T (positive lam) → (s : State) → T (clear ((problem k g y lam).primal s))
unfolding problem certify
primal_clear k g y lam p s =
    let z = s.point.z in
    let w = norm2_sq (diff_kt k z) in
    let d = sum_abs (diff_k k (minus y (diff_kt k z))) in
    add-clear binary64 (half ⊗ w) (lam ⊗ d)
    (mul-clear binary64 half w half-clear (norm_clear (diff_kt k z)))
    (mul-clear binary64 lam d (positive_clear lam p) (sizes-clear (diff_k k (minus y (diff_kt k z)))))
